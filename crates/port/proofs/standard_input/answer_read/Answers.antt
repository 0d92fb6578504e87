-- `answer_read`: the bytes that came are answered, and then their replies are written or are not.
use Rattle.std.proofs.Common.{rules}
use Rattle.port.specs.Input.Answering.{one_read}
use Rattle.port.proofs.standard_input.answer_read.Goals as goal
use Rattle.port.proofs.standard_input.answer_read.Goals.{in-Ok, in-Err}

pub returns : goal.returns
returns g c = elim c.match-write_whole.branch [ in-Ok w ↦ rw w.came-is (search (one_read, rules)) | in-Err w ↦ rw w.came-is (search (one_read, rules)) ]
