-- `answer_all`: no read follows, the turns are used up, or another read follows.
use Rattle.std.proofs.Common.{rules}
use Rattle.port.specs.Input.Reads.{reads}
use Rattle.port.proofs.input.answer_all.Goals as goal

pub loop-turns-init : goal.loop-turns-init
loop-turns-init g c = search (reads, rules)

pub loop-turns-preserved : goal.loop-turns-preserved
loop-turns-preserved g c = search (reads, rules)

pub returns-then-is_err : goal.returns-then-is_err
returns-then-is_err g c = search (reads, rules)

pub returns : goal.returns
returns g c = search (reads, rules)
