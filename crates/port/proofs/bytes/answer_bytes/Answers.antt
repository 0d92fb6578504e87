-- `answer_bytes`: with room for a reply to each byte, all bytes are served.
use Rattle.std.proofs.Common.{rules}
use Rattle.port.specs.Input.Answering.{all_answered}
use Rattle.port.proofs.bytes.answer_bytes.Goals as goal

pub returns : goal.returns
returns c = search (all_answered, rules)
