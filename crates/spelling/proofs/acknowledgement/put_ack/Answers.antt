-- `put_ack`: two bytes.
use borrow.Author.Rules.{rules}
use Rattle.spelling.specs.Acknowledgement.Writing.{wrote_ack}
use Rattle.spelling.proofs.acknowledgement.put_ack.Goals as goal

pub returns : goal.returns
returns c = search (wrote_ack, rules)
