-- `put_nak`: NAK, the code in two digits, and 0D.
use borrow.Author.Rules.{rules}
use Rattle.spelling.specs.Acknowledgement.Writing.{wrote_nak}
use Rattle.spelling.proofs.acknowledgement.put_nak.Goals as goal

pub returns : goal.returns
returns c = search (wrote_nak, rules)
