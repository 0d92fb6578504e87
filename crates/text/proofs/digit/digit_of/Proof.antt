-- `digit_of`: a digit is not below `0`.
use borrow.Author.Rules.{rules}
use Rattle.text.specs.Digits.Laws.{digit_bytes}
use Rattle.text.proofs.digit.digit_of.Statement.{statement}
use Rattle.text.proofs.digit.digit_of.Tie as tie

pub digit_of_spec : {M : Type 1} → statement M
digit_of_spec = tie.close (tie.spec (λ c. search (digit_bytes, rules)) (λ c. search rules) (λ c. search rules))
