-- `number_length`: each turn splits off one digit.
use borrow.Author.Rules.{rules}
use Rattle.text.specs.Digits.Measuring.{Counted, counting}
use Rattle.text.proofs.number.number_length.Statement.{statement}
use Rattle.text.proofs.number.number_length.Tie as tie

abbrev invariant-loop-rest : tie.invariant-loop-rest
invariant-loop-rest n rest₀ count₀ rest count = Counted n rest count

abbrev decreases-loop-rest : tie.decreases-loop-rest
decreases-loop-rest n rest₀ count₀ rest count = rest

pub number_length_spec : {M : Type 1} → statement M
number_length_spec =
    tie.close
    (tie.spec
    invariant-loop-rest
    decreases-loop-rest
    (λ c. search (counting, rules))
    (λ c. search (counting, rules))
    (λ c. search (counting, rules))
    (λ c. search (counting, rules))
    (λ c. search (counting, rules)))
