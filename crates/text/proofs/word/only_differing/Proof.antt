-- `only_differing`: what is passed of the two words is the same.
use borrow.Author.Rules.{rules}
use Rattle.text.specs.Word.Skipping.{Skipped, skipping}
use Rattle.text.proofs.word.only_differing.Statement.{statement}
use Rattle.text.proofs.word.only_differing.Tie as tie

abbrev invariant-loop-a : tie.invariant-loop-a
invariant-loop-a v w a₀ b₀ output₀ a b output = Skipped v w a b output

abbrev decreases-loop-a : tie.decreases-loop-a
decreases-loop-a v w a₀ b₀ output₀ a b output = output

pub only_differing_spec : {M : Type 1} → statement M
only_differing_spec =
    tie.close
    (tie.spec
    invariant-loop-a
    decreases-loop-a
    (λ c. search (skipping, rules))
    (λ c. search (skipping, rules))
    (λ c. search (skipping, rules))
    (λ c. search (skipping, rules))
    (λ c. search (skipping, rules))
    (λ c. search (skipping, rules))
    (λ c. search (skipping, rules)))
