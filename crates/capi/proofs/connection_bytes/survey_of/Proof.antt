-- `survey_of`: the connections passed are noted.
use Prim.Native.Nat.{◌-◌}
use borrow.Author.Rules.{rules}
use Rattle.capi.specs.Connections.Survey.{Looked, looking}
use Rattle.capi.proofs.connection_bytes.survey_of.Statement.{statement}
use Rattle.capi.proofs.connection_bytes.survey_of.Tie as tie

abbrev invariant-loop-i : tie.invariant-loop-i
invariant-loop-i row few₀ flags₀ i₀ few flags i = Looked row i few flags

abbrev decreases-loop-i : tie.decreases-loop-i
decreases-loop-i row few₀ flags₀ i₀ few flags i = 32 - i

pub survey_of_spec : {M : Type 1} → statement M
survey_of_spec =
    tie.close
    (tie.spec
    invariant-loop-i
    decreases-loop-i
    (λ c. search (looking, rules))  -- loop-i-init
    (λ c. search (looking, rules))  -- overflow_mul-start
    (λ c. search (looking, rules))  -- bounds-row-start
    (λ c. search (looking, rules))  -- bounds-flags-i
    (λ c. search (looking, rules))  -- overflow_add-start
    (λ c. search (looking, rules))  -- bounds-row-start-in-loop-i
    (λ c κs. search (looking, rules))  -- count-requires
    (λ c κs. search (looking, rules))  -- still_few-few-requires
    (λ c. search (looking, rules))  -- overflow_add-i
    (λ c. search (looking, rules))  -- loop-i-smaller
    (λ c. search (looking, rules))  -- loop-i-preserved
    (λ c. search (looking, rules)))  -- returns
