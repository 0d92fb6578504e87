-- `layout_at`: the record's kind, and a mixer's inputs and outputs, which stand within the table.
use borrow.Author.Rules.{rules}
use Rattle.record.specs.Layout.Laws.{reading}
use Rattle.record.proofs.layout.layout_at.Statement.{statement}
use Rattle.record.proofs.layout.layout_at.Tie as tie

pub layout_at_spec : {M : Type 1} → statement M
layout_at_spec =
    tie.close
    (tie.spec
    (λ c. search (reading, rules))  -- bounds-table-place
    (λ c κs. search (reading, rules))  -- is_fixed-requires
    (λ c. search (reading, rules))  -- returns-then-is_fixed
    (λ c. search (reading, rules))  -- overflow_add-result
    (λ c. search (reading, rules))  -- bounds-table-place-2
    (λ c. search (reading, rules))  -- overflow_add-result-2
    (λ c. search (reading, rules))  -- bounds-table-place-3
    (λ c. search (reading, rules)))  -- returns
