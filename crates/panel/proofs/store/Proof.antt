-- `store`: one value set, and the one before it handed back.
use borrow.Author.Rules.{rules}
use Rattle.panel.specs.Panel.Changing.{storing}
use Rattle.panel.proofs.store.Statement.{statement}
use Rattle.panel.proofs.store.Tie as tie

pub store_spec : {M : Type 1} → statement M
store_spec =
    tie.close
    (tie.spec
    (λ c. search (storing, rules))  -- overflow_add-place
    (λ c. search (storing, rules))  -- offset_bounds-values-place
    (λ c. search (storing, rules))  -- slice_copy_out-before
    (λ c. search (storing, rules))  -- offset_bounds-values-place-2
    (λ c. search (storing, rules))  -- bounds-values-place
    (λ c. search (storing, rules))  -- shape_of-values
    (λ c. search (storing, rules)))  -- returns
