-- `module_lines`: the module's own parts of the lists are measured, by whether it is a mixer.
use borrow.Author.Rules.{rules}
use Rattle.catalogue.specs.Catalogue.Laws.{kind-flag}
use Rattle.restore_list.specs.Measuring.Part.{parting}
use Rattle.restore_list.proofs.measure.module_lines.Statement.{statement}
use Rattle.restore_list.proofs.measure.module_lines.Tie as tie

pub module_lines_spec : {M : Type 1} → statement M
module_lines_spec =
    tie.close
    (tie.spec
    (λ c κs. search (parting, kind-flag, rules))  -- row_count-requires
    (λ c. search (parting, kind-flag, rules))  -- overflow_add-end
    (λ c κs. search (parting, kind-flag, rules))  -- is_fixed-requires
    (λ c. search (parting, kind-flag, rules))  -- offset_bounds-present-first
    (λ c. search (parting, kind-flag, rules))  -- slice_bounds-listed_lines-count
    (λ c. search (parting, kind-flag, rules))  -- slice_bounds-listed_lines-start
    (λ c. search (parting, kind-flag, rules))  -- slice_bounds-listed_lines-end
    (λ c. search (parting, kind-flag, rules))  -- offset_bounds-wanted-first
    (λ c. search (parting, kind-flag, rules))  -- slice_bounds-listed_lines-count-then-is_fixed
    (λ c. search (parting, kind-flag, rules))  -- slice_bounds-listed_lines-start-then-is_fixed
    (λ c. search (parting, kind-flag, rules))  -- slice_bounds-listed_lines-end-then-is_fixed
    (λ c κs. search (parting, kind-flag, rules))  -- listed_lines-requires
    (λ c. search (parting, kind-flag, rules))  -- returns-then-is_fixed
    (λ c. search (parting, kind-flag, rules))  -- offset_bounds-present-first-2
    (λ c. search (parting, kind-flag, rules))  -- slice_bounds-row_lines-count
    (λ c. search (parting, kind-flag, rules))  -- slice_bounds-row_lines-start
    (λ c. search (parting, kind-flag, rules))  -- slice_bounds-row_lines-end
    (λ c. search (parting, kind-flag, rules))  -- offset_bounds-wanted-first-2
    (λ c. search (parting, kind-flag, rules))  -- slice_bounds-row_lines-count-2
    (λ c. search (parting, kind-flag, rules))  -- slice_bounds-row_lines-start-2
    (λ c. search (parting, kind-flag, rules))  -- slice_bounds-row_lines-end-2
    (λ c κs. search (parting, kind-flag, rules))  -- row_lines-requires
    (λ c. search (parting, kind-flag, rules)))  -- returns
