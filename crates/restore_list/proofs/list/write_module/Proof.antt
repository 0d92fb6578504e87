-- `write_module`: a chosen module's lines are written, by whether it is a mixer.
use borrow.Author.Rules.{rules}
use Rattle.catalogue.specs.Catalogue.Laws.{kind-flag}
use Rattle.room.specs.Label.Length.{label-long}
use Rattle.restore_list.specs.Measuring.Part.{parting}
use Rattle.restore_list.specs.Writing.OneModule.{chosen-room, module_putting}
use Rattle.restore_list.proofs.list.write_module.Statement.{statement}
use Rattle.restore_list.proofs.list.write_module.Tie as tie

pub write_module_spec : {M : Type 1} → statement M
write_module_spec =
    tie.close
    (tie.spec
    (λ c. search (module_putting, parting, rules))  -- bounds-selection-number
    (λ c. search (module_putting, parting, rules))  -- returns-then-selection-number-ne1
    (λ c κs. search rules)  -- label_length-size-requires
    (λ c κs. search (module_putting, parting, rules))  -- row_count-requires
    (λ c. search (module_putting, parting, rules))  -- overflow_add-end
    (λ c κs. search (module_putting, parting, rules))  -- is_fixed-requires
    (λ c. search (module_putting, parting, rules))  -- offset_bounds-present-first
    (λ c. search (module_putting, parting, rules))  -- slice_bounds-write_listed-count
    (λ c. search (module_putting, parting, rules))  -- slice_bounds-write_listed-start
    (λ c. search (module_putting, parting, rules))  -- slice_bounds-write_listed-end
    (λ c. search (module_putting, parting, rules))  -- offset_bounds-wanted-first
    (λ c. search (module_putting, parting, rules))  -- slice_bounds-write_listed-count-then-is_fixed
    (λ c. search (module_putting, parting, rules))  -- slice_bounds-write_listed-start-then-is_fixed
    (λ c. search (module_putting, parting, rules))  -- slice_bounds-write_listed-end-then-is_fixed
    (λ c κs. ((search rules, search (kind-flag, rules), search rules, search (label-long, rules)), ((search (parting, rules), search (parting, rules)), search (chosen-room, rules))))  -- write_listed-requires
    (λ c. search (module_putting, parting, rules))  -- shape_of-list-then-is_fixed
    (λ c. search (module_putting, parting, rules))  -- returns-then-is_fixed
    (λ c. search (module_putting, parting, rules))  -- offset_bounds-present-first-2
    (λ c. search (module_putting, parting, rules))  -- slice_bounds-write_rows-count
    (λ c. search (module_putting, parting, rules))  -- slice_bounds-write_rows-start
    (λ c. search (module_putting, parting, rules))  -- slice_bounds-write_rows-end
    (λ c. search (module_putting, parting, rules))  -- offset_bounds-wanted-first-2
    (λ c. search (module_putting, parting, rules))  -- slice_bounds-write_rows-count-2
    (λ c. search (module_putting, parting, rules))  -- slice_bounds-write_rows-start-2
    (λ c. search (module_putting, parting, rules))  -- slice_bounds-write_rows-end-2
    (λ c κs. ((search rules, search rules, search (label-long, rules)), ((search (parting, rules), search (parting, rules)), search (chosen-room, rules))))  -- write_rows-requires
    (λ c. search (module_putting, parting, rules))  -- shape_of-list
    (λ c. search (module_putting, parting, rules)))  -- returns
