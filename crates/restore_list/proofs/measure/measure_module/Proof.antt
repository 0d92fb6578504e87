-- `measure_module`: the rows are measured, and the label is sought where one changes.
use borrow.Author.Rules.{rules}
use Rattle.room.specs.Label.Length.{label-long}
use Rattle.restore_list.specs.Measuring.OneModule.{module_measuring}
use Rattle.restore_list.proofs.measure.measure_module.Statement.{statement}
use Rattle.restore_list.proofs.measure.measure_module.Tie as tie

pub measure_module_spec : {M : Type 1} → statement M
measure_module_spec =
    tie.close
    (tie.spec
    (λ c. search (module_measuring, rules))  -- bounds-selection-number
    (λ c. search (module_measuring, rules))  -- returns-then-selection-number-ne1
    (λ c κs. search (module_measuring, rules))  -- label_length-size-requires
    (λ c κs. search (module_measuring, label-long, rules))  -- module_lines-requires
    (λ c. search (module_measuring, rules))  -- enum_told-1
    (λ c. search (module_measuring, rules))  -- enum_known-bytes
    (λ c. search (module_measuring, rules))  -- returns-then-lines-eq0
    (λ c κs. search (module_measuring, label-long, rules))  -- borne_once-requires
    (λ c. search (module_measuring, rules))  -- returns-then-not-borne_once
    (λ c. search (module_measuring, rules))  -- returns-in-Beyond
    (λ c. search (module_measuring, rules)))  -- returns-else-not-borne_once
