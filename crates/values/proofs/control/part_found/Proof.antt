-- `part_found`: each part of what was found.
use borrow.Author.Rules.{rules}
use Rattle.values.specs.Control.Seeking.{part-rules}
use Rattle.values.proofs.control.part_found.Statement.{statement}
use Rattle.values.proofs.control.part_found.Tie as tie

pub part_found_spec : {M : Type 1} → statement M
part_found_spec =
    tie.close
    (tie.spec
    (λ c. search (part-rules, rules))  -- enum_told-1
    (λ c κs. search (part-rules, rules))  -- whole-requires
    (λ c. search (part-rules, rules))  -- enum_known-part
    (λ c κs. search (part-rules, rules))  -- crosspoint-requires
    (λ c. search (part-rules, rules))  -- returns-in-Whole
    (λ c. search (part-rules, rules)))  -- returns-in-Output
