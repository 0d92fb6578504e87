-- `listed_part`: the whole is sought, and no output is found.
use borrow.Author.Rules.{rules}
use Rattle.values.specs.Control.Listed.{listed_parts}
use Rattle.values.proofs.control.listed_part.Statement.{statement}
use Rattle.values.proofs.control.listed_part.Tie as tie

pub listed_part_spec : {M : Type 1} → statement M
listed_part_spec =
    tie.close
    (tie.spec
    (λ c. search (listed_parts, rules))  -- enum_told-1
    (λ c κs. search (listed_parts, rules))  -- listed_whole-requires
    (λ c. search (listed_parts, rules))  -- enum_told-in-Output
    (λ c. search (listed_parts, rules))  -- returns-in-Whole
    (λ c. search (listed_parts, rules)))  -- returns-in-Output
