-- `kind_number`: each kind has its number.
use borrow.Author.Rules.{rules}
use Rattle.capi.specs.Rows.Telling.{kinds}
use Rattle.capi.proofs.row.kind_number.Statement.{statement}
use Rattle.capi.proofs.row.kind_number.Tie as tie

pub kind_number_spec : {M : Type 1} → statement M
kind_number_spec =
    tie.close
    (tie.spec
    (λ c. search (kinds, rules))  -- enum_told-1
    (λ c. search (kinds, rules))  -- enum_told-in-Switch
    (λ c. search (kinds, rules))  -- enum_told-in-Number
    (λ c. search (kinds, rules))  -- enum_told-in-Word
    (λ c. search (kinds, rules))  -- returns-in-Level
    (λ c. search (kinds, rules))  -- returns-in-Switch
    (λ c. search (kinds, rules))  -- returns-in-Number
    (λ c. search (kinds, rules)))  -- returns-in-Word
