-- `cause_number`: each cause has its number.
use borrow.Author.Rules.{rules}
use Rattle.syntax.specs.Cause.Laws.{cause_numbers}
use Rattle.capi.proofs.fault.cause_number.Statement.{statement}
use Rattle.capi.proofs.fault.cause_number.Tie as tie

pub cause_number_spec : {M : Type 1} → statement M
cause_number_spec =
    tie.close
    (tie.spec
    (λ c. search (cause_numbers, rules))  -- enum_told-1
    (λ c. search (cause_numbers, rules))  -- enum_told-in-NoVerb
    (λ c. search (cause_numbers, rules))  -- enum_told-in-NoOpeningQuote
    (λ c. search (cause_numbers, rules))  -- enum_told-in-NoClosingQuote
    (λ c. search (cause_numbers, rules))  -- enum_told-in-NoEquals
    (λ c. search (cause_numbers, rules))  -- returns-in-Overrun
    (λ c. search (cause_numbers, rules))  -- returns-in-NoVerb
    (λ c. search (cause_numbers, rules))  -- returns-in-NoOpeningQuote
    (λ c. search (cause_numbers, rules))  -- returns-in-NoClosingQuote
    (λ c. search (cause_numbers, rules)))  -- returns-in-NoEquals
