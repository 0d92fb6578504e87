-- `egrivundo_refusal`: each number has its words.
use borrow.Author.Rules.{rules}
use Rattle.capi.specs.Refusal.Telling.{telling}
use Rattle.capi.proofs.refusal.egrivundo_refusal.Statement.{statement}
use Rattle.capi.proofs.refusal.egrivundo_refusal.Tie as tie

pub egrivundo_refusal_spec : {M : Type 1} → statement M
egrivundo_refusal_spec =
    tie.close
    (tie.spec
    (λ c κs. search rules)  -- put_words-requires
    (λ c κs. search rules)  -- put_words-requires-in-1
    (λ c κs. search rules)  -- put_words-requires-in-2
    (λ c κs. search rules)  -- put_words-requires-in-3
    (λ c κs. search rules)  -- put_words-requires-in-4
    (λ c κs. search rules)  -- put_words-requires-in-5
    (λ c κs. search rules)  -- put_words-requires-in-6
    (λ c κs. search rules)  -- put_words-requires-in-7
    (λ c κs. search rules)  -- put_words-requires-in-8
    (λ c κs. search rules)  -- put_words-requires-in-9
    (λ c κs. search rules)  -- put_words-requires-in-10
    (λ c κs. search rules)  -- put_words-requires-in_default
    (λ c. search (telling, rules))  -- returns-in-0
    (λ c. search (telling, rules))  -- returns-in-1
    (λ c. search (telling, rules))  -- returns-in-2
    (λ c. search (telling, rules))  -- returns-in-3
    (λ c. search (telling, rules))  -- returns-in-4
    (λ c. search (telling, rules))  -- returns-in-5
    (λ c. search (telling, rules))  -- returns-in-6
    (λ c. search (telling, rules))  -- returns-in-7
    (λ c. search (telling, rules))  -- returns-in-8
    (λ c. search (telling, rules))  -- returns-in-9
    (λ c. search (telling, rules))  -- returns-in-10
    (λ c. search (telling, rules)))  -- returns-in_default
