-- `put_words`: the words are written over zero bytes.
use borrow.Author.Rules.{rules}
use Rattle.capi.specs.Refusal.Telling.{padding}
use Rattle.capi.proofs.refusal.put_words.Statement.{statement}
use Rattle.capi.proofs.refusal.put_words.Tie as tie

pub put_words_spec : {M : Type 1} → statement M
put_words_spec =
    tie.close
    (tie.spec
    (λ c κs. search (padding, rules))  -- put_bytes-requires
    (λ c. search (padding, rules)))  -- returns
