-- `channel_row`: a level at odd indices, a mute at even ones.
use borrow.Author.Rules.{rules}
use Rattle.catalogue.specs.Mixer.Taking.{channels}
use Rattle.catalogue.proofs.mixer.channel_row.Statement.{statement}
use Rattle.catalogue.proofs.mixer.channel_row.Tie as tie

pub channel_row_spec : {M : Type 1} → statement M
channel_row_spec =
    tie.close
    (tie.spec
    (λ c. search (channels, rules))  -- overflow_add-k
    (λ c κs. search (channels, rules))  -- level_row-requires
    (λ c. search (channels, rules))  -- returns-then-k-eq0
    (λ c. search (channels, rules))  -- overflow_add-k-2
    (λ c κs. search (channels, rules))  -- mute_row-requires
    (λ c. search (channels, rules)))  -- returns
