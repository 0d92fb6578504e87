-- `channel_permits`: a level at odd indices, a mute at even ones.
use borrow.Author.Rules.{rules}
use Rattle.catalogue.specs.Mixer.Permitting.{judging_channels}
use Rattle.catalogue.proofs.mixer.channel_permits.Statement.{statement}
use Rattle.catalogue.proofs.mixer.channel_permits.Tie as tie

pub channel_permits_spec : {M : Type 1} → statement M
channel_permits_spec =
    tie.close
    (tie.spec
    (λ c κs. search (judging_channels, rules))  -- level_row-requires
    (λ c κs. search (judging_channels, rules))  -- permits-requires
    (λ c. search (judging_channels, rules))  -- returns-then-k-eq0
    (λ c κs. search (judging_channels, rules))  -- mute_row-requires
    (λ c κs. search (judging_channels, rules))  -- permits-requires-2
    (λ c. search (judging_channels, rules)))  -- returns
