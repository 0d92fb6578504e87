-- `sound_length`: the length, the field at the beginning, the kind, and a mixer's size.
use borrow.Author.Rules.{rules}
use Rattle.record.specs.Body.Rules.{bodies}
use Rattle.record.proofs.begun.sound_length.Statement.{statement}
use Rattle.record.proofs.begun.sound_length.Tie as tie

pub sound_length_spec : {M : Type 1} → statement M
sound_length_spec =
    tie.close
    (tie.spec
    (λ c. search (bodies, rules))  -- returns-then-rest-lt32
    (λ c. search (bodies, rules))  -- slice_bounds-field_sound-end
    (λ c κs. search (bodies, rules))  -- field_sound-requires
    (λ c. search (bodies, rules))  -- returns-then-not-field_sound
    (λ c κs. search (bodies, rules))  -- is_fixed-requires
    (λ c. search (bodies, rules))  -- returns-then-is_fixed
    (λ c. search (bodies, rules))  -- returns-then-kind-ne7
    (λ c κs. search (bodies, rules))  -- mixer_length-requires
    (λ c. search (bodies, rules)))  -- returns
