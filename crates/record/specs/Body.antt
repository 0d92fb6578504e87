-- The body of a record: how long it is, and when it is sound, by its kind.
pub mod Begun
pub mod Laws
pub mod Rules
use Rattle.std.specs.Prelude.{Bool, cond, not, ◌&&◌, ◌||◌, List, ℕ, eqb, length, get_or, take}
use Rattle.catalogue.specs.Catalogue.{known}
use Rattle.catalogue.specs.Mixer.{size_right}
use Rattle.record.specs.Field.{field_sound}

-- how long a kind's body is: the label's field, and of a mixer also how many inputs and how many outputs it has
unfoldable pub body_length : ℕ → ℕ
body_length kind = cond (eqb kind 7) 34 32

-- a mixer's size: behind the label's field its inputs and its outputs, each 1 to 32
unfoldable pub sizes_sound : List ℕ → Bool
sizes_sound body = size_right (get_or body 32 0) && size_right (get_or body 33 0)

-- a kind's body begins with the label's field, and a mixer's goes on with its size
unfoldable pub body_sound : ℕ → List ℕ → Bool
body_sound kind body = known kind && eqb (length body) (body_length kind) && field_sound (take 32 body) && (not (eqb kind 7) || sizes_sound body)
