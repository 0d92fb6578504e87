-- The sound body that begins some bytes: how long it is.
use Rattle.std.specs.Prelude.{◌≡◌, Bool, ◌&&◌, List, ℕ, ◌≤◌, leb, length, take}
use Rattle.std.proofs.Math.Path.{refl}
use Rattle.std.proofs.Common.{arith, length-take}
use Rattle.std.proofs.Math.Bool.{true, false, cond}
use Rattle.record.specs.Body.{body_length, body_sound, sizes_sound}
use Rattle.record.specs.Body.Laws.{body_long, sound-body}

-- a mixer's body, where its size is within and sound; else 0
unfoldable pub mixer_length : List ℕ → ℕ
mixer_length s = cond (leb 34 (length s) && sizes_sound s) 34 0

-- a sound body of a kind, or 0 where none begins the bytes
unfoldable pub sound_length : ℕ → List ℕ → ℕ
sound_length kind s = cond (body_sound kind (take (body_length kind) s)) (body_length kind) 0

module _ (kind size : ℕ) (s : List ℕ) (e : size ≡ sound_length kind s) where
  -- 0 tells that no sound body begins them
  pub none_begun : size ≡ 0 → body_sound kind (take (body_length kind) s) ≡ false
  unfolding sound_length
  none_begun z = go (body_sound kind (take (body_length kind) s)) e
    where
      go : (b : Bool) → size ≡ cond b (body_length kind) 0 → b ≡ false
      go true q = absurd (omega (arith, body_long kind))
      go false q = refl

  -- and else it is the kind's length, and lies within
  pub body_begun : (size ≡ 0 → ⊥) → body_sound kind (take (body_length kind) s) ≡ true
  unfolding sound_length
  body_begun n = go (body_sound kind (take (body_length kind) s)) e
    where
      go : (b : Bool) → size ≡ cond b (body_length kind) 0 → b ≡ true
      go true q = refl
      go false q = absurd (n q)

  pub begun-size : (size ≡ 0 → ⊥) → size ≡ body_length kind
  unfolding sound_length
  begun-size n = rw (body_begun n) at e

  pub begun-within : (size ≡ 0 → ⊥) → size ≤ length s
  begun-within n = omega (arith, begun-size n, (sound-body kind (take (body_length kind) s) (body_begun n)).long, length-take (body_length kind) s)
