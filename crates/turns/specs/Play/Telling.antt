-- Rules for the code that tells of a turn.
use Rattle.std.specs.Prelude.{◌≡◌, List, [], ◌∷◌, ℕ, ◌%◌, get_or, None, Option, Some}
use Rattle.std.proofs.Math.Path.{refl}
use Rattle.syntax.specs.Cause.{cause_number}
use Rattle.syntax.specs.declared.cause.Malformed.{Malformed}
use Rattle.connections.specs.declared.turning.Turned.{Turned}
use Rattle.turns.specs.Play.{fault_bytes, served_bytes, told_bytes}

-- ---- a fault

pub fault_none : (f : Option Malformed) → f ≡ None → 0 ∷ 0 ∷ [] ≡ fault_bytes f
unfolding fault_bytes
fault_none f e = rw e refl

pub fault_some : (f : Option Malformed) (m : Malformed) (x y : ℕ) → f ≡ Some m → x ≡ cause_number m.cause → y ≡ m.place % 256 → x ∷ y ∷ [] ≡ fault_bytes f
unfolding fault_bytes
fault_some f m x y e h k = rw (e, h, k) refl

pub ruleset faults = (fault_none, fault_some)

-- ---- a turn

bytes_of : (f : Option Malformed) (ns : List ℕ) → ns ≡ fault_bytes f → get_or ns 0 0 ∷ get_or ns 1 0 ∷ [] ≡ fault_bytes f
unfolding fault_bytes
bytes_of f ns e = rw e (go f)
  where
    go : (f : Option Malformed) → get_or (fault_bytes f) 0 0 ∷ get_or (fault_bytes f) 1 0 ∷ [] ≡ fault_bytes f
    go None = refl
    go (Some m) = refl

module _ (t : Turned) (x y : ℕ) (ns : List ℕ) (e : x ≡ t.consumed % 256) (f : y ≡ t.sent % 256) (g : ns ≡ fault_bytes t.fault) where
  pub told-nobody : t.served ≡ None → t.number ∷ 0 ∷ 0 ∷ x ∷ y ∷ get_or ns 0 0 ∷ get_or ns 1 0 ∷ [] ≡ told_bytes t
  unfolding told_bytes served_bytes
  told-nobody h = rw (h, e, f, bytes_of t.fault ns g) refl

  pub told-one : (i z : ℕ) → t.served ≡ Some i → z ≡ i % 256 → t.number ∷ 1 ∷ z ∷ x ∷ y ∷ get_or ns 0 0 ∷ get_or ns 1 0 ∷ [] ≡ told_bytes t
  unfolding told_bytes served_bytes
  told-one i z h k = rw (h, e, f, k, bytes_of t.fault ns g) refl

pub ruleset telling = (told-nobody, told-one)
