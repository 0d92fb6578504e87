-- Changes of rows that can be set: what is asked of a module's rows, and how it decides the reach of the module's changes.
use Rattle.std.specs.Prelude.{◌≡◌, Bool, true, false, cond, ◌&&◌, ℕ, ℤ, length}
use Rattle.std.proofs.Math.Path.{refl}
use Rattle.std.proofs.Common.{ap, sym, ◌∙◌}
use Rattle.std.proofs.Math.Bool.{and_assoc, and-false, and-true}
use mathlib.Core.List.{List, [], ◌∷◌, ◌++◌}
use Rattle.text.specs.Every.Laws.{never}
use Rattle.room.specs.Label.{bearer, label}
use Rattle.room.specs.declared.table.Module.{Module}
use Rattle.values.specs.Parameters.{parameters_of}
use Rattle.values.specs.Parameters.Owned.{Owned, owned}
use Rattle.values.specs.Values.{equal}
use Rattle.values.specs.declared.parameter.Parameter.{Parameter}
use Rattle.wish.specs.Listing.{Change, all_reachable, borne_once, changes_of, reachable}
use Rattle.wish.specs.Listing.Settable.{all_settable}

pub settable_none : all_settable [] ≡ true
unfolding all_settable
settable_none = refl

pub settable_one : (c : Change) → all_settable (c ∷ []) ≡ c.parameter.row.settable
unfolding all_settable
settable_one c = and-true c.parameter.row.settable

pub settable_append : (cs ds : List Change) → all_settable (cs ++ ds) ≡ (all_settable cs && all_settable ds)
unfolding all_settable
settable_append [] ds = refl
settable_append (c ∷ cs) ds =
    ap (λ (b : Bool). c.parameter.row.settable && b) (settable_append cs ds)
    ∙ sym (and_assoc c.parameter.row.settable (all_settable cs) (all_settable ds))

-- changes within reach are of rows that can be set
pub read_only_beyond : (t : List ℕ) (cs : List Change) → all_settable cs ≡ false → all_reachable t cs ≡ false
unfolding all_settable all_reachable reachable
read_only_beyond t [] e = never (sym e)
read_only_beyond t (c ∷ cs) e = go c.parameter.row.settable refl (read_only_beyond t cs)
  where
    go : (b : Bool) → c.parameter.row.settable ≡ b → (all_settable cs ≡ false → all_reachable t cs ≡ false)
        → ((c.parameter.row.settable && borne_once (bearer t (label t c.parameter.owner))) && all_reachable t cs) ≡ false
    go true q h = rw (h (rw q at e)) (and-false (c.parameter.row.settable && borne_once (bearer t (label t c.parameter.owner))))
    go false q h = rw q refl

-- ---- the changes of a module that alone bears its label, or does not

module _ (t : List ℕ) (m : Module) where
  own-reach : (p : Parameter) (b : Bool) → p.owner ≡ m → borne_once (bearer t (label t m)) ≡ b → reachable t p ≡ (p.row.settable && b)
  unfolding reachable
  own-reach p b o e = rw (o, e)

  own-reached : (ps : List Parameter) (vs xs : List ℤ) → Owned m ps → borne_once (bearer t (label t m)) ≡ true
      → all_reachable t (changes_of ps vs xs) ≡ all_settable (changes_of ps vs xs)
  unfolding changes_of all_reachable all_settable
  own-reached [] vs xs o e = refl
  own-reached (p ∷ ps) [] xs o e = refl
  own-reached (p ∷ ps) (v ∷ vs) [] o e = refl
  own-reached (p ∷ ps) (v ∷ vs) (x ∷ xs) o e = go (equal v x) (own-reached ps vs xs o.1 e)
    where
      rest : List Change
      rest = changes_of ps vs xs

      here : Change
      here = record { parameter = p; present = v; target = x }

      go : (b : Bool) → all_reachable t rest ≡ all_settable rest → all_reachable t (cond b rest (here ∷ rest)) ≡ all_settable (cond b rest (here ∷ rest))
      go true h = h
      go false h = rw (own-reach p true o.0 e, h, and-true p.row.settable)

  own-shared : (ps : List Parameter) (vs xs : List ℤ) → Owned m ps → borne_once (bearer t (label t m)) ≡ false
      → (length (changes_of ps vs xs) ≡ 0 → ⊥) → all_reachable t (changes_of ps vs xs) ≡ false
  unfolding changes_of all_reachable
  own-shared [] vs xs o e h = absurd (h refl)
  own-shared (p ∷ ps) [] xs o e h = absurd (h refl)
  own-shared (p ∷ ps) (v ∷ vs) [] o e h = absurd (h refl)
  own-shared (p ∷ ps) (v ∷ vs) (x ∷ xs) o e h = go (equal v x) h (own-shared ps vs xs o.1 e)
    where
      rest : List Change
      rest = changes_of ps vs xs

      here : Change
      here = record { parameter = p; present = v; target = x }

      go : (b : Bool) → (length (cond b rest (here ∷ rest)) ≡ 0 → ⊥) → ((length rest ≡ 0 → ⊥) → all_reachable t rest ≡ false)
          → all_reachable t (cond b rest (here ∷ rest)) ≡ false
      go true h f = f h
      go false h f = rw (own-reach p false o.0 e, and-false p.row.settable)

  pub module_reached : (vs xs : List ℤ) → borne_once (bearer t (label t m)) ≡ true
      → all_reachable t (changes_of (parameters_of m) vs xs) ≡ all_settable (changes_of (parameters_of m) vs xs)
  module_reached vs xs e = own-reached (parameters_of m) vs xs (owned m) e

  pub module_shared : (vs xs : List ℤ) → borne_once (bearer t (label t m)) ≡ false → (length (changes_of (parameters_of m) vs xs) ≡ 0 → ⊥)
      → all_reachable t (changes_of (parameters_of m) vs xs) ≡ false
  module_shared vs xs e h = own-shared (parameters_of m) vs xs (owned m) e h
