-- Rules for testing a mixer's values, one by one.
use Rattle.std.specs.Prelude.{◌≡◌, refl, Bool, true, false, ◌&&◌, List, ℕ, ◌+◌, ◌≤◌, ◌<◌, ℤ, pos, length, get_or, drop}
use Rattle.std.proofs.Common.{sym, ◌∙◌, arith, drop_of_length-le, SFits, of_z, to_z}
use Rattle.std.proofs.lemmas.Bool.{not-false, not-true}
use Rattle.std.specs.Int.{w64}
use Rattle.catalogue.specs.Catalogue.{fixed, known_layout, rows_of}
use Rattle.catalogue.specs.Catalogue.Laws.{kind-flag, kind-mixer, mixer_rows_lem, over_size}
use Rattle.catalogue.specs.Mixer.{mixer_row, mixer_rows}
use Rattle.catalogue.specs.Mixer.Tabulated.{mixer-from}
use Rattle.catalogue.specs.Row.{permitted}
use Rattle.values.specs.Permit.{rows_permit}
use Rattle.values.specs.Permit.Testing.{nothing_left, one_tested}
use Rattle.catalogue.specs.declared.layout.Layout.{Layout}

-- the first j values are permitted, one for each row
pub record Mixed (inputs outputs : ℕ) (vs : List ℤ) (j : ℕ) : Type 0 where
  pub many : length vs ≡ length (mixer_rows inputs outputs)
  pub within : j ≤ length vs
  pub rest : rows_permit (mixer_rows inputs outputs) vs ≡ rows_permit (drop j (mixer_rows inputs outputs)) (drop j vs)

pub mixed_start : (inputs outputs : ℕ) (vs : List ℤ) → length vs ≡ length (mixer_rows inputs outputs) → Mixed inputs outputs vs 0
mixed_start inputs outputs vs e = record { many = e; within = omega arith; rest = refl }

module _ (inputs outputs : ℕ) (vs : List ℤ) (j : ℕ) (s : Mixed inputs outputs vs j) (l : j < length vs) (t : Bool) (f : SFits w64 (get_or vs j (pos 0)))
    (g : t ≡ permitted (mixer_row inputs outputs j) (to_z w64 (of_z w64 (get_or vs j (pos 0))))) where
  at_value : rows_permit (mixer_rows inputs outputs) vs ≡ (t && rows_permit (drop (j + 1) (mixer_rows inputs outputs)) (drop (j + 1) vs))
  at_value =
      let inside : j < length (mixer_rows inputs outputs) = omega (arith, s.many) in
      s.rest ∙ one_tested (mixer_rows inputs outputs) vs j (mixer_row inputs outputs j) t (mixer-from inputs outputs j inside) l f g

  pub mixed_next : t ≡ true → Mixed inputs outputs vs (j + 1)
  mixed_next h = record { many = s.many; within = omega arith; rest = rw h at at_value }

  pub mixed_wrong : t ≡ false → false ≡ rows_permit (mixer_rows inputs outputs) vs
  mixed_wrong h = sym (rw h at at_value)

pub mixed_all : (inputs outputs : ℕ) (vs : List ℤ) (j : ℕ) → Mixed inputs outputs vs j → length vs ≤ j → true ≡ rows_permit (mixer_rows inputs outputs) vs
mixed_all inputs outputs vs j s l = sym (s.rest ∙ rw (drop_of_length-le vs l) (nothing_left (drop j (mixer_rows inputs outputs))))

pub ruleset mixing = (mixed_start, mixed_next, mixed_wrong, mixed_all, not-true, not-false)

-- ---- a module that is a mixer

module _ (x : Layout) (k : known_layout x ≡ true) (e : fixed x.kind ≡ false) where
  pub mixer-many : (vs : List ℤ) → length vs ≡ length (rows_of x) → length vs ≡ length (mixer_rows x.inputs x.outputs)
  mixer-many vs h = rw (mixer_rows_lem x (kind-mixer x k e)) at h

  pub mixer-judged : (vs : List ℤ) (t : Bool) → t ≡ rows_permit (mixer_rows x.inputs x.outputs) vs → t ≡ rows_permit (rows_of x) vs
  mixer-judged vs t h = rw (mixer_rows_lem x (kind-mixer x k e)) h

pub ruleset mixers = (kind-flag, over_size, mixer-many, mixer-judged)
