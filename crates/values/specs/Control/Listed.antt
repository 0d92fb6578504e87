-- Rules for what is sought in a module that is no mixer.
use Rattle.std.specs.Prelude.{◌≡◌, Bool, true, false, ℕ, ◌≤◌, ◌<◌, Option, Some, None}
use Rattle.std.proofs.Math.Path.{refl}
use Rattle.std.proofs.Common.{ap, sym, ◌∙◌}
use Rattle.values.specs.declared.parameter.Parameter.{Parameter}
use Rattle.catalogue.specs.Catalogue.{fixed, row_of}
use Rattle.catalogue.specs.Catalogue.Routed.{fixed-no_word}
use Rattle.catalogue.specs.Row.{same_indices}
use Rattle.catalogue.specs.declared.groups.Part.{Part}
use Rattle.catalogue.specs.declared.groups.Part.TheVariants.{Whole, Output}
use Rattle.catalogue.specs.declared.row.Indices.{Indices}
use Rattle.catalogue.specs.declared.row.Row.{Row}
use Rattle.room.specs.declared.table.Module.{Module}
use Rattle.values.specs.Control.{is_word, whole, crosspoint}
use Rattle.values.specs.Control.Seeking.{part_found, whole-found, whole-missing, word_other}
use Rattle.values.specs.Parameters.{parameters_of, with_indices}
use Rattle.values.specs.Parameters.Laws.{own_row}
use Rattle.values.specs.Parameters.Named.{indexed-told}
use Rattle.values.specs.Parameters.Seeking.{Seeking, row_inside, seek_found, seek-next, seek-none, seek-start}

-- ---- the whole of a row

pub listed_found : (m : Module) (i : Indices) (count j : ℕ) → Seeking m i count j → j < count → (r : Row) → r ≡ row_of m.layout j → (t : Bool) → t ≡ same_indices r.indices i → t ≡ true
    → Some (record { owner = m; number = j; row = r }, Whole) ≡ whole (with_indices i (parameters_of m))
listed_found m i count j s l r e t f h =
    whole-found (with_indices i (parameters_of m)) (record { owner = m; number = j; row = r }) (sym (seek_found m i count j s l r e t f h))

pub listed_none : (m : Module) (i : Indices) (count j : ℕ) → Seeking m i count j → count ≤ j → None ≡ whole (with_indices i (parameters_of m))
listed_none m i count j s l = whole-missing (with_indices i (parameters_of m)) (sym (seek-none m i count j s l))

pub ruleset listed_seeking = (seek-start, seek-next, listed_found, listed_none, row_inside)

-- ---- none of its rows has outputs

no_output : (m : Module) (i : Indices) (o : ℕ) (f : Option Parameter) → fixed m.layout.kind ≡ true → with_indices i (parameters_of m) ≡ f
    → None ≡ crosspoint m.layout.outputs o f
unfolding crosspoint
no_output m i o (Some p) k e =
    let h = own_row m p.number p (indexed-told m i p e).own in
    let n : is_word p.row.kind ≡ false =
    sym (word_other p.row.kind (λ w. fixed-no_word m.layout p.number k h.inside (ap (λ r. r.kind) (sym h.row) ∙ w))) in
    rw n refl
no_output m i o None k e = refl

module _ (m : Module) (i : Indices) (part : Part) where
  pub listed_is_whole : (r : Option (Parameter × Part)) → part ≡ Whole → r ≡ whole (with_indices i (parameters_of m)) → r ≡ part_found m.layout.outputs part (with_indices i (parameters_of m))
  unfolding part_found
  listed_is_whole r e h = h ∙ rw e

  pub listed_no_output : (o : ℕ) → fixed m.layout.kind ≡ true → part ≡ Output o → None ≡ part_found m.layout.outputs part (with_indices i (parameters_of m))
  unfolding part_found
  listed_no_output o k e = no_output m i o (with_indices i (parameters_of m)) k refl ∙ rw e

pub ruleset listed_parts = (listed_is_whole, listed_no_output)
