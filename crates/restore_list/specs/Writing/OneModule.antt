-- Rules for writing the lines of a module, where it is chosen.
use Rattle.std.specs.Prelude.{◌≡◌, List, ℕ, ◌+◌, ◌-◌, ◌≤◌, ℤ, length, get_or, take, drop}
use Rattle.std.proofs.Common.{eq-eqb, ne_eqb}
use Rattle.catalogue.specs.Catalogue.{rows_of}
use Rattle.text.specs.Written.{Wrote}
use Rattle.text.specs.Written.Laws.{wrote_nothing}
use Rattle.room.specs.declared.table.Module.{Module}
use Rattle.wish.specs.Listing.{listing}
use Rattle.wish.specs.Listing.Laws.{listing_none}
use Rattle.restore_list.specs.Measuring.{module_changes, row_changes}
use Rattle.restore_list.specs.Measuring.Part.{own-part}

module _ (t selection : List ℕ) (m : Module) (vs ws : List ℤ) (l : List ℕ) (at : ℕ) where
  pub unchosen_wrote : (get_or selection m.number 0 ≡ 1 → ⊥) → Wrote l at (listing t (module_changes selection m vs ws)) at l
  unfolding module_changes
  unchosen_wrote h = rw (ne_eqb (get_or selection m.number 0) 1 h, listing_none t) (wrote_nothing l at)

  module _ (k : get_or selection m.number 0 ≡ 1) (rows : ℕ) (n : rows ≡ length (rows_of m.layout)) where
    own-changes : module_changes selection m vs ws
        ≡ row_changes m (take (m.first + rows - m.first) (drop m.first vs)) (take (m.first + rows - m.first) (drop m.first ws))
    unfolding module_changes
    own-changes = rw (eq-eqb (get_or selection m.number 0) 1 k, own-part m vs rows n, own-part m ws rows n)

    pub chosen-room : at + length (listing t (module_changes selection m vs ws)) ≤ length l
        → at + length (listing t (row_changes m (take (m.first + rows - m.first) (drop m.first vs)) (take (m.first + rows - m.first) (drop m.first ws)))) ≤ length l
    chosen-room h = rw own-changes at h

    pub chosen-wrote : (r : ℕ) (after : List ℕ)
        → Wrote l at (listing t (row_changes m (take (m.first + rows - m.first) (drop m.first vs)) (take (m.first + rows - m.first) (drop m.first ws)))) r after
        → Wrote l at (listing t (module_changes selection m vs ws)) r after
    chosen-wrote r after w = rw own-changes w

pub ruleset module_putting = (unchosen_wrote, chosen-room, chosen-wrote)
