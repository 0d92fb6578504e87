-- How opening and closing keep their promise, of one connection and of a row, and the fresh row.
use Rattle.std.specs.Prelude.{◌≡◌, Bool, false, not, cond, ◌&&◌, List, ℕ, ◌≤◌, ◌<◌, get_or, set, replicate}
use Rattle.std.proofs.Math.Path.{refl, sym}
use Rattle.std.proofs.Common.{◌∙◌}
use Rattle.std.proofs.Math.Bool.{true}
use native.Mathlib.Omega.{arith}
use borrow.Author.Tests.{eq-eqb, ne_eqb, eqb-true, leb-true, not-true, not-false}
use Rattle.std.proofs.Math.Dec.{eqb, leb}
use Rattle.std.proofs.Math.ListN.{length}
use Rattle.std.proofs.lemmas.List.{set-get_or}
use Rattle.text.specs.Every.Laws.{both_left, both_right}
use Rattle.serial_port.specs.Port.{view, fresh}
use Rattle.serial_port.specs.Play.Calls.Laws.{fresh-counts}
use Rattle.serial_port.specs.declared.port.Port.{Port}
use Rattle.connections.specs.Parts.{connection_count}
use Rattle.connections.specs.Connections.{closed, changes, is_place, switch_number, FreshRow, fresh-row, refused, made, SwitchesOne, kept, anew, Switches, switches}
use Rattle.connections.specs.Connections.Number.{open_flag}
use Rattle.connections.specs.declared.connection.Connection.{Connection}
use Rattle.connections.specs.declared.connection.Switched.{Switched}

pub change_open : (want now : Bool) → want ≡ true → not now ≡ changes want now
unfolding changes
change_open want now h = rw h refl

pub change_closed : (want now : Bool) → want ≡ false → now ≡ changes want now
unfolding changes
change_closed want now h = rw h refl

pub stays_so : (want b : Bool) (c : Connection) → b ≡ changes want c.is_open → not b ≡ true → SwitchesOne want c (record { connection = c; number = 10 })
stays_so want b c e h = kept (sym e ∙ not-true b h) refl refl

pub made-anew : (want b : Bool) (c : Connection) (p : Port) → b ≡ changes want c.is_open → not b ≡ false → view p ≡ fresh → p.len ≡ 0
    → SwitchesOne want c (record { connection = record { is_open = want; port = p }; number = 0 })
made-anew want b c p e h v z = anew (sym e ∙ not-false b h) refl (record { switched = refl; port = fresh-counts p v z })

pub ruleset switching = (change_open, change_closed, stays_so, made-anew)

pub fresh-made : (p : Port) → view p ≡ fresh → p.len ≡ 0 → FreshRow (record { row = replicate 32 (record { is_open = false; port = p }); last = 31 })
unfolding connection_count
fresh-made p v z = fresh-row (record { is_open = false; port = p }) (record { switched = refl; port = fresh-counts p v z }) refl refl

-- ---- in a row

pub no_row : (count i : ℕ) → (count ≡ 32 → ⊥) → eqb count 32 ≡ is_place count i
unfolding is_place connection_count
no_row count i h = rw (ne_eqb count 32 h) refl

pub row_place : (count i : ℕ) → count ≡ 32 → leb i 31 ≡ is_place count i
unfolding is_place connection_count
row_place count i h = rw (eq-eqb count 32 h) refl

pub ruleset places = (no_row, row_place)

module _ (want b : Bool) (row : List Connection) (i : ℕ) (p : b ≡ is_place (length row) i) where
  number_by_lem : b ≡ true → (c : Bool) → changes want (get_or row i closed).is_open ≡ c → switch_number want row i ≡ cond c 0 10
  unfolding switch_number
  number_by_lem h c e = rw (sym p ∙ h, open_flag row i, e) refl

  pub place-within : b ≡ true → i < length row
  unfolding is_place connection_count
  place-within h =
      let q : eqb (length row) 32 && leb i 31 ≡ true = sym p ∙ h in
      let n : length row ≡ 32 = eqb-true (length row) 32 (both_left (eqb (length row) 32) (leb i 31) q) in
      let l : i ≤ 31 = leb-true i 31 (both_right (eqb (length row) 32) (leb i 31) q) in
      omega arith

  pub place_small : b ≡ true → i ≤ 31
  unfolding is_place connection_count
  place_small h = leb-true i 31 (both_right (eqb (length row) 32) (leb i 31) (sym p ∙ h))

  pub no_place : b ≡ false → Switches want row i 10 row
  unfolding switch_number
  no_place h =
      let q : switch_number want row i ≡ 10 = rw (sym p ∙ h) refl in
      switches (sym q) (rw q (refused 9))

  pub switched_at : (d : Switched) → b ≡ true → SwitchesOne want (get_or row i closed) d → Switches want row i d.number (set row i d.connection)
  switched_at d h (kept e z same) =
      let q : switch_number want row i ≡ 10 = number_by_lem h false e in
      let back : set row i d.connection ≡ row = rw same (set-get_or row i closed) in
      switches (z ∙ sym q) (rw (q, back) (refused 9))
  switched_at d h (anew e z fresh) =
      let q : switch_number want row i ≡ 0 = number_by_lem h true e in
      switches (z ∙ sym q) (rw q (made d.connection fresh))
