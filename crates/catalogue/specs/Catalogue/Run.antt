-- The rows of a module that is no mixer stand together in the catalogue, from its type's first on.
use Rattle.std.specs.Prelude.{◌≡◌, refl, true, false, ℕ, ◌+◌, ◌≤◌, ◌<◌, length, take, drop}
use Rattle.std.proofs.Math.Path.{ap}
use Rattle.std.proofs.Common.{sym, ◌∙◌, arith, lit≤, get_or-take, Fits}
use mathlib.Core.List.{List, map}
use Rattle.std.proofs.Math.Nat.{mod-le}
use Rattle.std.proofs.Math.ListN.{get_or, get_or-map}
use Rattle.std.proofs.Math.Seq.{get_or-drop}
use Rattle.std.specs.Int.{w64}
use Rattle.catalogue.specs.declared.table.Entry.{Entry}
use Rattle.catalogue.specs.Catalogue.{catalogue, entry_at, first_row, fixed, known_layout, level, minus, no_entry, no_row, number, row_of, rows_before, rows_in, rows_of, switch}
use Rattle.catalogue.specs.Catalogue.Laws.{each_type, kind-flag, kind-mixer, mixer_row-of, mixer_rows_lem, over_size, under_rows}
use Rattle.catalogue.specs.Mixer.{mixer_count, mixer_row}
use Rattle.catalogue.specs.Mixer.Tabulated.{mixer_length_lem}
use Rattle.catalogue.specs.declared.layout.Layout.{Layout}
use Rattle.catalogue.specs.declared.row.Row.{Row}

abbrev RunIn : ℕ → Type 0
RunIn kind = rows_in kind catalogue ≡ map (λ (e : Entry). e.row) (take (length (rows_in kind catalogue)) (drop (first_row kind) catalogue))

run_in : (kind : ℕ) → fixed kind ≡ true → RunIn kind
unfolding rows_in first_row rows_before catalogue level switch number minus
run_in = each_type RunIn refl refl refl refl refl refl

-- and end within it
ends_in : (kind : ℕ) → fixed kind ≡ true → first_row kind + length (rows_in kind catalogue) ≤ length catalogue
unfolding rows_in first_row rows_before catalogue level switch number minus
ends_in = each_type (λ k. first_row k + length (rows_in k catalogue) ≤ length catalogue) (lit≤ tt) (lit≤ tt) (lit≤ tt) (lit≤ tt) (lit≤ tt) (lit≤ tt)

module _ (l : Layout) (o : fixed l.kind ≡ true) where
  pub run : rows_of l ≡ map (λ (e : Entry). e.row) (take (length (rows_of l)) (drop (first_row l.kind) catalogue))
  run = rw (under_rows l o) (run_in l.kind o)

  pub run_ends : first_row l.kind + length (rows_of l) ≤ length catalogue
  run_ends = rw (under_rows l o) (ends_in l.kind o)

  -- a row stands in the run of its type
  pub in_run : (n : ℕ) → n < length (rows_of l) → row_of l n ≡ (entry_at (first_row l.kind + n)).row
  unfolding row_of no_row entry_at
  in_run n h =
      ap (λ (rs : List Row). get_or rs n no_entry.row) run
      ∙ get_or-map (λ (e : Entry). e.row) (take (length (rows_of l)) (drop (first_row l.kind) catalogue)) n no_entry
      ∙ ap (λ (e : Entry). e.row) (get_or-take (length (rows_of l)) (drop (first_row l.kind) catalogue) n no_entry h ∙ get_or-drop (first_row l.kind) catalogue n no_entry)

-- ---- rules for code that takes a row

module _ (l : Layout) (n first : ℕ) (o : fixed l.kind ≡ true) (h : n < length (rows_of l)) (e : first ≡ first_row l.kind) where
  pub run-within : first + n < length catalogue
  run-within = omega (arith, run_ends l o)

  pub run_row : (r : Row) → r ≡ (entry_at (first + n)).row → r ≡ row_of l n
  run_row r g = g ∙ rw e (sym (in_run l o n h))

  pub run-adds : Fits w64 (first + n)
  unfolding catalogue
  run-adds = record { fits = omega (arith, run-within) }

  -- what is not behind a row of the module is within too, so that another row of it is refused for its fields
  pub run-before : (m : ℕ) → m ≤ n → first + m < length catalogue
  run-before m b = omega (arith, run_ends l o)

  pub run-adds_before : (m : ℕ) → m ≤ n → Fits w64 (first + m)
  unfolding catalogue
  run-adds_before m b = record { fits = omega (arith, run-before m b) }

pub ruleset running = (kind-flag, run-within, run_row, run-adds, run-before, run-adds_before, mod-le)

-- of a mixer
module _ (l : Layout) (n : ℕ) (k : known_layout l ≡ true) (e : fixed l.kind ≡ false) (h : n < length (rows_of l)) where
  pub mixer_number-within : n < mixer_count l.inputs l.outputs
  mixer_number-within = let f = rw (mixer_rows_lem l (kind-mixer l k e)) at h in omega (arith, mixer_length_lem l.inputs l.outputs)

  pub mixer_number-before : (m : ℕ) → m ≤ n → m < mixer_count l.inputs l.outputs
  mixer_number-before m b = omega (arith, mixer_number-within)

  pub mixer_row-taken : (r : Row) → r ≡ mixer_row l.inputs l.outputs n → r ≡ row_of l n
  mixer_row-taken r g = g ∙ sym (mixer_row-of l (kind-mixer l k e) n h)

pub ruleset taking = (kind-flag, over_size, mixer_number-within, mixer_number-before, mixer_row-taken)
