-- What the rows of every module obey: those of the catalogue by one test over the table, and those of a mixer at every size.
use Rattle.std.specs.Prelude.{◌≡◌, Bool, true, ℕ, ◌<◌, length}
use Rattle.text.specs.Every.{every, pairs}
use Rattle.text.specs.Every.Laws.{every-at}
use Rattle.catalogue.specs.Catalogue.{catalogue, known_layout, no_row, row_of, rows_of}
use Rattle.catalogue.specs.Catalogue.Distinct.{distinct_rows, rows_differ}
use Rattle.catalogue.specs.Catalogue.Each.{entry_test, every-type}
use Rattle.catalogue.specs.Catalogue.Fits.{catalogue-fits, fits, row_fits}
use Rattle.catalogue.specs.Catalogue.Laws.{Laid, fixed-rows, laid, mixer_rows_lem, mixer-size}
use Rattle.catalogue.specs.Catalogue.Laws as layout
use Rattle.catalogue.specs.Catalogue.Rules.{catalogue-distinct}
use Rattle.catalogue.specs.Catalogue.Sized.{catalogue-sized, sized_row}
use Rattle.catalogue.specs.Catalogue.Starts.{catalogue-starts, start_right}
use Rattle.catalogue.specs.Mixer.{MixerSize, mixer_rows}
use Rattle.catalogue.specs.Mixer.Indexed.{mixer-distinct}
use Rattle.catalogue.specs.Mixer.Right.{mixer-fits, mixer-sized, mixer-starts}
use Rattle.catalogue.specs.Row.{RowFits}
use Rattle.catalogue.specs.declared.layout.Layout.{Layout}
use Rattle.catalogue.specs.declared.row.Row.{Row}

-- a test that every row of the catalogue and of every mixer meets
pub record EveryRow (test : Row → Bool) : Type 0 where
  pub listed : every (entry_test test) catalogue ≡ true
  pub mixed : (inputs outputs : ℕ) → MixerSize inputs outputs → every test (mixer_rows inputs outputs) ≡ true

-- the rows of a module meet it
pub type_tested : (test : Row → Bool) → EveryRow test → (l : Layout) → known_layout l ≡ true → every test (rows_of l) ≡ true
type_tested test h l k = go (laid l)
  where
    go : Laid l → every test (rows_of l) ≡ true
    go (layout.other n) = rw (fixed-rows l n) (every-type test l.kind catalogue h.listed)
    go (layout.mixer e) = rw (mixer_rows_lem l e) (h.mixed l.inputs l.outputs (mixer-size l k e))

pub row_tested : (test : Row → Bool) → EveryRow test → (l : Layout) (j : ℕ) → known_layout l ≡ true → j < length (rows_of l) → test (row_of l j) ≡ true
unfolding row_of
row_tested test h l j k i = every-at test (rows_of l) no_row (type_tested test h l k) j i

-- a row's arithmetic stays within 64 bits
pub all_fit : EveryRow fits
all_fit = record { listed = catalogue-fits; mixed = mixer-fits }

pub row_of-fits : (l : Layout) (j : ℕ) → known_layout l ≡ true → j < length (rows_of l) → RowFits (row_of l j)
row_of-fits l j k i = row_fits (row_of l j) (row_tested fits all_fit l j k i)

-- its indices and values are small enough for their texts
pub all_sized : EveryRow sized_row
all_sized = record { listed = catalogue-sized; mixed = mixer-sized }

pub type_sized : (l : Layout) → known_layout l ≡ true → every sized_row (rows_of l) ≡ true
type_sized l k = type_tested sized_row all_sized l k

pub row_sized : (l : Layout) (j : ℕ) → known_layout l ≡ true → j < length (rows_of l) → sized_row (row_of l j) ≡ true
row_sized l j k i = row_tested sized_row all_sized l j k i

-- the value that a program starts with is permitted
pub all_start : EveryRow start_right
all_start = record { listed = catalogue-starts; mixed = mixer-starts }

-- and no two rows of a module have the same indices
pub type_distinct : (l : Layout) → pairs rows_differ (rows_of l) ≡ true
type_distinct l = go (laid l)
  where
    go : Laid l → pairs rows_differ (rows_of l) ≡ true
    go (layout.other n) = rw (fixed-rows l n) (distinct_rows l.kind catalogue catalogue-distinct)
    go (layout.mixer e) = rw (mixer_rows_lem l e) (mixer-distinct l.inputs l.outputs)
