-- The catalogue: the parameters of the seven module types. Those of six types are a table of fifty, which rise within a type by index 1, and where it is the same by index 2; those of the seventh,
-- the Standard Mixer, are computed from its size.
pub mod Counted
pub mod Distinct
pub mod Each
pub mod Fits
pub mod Laws
pub mod Modules
pub mod Narrow
pub mod Routed
pub mod Rules
pub mod Run
pub mod Sized
pub mod Starts
pub mod Steps
use Rattle.std.specs.Prelude.{Bool, true, false, cond, not, ◌&&◌, ◌||◌, List, [], ◌∷◌, map, ℕ, suc, eqb, leb, ltb, ℤ, pos, negsuc, neg_ℤ, get_or}
use Rattle.catalogue.specs.Mixer.{mixer_rows, size_right}
use Rattle.catalogue.specs.declared.layout.Layout.{Layout}
use Rattle.catalogue.specs.declared.row.Indices.{Indices}
use Rattle.catalogue.specs.declared.row.Indices.TheVariants.{OneGroup, TwoGroups}
use Rattle.catalogue.specs.declared.row.Kind.{Kind}
use Rattle.catalogue.specs.declared.row.Kind.TheVariants.{Level, Switch, Number, Word}
use Rattle.catalogue.specs.declared.row.Row.{Row}
use Rattle.catalogue.specs.declared.table.Entry.{Entry}

unfoldable pub minus : ℕ → ℤ
minus n = neg_ℤ (pos n)

-- a level, in tenths of a dB
unfoldable pub level : ℕ → Indices → ℤ → ℤ → ℕ → Bool → Entry
level owner indices low high step settable =
    record { owner = owner; row = record { indices = indices; kind = Level; low = low; high = high; step = step; settable = settable } }

-- a switch is 0, off, or 1, on
unfoldable pub switch : ℕ → Indices → Bool → Entry
switch owner indices settable =
    record { owner = owner; row = record { indices = indices; kind = Switch; low = pos 0; high = pos 1; step = 1; settable = settable } }

-- a number from low to high
unfoldable pub number : ℕ → Indices → ℕ → ℕ → Bool → Entry
number owner indices low high settable =
    record { owner = owner; row = record { indices = indices; kind = Number; low = pos low; high = pos high; step = 1; settable = settable } }

-- type, indices, low, high and step of a level or low and high of a number, and whether a line may set it
unfoldable pub catalogue : List Entry
catalogue =
    level 1 (OneGroup 1) (minus 150) (pos 150) 1 true ∷
    switch 1 (OneGroup 2) true ∷
    level 1 (OneGroup 3) (minus 150) (pos 150) 1 true ∷
    switch 1 (OneGroup 4) true ∷
    level 1 (OneGroup 5) (minus 150) (pos 150) 1 true ∷
    switch 1 (OneGroup 6) true ∷
    switch 2 (OneGroup 1) true ∷
    switch 3 (OneGroup 1) true ∷
    number 4 (TwoGroups 1 1) 0 9 true ∷
    level 4 (TwoGroups 1 2) (minus 605) (pos 120) 5 true ∷
    switch 4 (TwoGroups 1 3) true ∷
    level 4 (TwoGroups 1 4) (minus 605) (pos 120) 5 true ∷
    switch 4 (TwoGroups 1 5) true ∷
    level 4 (TwoGroups 1 6) (minus 605) (pos 120) 5 true ∷
    switch 4 (TwoGroups 1 7) true ∷
    number 5 (TwoGroups 0 1) 0 8 false ∷
    number 5 (TwoGroups 0 2) 0 32 false ∷
    number 5 (TwoGroups 0 3) 0 16 false ∷
    switch 5 (TwoGroups 0 4) false ∷
    number 5 (TwoGroups 0 5) 0 6 false ∷
    level 5 (TwoGroups 0 8) (minus 60) (minus 30) 10 false ∷
    level 5 (TwoGroups 1 1) (minus 605) (pos 120) 5 true ∷
    switch 5 (TwoGroups 1 2) true ∷
    level 5 (TwoGroups 1 3) (minus 605) (pos 120) 5 true ∷
    switch 5 (TwoGroups 1 4) true ∷
    level 5 (TwoGroups 1 5) (minus 605) (pos 120) 5 true ∷
    switch 5 (TwoGroups 1 6) true ∷
    level 5 (TwoGroups 1 7) (minus 605) (pos 120) 5 true ∷
    switch 5 (TwoGroups 1 8) true ∷
    number 5 (TwoGroups 1 9) 1 6 true ∷
    level 5 (TwoGroups 2 1) (minus 605) (pos 120) 5 true ∷
    switch 5 (TwoGroups 2 2) true ∷
    level 5 (TwoGroups 2 3) (minus 605) (pos 120) 5 true ∷
    switch 5 (TwoGroups 2 4) true ∷
    level 5 (TwoGroups 2 5) (minus 605) (pos 120) 5 true ∷
    switch 5 (TwoGroups 2 6) true ∷
    level 5 (TwoGroups 2 7) (minus 605) (pos 120) 5 true ∷
    switch 5 (TwoGroups 2 8) true ∷
    level 5 (TwoGroups 2 9) (minus 605) (pos 120) 5 true ∷
    switch 5 (TwoGroups 2 10) true ∷
    level 5 (TwoGroups 2 11) (minus 605) (pos 120) 5 true ∷
    switch 5 (TwoGroups 2 12) true ∷
    level 5 (TwoGroups 2 13) (minus 605) (pos 120) 5 true ∷
    switch 5 (TwoGroups 2 14) true ∷
    level 5 (TwoGroups 2 15) (minus 605) (pos 120) 5 true ∷
    switch 5 (TwoGroups 2 16) true ∷
    level 5 (TwoGroups 2 17) (minus 605) (pos 120) 5 true ∷
    switch 5 (TwoGroups 2 18) true ∷
    switch 6 (TwoGroups 0 2) true ∷
    number 6 (TwoGroups 1 1) 1 43200 true ∷
    []

-- the module types are numbered 1 to 7
unfoldable pub known : ℕ → Bool
known kind = leb 1 kind && leb kind 7

-- 1 to 6 have their rows in the catalogue
unfoldable pub fixed : ℕ → Bool
fixed kind = leb 1 kind && leb kind 6

-- the rows that a module type has, in the catalogue's order
unfoldable pub rows_in : ℕ → List Entry → List Row
rows_in owner [] = []
rows_in owner (e ∷ es) = cond (eqb e.owner owner) (e.row ∷ rows_in owner es) (rows_in owner es)

-- how many rows the module types before it have
unfoldable pub rows_before : ℕ → List Entry → ℕ
rows_before owner [] = 0
rows_before owner (e ∷ es) = cond (ltb e.owner owner) (suc (rows_before owner es)) (rows_before owner es)

unfoldable pub first_row : ℕ → ℕ
first_row owner = rows_before owner catalogue

-- ---- the rows of a module, by its layout

-- a module's kind is a module type, and a mixer's size is right
unfoldable pub known_layout : Layout → Bool
known_layout l = known l.kind && (not (eqb l.kind 7) || (size_right l.inputs && size_right l.outputs))

-- the rows of a module: a mixer's by its size, and of another kind those that the catalogue has
unfoldable pub rows_of : Layout → List Row
rows_of l = cond (eqb l.kind 7) (mixer_rows l.inputs l.outputs) (rows_in l.kind catalogue)

-- how many rows a module may have
unfoldable pub row_limit : ℕ
row_limit = 160

-- ---- an entry and a row by their numbers

-- no entry: what stands past the catalogue's end
unfoldable pub no_entry : Entry
no_entry = switch 0 (OneGroup 0) false

unfoldable pub no_row : Row
no_row = no_entry.row

unfoldable pub entry_at : ℕ → Entry
entry_at n = get_or catalogue n no_entry

-- row `number` of a module
unfoldable pub row_of : Layout → ℕ → Row
row_of l number = get_or (rows_of l) number no_row

-- ---- the numbers of a row's indices, by which the rows of a type rise

unfoldable pub first_number : Indices → ℤ
first_number (OneGroup a) = pos a
first_number (TwoGroups a b) = pos a

-- -1 where there is no second group: no second index is that
unfoldable pub second_number : Indices → ℤ
second_number (OneGroup a) = negsuc 0
second_number (TwoGroups a b) = pos b
