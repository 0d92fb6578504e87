-- Parameters: the rows of each module in turn, in the order of the table.
pub mod ByRow
pub mod Each
pub mod Elements
pub mod First
pub mod Laws
pub mod Missing
pub mod Mixer
pub mod Named
pub mod Owned
pub mod Places
pub mod Seeking
pub mod Walk
use Rattle.std.specs.Prelude.{cond, List, [], ◌∷◌, ◌++◌, ℕ, zero, suc, ◌+◌, Option, Some, None}
use Rattle.catalogue.specs.Catalogue.{rows_of}
use Rattle.catalogue.specs.Row.{same_indices}
use Rattle.room.specs.Table.{module_at, modules}
use Rattle.catalogue.specs.declared.row.Indices.{Indices}
use Rattle.catalogue.specs.declared.row.Row.{Row}
use Rattle.room.specs.declared.table.Module.{Module}
use Rattle.values.specs.declared.parameter.Parameter.{Parameter}

-- the rows of a module, numbered
unfoldable pub numbered : Module → (number : ℕ) → List Row → List Parameter
numbered m number [] = []
numbered m number (r ∷ rs) = record { owner = m; number = number; row = r } ∷ numbered m (number + 1) rs

-- a module's parameters: its rows, numbered from 0
unfoldable pub parameters_of : Module → List Parameter
parameters_of m = numbered m 0 (rows_of m.layout)

unfoldable pub parameters_in : List Module → List Parameter
parameters_in [] = []
parameters_in (m ∷ ms) = parameters_of m ++ parameters_in ms

-- the parameters of the table t, in value order
unfoldable pub parameters : List ℕ → List Parameter
parameters t = parameters_in (modules t)

-- the number of a parameter's value: its module's first value, and its row's number on from there
unfoldable pub place : Parameter → ℕ
place p = p.owner.first + p.number

-- parameter k of a list, counted from 0
unfoldable pub parameter_at : List Parameter → ℕ → Option Parameter
parameter_at [] k = None
parameter_at (p ∷ ps) zero = Some p
parameter_at (p ∷ ps) (suc k) = parameter_at ps k

-- the parameter of a list whose row has the indices i
unfoldable pub with_indices : Indices → List Parameter → Option Parameter
with_indices i [] = None
with_indices i (p ∷ ps) = cond (same_indices p.row.indices i) (Some p) (with_indices i ps)

-- parameter j of the module that was found, counted from 0
unfoldable pub row_at : Option Module → (row : ℕ) → Option Parameter
row_at (Some m) j = parameter_at (parameters_of m) j
row_at None j = None

-- the parameter of the table t by the numbers of its module and of its row, both counted from 0
unfoldable pub by_row : List ℕ → (owner row : ℕ) → Option Parameter
by_row t n j = row_at (module_at (modules t) n) j
