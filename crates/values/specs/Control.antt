-- What index groups name in a module: a parameter, and which part of it, the whole or one output of a routing word.
pub mod Laws
pub mod Listed
pub mod Seeking
use Rattle.std.specs.Prelude.{Bool, true, false, cond, ◌&&◌, ℕ, eqb, leb, Option, Some, None}
use Rattle.catalogue.specs.declared.groups.Part.{Part}
use Rattle.values.specs.declared.parameter.Parameter.{Parameter}
use Rattle.catalogue.specs.declared.groups.Group.TheVariants.{Single, Pair}
use Rattle.catalogue.specs.declared.groups.Groups.{Groups}
use Rattle.catalogue.specs.declared.groups.Groups.TheVariants.{OneGroup, TwoGroups}
use Rattle.catalogue.specs.declared.groups.Part.TheVariants.{Whole, Output}
use Rattle.catalogue.specs.declared.row.Indices.TheVariants as row
use Rattle.catalogue.specs.declared.row.Kind.{Kind}
use Rattle.catalogue.specs.declared.row.Kind.TheVariants.{Level, Switch, Number, Word}
use Rattle.room.specs.declared.table.Module.{Module}
use Rattle.values.specs.Parameters.{parameters_of, with_indices}

unfoldable pub is_word : Kind → Bool
is_word Level = false
is_word Switch = false
is_word Number = false
is_word Word = true

-- the whole of a parameter
unfoldable pub whole : Option Parameter → Option (Parameter × Part)
whole (Some p) = Some (p, Whole)
whole None = None

-- a cross-point: of a routing word one of the mixer's outputs, which are counted from 1
unfoldable pub crosspoint : (outputs output : ℕ) → Option Parameter → Option (Parameter × Part)
crosspoint outputs o (Some p) = cond (is_word p.row.kind && (leb 1 o && leb o outputs)) (Some (p, Output o)) None
crosspoint outputs o None = None

-- what groups name in the module m: numbers the whole parameter whose row has these indices; 4 and a pair (input, output) that output of the routing word 3>input;
-- any other pair nothing
unfoldable pub named : Module → Groups → Option (Parameter × Part)
named m (OneGroup (Single a)) = whole (with_indices (row.OneGroup a) (parameters_of m))
named m (OneGroup (Pair a b)) = None
named m (TwoGroups (Single a) (Single b)) = whole (with_indices (row.TwoGroups a b) (parameters_of m))
named m (TwoGroups (Single a) (Pair i o)) = cond (eqb a 4) (crosspoint m.layout.outputs o (with_indices (row.TwoGroups 3 i) (parameters_of m))) None
named m (TwoGroups (Pair a b) g) = None
