-- A parameter is chosen where its module is.
use Rattle.std.specs.Prelude.{◌≡◌, List, ℕ, eqb, get_or}
use Rattle.room.specs.declared.table.Module.{Module}
use Rattle.values.specs.declared.parameter.Parameter.{Parameter}
use Rattle.wish.specs.Target.{chosen}

pub own-choice : (selection : List ℕ) (m : Module) (p : Parameter) → p.owner ≡ m → chosen selection p ≡ eqb (get_or selection m.number 0) 1
unfolding chosen
own-choice selection m p o = rw o
