-- A parameter's place, counted on from its module's first value.
use Rattle.std.specs.Prelude.{◌≡◌, refl, ◌+◌}
use Rattle.values.specs.Parameters.{place}
use Rattle.values.specs.declared.parameter.Parameter.{Parameter}

pub place_is : (p : Parameter) → place p ≡ p.owner.first + p.number
unfolding place
place_is p = refl
