-- What a line means: why it is malformed, the first code that applies, a part of a parameter to tell, or a parameter and the value that it is set to.
pub mod Bearing
pub mod Laws
pub mod Outputs
pub mod Reading
use Rattle.std.specs.Prelude.{List, ℕ, ◌+◌, ℤ, pos, length, get_or, Result, Ok, Err, Option, Some, None}
use Rattle.catalogue.specs.declared.groups.Part.{Part}
use Rattle.room.specs.Label.{bearer}
use Rattle.values.specs.Control.{named}
use Rattle.values.specs.Parameters.{place}
use Rattle.values.specs.Room.{Room, row_in}
use Rattle.room.specs.declared.table.Module.{Module}
use Rattle.values.specs.declared.parameter.Parameter.{Parameter}
use Rattle.text.specs.Cut.{part}
use Rattle.syntax.specs.Shape.{shape}
use Rattle.syntax.specs.IndexPart.{read_indices}
use Rattle.syntax.specs.Value.{read_value}
use Rattle.syntax.specs.declared.cause.Malformed as syntax
use Rattle.syntax.specs.declared.shape.Shape.{Shape}
use Rattle.syntax.specs.declared.shape.Shape.TheVariants as shape
use Rattle.line.specs.declared.meaning.Meaning.{Meaning}
use Rattle.line.specs.declared.meaning.Meaning.TheVariants.{Malformed, Code, Get, Put}
use Rattle.catalogue.specs.declared.groups.Groups.{Groups}

-- what the index part names in the module m
unfoldable pub indexed : Module → Option Groups → Option (Parameter × Part)
indexed m (Some i) = named m i
indexed m None = None

-- what a label and an index part name, a parameter and which part of it, or the code 1 or 2
pub data Target : Type 0 where
  target : Parameter → Part → Target
  code : ℕ → Target

unfoldable pub in_module : Option (Parameter × Part) → Target
in_module (Some (p, u)) = target p u
in_module None = code 2

unfoldable pub in_room : Option Module → Option Groups → Target
in_room (Some m) i = in_module (indexed m i)
in_room None i = code 1

-- a set line's value text, where its parameter is known: the value, or the code 3
unfoldable pub put_of : Parameter → Option ℤ → Meaning
put_of p (Some x) = Put p x
put_of p None = Code 3

unfoldable pub get_of : Target → Meaning
get_of (target p u) = Get p u
get_of (code n) = Code n

-- the text is read by the row by which the room judges the parameter's value, in the form of the part that is named
unfoldable pub set_of : Room → List ℤ → List ℕ → Target → Meaning
set_of r vs text (target p u) = put_of p (read_value (row_in r p) u (get_or vs (place p) (pos 0)) text)
set_of r vs text (code n) = Code n

-- the module that alone bears a line's label, which stands between its quotes; a malformed line has no label
unfoldable pub bearer_of : List ℕ → (line : List ℕ) → Result Shape syntax.Malformed → Option Module
bearer_of t line (Err m) = None
bearer_of t line (Ok (shape.Get o c)) = bearer t (part line (o + 1) c)
bearer_of t line (Ok (shape.Set o c e)) = bearer t (part line (o + 1) c)

-- the parts of a line whose label's bearer is known, in the order of the codes: 99 its shape, with its fault, 1 its label, 2 its index part, 3 its value text
unfoldable pub of_shape : Room → List ℤ → (line : List ℕ) → Option Module → Result Shape syntax.Malformed → Meaning
of_shape r vs line b (Err m) = Malformed m.cause m.place
of_shape r vs line b (Ok (shape.Get o c)) = get_of (in_room b (read_indices (part line (c + 1) (length line))))
of_shape r vs line b (Ok (shape.Set o c e)) = set_of r vs (part line (e + 1) (length line)) (in_room b (read_indices (part line (c + 1) e)))

-- what a line means in the room r with values vs
unfoldable pub meaning : Room → List ℤ → List ℕ → Meaning
meaning r vs line = of_shape r vs line (bearer_of r.table line (shape line)) (shape line)
