-- The value text of a set line, by the kind of its row.
pub mod Crosspoint
pub mod Laws
pub mod Parts
pub mod Reading
pub mod Says
use Rattle.std.specs.Prelude.{cond, List, ◌≡◌, ℤ, pos, nat_abs, ◌-ℤ◌, ℕ, ◌<◌, ◌^◌, Option, Some, None}
use Rattle.text.specs.Level.{read_level}
use Rattle.text.specs.Number.{read_number}
use Rattle.text.specs.Switch.{read_switch}
use Rattle.text.specs.Word.{bit, read_hex, with_bit}
use Rattle.text.specs.declared.switch.Switch.{Switch}
use Rattle.text.specs.declared.switch.Switch.TheVariants as switch
use Rattle.catalogue.specs.Groups.{PartIn}
use Rattle.catalogue.specs.Row.{permitted}
use Rattle.catalogue.specs.declared.groups.Part.{Part}
use Rattle.catalogue.specs.declared.groups.Part.TheVariants.{Whole, Output}
use Rattle.catalogue.specs.declared.row.Row.{Row}
use Rattle.catalogue.specs.declared.row.Kind.{Kind}
use Rattle.catalogue.specs.declared.row.Kind.TheVariants as kind

unfoldable pub of_level : Option ℤ → Option ℤ
of_level (Some v) = Some v
of_level None = None

unfoldable pub of_number : Option ℕ → Option ℤ
of_number (Some n) = Some (pos n)
of_number None = None

-- a switch text; `T` turns the present value over
unfoldable pub of_switch : ℤ → Option Switch → Option ℤ
of_switch present (Some switch.On) = Some (pos 1)
of_switch present (Some switch.Off) = Some (pos 0)
of_switch present (Some switch.Turn) = Some (pos 1 -ℤ present)
of_switch present None = None

unfoldable pub of_word : Option ℕ → Option ℤ
of_word (Some w) = Some (pos w)
of_word None = None

-- a number has at most five digits
unfoldable pub read_kind : Kind → ℤ → List ℕ → Option ℤ
read_kind kind.Level present text = of_level (read_level text)
read_kind kind.Switch present text = of_switch present (read_switch text)
read_kind kind.Number present text = of_number (read_number 5 text)
read_kind kind.Word present text = of_word (read_hex text)

-- the routing word with one output as a switch's text says, and every other as it was; `T` turns the output over
unfoldable pub put_output : ℕ → ℤ → Option ℤ → Option ℤ
put_output o present (Some b) = Some (pos (with_bit o (nat_abs b) (nat_abs present)))
put_output o present None = None

unfoldable pub read_output : ℕ → ℤ → List ℕ → Option ℤ
read_output o present text = put_output o present (of_switch (pos (bit o (nat_abs present))) (read_switch text))

-- what a text says of the part that a line names: of the whole in its kind's form, of an output in a switch's
unfoldable pub read_part : Kind → Part → ℤ → List ℕ → Option ℤ
read_part k Whole present text = read_kind k present text
read_part k (Output o) present text = read_output o present text

-- what a text has to say to be put: a value that the row permits
unfoldable pub only_permitted : Row → Option ℤ → Option ℤ
only_permitted r (Some x) = cond (permitted r x) (Some x) None
only_permitted r None = None

-- the value that a set line puts: the row may be set, the text has the form of its part, and the value is permitted
unfoldable pub read_value : Row → Part → ℤ → List ℕ → Option ℤ
read_value r part present text = cond r.settable (only_permitted r (read_part r.kind part present text)) None

-- an output is one of 32, and the present value a word of so many bits
pub record OutputIn (part : Part) (present : ℤ) : Type 0 where
  pub one : PartIn part
  pub word : (o : ℕ) → part ≡ Output o → nat_abs present < 2 ^ 32
