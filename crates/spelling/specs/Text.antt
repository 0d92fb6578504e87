-- A value's text, by its kind: the shortest that says it; and the text of a part of it.
pub mod Laws
pub mod Length
pub mod Parts
pub mod Writing
use Rattle.std.specs.Prelude.{List, ℕ, ℤ, nat_abs}
use Rattle.text.specs.Digits.{digits}
use Rattle.text.specs.Level.{level_text}
use Rattle.text.specs.Switch.{switch_text}
use Rattle.text.specs.Word.{bit, hex_text}
use Rattle.catalogue.specs.declared.groups.Part.{Part}
use Rattle.catalogue.specs.declared.groups.Part.TheVariants.{Whole, Output}
use Rattle.catalogue.specs.declared.row.Kind.{Kind}
use Rattle.catalogue.specs.declared.row.Kind.TheVariants as kind

-- a level in its shortest text, a switch as O or F and never T, a number without leading zeros, a word as eight hex digits
unfoldable pub text_of : Kind → ℤ → List ℕ
text_of kind.Level v = level_text v
text_of kind.Switch v = switch_text (nat_abs v)
text_of kind.Number v = digits (nat_abs v)
text_of kind.Word v = hex_text (nat_abs v)

-- the text of the part that a line names: of an output of a routing word, the switch that its bit is
unfoldable pub part_text : Kind → Part → ℤ → List ℕ
part_text k Whole v = text_of k v
part_text k (Output o) v = switch_text (bit o (nat_abs v))
