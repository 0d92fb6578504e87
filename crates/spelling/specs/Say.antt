-- The set line of the restore list: without a space or leading zeros, a switch as `O` or `F`, a level in its shortest text, a routing word by the output in
-- which it differs, where that is one alone.
pub mod Laws
pub mod Length
pub mod Writing
use Rattle.std.specs.Prelude.{List, ℕ, zero, suc, ℤ, nat_abs}
use Rattle.text.specs.Word.{only_differing}
use Rattle.catalogue.specs.declared.groups.Part.{Part}
use Rattle.catalogue.specs.declared.groups.Part.TheVariants.{Whole, Output}
use Rattle.catalogue.specs.declared.row.Kind.{Kind}
use Rattle.catalogue.specs.declared.row.Kind.TheVariants as kind
use Rattle.values.specs.declared.parameter.Parameter.{Parameter}
use Rattle.spelling.specs.Line.{line_for}

-- an output, or the whole where none is told
unfoldable pub output_or : ℕ → Part
output_or zero = Whole
output_or (suc o) = Output (suc o)

-- what the set line names: of a routing word in which one output alone differs, that output; else the whole
unfoldable pub said_part : Kind → (present wanted : ℤ) → Part
said_part kind.Level present wanted = Whole
said_part kind.Switch present wanted = Whole
said_part kind.Number present wanted = Whole
said_part kind.Word present wanted = output_or (only_differing (nat_abs present) (nat_abs wanted))

-- the line, without its 0D, that takes the parameter p from the present to the wanted value
unfoldable pub say : List ℕ → Parameter → (present wanted : ℤ) → List ℕ
say t p present wanted = line_for 0x53 t p (said_part p.row.kind present wanted) wanted
