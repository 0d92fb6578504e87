-- Rules for handing on the parts of the lists that are a module's own.
use Rattle.std.specs.Prelude.{◌≡◌, List, ℕ, ◌+◌, ◌-◌, ℤ, length, take, drop}
use Rattle.std.proofs.Common.{arith}
use Rattle.catalogue.specs.Catalogue.{rows_of}
use Rattle.text.specs.Cut.Part.{part-within}
use Rattle.room.specs.declared.table.Module.{Module}
use Rattle.restore_list.specs.Measuring.{Settles, row_changes, values_of}
use Rattle.restore_list.specs.declared.module_measuring.Measured.{Measured}

-- a part from the module's first value on, as long as it has rows
pub own-part : (m : Module) (vs : List ℤ) (rows : ℕ) → rows ≡ length (rows_of m.layout) → take (m.first + rows - m.first) (drop m.first vs) ≡ values_of m vs
unfolding values_of
own-part m vs rows n =
    let d : m.first + rows - m.first ≡ rows = omega arith in
    rw (d, n)

pub part-settles : (t : List ℕ) (vs ws : List ℤ) (m : Module) (rows : ℕ) → rows ≡ length (rows_of m.layout) → (r : Measured)
    → Settles t (row_changes m (take (m.first + rows - m.first) (drop m.first vs)) (take (m.first + rows - m.first) (drop m.first ws))) r
    → Settles t (row_changes m (values_of m vs) (values_of m ws)) r
part-settles t vs ws m rows n r h = rw (own-part m vs rows n, own-part m ws rows n) at h

pub ruleset parting = (part-within, part-settles)
