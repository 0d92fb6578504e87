-- `all_rows`: the table is the catalogue, compared once.
use Rattle.std.specs.Prelude.{refl}
use Rattle.catalogue.specs.Catalogue.{catalogue, level, minus, number, switch}
use Rattle.catalogue.proofs.table.all_rows.Goals as goal

pub returns : goal.returns
unfolding catalogue level switch number minus
returns c = refl
