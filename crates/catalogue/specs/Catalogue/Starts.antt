-- The value that a program starts with is one that its row permits: one test over the table.
use Rattle.std.specs.Prelude.{◌≡◌, refl, Bool, true}
use Rattle.text.specs.Every.{every}
use Rattle.catalogue.specs.Catalogue.{catalogue, level, minus, number, switch}
use Rattle.catalogue.specs.Catalogue.Each.{entry_test}
use Rattle.catalogue.specs.Row.{permitted, start}
use Rattle.catalogue.specs.declared.row.Row.{Row}

abbrev pub start_right : Row → Bool
start_right r = permitted r (start r)

pub catalogue-starts : every (entry_test start_right) catalogue ≡ true
unfolding every start permitted catalogue level switch number minus
catalogue-starts = refl
