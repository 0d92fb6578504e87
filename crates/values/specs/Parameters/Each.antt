-- What every row of the catalogue and of every mixer meets, the row of every parameter meets.
use Rattle.std.specs.Prelude.{◌≡◌, Bool, true, List, ℕ, Some}
use Rattle.catalogue.specs.Catalogue.{rows_of}
use Rattle.catalogue.specs.Catalogue.Fits.{fits, row_fits}
use Rattle.catalogue.specs.Catalogue.Modules.{EveryRow, all_fit, type_tested}
use Rattle.catalogue.specs.Row.{RowFits}
use Rattle.room.specs.Table.{sound}
use Rattle.room.specs.Table.Modules.{module_at-known}
use Rattle.catalogue.specs.declared.row.Row.{Row}
use Rattle.values.specs.Parameters.{parameter_at, parameters, parameters_of}
use Rattle.values.specs.Parameters.Named.{row_at}
use Rattle.values.specs.Parameters.Places.{at_place}
use Rattle.values.specs.declared.parameter.Parameter.{Parameter}

pub every-parameter : (test : Row → Bool) → EveryRow test → (t : List ℕ) → sound t ≡ true → (k : ℕ) (p : Parameter) → parameter_at (parameters t) k ≡ Some p → test p.row ≡ true
unfolding parameters_of
every-parameter test h t s k p e =
    let l = at_place t k p e in
    row_at test p.owner 0 (rows_of p.owner.layout) p.number p (type_tested test h p.owner.layout (module_at-known t s l.module_number p.owner l.among)) l.own

-- the arithmetic of every parameter's row stays within 64 bits
pub parameter_fits : (t : List ℕ) → sound t ≡ true → (k : ℕ) (p : Parameter) → parameter_at (parameters t) k ≡ Some p → RowFits p.row
parameter_fits t s k p e = row_fits p.row (every-parameter fits all_fit t s k p e)
