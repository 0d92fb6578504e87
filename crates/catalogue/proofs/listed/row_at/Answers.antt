-- `row_at`: the table is the catalogue.
use Rattle.std.proofs.Common.{◌≡◌, ◌∙◌, ap, ℕ, ◌<◌, List, length, get_or, arith}
use Rattle.std.proofs.lemmas.List.{get_or_default}
use Rattle.catalogue.specs.Catalogue.{catalogue, entry_at, no_entry}
use Rattle.catalogue.specs.declared.table.Entry.{Entry}
use Rattle.catalogue.specs.declared.row.Row.{Row}
use Rattle.catalogue.proofs.listed.row_at.Goals as goal

fifty : (n : ℕ) → n < length catalogue → n < 50
unfolding catalogue
fifty n h = h

read : (es : List Entry) (n : ℕ) (d : Entry) → es ≡ catalogue → n < length catalogue → (get_or es n d).row ≡ (entry_at n).row
unfolding entry_at
read es n d e h = rw e (ap (λ (x : Entry). x.row) (get_or_default catalogue n d no_entry h))

pub offset_bounds-all_rows-n : goal.offset_bounds-all_rows-n
offset_bounds-all_rows-n c = let h = fifty _ c.requires in record { fits = omega arith }

pub bounds-all_rows-n : goal.bounds-all_rows-n
bounds-all_rows-n c = fifty _ c.requires

pub returns : goal.returns
returns c = read _ _ _ c.all_rows.ensures c.requires
