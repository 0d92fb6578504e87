-- The layout of a record's module: what the record says of its rows.
pub mod Laws
use Rattle.std.specs.Prelude.{cond, List, ℕ, ◌+◌, eqb, get_or, take, drop}
use Rattle.catalogue.specs.declared.layout.Layout.{Layout}
use Rattle.record.specs.Body.{body_length}

-- the layout that a record's kind and body say: a mixer's inputs and outputs stand behind the label's field, no other kind has them
unfoldable pub layout_of : (kind : ℕ) → (body : List ℕ) → Layout
layout_of kind body = cond (eqb kind 7) (record { kind = kind; inputs = get_or body 32 0; outputs = get_or body 33 0 }) (record { kind = kind; inputs = 0; outputs = 0 })

-- the layout of the record at a place of a table
unfoldable pub layout_at : List ℕ → (place : ℕ) → Layout
layout_at t place = layout_of (get_or t place 0) (take (body_length (get_or t place 0)) (drop (place + 1) t))
