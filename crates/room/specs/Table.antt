-- The module table: records of one byte of kind and a body whose length the kind fixes.
pub mod Checked
pub mod Modules
pub mod Number
pub mod Reached
pub mod Short
pub mod Steps
pub mod Walk
use Rattle.std.specs.Prelude.{Bool, true, false, cond, ◌&&◌, List, [], ◌∷◌, ℕ, zero, suc, ◌+◌, length, take, drop, Option, Some, None}
use Rattle.catalogue.specs.Catalogue.{rows_of}
use Rattle.record.specs.Body.{body_length, body_sound}
use Rattle.record.specs.Layout.{layout_of}
use Rattle.room.specs.declared.table.Module.{Module}

-- at most `left` records, and nothing else
unfoldable pub records_sound : (left : ℕ) → List ℕ → Bool
records_sound zero [] = true
records_sound zero (kind ∷ t) = false
records_sound (suc left) [] = true
records_sound (suc left) (kind ∷ t) = body_sound kind (take (body_length kind) t) && records_sound left (drop (body_length kind) t)

-- how many records a table may have
unfoldable pub record_limit : ℕ
record_limit = 64

-- a table of 0 to 64 sound records, one behind the other, and nothing after them
unfoldable pub sound : List ℕ → Bool
sound t = records_sound record_limit t

-- what a call on the table alone tells: 0, or 1, the refusal's number
unfoldable pub table_number : List ℕ → ℕ
table_number t = cond (sound t) 0 1

-- the modules of at most `left` records: each with its number, the place of its record, its layout, and the number of its first value
unfoldable pub modules_from : (left number place first : ℕ) → List ℕ → List Module
modules_from zero number place first t = []
modules_from (suc left) number place first [] = []
modules_from (suc left) number place first (kind ∷ t) =
    let layout = layout_of kind (take (body_length kind) t) in
    record { number = number; place = place; layout = layout; first = first } ∷
    modules_from left (number + 1) (place + 1 + body_length kind) (first + length (rows_of layout)) (drop (body_length kind) t)

-- the modules of a sound table, in its order
unfoldable pub modules : List ℕ → List Module
modules t = modules_from record_limit 0 0 0 t

-- the module with a number
unfoldable pub module_at : List Module → ℕ → Option Module
module_at [] n = None
module_at (m ∷ ms) zero = Some m
module_at (m ∷ ms) (suc n) = module_at ms n
