-- What a restore call answers.
use Rattle.std.specs.Prelude.{ℕ, Result}
use Rattle.std.specs.Result.{result_unwrap_or}
use Rattle.room.specs.Refusal.{number_of}
use Rattle.room.specs.declared.refusal.Refusal.{Refusal}
use Rattle.restore_list.specs.declared.module_measuring.Size.{Size}

-- the bytes and the lines of the list, and the number of a refusal or 0
pub record Restored : Type 0 where
  pub bytes : ℕ
  pub lines : ℕ
  pub number : ℕ

-- the size of a result; a refusal counts zero
abbrev pub size_in : Result Size Refusal → Size
size_in r = result_unwrap_or r (record { bytes = 0; lines = 0 })

-- what a result says
abbrev pub restored : Result Size Refusal → Restored
restored r = record { bytes = (size_in r).bytes; lines = (size_in r).lines; number = number_of r }
