-- What came of a read.
use Rattle.std.specs.Prelude.{ℕ, Ok, Err}
use Rattle.std.specs.declared.result.Result.{Result}
use Rattle.streams.specs.declared.reading.Unread.{Unread}
use Rattle.streams.specs.declared.reading.Unread.TheVariants.{Unopened, Failed}

-- how many bytes were read before it
abbrev pub bytes_read : Unread → ℕ
bytes_read Unopened = 0
bytes_read (Failed n) = n

-- how many bytes came, whether or not a read failed
abbrev pub came : Result ℕ Unread → ℕ
came (Ok n) = n
came (Err e) = bytes_read e
