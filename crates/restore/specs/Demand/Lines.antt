-- What the restore list rests on: the promise of the line layer in a room, as one record.
pub mod Reach
use Rattle.std.specs.Prelude.{◌≡◌, true, false, cond, List, ℕ, suc, ◌+◌, ◌≤◌, ℤ, pos, length, get_or, set, None}
use Rattle.text.specs.Byte.{is_byte}
use Rattle.text.specs.Cut.{has}
use Rattle.text.specs.Every.{every}
use Rattle.catalogue.specs.Row.{permitted}
use Rattle.values.specs.Parameters.{place}
use Rattle.values.specs.Room.{Room, row_in}
use Rattle.values.specs.Settable.{Settable}
use Rattle.values.specs.declared.parameter.Parameter.{Parameter}
use Rattle.syntax.specs.Shape.{line_limit}
use Rattle.spelling.specs.Acknowledgement.{ack}
use Rattle.line.specs.Answer.{answer}
use Rattle.spelling.specs.Say.{say}
use Rattle.serial_port.specs.Play.Laws.{Right}
use Rattle.values.specs.Values.{equal}

-- what it costs to take the parameter p from v to x: nothing where it is there, else a set line with its 0D
unfoldable pub price : (table : List ℕ) → Parameter → (target present : ℤ) → ℕ
price t p x v = cond (equal v x) 0 (suc (length (say t p v x)))

-- what a line of any bytes does to the values: nothing, or it sets one parameter that lines can set; to whatever permitted target
-- the parameter is to come from permitted values, the line and its 0D are at least as long as what they spare
pub data Effect (r : Room) (vs : List ℤ) (l : List ℕ) : Type 0 where
  nothing : (answer r vs l).values ≡ vs → Effect r vs l
  puts : (p : Parameter) (x : ℤ) → Settable r.table p → (answer r vs l).values ≡ set vs (place p) x
      → (Right r vs → (target : ℤ) → permitted (row_in r p) target ≡ true
      → price r.table p target (get_or vs (place p) (pos 0)) ≤ length l + 1 + price r.table p target x) → Effect r vs l

-- the set line that is written is one line of bytes, fits the port, and where the parameter has the value v is acknowledged and sets it to x
pub record Said (r : Room) (p : Parameter) (v x : ℤ) (l : List ℕ) : Type 0 where
  pub bytes : every is_byte l ≡ true
  pub whole : has 0x0D l ≡ false
  pub fits : length l ≤ line_limit
  pub answered : (vs : List ℤ) → get_or vs (place p) (pos 0) ≡ v → answer r vs l ≡ record { reply = ack; values = set vs (place p) x; fault = None }

-- each line has an effect as above, and set lines do as `Said` says
pub record Lines (r : Room) : Type 0 where
  pub effect : (vs : List ℤ) (l : List ℕ) → Effect r vs l
  pub says : (p : Parameter) (v x : ℤ) → Settable r.table p → permitted (row_in r p) v ≡ true → permitted (row_in r p) x ≡ true → Said r p v x (say r.table p v x)
