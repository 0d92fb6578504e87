-- A change that is told, and the port asked afterwards: the notice is exactly what the port replies to the get line of the parameter.
use Rattle.std.specs.Prelude.{◌≡◌, refl, true, List, [], ◌∷◌, ◌++◌, ℕ, suc, ◌≤◌, ℤ, pos, length, get_or, set, take, None, Some}
use Rattle.std.proofs.Common.{◌∙◌, arith, get_or-set_same}
use Rattle.std.proofs.lemmas.List.Edits.{sets}
use Rattle.catalogue.specs.declared.groups.Part.TheVariants.{Whole}
use Rattle.room.specs.Label.{bearer, label}
use Rattle.values.specs.Control.Laws.{all}
use Rattle.values.specs.Parameters.{place}
use Rattle.values.specs.Parameters.ByRow.{by_row-told}
use Rattle.values.specs.Room.{Room}
use Rattle.values.specs.Room.Laws.{row_in-permits}
use Rattle.values.specs.Values.Laws.{set_sound, value_inside}
use Rattle.values.specs.declared.parameter.Parameter.{Parameter}
use Rattle.syntax.specs.Shape.{line_limit}
use Rattle.spelling.specs.Reply.{get_reply}
use Rattle.line.specs.Answer.{answer}
use Rattle.line.specs.Asked.{get_line}
use Rattle.line.specs.Asked.Laws.{asked-answer, asked-short, asked-whole}
use Rattle.line.specs.Said.Naming.{Reached, reached}
use Rattle.line.specs.Told.Laws.{reply_told}
use Rattle.serial_port.specs.Call.{call}
use Rattle.serial_port.specs.Call.Laws.{written_first}
use Rattle.serial_port.specs.Call.OneLine.{line_told}
use Rattle.serial_port.specs.Port.{fresh, view}
use Rattle.serial_port.specs.Refusal.{reply_limit}
use Rattle.serial_port.specs.declared.port.Port.{Port}
use Rattle.panel.specs.Panel.{notified, panel}
use Rattle.panel.specs.Panel.Laws.{Accepted, change_told}

module _ (r : Room) (vs : List ℤ) (buffer : List ℕ) (owner row : ℕ) (x : ℤ) (a : Accepted r vs (length buffer) owner row x)
    (marked : notified r.table a.parameter.owner ≡ true) (moved : get_or vs (place a.parameter) (pos 0) ≡ x → ⊥)
    (once : bearer r.table (label r.table a.parameter.owner) ≡ Some a.parameter.owner) where
  abbrev t : List ℕ
  t = r.table

  abbrev p : Parameter
  p = a.parameter

  abbrev after : List ℤ
  after = set vs (place p) x

  reaches : Reached r.table a.parameter
  reaches = reached t (place p) p a.table (by_row-told t owner row p a.found).listed once

  -- what the get line is answered then
  asked : answer r (set vs (place a.parameter) x) (get_line r.table a.parameter Whole)
      ≡ record { reply = get_reply r.table a.parameter Whole x; values = set vs (place a.parameter) x; fault = None }
  asked =
      let l = value_inside r vs (place p) p a.right (by_row-told t owner row p a.found).listed in
      asked-answer r after p Whole reaches all ∙ rw (get_or-set_same vs (place p) x (pos 0) l) refl

  short : length (get_reply r.table a.parameter Whole x) ≤ length buffer
  unfolding reply_limit
  short =
      let told = reply_told t (place p) p Whole x a.table (by_row-told t owner row p a.found).listed once all (row_in-permits r p x a.permits) in
      omega (arith, told.short, a.room)

  -- the bytes that are told, which stand first in the reply buffer
  bytes-told : take (panel r vs buffer owner row x).sent (panel r vs buffer owner row x).buffer ≡ get_reply r.table a.parameter Whole x
  bytes-told = rw (change_told r vs buffer owner row x a marked moved) (written_first buffer (get_reply t p Whole x) short)

  -- a fresh port, given the get line of the parameter after the change, replies exactly these bytes, as many as are told, and changes no value
  pub panel-as_get : (q : Port) (reply : List ℕ) → view q ≡ fresh → q.len ≤ line_limit → reply_limit ≤ length reply
      → call r (panel r vs buffer owner row x).values q (get_line r.table a.parameter Whole ++ 0x0D ∷ []) reply
      ≡ record {
        number = 0;
        consumed = suc (length (get_line r.table a.parameter Whole));
        sent = (panel r vs buffer owner row x).sent;
        fault = None;
        state = (panel r vs buffer owner row x).values;
        buffer = sets reply 0 (take (panel r vs buffer owner row x).sent (panel r vs buffer owner row x).buffer);
      }
  unfolding line_limit
  panel-as_get q reply v few room =
      let sound-after = set_sound r vs (place p) p x (by_row-told t owner row p a.found).listed a.permits a.right in
      rw (bytes-told, change_told r vs buffer owner row x a marked moved)
      (line_told r after (get_line t p Whole) (get_reply t p Whole x) None after asked (asked-short t p reaches Whole all) (asked-whole t p reaches Whole all)
      q reply a.table sound-after room few v)
