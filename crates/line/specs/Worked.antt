-- The worked lines: one list of cases, most of them on the table A, type 1 `T` and type 2 `S`, and one statement over it.
use Rattle.std.specs.Prelude.{◌≡◌, refl, Bool, true, false, ◌&&◌, List, [], ◌∷◌, ◌++◌, ℕ, ℤ, pos, neg_ℤ, replicate, set}
use Prim.Native.String.{String}
use Rattle.text.specs.Byte.{bytes}
use Rattle.text.specs.Cut.{index_of, has, before, after, first_from, part}
use Rattle.text.specs.Digits.{is_digit, all_digits, read_on, number_of, digits_within, digits}
use Rattle.text.specs.Level.{signed, level_tenth, level_point, level_more, level_whole, read_level, sign_text, tenth_text, short_tenth_text, whole_text, level_text}
use Rattle.text.specs.Number.{number_form, read_number}
use Rattle.text.specs.Switch.{switch_letter, read_switch, switch_text}
use Rattle.catalogue.specs.Catalogue.{minus, level, switch, number, catalogue, rows_in, rows_of}
use Rattle.catalogue.specs.Row.{permitted, same_indices}
use Rattle.room.specs.Table.{record_limit, modules_from, modules}
use Rattle.record.specs.Body.{body_length}
use Rattle.record.specs.Layout.{layout_of}
use Rattle.room.specs.Label.{label, same, bearers_in, exactly_one, bearer}
use Rattle.values.specs.Control.{crosspoint, is_word, named, whole}
use Rattle.values.specs.Parameters.{numbered, parameters_of, place, with_indices}
use Rattle.values.specs.Room.{room_of, row_in}
use Rattle.syntax.specs.Shape.{line_limit, is_set, is_get, opening, closing, equals, get_shape, set_shape, quoted, shape}
use Rattle.syntax.specs.Cause.{cause_number}
use Rattle.syntax.specs.IndexGroup.{pair_of, closed_pair, inside_pair, read_pair, or_pair, read_group}
use Rattle.syntax.specs.IndexPart.{one_group, two_groups, groups, read_indices}
use Rattle.syntax.specs.Value.{of_level, of_number, of_switch, read_kind, read_part, only_permitted, read_value}
use Rattle.line.specs.Meaning.{indexed, in_module, in_room, put_of, get_of, set_of, bearer_of, of_shape, meaning}
use Rattle.spelling.specs.Name.{front, name}
use Rattle.spelling.specs.IndexText.{group_text, index_text}
use Rattle.catalogue.specs.Groups.{groups_of}
use Rattle.spelling.specs.Line.{line_for}
use Rattle.spelling.specs.Reply.{get_reply}
use Rattle.spelling.specs.Text.{part_text, text_of}
use Rattle.spelling.specs.Acknowledgement.{ack, nak}
use Rattle.line.specs.Fault.{fault_numbers}
use Rattle.line.specs.Answer.{Answer, act, answer}
use Rattle.values.specs.Values.{equal}
use Rattle.text.specs.Every.{every}

-- a line in a room, what it is answered with, and the values afterwards
pub record Case : Type 0 where
  pub table : List ℕ
  pub before : List ℤ
  pub line : List ℕ
  pub reply : List ℕ
  pub values : List ℤ
  pub fault : List ℕ

-- a record whose label is one byte
unfoldable pub one_byte_record : (kind byte : ℕ) → List ℕ
one_byte_record kind byte = kind ∷ byte ∷ replicate 31 0

unfoldable pub table_a : List ℕ
table_a = one_byte_record 1 0x54 ++ one_byte_record 2 0x53

unfoldable pub zeros : List ℤ
zeros = replicate 7 (pos 0)

-- on the table A with the values all 0: a set line that is acknowledged and puts x into the value k, and a line that is refused with a code; a malformed line, with the number of its cause and its place
unfoldable pub puts : String → ℕ → ℤ → Case
puts line k x = record { table = table_a; before = zeros; line = bytes line; reply = 0x06 ∷ 0x0D ∷ []; values = set zeros k x; fault = 0 ∷ 0 ∷ [] }

unfoldable pub refused : String → String → Case
refused line code = record { table = table_a; before = zeros; line = bytes line; reply = 0x15 ∷ (bytes code ++ (0x0D ∷ [])); values = zeros; fault = 0 ∷ 0 ∷ [] }

-- a get line, in a room of its own
unfoldable pub told : List ℕ → List ℤ → String → String → Case
told t vs line reply = record { table = t; before = vs; line = bytes line; reply = bytes reply ++ (0x0D ∷ []); values = vs; fault = 0 ∷ 0 ∷ [] }

unfoldable pub malformed : String → (cause place : ℕ) → Case
malformed line cause place = record { table = table_a; before = zeros; line = bytes line; reply = 0x15 ∷ 0x39 ∷ 0x39 ∷ 0x0D ∷ []; values = zeros; fault = cause ∷ place ∷ [] }

-- the source's own get reply, which panels match: the first fader of a room combiner at -3 dB
unfoldable pub source_reply : Case
source_reply = told (4 ∷ (bytes "StRC 1" ++ replicate 26 0)) (set zeros 1 (neg_ℤ (pos 30))) "GA\"StRC 1\">1>2" "GA\"StRC 1\">1>2=-3"

unfoldable pub cases : List Case
cases =
    puts "SA\"T\">1=15" 0 (pos 150) ∷
    refused "SA\"T\">1=15.1" "03" ∷
    puts "SA \"T\">01=-04" 0 (neg_ℤ (pos 40)) ∷
    puts "SA\"T\">1=-0" 0 (pos 0) ∷
    refused "SA\"T\">1=.5" "03" ∷
    puts "SA\"T\">2=T" 1 (pos 1) ∷
    told table_a zeros "GA\"S\">1" "GA\"S\">1=F" ∷
    told table_a zeros "GA\"T\">1" "GA\"T\">1=0" ∷
    told table_a (set zeros 0 (neg_ℤ (pos 40))) "GA\"T\">1" "GA\"T\">1=-4" ∷
    told table_a (set zeros 0 (neg_ℤ (pos 5))) "GA\"T\">1" "GA\"T\">1=-0.5" ∷
    told table_a (set zeros 0 (pos 120)) "GA\"T\">1" "GA\"T\">1=12" ∷
    source_reply ∷
    told (one_byte_record 5 0x52) (set (replicate 33 (pos 0)) 5 (neg_ℤ (pos 60))) "GA\"R\">0>8" "GA\"R\">0>8=-6" ∷
    refused "SA\"Q\">9=x" "01" ∷
    refused "SA\"T\">9=x" "02" ∷
    refused "SA\"T\">1>0=1" "02" ∷
    refused "SA\"T\">4>(1,2)=O" "02" ∷
    malformed "SA\"T\">1" 5 7 ∷
    malformed "" 2 0 ∷
    malformed "S" 2 0 ∷
    malformed "SA" 3 2 ∷
    malformed "SA " 3 3 ∷
    malformed "SA  \"T\"" 3 3 ∷
    malformed "SA\"T>1=15" 4 9 ∷
    malformed "SA\"=\">1" 5 7 ∷
    []

-- value for value the same
unfoldable pub same_values : List ℤ → List ℤ → Bool
same_values [] [] = true
same_values [] (y ∷ ys) = false
same_values (x ∷ xs) [] = false
same_values (x ∷ xs) (y ∷ ys) = equal x y && same_values xs ys

unfoldable pub same_answer : Answer → Case → Bool
same_answer a c = same a.reply c.reply && (same_values a.values c.values && same (fault_numbers a.fault) c.fault)

-- a line is answered as its case says
unfoldable pub answered : Case → Bool
answered c = same_answer (answer (room_of c.table) c.before c.line) c

pub worked : every answered cases ≡ true
unfolding answered cases puts told refused malformed fault_numbers cause_number table_a source_reply one_byte_record zeros same_answer same_values equal
    index_of has before after is_digit all_digits every read_on number_of digits_within digits
    signed level_tenth level_point level_more level_whole read_level sign_text tenth_text short_tenth_text whole_text level_text number_form read_number switch_letter read_switch switch_text
    minus level switch number catalogue rows_in rows_of permitted body_length layout_of record_limit modules_from modules
    label same bearers_in exactly_one bearer numbered parameters_of place row_in same_indices with_indices whole is_word crosspoint named
    line_limit is_set is_get opening first_from closing equals get_shape set_shape quoted shape part
    pair_of closed_pair inside_pair read_pair or_pair read_group one_group two_groups groups read_indices of_level of_number of_switch read_kind read_part only_permitted read_value
    indexed in_module in_room put_of get_of set_of bearer_of of_shape meaning ack nak groups_of group_text index_text text_of part_text name front line_for get_reply act answer
worked = refl
