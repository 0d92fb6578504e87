-- The worked lines of the Standard Mixer: one list of cases on a table of four mixers, and one statement over it. The first are the source's own lines.
use Rattle.std.specs.Prelude.{◌≡◌, refl, true, List, [], ◌∷◌, ◌++◌, ℕ, ◌-◌, ℤ, pos, neg_ℤ, length, replicate, set}
use Prim.Native.String.{String}
use Rattle.text.specs.Byte.{bytes}
use Rattle.text.specs.Cut.{index_of, has, before, after, first_from, part}
use Rattle.text.specs.Digits.{is_digit, all_digits, read_on, number_of, digits_within, digits}
use Rattle.text.specs.Every.{every}
use Rattle.text.specs.Hex.{is_hex_digit, hex_value, hex_digit, hex_digits, hex_on}
use Rattle.text.specs.Level.{signed, level_tenth, level_point, level_more, level_whole, read_level}
use Rattle.text.specs.Number.{number_form, read_number}
use Rattle.text.specs.Switch.{switch_letter, read_switch, switch_text}
use Rattle.text.specs.Word.{bit_at, put_at, bit, with_bit, hex_text, read_hex}
use Rattle.catalogue.specs.Catalogue.{rows_of}
use Rattle.catalogue.specs.Groups.{groups_of}
use Rattle.catalogue.specs.Mixer.{fader, mute, channel_row, route_row, mixer_row, tabulated, mixer_count, mixer_rows}
use Rattle.catalogue.specs.Row.{permitted, same_indices}
use Rattle.record.specs.Body.{body_length}
use Rattle.record.specs.Layout.{layout_of}
use Rattle.room.specs.Label.{label, same, bearers_in, exactly_one, bearer}
use Rattle.room.specs.Table.{record_limit, modules_from, modules}
use Rattle.values.specs.Control.{crosspoint, is_word, named, whole}
use Rattle.values.specs.Parameters.{numbered, parameters_of, place, with_indices}
use Rattle.values.specs.Room.{row_in}
use Rattle.values.specs.Values.{equal}
use Rattle.syntax.specs.Cause.{cause_number}
use Rattle.syntax.specs.IndexGroup.{pair_of, closed_pair, inside_pair, read_pair, or_pair, read_group}
use Rattle.syntax.specs.IndexPart.{one_group, two_groups, groups, read_indices}
use Rattle.syntax.specs.Shape.{line_limit, is_set, is_get, opening, closing, equals, get_shape, set_shape, quoted, shape}
use Rattle.syntax.specs.Value.{of_level, of_switch, of_word, put_output, read_output, read_kind, read_part, only_permitted, read_value}
use Rattle.spelling.specs.Acknowledgement.{ack, nak}
use Rattle.spelling.specs.IndexText.{group_text, index_text}
use Rattle.spelling.specs.Line.{line_for}
use Rattle.spelling.specs.Name.{front, name}
use Rattle.spelling.specs.Reply.{get_reply}
use Rattle.spelling.specs.Text.{part_text, text_of}
use Rattle.line.specs.Answer.{act, answer}
use Rattle.line.specs.Fault.{fault_numbers}
use Rattle.line.specs.Meaning.{indexed, in_module, in_room, put_of, get_of, set_of, bearer_of, of_shape, meaning}
use Rattle.line.specs.Worked.{Case, answered, same_answer, same_values, told}

-- a mixer's record: its label and zero bytes, its inputs and its outputs
unfoldable pub mixer : String → (inputs outputs : ℕ) → List ℕ
mixer label inputs outputs = 7 ∷ (bytes label ++ (replicate (32 - length (bytes label)) 0 ++ (inputs ∷ outputs ∷ [])))

-- values 0 to 4, 5 to 23, 24 to 99 and 100 to 133
unfoldable pub mixers : List ℕ
mixers = mixer "StdMixer 1" 1 1 ++ (mixer "My Mixer" 1 8 ++ (mixer "Mix" 4 32 ++ mixer "Theatre" 6 8))

unfoldable pub silent : List ℤ
silent = replicate 134 (pos 0)

-- with all values 0: a line that is acknowledged and puts x into the value k, and one that is refused with a code
unfoldable pub puts : String → ℕ → ℤ → Case
puts line k x = record { table = mixers; before = silent; line = bytes line; reply = 0x06 ∷ 0x0D ∷ []; values = set silent k x; fault = 0 ∷ 0 ∷ [] }

unfoldable pub refused : String → String → Case
refused line code = record { table = mixers; before = silent; line = bytes line; reply = 0x15 ∷ (bytes code ++ (0x0D ∷ [])); values = silent; fault = 0 ∷ 0 ∷ [] }

-- with the routing word w of `Mix`'s first input: a line that puts x there, and a line that is answered
unfoldable pub routed : ℕ → List ℤ
routed w = set silent 96 (pos w)

unfoldable pub routes : ℕ → String → ℕ → Case
routes w line x = record { table = mixers; before = routed w; line = bytes line; reply = 0x06 ∷ 0x0D ∷ []; values = routed x; fault = 0 ∷ 0 ∷ [] }

unfoldable pub tells : List ℤ → String → String → Case
tells vs line reply = told mixers vs line reply

unfoldable pub cases : List Case
cases =
    puts "SA\"StdMixer 1\">1>1=-3" 0 (neg_ℤ (pos 30)) ∷
    puts "SA\"My Mixer\">2>16=O" 22 (pos 1) ∷
    puts "SA\"Mix\">3>2=C0000000" 97 (pos 3221225472) ∷
    puts "SA\"Theatre\">4>(4,5)=O" 131 (pos 134217728) ∷
    tells (set silent 99 (pos 50331648)) "GA\"Mix\">3>4" "GA\"Mix\">3>4=03000000" ∷
    tells silent "GA\"Theatre\">4>(6,8)" "GA\"Theatre\">4>(6,8)=F" ∷
    routes 0 "SA\"Mix\">3>1=84924F3A" 2224181050 ∷
    routes 0 "SA\"Mix\">3>1=80000001" 2147483649 ∷
    tells (routed 2147483649) "GA\"Mix\">3>1" "GA\"Mix\">3>1=80000001" ∷
    tells (routed 2147483649) "GA\"Mix\">04>(001,32)" "GA\"Mix\">4>(1,32)=O" ∷
    tells (routed 2147483649) "GA\"Mix\">4>(1,31)" "GA\"Mix\">4>(1,31)=F" ∷
    routes 2147483649 "SA\"Mix\">4>(1,2)=O" 3221225473 ∷
    routes 2147483649 "SA\"Mix\">4>(1,32)=F" 2147483648 ∷
    routes 2147483649 "SA\"Mix\">4>(1,1)=T" 1 ∷
    refused "SA\"Theatre\">3>1=00800000" "03" ∷
    refused "SA\"Mix\">3>1=8000000a" "03" ∷
    refused "SA\"Mix\">3>1=8000000" "03" ∷
    refused "SA\"Mix\">4>(1,1)=1" "03" ∷
    refused "SA\"Theatre\">4>(7,1)=O" "02" ∷
    refused "SA\"Theatre\">4>(1,9)=O" "02" ∷
    refused "SA\"Theatre\">4>(0,1)=O" "02" ∷
    refused "SA\"Theatre\">4>(1,0)=O" "02" ∷
    refused "SA\"Theatre\">3>(1,1)=O" "02" ∷
    refused "SA\"Theatre\">4>1=O" "02" ∷
    []

pub worked : every answered cases ≡ true
unfolding answered cases puts refused routed routes tells told mixer mixers silent fault_numbers cause_number same_answer same_values equal
    index_of has before after is_digit all_digits every read_on number_of digits_within digits is_hex_digit hex_value hex_digit hex_digits hex_on
    signed level_tenth level_point level_more level_whole read_level number_form read_number switch_letter read_switch switch_text
    bit_at put_at bit with_bit hex_text read_hex
    fader mute channel_row route_row mixer_row tabulated mixer_count mixer_rows rows_of permitted body_length layout_of record_limit modules_from modules
    label same bearers_in exactly_one bearer numbered parameters_of place row_in same_indices with_indices whole is_word crosspoint named
    line_limit is_set is_get opening first_from closing equals get_shape set_shape quoted shape part
    pair_of closed_pair inside_pair read_pair or_pair read_group one_group two_groups groups read_indices of_level of_switch of_word put_output read_output
    read_kind read_part only_permitted read_value
    indexed in_module in_room put_of get_of set_of bearer_of of_shape meaning ack nak groups_of group_text index_text text_of part_text name front line_for get_reply act answer
worked = refl
