-- The worked restore lists of the Standard Mixer: a word in which one output differs is put back by that output, one in which more differ by the word.
use Rattle.std.specs.Prelude.{◌≡◌, refl, Bool, true, List, [], ◌∷◌, ◌++◌, ℕ, ℤ, pos, replicate, set}
use Rattle.text.specs.Cut as cut
use Rattle.text.specs.Cut.{index_of}
use Rattle.text.specs.Digits.{digits_within, digits}
use Rattle.text.specs.Every.{every}
use Rattle.text.specs.Hex.{hex_digit, hex_digits}
use Rattle.text.specs.Switch.{switch_text}
use Rattle.text.specs.Word.{bit_at, bit, differing_to, differing, single, only_differing, hex_text}
use Rattle.catalogue.specs.Catalogue.{known, rows_of}
use Rattle.catalogue.specs.Groups.{groups_of}
use Rattle.catalogue.specs.Mixer.{size_right, fader, mute, channel_row, route_row, mixer_row, tabulated, mixer_count, mixer_rows}
use Rattle.catalogue.specs.Row.{permitted}
use Rattle.record.specs.Body.{body_length, body_sound, sizes_sound}
use Rattle.record.specs.Field.{label_byte, label_right, is_zero, field_sound}
use Rattle.record.specs.Layout.{layout_of}
use Rattle.room.specs.Label.{label, same, bearers_in, exactly_one, bearer}
use Rattle.room.specs.Refusal.{first_refusal}
use Rattle.room.specs.Table.{records_sound, record_limit, sound, table_number, modules_from, modules}
use Rattle.values.specs.Parameters.{numbered, parameters_of, parameters_in, parameters}
use Rattle.values.specs.Room.{row_in}
use Rattle.values.specs.Values.{each_permitted, values_sound, values_number, equal}
use Rattle.spelling.specs.IndexText.{group_text, index_text}
use Rattle.spelling.specs.Line.{line_for}
use Rattle.spelling.specs.Name.{front, name}
use Rattle.spelling.specs.Say.{output_or, say, said_part}
use Rattle.spelling.specs.Text.{part_text, text_of}
use Rattle.line.specs.WorkedMixer.{mixer}
use Rattle.wish.specs.Target.{wish_of, at_most_one, selection_right, chosen, chosen_permitted, wanted_right, target_of, target}
use Rattle.wish.specs.Listing.{changes_of, changes, line_of, listing, borne_once, reachable, all_reachable, selection_number, wanted_number, reach_number, space_number, restore_number, Told, tell, restore}
use Rattle.restore.specs.Worked.{Case, agrees, ended}

-- a mixer of six inputs and eight outputs; its routing words are the values 28 to 33
unfoldable pub theatre : List ℕ
theatre = mixer "Theatre" 6 8

-- nothing is routed but input 3, to its first output
unfoldable pub present : List ℤ
present = set (replicate 34 (pos 0)) 30 (pos 2147483648)

-- input 1 to output 5, input 2 to outputs 1 and 2, input 3 to none
unfoldable pub wishes : List ℤ
wishes = set (set (replicate 34 (pos 0)) 28 (pos 134217728)) 29 (pos 3221225472)

unfoldable pub three : List ℕ
three = ended "SA\"Theatre\">4>(1,5)=O" ++ (ended "SA\"Theatre\">3>2=C0000000" ++ ended "SA\"Theatre\">4>(3,1)=F")

unfoldable pub lists : List Case
lists =
    record { selection = 1 ∷ []; wanted = wishes; room = 69; number = 0; bytes = 69; lines = 3; list = three } ∷
    record { selection = 1 ∷ []; wanted = wishes; room = 68; number = 8; bytes = 0; lines = 0; list = [] } ∷
    record { selection = 1 ∷ []; wanted = set wishes 28 (pos 8388608); room = 69; number = 6; bytes = 0; lines = 0; list = [] } ∷
    []

-- the call on a buffer of zero bytes
unfoldable pub called : Case → Told
called c = restore (wish_of theatre present c.selection c.wanted) (replicate c.room 0)

unfoldable pub shown : Case → Bool
shown c = agrees (called c) c

pub worked : every shown lists ≡ true
unfolding shown agrees called lists three wishes present theatre mixer ended
    index_of cut.before every digits_within digits switch_text hex_digit hex_digits hex_text bit_at bit differing_to differing single only_differing
    known size_right fader mute channel_row route_row mixer_row tabulated mixer_count mixer_rows rows_of permitted
    label_byte label_right is_zero field_sound body_length body_sound sizes_sound layout_of records_sound record_limit sound modules_from modules
    label same bearers_in exactly_one bearer numbered parameters_of parameters_in parameters row_in each_permitted values_sound
    groups_of group_text index_text name front line_for text_of part_text output_or said_part say at_most_one selection_right chosen chosen_permitted wanted_right target_of target
    equal changes_of changes line_of listing borne_once reachable all_reachable
    first_refusal table_number values_number selection_number wanted_number reach_number space_number restore_number tell restore
worked = refl
