-- The worked lines that are proved: the lines, and the restore lists and their sizes on the table A, all values 0, as one list of cases and one statement over it.
use Rattle.std.specs.Prelude.{◌≡◌, refl, Bool, true, ◌&&◌, List, [], ◌∷◌, ◌++◌, map, ℕ, ◌-◌, eqb, ℤ, pos, neg_ℤ, length, replicate}
use Prim.Native.String.{String}
use Rattle.text.specs.Byte.{bytes}
use Rattle.text.specs.Cut.{index_of, before}
use Rattle.text.specs.Digits.{digits_within, digits}
use Rattle.text.specs.Level.{sign_text, tenth_text, short_tenth_text, whole_text, level_text}
use Rattle.text.specs.Switch.{switch_text}
use Rattle.catalogue.specs.Catalogue.{minus, level, switch, number, catalogue, known, rows_in, rows_of}
use Rattle.text.specs.Every.{every}
use Rattle.text.specs.Every.Laws.{every_append, every-both}
use Rattle.catalogue.specs.Row.{permitted}
use Rattle.room.specs.Refusal.{first_refusal}
use Rattle.room.specs.Table.{records_sound, record_limit, sound, table_number, modules_from, modules}
use Rattle.record.specs.Body.{body_length, body_sound}
use Rattle.record.specs.Layout.{layout_of}
use Rattle.record.specs.Field.{label_byte, label_right, is_zero, field_sound}
use Rattle.room.specs.Label.{label, same, bearers_in, exactly_one, bearer}
use Rattle.values.specs.Parameters.{numbered, parameters_of, parameters_in, parameters}
use Rattle.values.specs.Room.{row_in}
use Rattle.values.specs.Values.{each_permitted, values_sound, values_number, equal}
use Rattle.spelling.specs.Line.{line_for}
use Rattle.spelling.specs.Name.{front, name}
use Rattle.catalogue.specs.Groups.{groups_of}
use Rattle.spelling.specs.IndexText.{group_text, index_text}
use Rattle.spelling.specs.Say.{say, said_part}
use Rattle.spelling.specs.Text.{part_text, text_of}
use Rattle.line.specs.Worked as reading
use Rattle.line.specs.Worked.{one_byte_record, table_a, zeros}
use Rattle.wish.specs.Target.{wish_of, at_most_one, selection_right, chosen, chosen_permitted, wanted_right, target_of, target}
use Rattle.wish.specs.Listing.{changes_of, changes, line_of, listing, borne_once, reachable, all_reachable, selection_number, wanted_number, reach_number, space_number, restore_number, size_number, Size, size_of, size, Told, tell, restore}

-- a restore call: the modules chosen, the wanted values, and the buffer's length; what it tells, and the lines that it writes
pub record Case : Type 0 where
  pub selection : List ℕ
  pub wanted : List ℤ
  pub room : ℕ
  pub number : ℕ
  pub bytes : ℕ
  pub lines : ℕ
  pub list : List ℕ

-- a line with its 0D
unfoldable pub ended : String → List ℕ
ended s = bytes s ++ 0x0D ∷ []

-- the paper's wish
unfoldable pub wishes : List ℤ
wishes = neg_ℤ (pos 40) ∷ pos 1 ∷ pos 5 ∷ pos 0 ∷ pos 0 ∷ pos 0 ∷ pos 1 ∷ []

unfoldable pub four : List ℕ
four = ended "SA\"T\">1=-4" ++ ended "SA\"T\">2=O" ++ ended "SA\"T\">3=0.5" ++ ended "SA\"S\">1=O"

unfoldable pub lists : List Case
lists =
    record { selection = 1 ∷ 1 ∷ []; wanted = wishes; room = 43; number = 0; bytes = 43; lines = 4; list = four } ∷
    record { selection = 1 ∷ 1 ∷ []; wanted = wishes; room = 42; number = 8; bytes = 0; lines = 0; list = [] } ∷
    record { selection = 0 ∷ 1 ∷ []; wanted = wishes; room = 10; number = 0; bytes = 10; lines = 1; list = ended "SA\"S\">1=O" } ∷
    []

-- the call on a buffer of zero bytes
unfoldable pub called : Case → Told
called c = restore (wish_of table_a zeros c.selection c.wanted) (replicate c.room 0)

unfoldable pub agrees : Told → Case → Bool
agrees a c =
    eqb a.number c.number
    && eqb a.bytes c.bytes
    && eqb a.lines c.lines
    && same a.buffer (c.list ++ replicate (c.room - length c.list) 0)

-- a size call: the modules chosen and the wanted values; what it tells
pub record SizeCase : Type 0 where
  pub selection : List ℕ
  pub wanted : List ℤ
  pub number : ℕ
  pub bytes : ℕ
  pub lines : ℕ

unfoldable pub sizes : List SizeCase
sizes =
    record { selection = 1 ∷ 1 ∷ []; wanted = wishes; number = 0; bytes = 43; lines = 4 } ∷
    record { selection = 0 ∷ 1 ∷ []; wanted = wishes; number = 0; bytes = 10; lines = 1 } ∷
    record { selection = 0 ∷ 0 ∷ []; wanted = wishes; number = 0; bytes = 0; lines = 0 } ∷
    record { selection = 2 ∷ 1 ∷ []; wanted = wishes; number = 5; bytes = 0; lines = 0 } ∷
    []

unfoldable pub size_agrees : Size → SizeCase → Bool
size_agrees s c = eqb s.number c.number && eqb s.bytes c.bytes && eqb s.lines c.lines

-- a worked line, a worked restore list, or the size of one
pub data Worked : Type 0 where
  line : reading.Case → Worked
  list : Case → Worked
  sized : SizeCase → Worked

unfoldable pub shown : Worked → Bool
shown (line c) = reading.answered c
shown (list c) = agrees (called c) c
shown (sized c) = size_agrees (size (wish_of table_a zeros c.selection c.wanted)) c

unfoldable pub examples : List Worked
examples = map line reading.cases ++ (map list lists ++ map sized sizes)

-- ---- the lines are shown where they are read, the lists and sizes here

lists-shown : every shown (map list lists) ≡ true
unfolding shown agrees called lists four wishes ended table_a one_byte_record zeros
    index_of before every digits_within digits sign_text tenth_text short_tenth_text whole_text level_text switch_text
    minus level switch number catalogue known rows_in rows_of permitted
    label_byte label_right is_zero field_sound body_length body_sound layout_of records_sound record_limit sound modules_from modules
    label same bearers_in exactly_one bearer numbered parameters_of parameters_in parameters row_in each_permitted values_sound
    groups_of group_text index_text name front line_for text_of part_text said_part say at_most_one selection_right chosen chosen_permitted wanted_right target_of target equal
    changes_of changes line_of listing borne_once reachable all_reachable
    first_refusal table_number values_number selection_number wanted_number reach_number space_number restore_number tell restore
lists-shown = refl

sizes-shown : every shown (map sized sizes) ≡ true
unfolding shown size_agrees sizes wishes table_a one_byte_record zeros
    index_of before every digits_within digits sign_text tenth_text short_tenth_text whole_text level_text switch_text
    minus level switch number catalogue known rows_in rows_of permitted
    label_byte label_right is_zero field_sound body_length body_sound layout_of records_sound record_limit sound modules_from modules
    label same bearers_in exactly_one bearer numbered parameters_of parameters_in parameters row_in each_permitted values_sound
    groups_of group_text index_text name front line_for text_of part_text said_part say at_most_one selection_right chosen chosen_permitted wanted_right target_of target equal
    changes_of changes line_of listing borne_once reachable all_reachable
    first_refusal table_number values_number selection_number wanted_number reach_number size_number size_of size
sizes-shown = refl

lines_shown : (cs : List reading.Case) → every reading.answered cs ≡ true → every shown (map line cs) ≡ true
unfolding every shown
lines_shown [] h = refl
lines_shown (c ∷ cs) h = let k = every-both reading.answered c cs h in rw k.0 (lines_shown cs k.1)

pub worked : every shown examples ≡ true
unfolding examples
worked = every_append shown (map line reading.cases) (map list lists ++ map sized sizes) (lines_shown reading.cases reading.worked)
    (every_append shown (map list lists) (map sized sizes) lists-shown sizes-shown)
