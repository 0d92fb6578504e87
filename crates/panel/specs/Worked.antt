-- Worked changes: one list of cases on one table, and one statement over it.
use Rattle.std.specs.Prelude.{◌≡◌, refl, Bool, true, ◌&&◌, List, [], ◌∷◌, ◌++◌, ℕ, ◌-◌, eqb, ℤ, pos, neg_ℤ, length, replicate, set}
use Prim.Native.String.{String}
use Rattle.text.specs.Byte.{bytes}
use Rattle.text.specs.Cut as cut
use Rattle.text.specs.Cut.{index_of}
use Rattle.text.specs.Digits.{digits_within, digits}
use Rattle.text.specs.Every.{every}
use Rattle.text.specs.Hex.{hex_digit, hex_digits}
use Rattle.text.specs.Level.{sign_text, tenth_text, short_tenth_text, whole_text, level_text}
use Rattle.text.specs.Switch.{switch_text}
use Rattle.text.specs.Word.{hex_text}
use Rattle.catalogue.specs.Catalogue as rows
use Rattle.catalogue.specs.Catalogue.{minus, level, switch, catalogue, known, rows_in, rows_of}
use Rattle.catalogue.specs.Groups.{groups_of}
use Rattle.catalogue.specs.Mixer.{size_right, fader, mute, channel_row, route_row, mixer_row, tabulated, mixer_count, mixer_rows}
use Rattle.catalogue.specs.Row.{permitted}
use Rattle.record.specs.Body.{body_length, body_sound, sizes_sound}
use Rattle.record.specs.Field.{label_byte, label_right, is_zero, field_sound}
use Rattle.record.specs.Layout.{layout_of}
use Rattle.room.specs.Label.{label, same}
use Rattle.room.specs.Refusal.{first_refusal}
use Rattle.room.specs.Table.{records_sound, record_limit, sound, table_number, modules_from, modules, module_at}
use Rattle.values.specs.Parameters.{numbered, parameters_of, parameters_in, parameters, parameter_at, place, row_at, by_row}
use Rattle.values.specs.Room.{room_of, row_in}
use Rattle.values.specs.Values.{each_permitted, values_sound, values_number, equal}
use Rattle.spelling.specs.IndexText.{group_text, index_text}
use Rattle.spelling.specs.Line.{line_for}
use Rattle.spelling.specs.Name.{front, name}
use Rattle.spelling.specs.Reply.{get_reply}
use Rattle.spelling.specs.Text.{part_text, text_of}
use Rattle.line.specs.Worked.{same_values}
use Rattle.line.specs.WorkedMixer.{mixer}
use Rattle.serial_port.specs.Refusal.{reply_limit, reply_number}
use Rattle.panel.specs.Panel.{row_number, change_number, panel_number, notified, notice, Told, refused, changed, tell, panel}

-- a module's record: its kind, its label and zero bytes
unfoldable pub plain : (kind : ℕ) → String → List ℕ
plain kind label = kind ∷ (bytes label ++ replicate (32 - length (bytes label)) 0)

-- values 0 to 5; 6 and 7, of two modules with one label; 8; 9 to 41; 42 to 46, the last of them a routing word
unfoldable pub wall : List ℕ
wall = plain 1 "#T" ++ (plain 2 "#S" ++ (plain 2 "#S" ++ (plain 3 "D#" ++ (plain 5 "#R" ++ mixer "#M" 1 1))))

unfoldable pub present : List ℤ
present = set (set (replicate 47 (pos 0)) 14 (neg_ℤ (pos 60))) 23 (pos 1)

-- a module, a row, a value and the length of the reply buffer; the number that is told, the values afterwards, and the notice
pub record Case : Type 0 where
  pub owner : ℕ
  pub row : ℕ
  pub value : ℤ
  pub room : ℕ
  pub number : ℕ
  pub values : List ℤ
  pub told : List ℕ

-- the value k is set, with a notice or without one
unfoldable pub tells : (owner row : ℕ) → ℤ → (k : ℕ) → String → Case
tells owner row x k notice = record { owner = owner; row = row; value = x; room = 64; number = 0; values = set present k x; told = bytes notice ++ 0x0D ∷ [] }

unfoldable pub silent : (owner row : ℕ) → ℤ → (k : ℕ) → Case
silent owner row x k = record { owner = owner; row = row; value = x; room = 64; number = 0; values = set present k x; told = [] }

unfoldable pub refuses : (room owner row : ℕ) → ℤ → (number : ℕ) → Case
refuses room owner row x number = record { owner = owner; row = row; value = x; room = room; number = number; values = present; told = [] }

unfoldable pub cases : List Case
cases =
    tells 0 0 (neg_ℤ (pos 40)) 0 "GA\"#T\">1=-4" ∷
    tells 1 0 (pos 1) 6 "GA\"#S\">1=O" ∷
    tells 2 0 (pos 1) 7 "GA\"#S\">1=O" ∷
    tells 4 14 (pos 6) 23 "GA\"#R\">1>9=6" ∷
    tells 5 4 (pos 0x80000000) 46 "GA\"#M\">3>1=80000000" ∷
    silent 3 0 (pos 1) 8 ∷
    silent 0 0 (pos 0) 0 ∷
    refuses 64 0 0 (pos 151) 9 ∷
    refuses 64 0 6 (pos 0) 9 ∷
    refuses 64 6 0 (pos 0) 9 ∷
    refuses 64 4 0 (pos 0) 9 ∷
    refuses 63 6 0 (pos 0) 3 ∷
    []

-- the call on a buffer of zero bytes
unfoldable pub called : Case → Told
called c = panel (room_of wall) present (replicate c.room 0) c.owner c.row c.value

unfoldable pub agrees : Told → Case → Bool
agrees a c =
    eqb a.number c.number
    && eqb a.sent (length c.told)
    && same_values a.values c.values
    && same a.buffer (c.told ++ replicate (c.room - length c.told) 0)

unfoldable pub shown : Case → Bool
shown c = agrees (called c) c

pub worked : every shown cases ≡ true
unfolding shown agrees called cases same_values tells silent refuses present wall plain mixer
    index_of cut.before every digits_within digits sign_text tenth_text short_tenth_text whole_text level_text switch_text hex_digit hex_digits hex_text
    minus level switch rows.number catalogue known rows_in size_right fader mute channel_row route_row mixer_row tabulated mixer_count mixer_rows rows_of permitted
    label_byte label_right is_zero field_sound body_length body_sound sizes_sound layout_of records_sound record_limit sound modules_from modules module_at
    label same numbered parameters_of parameters_in parameters parameter_at place row_at by_row row_in each_permitted values_sound equal
    groups_of group_text index_text name front line_for text_of part_text get_reply
    first_refusal table_number values_number reply_limit reply_number row_number change_number panel_number notified notice refused changed tell panel
worked = refl
