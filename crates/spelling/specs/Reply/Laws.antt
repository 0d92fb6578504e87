-- What the answer to a get line is made of, and that it is the set line with another verb.
use Rattle.std.specs.Prelude.{◌≡◌, refl, List, [], ◌∷◌, ◌++◌, ℕ, ◌-◌, ℤ, length}
use Rattle.std.proofs.Common.{append_assoc, arith, length-append, take_at}
use Rattle.catalogue.specs.Groups.{groups_of}
use Rattle.catalogue.specs.declared.groups.Part.{Part}
use Rattle.room.specs.Label.{label}
use Rattle.values.specs.declared.parameter.Parameter.{Parameter}
use Rattle.spelling.specs.IndexText.{index_text}
use Rattle.spelling.specs.Line.{line_for}
use Rattle.spelling.specs.Line.Laws.{line_spelled}
use Rattle.spelling.specs.Name.{front, name}
use Rattle.spelling.specs.Reply.{as_set_line, get_reply}
use Rattle.spelling.specs.Say.{say, said_part}
use Rattle.spelling.specs.Text.{part_text}

-- `GA`, the label between quotes, the indices, `=`, the value's text and 0D
pub get_spelled : (t : List ℕ) (p : Parameter) (part : Part) (v : ℤ)
    → get_reply t p part v ≡ 0x47 ∷ 0x41 ∷ 0x22 ∷ (label t p.owner ++ (0x22 ∷ (index_text (groups_of p.row.indices part) ++ (0x3D ∷ (part_text p.row.kind part v ++ (0x0D ∷ []))))))
unfolding get_reply
get_spelled t p part v = rw (line_spelled 0x47 t p part v) (simp append_assoc)

-- read as a set line, the reply that tells a value is the same line with the other verb
pub reply_as_set : (t : List ℕ) (p : Parameter) (part : Part) (v : ℤ) → as_set_line (get_reply t p part v) ≡ line_for 0x53 t p part v
unfolding as_set_line get_reply line_for front
reply_as_set t p part v =
    let r = (name t p part ++ (0x3D ∷ [])) ++ part_text p.row.kind part v in
    let l : length (0x47 ∷ 0x41 ∷ (r ++ (0x0D ∷ []))) - 3 ≡ length r = simp length-append (omega arith) in
    rw (l, take_at r (0x0D ∷ []) (length r) refl)

-- and so the set line that is written for this value, where that names the same part
pub reply_as_said : (t : List ℕ) (p : Parameter) (present v : ℤ) → as_set_line (get_reply t p (said_part p.row.kind present v) v) ≡ say t p present v
unfolding say
reply_as_said t p present v = reply_as_set t p (said_part p.row.kind present v) v
