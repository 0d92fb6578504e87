-- The part of the table that the log shows is the text itself; of a line, only its place and its bytes count.
use Rattle.std.specs.Prelude.{◌≡◌, true, List, ℕ, ◌+◌, length, Some, Option, None}
use Rattle.std.proofs.Math.Path.{refl}
use Rattle.std.proofs.Common.{sym, ◌∙◌, ap}
use Rattle.std.specs.Borrow.{Bor}
use Rattle.text.specs.Cut.{part}
use Rattle.text.specs.Cut.Part.{part-is}
use Rattle.room.specs.Label.{bearer}
use Rattle.room.specs.Label.Laws.{bearer-found}
use Rattle.room.specs.Label.Length.{label-part}
use Rattle.room.specs.Table.{sound}
use Rattle.room.specs.declared.table.Module.{Module}
use Rattle.line_log.specs.Log.{log_label, part_of, part_shown}
use Rattle.line_log.specs.LogPart.{log_part}
use Rattle.line_log.specs.declared.part.LogPart.{LogPart}
use Rattle.line_log.specs.declared.part.LogPart.TheVariants.{Table, Line}

pub shown-text : (t text : List ℕ) (m : Module) → sound t ≡ true → bearer t text ≡ Some m → part t (m.place + 1) (m.place + 1 + length text) ≡ text
shown-text t text m s e =
    let f = bearer-found t text m s e in
    part-is t (m.place + 1) (m.place + 1 + length text) ∙ label-part t m (length text) (ap length (sym f.labelled)) ∙ f.labelled

-- lines that lie at one place and have the same bytes are shown alike
pub label-alike : (table line other : Bor (List ℕ)) → line.ref_ptr ≡ other.ref_ptr → line.now ≡ other.now → log_label table line ≡ log_label table other
unfolding log_label
label-alike table line other p q = go (log_part table.now line.now) ∙ ap (λ l. part_shown table other (log_part table.now l)) q
  where
    go : (r : Option LogPart) → part_shown table line r ≡ part_shown table other r
    go (Some (Table a e)) = unfold part_shown in refl
    go (Some (Line a e)) = unfold part_shown part_of in rw (p, q) refl
    go None = unfold part_shown part_of in rw (p, q) refl
