-- A row of a module that is no mixer is said whole.
use Rattle.std.specs.Prelude.{◌≡◌, true, List, ℕ, ◌<◌, ℤ, length}
use Rattle.std.proofs.Common.{ap, sym, ◌∙◌}
use Rattle.catalogue.specs.Catalogue.{fixed, row_of, rows_of}
use Rattle.catalogue.specs.Catalogue.Routed.{fixed-no_word}
use Rattle.catalogue.specs.declared.groups.Part.TheVariants.{Whole}
use Rattle.catalogue.specs.declared.row.Row.{Row}
use Rattle.room.specs.declared.table.Module.{Module}
use Rattle.spelling.specs.Line.{line_for}
use Rattle.spelling.specs.Say.{say}
use Rattle.spelling.specs.Say.Laws.{said-whole, say-line}

pub whole-said : (t : List ℕ) (m : Module) (j : ℕ) (r : Row) (v x : ℤ) → fixed m.layout.kind ≡ true → j < length (rows_of m.layout) → r ≡ row_of m.layout j
    → say t (record { owner = m; number = j; row = r }) v x ≡ line_for 0x53 t (record { owner = m; number = j; row = r }) Whole x
whole-said t m j r v x f h e =
    say-line t (record { owner = m; number = j; row = r }) v x
    ∙ ap (λ part. line_for 0x53 t (record { owner = m; number = j; row = r }) part x)
    (said-whole r.kind v x (λ w. fixed-no_word m.layout j f h (sym (ap (λ q. q.kind) e) ∙ w)))
