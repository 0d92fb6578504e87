-- Parameters that lines can set, and that the others stay as they are.
use Rattle.std.specs.Prelude.{◌≡◌, true, false, List, ℕ, ◌≤◌, ℤ, pos, length, get_or, Some}
use Rattle.std.proofs.Common.{sym, ◌∙◌, ap, true≢false, get_or-set_other}
use Rattle.values.specs.Parameters.{parameters, place, parameter_at}
use Rattle.values.specs.Room.{Room}
use Rattle.values.specs.Settable.{Settable}
use Rattle.values.specs.declared.parameter.Parameter.{Parameter}
use Rattle.syntax.specs.Shape.{line_limit}
use Rattle.line.specs.Answer.{answer}
use Rattle.serial_port.specs.Server.{control_space}
use Rattle.serial_port.specs.Play.Kept.{Keeps, answers_keep}
use Rattle.wish.specs.Listing.{reachable}
use Rattle.wish.proofs.Laws.Listing.Reach.{reachable-by}
use Rattle.restore.specs.Demand.Lines.{Effect, nothing, puts, Lines}

-- the parameters that lines can set are those within reach
settable_reachable : (t : List ℕ) (p : Parameter) → Settable t p → reachable t p ≡ true
settable_reachable t p s = reachable-by t p p.owner s.settable s.only

-- the value number k is v
abbrev pub Stays : ℕ → ℤ → List ℤ → Type 0
Stays k v vs = get_or vs k (pos 0) ≡ v

module _ (r : Room) (lines : Lines r) where
  -- a parameter beyond reach stays as it is, whatever the line
  module _ (k : ℕ) (p : Parameter) (v : ℤ) (at : parameter_at (parameters r.table) k ≡ Some p) (blocked : reachable r.table p ≡ false) where
    other : (q : Parameter) → Settable r.table q → k ≡ place q → ⊥
    other q s e =
        let same : q ≡ p = let a : Some q ≡ Some p = sym s.listed ∙ ap (parameter_at (parameters r.table)) (sym e) ∙ at in cc in
        true≢false (sym (settable_reachable r.table q s) ∙ ap (reachable r.table) same ∙ blocked)

    line_keeps : (vs : List ℤ) (l : List ℕ) → length l ≤ line_limit → Stays k v vs → Stays k v (answer r vs l).values
    line_keeps vs l n stays = go (lines.effect vs l)
      where
        go : Effect r vs l → get_or (answer r vs l).values k (pos 0) ≡ v
        go (nothing e) = rw e stays
        go (puts q x s e c) = rw e (get_or-set_other vs (place q) k x (pos 0) (other q s) ∙ stays)

    pub keeps_unreachable : Keeps (control_space r) (Stays k v)
    keeps_unreachable = answers_keep r (Stays k v) line_keeps
