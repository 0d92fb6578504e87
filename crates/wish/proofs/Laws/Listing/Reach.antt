-- Reach: which parameters lines can set, and what the changes of a wish are where all of them are within reach.
use Rattle.std.specs.Prelude.{◌≡◌, refl, true, false, List, [], ◌∷◌, ℕ, Option, Some, None}
use Rattle.std.proofs.Common.{sym, ◌∙◌, ap, true≢false}
use Rattle.catalogue.specs.Row.{permitted}
use Rattle.text.specs.Every.Laws.{both_left, both_right}
use Rattle.room.specs.Label.{label, bearer}
use Rattle.room.specs.Label.Laws.{bearer-alone}
use Rattle.room.specs.declared.table.Module.{Module}
use Rattle.values.specs.Parameters.{parameters, parameter_at}
use Rattle.values.specs.Parameters.Places.{at_place}
use Rattle.values.specs.Room.{Room, row_in}
use Rattle.values.specs.Settable.{Puttable, Settable}
use Rattle.values.specs.Values.Laws.{value_permitted}
use Rattle.values.specs.declared.parameter.Parameter.{Parameter}
use Rattle.wish.specs.Target.{Wish, target}
use Rattle.wish.specs.Target.Laws.{target_right}
use Rattle.wish.specs.Listing.{Admitted, Change, all_reachable, borne_once, changes, reachable}
use Rattle.wish.proofs.Laws.Listing.Differing.{AllOf, differ-each, wish_differ}
use Rattle.wish.specs.Listing.Laws.{reachable-both}

-- ---- a label that one module bears

pub bearer-once : (b : Option Module) (m : Module) → b ≡ Some m → borne_once b ≡ true
unfolding borne_once
bearer-once b m e = rw e refl

pub bearer-otherwise : (b : Option Module) → b ≡ None → borne_once b ≡ false
unfolding borne_once
bearer-otherwise b e = rw e refl

-- ---- a parameter

pub reachable-by : (t : List ℕ) (p : Parameter) (m : Module) → p.row.settable ≡ true → bearer t (label t p.owner) ≡ Some m → reachable t p ≡ true
unfolding reachable
reachable-by t p m s o = rw (s, bearer-once (bearer t (label t p.owner)) m o)

-- a parameter of the table that is within reach is one that a line can set
pub reachable-told : (t : List ℕ) (k : ℕ) (p : Parameter) → parameter_at (parameters t) k ≡ Some p → reachable t p ≡ true → Settable t p
unfolding reachable
reachable-told t k p e h =
    go (bearer t (label t p.owner)) refl (both_right p.row.settable (borne_once (bearer t (label t p.owner))) h)
  where
    go : (b : Option Module) → bearer t (label t p.owner) ≡ b → borne_once (bearer t (label t p.owner)) ≡ true → Settable t p
    go (Some m) b n =
        let o = at_place t k p e in
        record {
          listed = rw o.stands e;
          settable = both_left p.row.settable (borne_once (bearer t (label t p.owner))) h;
          only = b ∙ ap Some (sym (bearer-alone t (label t p.owner) o.module_number p.owner m o.among refl b));
        }
    go None b n = absurd (true≢false (sym n ∙ bearer-otherwise (bearer t (label t p.owner)) b))

-- ---- the changes of a wish

-- a change of a parameter of the table between values that are permitted in the room
record Due (r : Room) (c : Change) : Type 0 where
  number : ℕ
  found : parameter_at (parameters r.table) number ≡ Some c.parameter
  from : permitted (row_in r c.parameter) c.present ≡ true
  permits : permitted (row_in r c.parameter) c.target ≡ true

all_due : (w : Wish) → Admitted w → AllOf (Due w.room) (changes w)
all_due w a =
    differ-each (Due w.room) (wish_differ w a)
    (λ k p e. record { number = k; found = e; from = value_permitted w.room w.present k p a.present e; permits = value_permitted w.room (target w) k p (target_right w a.present a.wanted) e })

-- a change that one line can make
pub record Sayable (r : Room) (c : Change) : Type 0 where
  pub from : permitted (row_in r c.parameter) c.present ≡ true
  pub puttable : Puttable r c.parameter c.target

due_sayable : (r : Room) (cs : List Change) → AllOf (Due r) cs → all_reachable r.table cs ≡ true → AllOf (Sayable r) cs
due_sayable r [] d h = tt
due_sayable r (c ∷ cs) d h =
    let b = reachable-both r.table c cs h in
    let reached = reachable-told r.table d.0.number c.parameter d.0.found b.0 in
    (record { from = d.0.from; puttable = record { reached = reached; permits = d.0.permits } }, due_sayable r cs d.1 b.1)

pub all_sayable : (w : Wish) → Admitted w → all_reachable w.room.table (changes w) ≡ true → AllOf (Sayable w.room) (changes w)
all_sayable w a r = due_sayable w.room (changes w) (all_due w a) r
