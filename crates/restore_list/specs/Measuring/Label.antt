-- Rules for testing whether a module alone bears its label.
use Rattle.std.specs.Prelude.{◌≡◌, true, false, List, ℕ, ◌+◌, ◌-◌, length, take, drop, Option, Some, None}
use Rattle.std.proofs.Common.{sym, ◌∙◌, ap}
use Rattle.room.specs.Label.{bearer, label}
use Rattle.room.specs.declared.table.Module.{Module}
use Rattle.room.specs.Label.Length.{label-part}
use Rattle.wish.specs.Listing.{borne_once}
use Rattle.wish.proofs.Laws.Listing.Reach.{bearer-once, bearer-otherwise}

module _ (t : List ℕ) (m : Module) (n : ℕ) (e : n ≡ length (label t m)) where
  module _ (f : Option Module) (g : f ≡ bearer t (take (m.place + 1 + n - (m.place + 1)) (drop (m.place + 1) t))) where
    told : f ≡ bearer t (label t m)
    told = g ∙ ap (bearer t) (label-part t m n e)

    pub borne_once_lem : (o : Module) → f ≡ Some o → true ≡ borne_once (bearer t (label t m))
    borne_once_lem o h = sym (bearer-once (bearer t (label t m)) o (sym told ∙ h))

    pub borne_otherwise : f ≡ None → false ≡ borne_once (bearer t (label t m))
    borne_otherwise h = sym (bearer-otherwise (bearer t (label t m)) (sym told ∙ h))

pub ruleset bearing = (borne_once_lem, borne_otherwise)
