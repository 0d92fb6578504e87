-- `module_right`: an unchosen module is not tested.
use borrow.Author.Rules.{rules}
use Rattle.values.specs.Permit.Mixed.{mixers}
use Rattle.wish.specs.Target.Wanting.{one_module}
use Rattle.wish.proofs.module_right.Statement.{statement}
use Rattle.wish.proofs.module_right.Tie as tie

pub module_right_spec : {M : Type 1} → statement M
module_right_spec =
    tie.close
    (tie.spec
    (λ c. search (one_module, mixers, rules))  -- returns-then-selected-ne1
    (λ c κs. search (one_module, mixers, rules))  -- is_fixed-requires
    (λ c κs. search (one_module, mixers, rules))  -- listed_fits-requires
    (λ c. search (one_module, mixers, rules))  -- returns-then-is_fixed
    (λ c. search (one_module, mixers, rules))  -- overflow_cast-layout
    (λ c. search (one_module, mixers, rules))  -- overflow_cast-layout-2
    (λ c κs. search (one_module, mixers, rules))  -- mixer_fits-requires
    (λ c. search (one_module, mixers, rules)))  -- returns
