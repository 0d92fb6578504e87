-- `module_fits`: a mixer's values, or those of another module.
use borrow.Author.Rules.{rules}
use Rattle.values.specs.Permit.Mixed.{mixers}
use Rattle.values.proofs.module_values.module_fits.Statement.{statement}
use Rattle.values.proofs.module_values.module_fits.Tie as tie

pub module_fits_spec : {M : Type 1} → statement M
module_fits_spec =
    tie.close
    (tie.spec
    (λ c κs. search (mixers, rules))  -- is_fixed-requires
    (λ c κs. search (mixers, rules))  -- listed_fits-requires
    (λ c. search (mixers, rules))  -- returns-then-is_fixed
    (λ c. search (mixers, rules))  -- overflow_cast-layout
    (λ c. search (mixers, rules))  -- overflow_cast-layout-2
    (λ c κs. search (mixers, rules))  -- mixer_fits-requires
    (λ c. search (mixers, rules)))  -- returns
