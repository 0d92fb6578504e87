-- `label_of`: what the log shows of the bytes before the 0D.
use borrow.Author.Rules.{rules}
use Rattle.worked.specs.Script.Cutting.{cutting}
use Rattle.worked.proofs.say.label_of.Statement.{statement}
use Rattle.worked.proofs.say.label_of.Tie as tie

pub label_of_spec : {M : Type 1} → statement M
label_of_spec =
    tie.close
    (tie.spec
    (λ c κs. search (cutting, rules))  -- find-end-requires
    (λ c. search (cutting, rules))  -- slice_bounds-log_label-end
    (λ c κs. search (cutting, rules))  -- log_label-requires
    (λ c. search (cutting, rules)))  -- returns
