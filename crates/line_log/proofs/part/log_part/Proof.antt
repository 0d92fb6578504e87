-- `log_part`: the first two quotes, and the part that shows the text between them.
use borrow.Author.Rules.{rules}
use Rattle.line_log.specs.LogPart.Showing.{finding}
use Rattle.line_log.proofs.part.log_part.Statement.{statement}
use Rattle.line_log.proofs.part.log_part.Tie as tie

pub log_part_spec : {M : Type 1} → statement M
log_part_spec =
    tie.close
    (tie.spec
    (λ c κs. search (finding, rules))
    (λ c. search (finding, rules))
    (λ c κs. search (finding, rules))
    (λ c. search (finding, rules))
    (λ c. search (finding, rules))
    (λ c. search (finding, rules))
    (λ c. search (finding, rules))
    (λ c. search (finding, rules))
    (λ c κs. search (finding, rules))
    (λ c. search (finding, rules))
    (λ c. search (finding, rules))
    (λ c κs. search (finding, rules))
    (λ c. search (finding, rules)))
