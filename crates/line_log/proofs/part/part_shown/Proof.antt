-- `part_shown`: the label of the module that alone bears the text, or the text.
use borrow.Author.Rules.{rules}
use Rattle.line_log.specs.LogPart.Showing.{showing}
use Rattle.line_log.proofs.part.part_shown.Statement.{statement}
use Rattle.line_log.proofs.part.part_shown.Tie as tie

pub part_shown_spec : {M : Type 1} → statement M
part_shown_spec =
    tie.close
    (tie.spec
    (λ c. search (showing, rules))
    (λ c. search (showing, rules))
    (λ c. search (showing, rules))
    (λ c κs. search (showing, rules))
    (λ c. search (showing, rules))
    (λ c. search (showing, rules))
    (λ c. search (showing, rules))
    (λ c. search (showing, rules))
    (λ c. search (showing, rules))
    (λ c. search (showing, rules))
    (λ c. search (showing, rules)))
