-- `still_few`: by the claim.
use borrow.Author.Rules.{rules}
use Rattle.connections.specs.Survey.Noting.{noting}
use Rattle.connections.proofs.survey.still_few.Goals as goal

pub returns-then-few : goal.returns-then-few
returns-then-few c = search (noting, rules)
