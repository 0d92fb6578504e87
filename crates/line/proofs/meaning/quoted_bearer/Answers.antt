-- `quoted_bearer`: the part between the quotes is lent on.
use borrow.Author.Rules.{rules}
use Rattle.line.specs.Meaning.Bearing.{bearer-rules}
use Rattle.line.proofs.meaning.quoted_bearer.Goals as goal

pub returns : goal.returns
returns c = search (bearer-rules, rules)
