-- `bearer_of`: what stands between the two quotes, whatever the verb.
use borrow.Author.Rules.{rules}
use Rattle.line.specs.Meaning.Bearing.{bearer-rules}
use Rattle.line.proofs.meaning.bearer_of.Goals as goal

pub returns-in-Err : goal.returns-in-Err
returns-in-Err c = search (bearer-rules, rules)

pub returns-in-Ok-Get : goal.returns-in-Ok-Get
returns-in-Ok-Get c = search (bearer-rules, rules)

pub returns-in-Ok-Set : goal.returns-in-Ok-Set
returns-in-Ok-Set c = search (bearer-rules, rules)

pub quoted_bearer-requires-clause-quote_lt_close : goal.quoted_bearer-requires-clause-quote_lt_close
quoted_bearer-requires-clause-quote_lt_close c = search (bearer-rules, rules)

pub quoted_bearer-requires-in-Ok-Set-clause-quote_lt_close : goal.quoted_bearer-requires-in-Ok-Set-clause-quote_lt_close
quoted_bearer-requires-in-Ok-Set-clause-quote_lt_close c = search (bearer-rules, rules)
