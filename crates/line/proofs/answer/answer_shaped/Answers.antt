-- What the line means is done.
use borrow.Author.Rules.{rules}
use Rattle.line.specs.Answer.Replying.{answering}
use Rattle.line.proofs.answer.answer_shaped.Goals as goal

pub meaning_of-requires : goal.meaning_of-requires
meaning_of-requires c = search (answering, rules)

pub put_nak-requires-in-Code-clause-code_bound : goal.put_nak-requires-in-Code-clause-code_bound
put_nak-requires-in-Code-clause-code_bound c = search (answering, rules)

pub tell-requires-clause-tellable : goal.tell-requires-clause-tellable
tell-requires-clause-tellable c = search (answering, rules)

pub put-requires-clause-number_in_bounds : goal.put-requires-clause-number_in_bounds
put-requires-clause-number_in_bounds c = search (answering, rules)

pub returns-in-Malformed : goal.returns-in-Malformed
returns-in-Malformed c = search (answering, rules)

pub returns-in-Code : goal.returns-in-Code
returns-in-Code c = search (answering, rules)

pub returns-in-Get : goal.returns-in-Get
returns-in-Get c = search (answering, rules)

pub returns-in-Put : goal.returns-in-Put
returns-in-Put c = search (answering, rules) fits 20000
