-- `put_get`: the line with the verb `GA`.
use borrow.Author.Rules.{rules}
use Rattle.spelling.specs.Reply.Writing.{get_writing}
use Rattle.spelling.proofs.reply.put_get.Goals as goal

pub invariant_of-named : goal.invariant_of-named
invariant_of-named c = search (get_writing, rules)

pub put_line-requires-clause-v_in_bounds : goal.put_line-requires-clause-v_in_bounds
put_line-requires-clause-v_in_bounds c = search (get_writing, rules)

pub returns : goal.returns
returns c = search (get_writing, rules)
