-- `put_say_line`: the line with the verb `SA`.
use borrow.Author.Rules.{rules}
use Rattle.spelling.specs.Say.Writing.{say_writing}
use Rattle.spelling.proofs.set_line.put_say_line.Goals as goal

pub put_line-requires-clause-part_in : goal.put_line-requires-clause-part_in
put_line-requires-clause-part_in c = search (say_writing, rules)

pub put_line-requires-clause-v_in_bounds : goal.put_line-requires-clause-v_in_bounds
put_line-requires-clause-v_in_bounds c = search (say_writing, rules)

pub returns : goal.returns
returns c = search (say_writing, rules)
