-- `put_line`: what stands before the value, the value after it, and 0D.
use borrow.Author.Rules.{rules}
use Rattle.spelling.specs.Line.Writing.{line_writing}
use Rattle.spelling.proofs.name.Named.put_line.Goals as goal

pub put_front-next-requires : goal.put_front-next-requires
put_front-next-requires c = search (line_writing, rules)

pub put_part-end-requires-clause-v_in_bounds : goal.put_part-end-requires-clause-v_in_bounds
put_part-end-requires-clause-v_in_bounds c = search (line_writing, rules)

pub put_byte-requires : goal.put_byte-requires
put_byte-requires c = search (line_writing, rules)

pub returns : goal.returns
returns c = search (line_writing, rules)
