-- `put_group`: `>`, and the digits after it.
use borrow.Author.Rules.{rules}
use Rattle.spelling.specs.IndexText.Writing.{group_writing}
use Rattle.spelling.proofs.indices.put_group.Goals as goal

pub put_byte-next-requires : goal.put_byte-next-requires
put_byte-next-requires c = search (group_writing, rules)

pub put_number-requires : goal.put_number-requires
put_number-requires c = search (group_writing, rules)

pub returns : goal.returns
returns c = search (group_writing, rules)
