-- `put_ended`: the digits, and the byte after them.
use borrow.Author.Rules.{rules}
use Rattle.spelling.specs.IndexText.Writing.{ended_writing}
use Rattle.spelling.proofs.indices.put_ended.Goals as goal

pub put_number-next-requires : goal.put_number-next-requires
put_number-next-requires c = search (ended_writing, rules)

pub put_byte-requires : goal.put_byte-requires
put_byte-requires c = search (ended_writing, rules)

pub returns : goal.returns
returns c = search (ended_writing, rules)
