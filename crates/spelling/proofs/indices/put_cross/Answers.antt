-- `put_cross`: three bytes, and the pair after them.
use borrow.Author.Rules.{rules}
use Rattle.spelling.specs.IndexText.Writing.{cross_writing}
use Rattle.spelling.proofs.indices.put_cross.Goals as goal

pub put_bytes-next-requires : goal.put_bytes-next-requires
put_bytes-next-requires c = search (cross_writing, rules)

pub put_pair-requires : goal.put_pair-requires
put_pair-requires c = search (cross_writing, rules)

pub returns : goal.returns
returns c = search (cross_writing, rules)
