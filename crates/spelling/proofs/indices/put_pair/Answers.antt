-- `put_pair`: `(`, a number and `,`, a number and `)`.
use borrow.Author.Rules.{rules}
use Rattle.spelling.specs.IndexText.Writing.{pair_writing}
use Rattle.spelling.proofs.indices.put_pair.Goals as goal

pub put_byte-opened-requires : goal.put_byte-opened-requires
put_byte-opened-requires c = search (pair_writing, rules)

pub put_ended-divided-requires : goal.put_ended-divided-requires
put_ended-divided-requires c = search (pair_writing, rules)

pub put_ended-requires : goal.put_ended-requires
put_ended-requires c = search (pair_writing, rules)

pub returns : goal.returns
returns c = search (pair_writing, rules)
