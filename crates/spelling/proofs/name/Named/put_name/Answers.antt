-- `put_name`: the label between quotes, and the index groups after it.
use borrow.Author.Rules.{rules}
use Rattle.spelling.specs.Name.Writing.{name_writing}
use Rattle.spelling.proofs.name.Named.put_name.Goals as goal

pub put_quoted-next-requires : goal.put_quoted-next-requires
put_quoted-next-requires c = search (name_writing, rules)

pub put_indices-requires : goal.put_indices-requires
put_indices-requires c = search (name_writing, rules)

pub returns : goal.returns
returns c = search (name_writing, rules)
