-- `put_quoted`: a quote, the label, a quote.
use borrow.Author.Rules.{rules}
use Rattle.spelling.specs.Name.Writing.{quoted_writing}
use Rattle.spelling.proofs.name.Named.put_quoted.Goals as goal

pub put_byte-opened-requires : goal.put_byte-opened-requires
put_byte-opened-requires c = search (quoted_writing, rules)

pub put_label-closing-requires : goal.put_label-closing-requires
put_label-closing-requires c = search (quoted_writing, rules)

pub put_byte-requires : goal.put_byte-requires
put_byte-requires c = search (quoted_writing, rules)

pub returns : goal.returns
returns c = search (quoted_writing, rules)
