-- `put_label`: the part of the table that is the label.
use borrow.Author.Rules.{rules}
use Rattle.spelling.specs.Name.Writing.{label_writing}
use Rattle.spelling.proofs.name.Named.put_label.Goals as goal

pub slice_bounds-put_bytes-end : goal.slice_bounds-put_bytes-end
slice_bounds-put_bytes-end c = search (label_writing, rules)

pub returns : goal.returns
returns c = search (label_writing, rules)
