-- `put_front`: the verb, the name and `=`, one after the other.
use borrow.Author.Rules.{rules}
use Rattle.spelling.specs.Name.Writing.{front_writing}
use Rattle.spelling.proofs.name.Named.put_front.Goals as goal

pub put_bytes-begun-requires : goal.put_bytes-begun-requires
put_bytes-begun-requires c = search (front_writing, rules)

pub put_name-named-requires : goal.put_name-named-requires
put_name-named-requires c = search (front_writing, rules)

pub put_byte-requires : goal.put_byte-requires
put_byte-requires c = search (front_writing, rules)

pub returns : goal.returns
returns c = search (front_writing, rules)
