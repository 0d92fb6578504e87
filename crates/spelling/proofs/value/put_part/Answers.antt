-- `put_part`: the whole text, or one letter.
use borrow.Author.Rules.{rules}
use Rattle.spelling.specs.Text.Parts.{part_writing}
use Rattle.spelling.proofs.value.put_part.Goals as goal

pub put_text-requires : goal.put_text-requires
put_text-requires c = search (part_writing, rules)

pub put_bit-requires-clause-v_in_bounds : goal.put_bit-requires-clause-v_in_bounds
put_bit-requires-clause-v_in_bounds c = search (part_writing, rules)

pub returns-in-Whole : goal.returns-in-Whole
returns-in-Whole c = search (part_writing, rules)

pub returns-in-Output : goal.returns-in-Output
returns-in-Output c = search (part_writing, rules)
