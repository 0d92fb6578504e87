-- `put_indices`: the groups of a row, or a pair after `>4>`.
use borrow.Author.Rules.{rules}
use Rattle.spelling.specs.IndexText.Writing.{indices_writing}
use Rattle.spelling.proofs.indices.put_indices.Goals as goal

pub put_group-requires : goal.put_group-requires
put_group-requires c = search (indices_writing, rules)

pub put_group-next-requires : goal.put_group-next-requires
put_group-next-requires c = search (indices_writing, rules)

pub put_group-requires-in-Whole-TwoGroups : goal.put_group-requires-in-Whole-TwoGroups
put_group-requires-in-Whole-TwoGroups c = search (indices_writing, rules)

pub put_cross-requires : goal.put_cross-requires
put_cross-requires c = search (indices_writing, rules)

pub put_cross-requires-in-Output-TwoGroups : goal.put_cross-requires-in-Output-TwoGroups
put_cross-requires-in-Output-TwoGroups c = search (indices_writing, rules)

pub returns-in-Whole-OneGroup : goal.returns-in-Whole-OneGroup
returns-in-Whole-OneGroup c = search (indices_writing, rules)

pub returns-in-Whole-TwoGroups : goal.returns-in-Whole-TwoGroups
returns-in-Whole-TwoGroups c = search (indices_writing, rules)

pub returns-in-Output-OneGroup : goal.returns-in-Output-OneGroup
returns-in-Output-OneGroup c = search (indices_writing, rules)

pub returns-in-Output-TwoGroups : goal.returns-in-Output-TwoGroups
returns-in-Output-TwoGroups c = search (indices_writing, rules)
