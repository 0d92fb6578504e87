-- `zero_count`: one more is zero, or none.
use borrow.Author.Rules.{rules}
use Rattle.record.specs.Field.Tally.{tallying}
use Rattle.record.proofs.field.zero_count.Goals as goal
use Rattle.record.proofs.field.zero_count.Goals.{then-b-eq0, else-b-eq0}

pub loop-b-preserved : goal.loop-b-preserved
loop-b-preserved c =
    elim c.if-b-eq0.branch [
      | then-b-eq0 w ↦ rw w.count-is (search (tallying, rules))
      | else-b-eq0 w ↦ rw w.count-is (search (tallying, rules))
    ]

pub returns : goal.returns
returns c = search (tallying, rules)
