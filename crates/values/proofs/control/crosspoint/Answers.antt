-- `crosspoint`: a word, and one of its outputs.
use Rattle.std.proofs.Common.{rules}
use Rattle.values.specs.Control.{crosspoint}
use Rattle.values.specs.Control.Seeking.{point_rules}
use Rattle.values.proofs.control.crosspoint.Goals.{then-not-is_word-via-then-not-is_word, then-not-is_word-via-else-not-is_word+then-output-lt1, then-not-is_word-via-else-not-is_word+else-output-lt1+then-outputs-output}
use Rattle.values.proofs.control.crosspoint.Goals as goal

pub returns-in_err-p : goal.returns-in_err-p
returns-in_err-p c = search (point_rules, rules)

pub returns-then-not-is_word : goal.returns-then-not-is_word
unfolding crosspoint
returns-then-not-is_word c =
    elim c.then-not-is_word.branch [
      | then-not-is_word-via-then-not-is_word w ↦ search (point_rules, rules)
      | then-not-is_word-via-else-not-is_word+then-output-lt1 w ↦ search (point_rules, rules)
      | then-not-is_word-via-else-not-is_word+else-output-lt1+then-outputs-output w ↦ search (point_rules, rules)
    ]

pub returns : goal.returns
returns c = search (point_rules, rules)
