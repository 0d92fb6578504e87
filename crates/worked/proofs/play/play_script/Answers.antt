-- `play_script`: a sound table, and its start values.
use Rattle.std.proofs.Common.{rules}
use Rattle.worked.specs.Script.Starting.{starting}
use Rattle.worked.proofs.play.play_script.Goals as goal

pub returns-then-not-is_sound : goal.returns-then-not-is_sound
returns-then-not-is_sound c = search (starting, rules)

pub fill_starts-count-requires : goal.fill_starts-count-requires
fill_starts-count-requires c = search (starting, rules)

pub play_lines-requires : goal.play_lines-requires
play_lines-requires c = search (starting, rules)

pub returns : goal.returns
returns c = search (starting, rules)
