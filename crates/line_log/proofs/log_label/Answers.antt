-- `log_label`: the part that `log_part` found, of the table or of the line.
use Rattle.std.proofs.Common.{rules}
use Rattle.line_log.specs.Log.Lending.{lending}
use Rattle.line_log.proofs.log_label.Goals as goal

pub slice_bounds-result-count : goal.slice_bounds-result-count
slice_bounds-result-count c = search (lending, rules)

pub slice_bounds-result-start : goal.slice_bounds-result-start
slice_bounds-result-start c = search (lending, rules)

pub slice_bounds-result-end : goal.slice_bounds-result-end
slice_bounds-result-end c = search (lending, rules)

pub slice_bounds-result-count-in-Some-Line : goal.slice_bounds-result-count-in-Some-Line
slice_bounds-result-count-in-Some-Line c = search (lending, rules)

pub slice_bounds-result-start-in-Some-Line : goal.slice_bounds-result-start-in-Some-Line
slice_bounds-result-start-in-Some-Line c = search (lending, rules)

pub slice_bounds-result-end-in-Some-Line : goal.slice_bounds-result-end-in-Some-Line
slice_bounds-result-end-in-Some-Line c = search (lending, rules)

pub returns-in-Some-Table : goal.returns-in-Some-Table
returns-in-Some-Table c = search (lending, rules)

pub returns-in-Some-Line : goal.returns-in-Some-Line
returns-in-Some-Line c = search (lending, rules)

pub returns-in-None : goal.returns-in-None
returns-in-None c = search (lending, rules)
