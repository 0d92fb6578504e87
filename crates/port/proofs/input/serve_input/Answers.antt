-- `serve_input`: the start values are right for a sound table.
use Rattle.std.proofs.Common.{rules}
use Rattle.port.specs.Input.Start.{start-rules}
use Rattle.port.proofs.input.serve_input.Goals as goal

pub fill_starts-count-requires : goal.fill_starts-count-requires
fill_starts-count-requires g c = search (start-rules, rules)

pub answer_all-requires-clause-table_value : goal.answer_all-requires-clause-table_value
answer_all-requires-clause-table_value g c = search (start-rules, rules)
