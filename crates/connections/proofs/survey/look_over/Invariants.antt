-- `look_over`: what is noted so far, and the connections that are left, make the whole survey.
use Rattle.std.proofs.Common.{◌≡◌, drop}
use Rattle.connections.specs.Survey.{surveyed_from}
use Rattle.connections.proofs.survey.look_over.Given as goal

abbrev pub invariant-loop-i : goal.invariant-loop-i
invariant-loop-i l = surveyed_from 0 l.row l.fn.start ≡ surveyed_from l.i (drop l.i l.row) l.survey
