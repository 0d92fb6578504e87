-- `play_all`: what tells of a command, and its reply, lie within their buffers.
use Rattle.std.proofs.Common.{rules}
use Rattle.turns.specs.Input.Reading.{commands}
use Rattle.turns.proofs.input.play_all.Goals as goal

pub shared_ref_as_front-write_whole : goal.shared_ref_as_front-write_whole
shared_ref_as_front-write_whole g c = search (commands, rules)

pub slice_bounds-write_whole-end : goal.slice_bounds-write_whole-end
slice_bounds-write_whole-end g c = search (commands, rules)

pub slice_bounds-write_whole-end-in-loop-commands : goal.slice_bounds-write_whole-end-in-loop-commands
slice_bounds-write_whole-end-in-loop-commands g c = search (commands, rules)

pub slice_bounds-write_whole-end-in-loop-commands-2 : goal.slice_bounds-write_whole-end-in-loop-commands-2
slice_bounds-write_whole-end-in-loop-commands-2 g c = search (commands, rules)
