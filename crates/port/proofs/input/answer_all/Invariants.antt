-- `answer_all`: from read to read, port and values are those of the bytes that came.
use Rattle.values.specs.Room.{room_of}
use Rattle.port.specs.Input.Reads.{Reads}
use Rattle.port.proofs.input.answer_all.Given as goal

abbrev pub invariant-loop-turns : goal.invariant-loop-turns
invariant-loop-turns g l = Reads (room_of l.table) l.initial.values l.initial.port l.initial.input l.initial.out l.values l.input l.out l.port l._turns
