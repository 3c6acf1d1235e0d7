-- Which frame may come in which turn, and the turn after it.
use Rattle.std.specs.Prelude.{Ok, Err, Result}
use Rattle.frames.specs.declared.faults.FrameFault.{FrameFault}
use Rattle.frames.specs.declared.faults.FrameFault.TheVariants.{OutOfTurn, NoEnd}
use Rattle.frames.specs.declared.turns.Turn.{Turn}
use Rattle.frames.specs.declared.turns.Turn.TheVariants.{Tables, Predicates, Ended}
use Rattle.frames.specs.Frames.{PlainFrame, table, tie, test, correct, end}

abbrev pub turn_after : Turn → PlainFrame → Result Turn FrameFault
turn_after Tables (table rows) = Ok Tables
turn_after Tables (tie t other p q cost) = Ok Predicates
turn_after Tables (test t p q cost kind) = Ok Predicates
turn_after Tables (correct t reading) = Ok Predicates
turn_after Tables end = Ok Ended
turn_after Predicates (table rows) = Err OutOfTurn
turn_after Predicates (tie t other p q cost) = Ok Predicates
turn_after Predicates (test t p q cost kind) = Ok Predicates
turn_after Predicates (correct t reading) = Ok Predicates
turn_after Predicates end = Ok Ended
turn_after Ended (table rows) = Err OutOfTurn
turn_after Ended (tie t other p q cost) = Err OutOfTurn
turn_after Ended (test t p q cost kind) = Err OutOfTurn
turn_after Ended (correct t reading) = Err OutOfTurn
turn_after Ended end = Err OutOfTurn

-- whether an end was among the frames, after the last of them
abbrev pub turn_finished : Turn → Result Unit FrameFault
turn_finished Tables = Err NoEnd
turn_finished Predicates = Err NoEnd
turn_finished Ended = Ok tt
