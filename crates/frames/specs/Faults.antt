-- The numbers by which faults are reported, and the layers that report them.
use Rattle.std.specs.Prelude.{ℕ}
use Rattle.reading.specs.Faults.{fault_number}
use Rattle.frames.specs.declared.layers.Layer.{Layer}
use Rattle.frames.specs.declared.layers.Layer.TheVariants.{Lines, Frames, Changes, Solve}
use Rattle.frames.specs.declared.faults.LineFault.{LineFault}
use Rattle.frames.specs.declared.faults.LineFault.TheVariants.{NotPairs}
use Rattle.frames.specs.declared.faults.FrameFault.{FrameFault}
use Rattle.frames.specs.declared.faults.FrameFault.TheVariants.{BadFrame, OutOfTurn, NoEnd, Reading}

abbrev pub layer_number : Layer → ℕ
layer_number Lines = 1
layer_number Frames = 2
layer_number Changes = 3
layer_number Solve = 4

abbrev pub line_fault_number : LineFault → ℕ
line_fault_number NotPairs = 21

abbrev pub line_fault_layer : LineFault → ℕ
line_fault_layer NotPairs = 1

-- a reading's fault keeps its number
abbrev pub frame_fault_number : FrameFault → ℕ
frame_fault_number BadFrame = 22
frame_fault_number OutOfTurn = 23
frame_fault_number NoEnd = 24
frame_fault_number (Reading fault) = fault_number fault

abbrev pub frame_fault_layer : FrameFault → ℕ
frame_fault_layer BadFrame = 2
frame_fault_layer OutOfTurn = 2
frame_fault_layer NoEnd = 2
frame_fault_layer (Reading fault) = 2
