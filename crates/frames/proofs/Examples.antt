use Rattle.std.proofs.Common.{refl}
use Rattle.frames.specs.Hexadecimal.{hex_digits}
use Rattle.frames.specs.Lines.{lines_of, pairs}
use Rattle.frames.specs.Samples.{Samples}

pub samples : Samples
unfolding lines_of pairs hex_digits
samples = record {
  table_line = refl;
  tie_line = refl;
  test_line = refl;
  correction_line = refl;
  end_line = refl;
  unknown_kind = refl;
  wrong_length = refl;
  small_letter = refl;
  no_pair = refl;
  not_ended = refl;
  two_lines = refl;
  fault_line = refl;
}
