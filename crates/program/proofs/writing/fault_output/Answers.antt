use Rattle.std.proofs.Common.{◌≡◌, ◌/◌, ◌%◌, ◌^◌, ◌<◌, arith, rules}
use Rattle.program.proofs.LinesPut.{two_bytes}
use Rattle.program.proofs.writing.fault_output.Goals as goal

pub returns : goal.returns
returns c =
    let n = c.args.refused.line in
    let fits : n < 2 ^ 16 = search rules in
    let high : n / 256 % 256 ≡ n / 256 = omega arith in
    rw (c.labelled.ensures.text, c.empty-output.ensures.empty, c.number-layer.ensures, c.layer.ensures, c.number-number.ensures, c.to_be_bytes.ensures, two_bytes n, high)
