use Rattle.std.proofs.Common.{◌+◌, ap, ◌∙◌, arith}
use Rattle.program.proofs.LinesPut.{hex_line_length, put_front}
use Rattle.program.proofs.outputs.Output.line.Goals as goal

pub returns-in-Some : goal.returns-in-Some
returns-in-Some c =
    let q = c.args.self.now in
    let put = c.in-Some.ensures in
    record {
      text = put_front q.bytes c.put_line.new.buffer q.len c.in-Some.end _ put;
      length = put.ends ∙ ap (λ n. q.len + n) (hex_line_length c.args.bytes.now);
    }

pub returns-in_default : goal.returns-in_default
returns-in_default c = absurd (omega (arith, c.in_default.ensures.short, hex_line_length c.args.bytes.now, c.requires, c.args.self.now.room))
