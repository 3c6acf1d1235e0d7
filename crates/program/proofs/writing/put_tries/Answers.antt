use Rattle.std.proofs.Common.{◌^◌, ◌<◌, ◌∷◌, ◌++◌, take, ap, ◌∙◌, rules}
use Rattle.frames.specs.Hexadecimal.{hex_line}
use Rattle.pricing.specs.Bytes.{eight_bytes}
use Rattle.program.proofs.writing.put_tries.Goals as goal

pub returns : goal.returns
returns c =
    let q = c.args.output.now in
    let fits : c.args.tries < 2 ^ 64 = search rules in
    let is = c.to_be_bytes.ensures ∙ eight_bytes c.args.tries fits in
    record { text = c.labelled.ensures.text ∙ ap (λ bs. take q.len q.bytes ++ hex_line (0x1F ∷ bs)) is }
