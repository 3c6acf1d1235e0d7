use Rattle.std.proofs.Common.{◌≡◌, rules}
use Rattle.frames.specs.Decoding.{kept_line, decoded_line}
use Rattle.frames.specs.Splitting.{plain_line}
use Rattle.frames.proofs.FirstTen.{same_line_frame}
use Rattle.frames.proofs.lines.decode_line.Goals as goal

pub returns-in-Ended : goal.returns-in-Ended
returns-in-Ended c =
    let l = plain_line c.args.line in
    let kept : kept_line c.ok_or.result ≡ decoded_line l = search rules in
    record { bytes = kept; frame = same_line_frame c.ok_or.result l kept }
