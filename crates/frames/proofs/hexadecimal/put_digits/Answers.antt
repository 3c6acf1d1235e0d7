use Rattle.std.proofs.Common.{◌≡◌, ◌+◌, ◌*◌, add-zero, arith}
use Rattle.buffers.proofs.Putting.{put_none}
use Rattle.frames.proofs.Putting.{put_byte, hex_digits_none}
use Rattle.frames.proofs.hexadecimal.put_digits.Goals as goal

pub loop-place-init : goal.loop-place-init
loop-place-init c = rw (hex_digits_none, add-zero) (put_none c.args.buffer.now c.args.at (omega arith))

pub loop-place-preserved : goal.loop-place-preserved
loop-place-preserved c =
    let l = c.loop-place in
    let more = put_byte c.args.buffer.now l.buffer c.args.bytes.now c.args.at (c.args.at + 2 * l.place) l.place c.digit.result
    c.digit-in-loop-place.result (omega arith) (omega arith) l.invariant c.digit.ensures c.digit-in-loop-place.ensures in
    let end : c.args.at + 2 * l.place + 2 ≡ c.args.at + 2 * (l.place + 1) = omega arith in
    rw (← end) more
