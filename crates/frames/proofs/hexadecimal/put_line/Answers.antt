use Rattle.std.proofs.Common.{◌<◌, [], ◌∷◌, length, arith}
use Rattle.frames.specs.Hexadecimal.{hex_digits}
use Rattle.buffers.proofs.Putting.{put_one, put_length, put_more}
use Rattle.frames.proofs.Putting.{length_hex_digits, no_room}
use Rattle.frames.proofs.hexadecimal.put_line.Goals as goal
use Rattle.frames.proofs.hexadecimal.put_line.Goals.{then-at-buffer-via-then-at-buffer, then-at-buffer-via-else-at-buffer+then-buffer-at}

pub returns-then-at-buffer : goal.returns-then-at-buffer
returns-then-at-buffer c =
    no_room c.args.buffer.now c.args.bytes.now c.args.at
    (elim c.then-at-buffer.branch [ then-at-buffer-via-then-at-buffer w ↦ omega arith | then-at-buffer-via-else-at-buffer+then-buffer-at w ↦ omega arith ])

inside : (c : goal.After-slice_known-2-1) → c.put_digits-end.result < length c.put_digits-end.new.buffer
inside c =
    let f = c.put_digits-end.ensures in
    omega (arith, f.ends, length_hex_digits c.args.bytes.now, put_length c.args.buffer.now _ c.args.at c.put_digits-end.result _ f)

pub bounds-buffer-end : goal.bounds-buffer-end
bounds-buffer-end c = inside c

pub returns : goal.returns
returns c =
    put_more c.args.buffer.now c.put_digits-end.new.buffer c.args.at c.put_digits-end.result (hex_digits c.args.bytes.now)
    c.put_digits-end.ensures _ (10 ∷ []) _ (put_one c.put_digits-end.new.buffer c.put_digits-end.result 10 (inside c))
