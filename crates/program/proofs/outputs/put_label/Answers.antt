use Rattle.std.proofs.Common.{◌<◌, length, arith}
use Rattle.program.proofs.LinesPut.{label_front}
use Rattle.program.proofs.outputs.put_label.Goals as goal

pub returns : goal.returns
returns c =
    let some : 0 < length c.args.room.now = omega (arith, c.requires) in
    label_front c.args.room.now c.args.bytes.now c.copy_from_slice.new.self c.args.label _ some c.copy_from_slice.ensures.after
