use Rattle.std.proofs.Common.{◌≡◌, ◌^◌, ◌<◌, ◌++◌, drop, sym, ap, ◌∙◌, rules}
use Rattle.pricing.specs.Shown.{in_bytes}
use Rattle.pricing.specs.Bytes.{in_bytes_length, eight_bytes}
use Rattle.pricing.proofs.printing.ClockPrintableModel.bytes.Goals as goal

pub returns-clause-count : goal.returns-clause-count
returns-clause-count c = sym (in_bytes_length 8 c.args.price)

pub returns-clause-written : goal.returns-clause-written
returns-clause-written c =
    let fits : c.args.price < 2 ^ 64 = search rules in
    let front : c.copy_from_slice.new.self ≡ in_bytes 8 c.args.price = c.copy_from_slice.ensures.after ∙ c.to_be_bytes.ensures ∙ eight_bytes _ fits in
    rw (in_bytes_length 8 c.args.price) (ap (λ xs. xs ++ drop 8 c.args.room.now) front)
