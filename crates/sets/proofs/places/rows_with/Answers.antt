use Rattle.std.proofs.Common.{ℕ, ◌^◌, ◌≤◌, ap, ◌∙◌, arith, pow_mono}
use lib.Bits.{bit_and, and_le_l}
use lib.Count.{ones, ones-le}
use Rattle.std.proofs.lemmas.Nat.{one_shl}
use Rattle.sets.proofs.places.rows_with.Goals as goal

pub returns : goal.returns
returns c =
    let n = bit_and c.args.tables c.bits.result in
    let few : ones n ≤ 10 = ones-le 10 n (omega (arith, and_le_l c.args.tables c.bits.result)) in
    let e = one_shl (ones n) 32 (omega arith) in
    let most : 2 ^ ones n ≤ 2 ^ 10 = pow_mono few in
    record { value = e ∙ ap (λ (x : ℕ). 2 ^ ones (bit_and c.args.tables x)) c.bits.ensures; bound = omega arith }
