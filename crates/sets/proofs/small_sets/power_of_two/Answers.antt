use Rattle.std.proofs.Common.{◌^◌, ◌≤◌, arith, pow_pos, pow_mono}
use Rattle.std.proofs.lemmas.Nat.{one_shl, pow_below}
use Rattle.sets.proofs.small_sets.power_of_two.Goals as goal

pub returns : goal.returns
returns c =
    let e = one_shl c.args.exponent 16 (omega arith) in
    let most : 2 ^ c.args.exponent ≤ 2 ^ 10 = pow_mono c.requires in
    record {
      value = e;
      above = omega (arith, pow_pos c.args.exponent);
      below = (omega arith, λ l. omega (arith, pow_below c.args.exponent 10 l));
    }
