-- A share of rows is no more than the rows.
use Rattle.std.proofs.Common.{ℕ, ◌+◌, ◌-◌, ◌*◌, ◌<◌, ◌≤◌, add-mul, mul-le-mul_left, one-mul, arith}
use Rattle.std.proofs.lemmas.Nat.{div_below}
use Rattle.plans.specs.Questions.{up}

pub up_le : (n p q : ℕ) → 1 ≤ q → p ≤ q → up (n * p) q ≤ n
up_le n p q some part =
    let less : n * p ≤ n * q = mul-le-mul_left n part in
    let under : n * p + (q - 1) < (n + 1) * q = omega (arith, add-mul n 1 q, one-mul q) in
    omega (arith, div_below (n * p + (q - 1)) q (n + 1) some under)
