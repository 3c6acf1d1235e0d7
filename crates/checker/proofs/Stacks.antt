-- The rows of the parts, as operations come and go.
use Rattle.std.proofs.Common.{◌≡◌, ℕ, zero, suc, ◌+◌, ◌/◌, ◌%◌, ◌^◌, ◌<◌, ◌≤◌, false, ◌≢◌, List, [], ◌∷◌, length, get_or, set, sym, ap, ◌∙◌, subst, pow-suc, arith, get_or-set_other, get_or-set_same}
use lib.Bits.{bit_or}
use lib.Count.{ones, ones_step, ones-le}
use Rattle.std.proofs.lemmas.Bool.{eqb-false}
use Rattle.sets.specs.Sets.{has}
use Rattle.sets.specs.declared.rows.Row.{Row}
use Rattle.sets.proofs.Bits.{has_zero, has_suc}
use Rattle.sets.proofs.Masks.{or_one}
use Rattle.plans.specs.Plans.{Plan}
use Rattle.checker.specs.Taken.{Shows, Stacked}

-- ---- there are no more parts than tables

pub one_more_one : (S i : ℕ) → has S i ≡ false → ones (S + 2 ^ i) ≡ suc (ones S)
one_more_one S zero h =
    let even = eqb-false (S % 2) 1 (sym (has_zero S) ∙ h) in
    let half : ones ((S + 1) / 2) ≡ ones (S / 2) = ap ones (omega arith) in
    omega (arith, ones_step (S + 1), ones_step S, half)
one_more_one S (suc i) h =
    let half : (S + 2 ^ suc i) / 2 ≡ S / 2 + 2 ^ i = omega (arith, pow-suc 2 i) in
    let low : (S + 2 ^ suc i) % 2 ≡ S % 2 = omega (arith, pow-suc 2 i) in
    let more = one_more_one (S / 2) i (sym (has_suc S i) ∙ h) in
    omega (arith, ones_step (S + 2 ^ suc i), ones_step S, ap ones half, more)

pub deeper : (S T i n : ℕ) → has S i ≡ false → T ≡ bit_or S (2 ^ i) → n ≤ ones S → n + 1 ≤ ones T
deeper S T i n h e few = omega (arith, one_more_one S i h, ap ones (e ∙ or_one S i h))

pub at_most_ten : (S n : ℕ) → S < 1024 → n ≤ ones S → n ≤ 10
at_most_ten S n h few = omega (arith, ones-le 10 S h)

-- ---- rows

pub stacked_below : (rows : List Row) (k : ℕ) (row : Row) (parts : List Plan) → length parts ≤ k → Stacked rows parts → Stacked (set rows k row) parts
unfolding Stacked
stacked_below rows k row [] h s = tt
stacked_below rows k row (p ∷ parts) h s =
    let ne : length parts ≢ k = omega arith in
    (λ d. subst (λ r. Shows r p) (sym (get_or-set_other rows k (length parts) row d ne)) (s.0 d), stacked_below rows k row parts (omega arith) s.1)

pub stacked_on : (rows : List Row) (k : ℕ) (row : Row) (p : Plan) (parts : List Plan) → k ≡ length parts → k < length rows → Shows row p → Stacked rows parts → Stacked (set rows k row) (p ∷ parts)
unfolding Stacked
stacked_on rows k row p parts e h w s =
    (λ d. subst (λ r. Shows r p) (sym (ap (λ (n : ℕ). get_or (set rows k row) n d) (sym e) ∙ get_or-set_same rows k row d h)) w, stacked_below rows k row parts (omega arith) s)
