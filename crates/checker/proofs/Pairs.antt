-- Bytes, two at a time.
use Rattle.std.proofs.Common.{◌≡◌, ℕ, ◌-◌, ◌<◌, ◌≤◌, true, false, ◌&&◌, eqb, List, [], ◌∷◌, length, get_or, take, drop, Some, None, sym, refl, ap, arith}
use Rattle.std.proofs.lemmas.List.{take_rest}
use Rattle.std.proofs.lemmas.Bool.{eqb-true, true≢false}
use Rattle.plans.specs.Plans.{Plan}
use Rattle.plans.specs.Questions.{Question}
use Rattle.plans.specs.Spelling.{and_then}
use Rattle.checker.specs.Checks.{named, named_pairs}
use Rattle.checker.specs.Steps.{step, steps}
use Rattle.checker.proofs.Sound.{nothing}

-- What follows the first two.
abbrev pub rest_of : List ℕ → List ℕ
rest_of xs = take (length xs - 2) (drop 2 xs)

pub two_first : (xs : List ℕ) → 2 ≤ length xs → xs ≡ get_or xs 0 0 ∷ get_or xs 1 0 ∷ rest_of xs
two_first [] h = absurd (omega arith)
two_first (a ∷ []) h = absurd (omega arith)
two_first (a ∷ b ∷ xs) h = ap (λ ys. a ∷ b ∷ ys) (sym (take_rest (a ∷ b ∷ xs) 2))

pub named_two : (Q : Question) (xs : List ℕ) → 2 ≤ length xs → named_pairs Q xs ≡ (named Q (get_or xs 0 0) (get_or xs 1 0) && named_pairs Q (rest_of xs))
unfolding named_pairs
named_two Q xs h = ap (named_pairs Q) (two_first xs h)

pub named_end : (Q : Question) (xs : List ℕ) → length xs < 2 → eqb (length xs) 0 ≡ named_pairs Q xs
unfolding named_pairs
named_end Q [] h = refl
named_end Q (a ∷ []) h = refl
named_end Q (a ∷ b ∷ xs) h = absurd (omega arith)

-- ---- steps, two bytes at a time

module _ (Q : Question) (xs : List ℕ) (parts : List Plan) where
  pub two_steps : 2 ≤ length xs → steps Q xs parts ≡ and_then (step Q (get_or xs 0 0) (get_or xs 1 0) parts) (steps Q (rest_of xs))
  unfolding steps
  two_steps h = ap (λ bs. steps Q bs parts) (two_first xs h)

  pub steps_done : eqb (length xs) 0 ≡ true → steps Q xs parts ≡ Some parts
  unfolding steps
  steps_done h = ap (λ bs. steps Q bs parts) (none_left xs (eqb-true (length xs) 0 h))
    where
      none_left : (ys : List ℕ) → length ys ≡ 0 → ys ≡ []
      none_left [] e = refl
      none_left (y ∷ ys) e = absurd (omega arith)

  pub steps_odd : length xs < 2 → eqb (length xs) 0 ≡ false → steps Q xs parts ≡ None
  unfolding steps
  steps_odd few h = go xs few h
    where
      go : (ys : List ℕ) → length ys < 2 → eqb (length ys) 0 ≡ false → steps Q ys parts ≡ None
      go [] few h = absurd (true≢false h)
      go (y ∷ []) few h = refl
      go (y ∷ z ∷ ys) few h = absurd (omega arith)

  pub all_read : (all : List Plan) → length xs < 2 → steps Q xs parts ≡ Some all → parts ≡ all
  unfolding steps
  all_read all few e = go xs few e
    where
      go : (ys : List ℕ) → length ys < 2 → steps Q ys parts ≡ Some all → parts ≡ all
      go [] few e = cc
      go (y ∷ []) few e = nothing all e
      go (y ∷ z ∷ ys) few e = absurd (omega arith)
