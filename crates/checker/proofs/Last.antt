-- The last operations above each number of unjoined parts, as operations come.
use Rattle.std.proofs.Common.{◌≡◌, ℕ, suc, ◌-◌, ◌<◌, ◌≤◌, ◌≢◌, List, [], ◌∷◌, length, Some, None, Option, sym, refl, ap, ◌∙◌, ⊎_elim, arith}
use Rattle.std.proofs.lemmas.Bool.{le-leb, lt-leb, cases_lt}
use Rattle.plans.specs.Plans.{Plan, bare, test, join}
use Rattle.plans.specs.Prices.{or_else, last_above}
use Rattle.checker.specs.Stored.{last_in}

-- ---- from the place of a part upwards, and below it

from_place : (k : ℕ) (p : Plan) (parts : List Plan) → length parts ≤ k → last_in k (p ∷ parts) ≡ or_else (last_above (k - length parts) p) (last_in k parts)
unfolding last_in
from_place k p parts h = rw (last_in, le-leb (length parts) k h)

pub below_place : (k : ℕ) (p : Plan) (parts : List Plan) → k < length parts → last_in k (p ∷ parts) ≡ last_in k parts
unfolding last_in
below_place k p parts h = rw (last_in, lt-leb (length parts) k h)

-- At its own place a part is the last.
pub at_place : (k : ℕ) (p : Plan) (parts : List Plan) → k ≡ length parts → last_in k (p ∷ parts) ≡ Some p
unfolding last_above
at_place k p parts e =
    let none : k - length parts ≡ 0 = omega arith in
    from_place k p parts (omega arith) ∙ ap (λ (n : ℕ). or_else (last_above n p) (last_in k parts)) none

-- ---- elsewhere an operation changes nothing

above_by : (k n : ℕ) → n ≤ k → k ≢ n → k - n ≡ suc (k - suc n)
above_by k n h ne = omega arith

or_none : {X : Type 0} (o : Option X) → or_else o None ≡ o
or_none (Some x) = refl
or_none None = refl

or_chain : {X : Type 0} (a b c : Option X) → or_else (or_else a b) c ≡ or_else a (or_else b c)
or_chain (Some x) b c = refl
or_chain None b c = refl

module _ (k : ℕ) where
  elsewhere : (p q : Plan) (parts : List Plan) → k ≢ length parts → last_above (suc (k - suc (length parts))) p ≡ last_above (suc (k - suc (length parts))) q → last_in k (p ∷ parts) ≡ last_in k (q ∷ parts)
  elsewhere p q parts ne e = ⊎_elim under over (cases_lt k (length parts))
    where
      over : length parts ≤ k → last_in k (p ∷ parts) ≡ last_in k (q ∷ parts)
      over h =
          let up = above_by k (length parts) h ne in
          from_place k p parts h ∙ ap (λ o. or_else o (last_in k parts)) (ap (λ (n : ℕ). last_above n p) up ∙ e ∙ ap (λ (n : ℕ). last_above n q) (sym up)) ∙ sym (from_place k q parts h)

      under : k < length parts → last_in k (p ∷ parts) ≡ last_in k (q ∷ parts)
      under h = below_place k p parts h ∙ sym (below_place k q parts h)

  pub table_elsewhere : (i : ℕ) (parts : List Plan) → k ≢ length parts → last_in k (bare i ∷ parts) ≡ last_in k parts
  unfolding last_above
  table_elsewhere i parts ne =
      ⊎_elim (below_place k (bare i) parts)
      (λ h. from_place k (bare i) parts h ∙ ap (λ (n : ℕ). or_else (last_above n (bare i)) (last_in k parts)) (above_by k (length parts) h ne)) (cases_lt k (length parts))

  pub test_elsewhere : (i : ℕ) (p : Plan) (parts : List Plan) → k ≢ length parts → last_in k (test i p ∷ parts) ≡ last_in k (p ∷ parts)
  unfolding last_above
  test_elsewhere i p parts ne = elsewhere (test i p) p parts ne refl

  pub join_elsewhere : (l r : Plan) (parts : List Plan) → k ≢ length parts → last_in k (join l r ∷ parts) ≡ last_in k (r ∷ l ∷ parts)
  unfolding last_above
  join_elsewhere l r parts ne = ⊎_elim under over (cases_lt k (length parts))
    where
      over : length parts ≤ k → last_in k (join l r ∷ parts) ≡ last_in k (r ∷ l ∷ parts)
      over h =
          let up = above_by k (length parts) h ne in
          from_place k (join l r) parts h ∙ ap (λ (n : ℕ). or_else (last_above n (join l r)) (last_in k parts)) up
          ∙ or_chain (last_above (k - suc (length parts)) r) (last_above (suc (k - suc (length parts))) l) (last_in k parts)
          ∙ ap (or_else (last_above (k - suc (length parts)) r)) (ap (λ (n : ℕ). or_else (last_above n l) (last_in k parts)) (sym up) ∙ sym (from_place k l parts h))
          ∙ sym (from_place k r (l ∷ parts) (omega arith))

      under : k < length parts → last_in k (join l r ∷ parts) ≡ last_in k (r ∷ l ∷ parts)
      under h = below_place k (join l r) parts h ∙ sym (below_place k r (l ∷ parts) (omega arith) ∙ below_place k l parts h)

  -- Where one part is left, its operations are all.
  pub lone_last : (p : Plan) → last_in k (p ∷ []) ≡ last_above k p
  unfolding last_in
  lone_last p =
      let same : k - 0 ≡ k = omega arith in
      from_place k p [] (omega arith) ∙ or_none (last_above (k - 0) p) ∙ ap (λ (n : ℕ). last_above n p) same
