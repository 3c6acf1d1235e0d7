-- A table or a kind above 255 is as missing as 255 itself.
use Rattle.std.proofs.Common.{◌≡◌, ℕ, zero, suc, ◌+◌, ◌*◌, ◌/◌, ◌<◌, ◌≤◌, min, Bool, true, false, ◌||◌, ◌⊎◌, List, [], length, get_or, drop, Err, Option, Result, sym, refl, ap, ◌∙◌, inl, inr, arith}
use native.Mathlib.Nat.{min-eq_left, min-eq_right}
use Rattle.std.proofs.lemmas.Bool.{cases_Bool, cases_lt, le-leb, leb-true, leb-false, or_cases, or_parts, or_left, or_right}
use Rattle.std.proofs.lemmas.List.{get_or-take, get_or-drop}
use Rattle.std.specs.Simd.{first_chunks}
use Rattle.pricing.specs.Kinds.{kind_of}
use Rattle.pricing.specs.declared.kinds.Kind.{Kind}
use Rattle.plans.specs.Questions.{Question}
use Rattle.catalogue.specs.Changes.{unless, missing, bad_selectivity, tied, tested, tested_by}
use Rattle.catalogue.specs.declared.refusals.ChangeRefusal.{ChangeRefusal}
use Rattle.catalogue.specs.declared.refusals.ChangeRefusal.TheVariants.{NoSuchTable, BadSelectivity}
use Rattle.bench_calls.specs.Built.{tie_at, test_at}

at_once : {X : Type 0} (b : Bool) (e : ChangeRefusal) (next : Result X ChangeRefusal) → b ≡ true → unless b e next ≡ Err e
at_once true e next h = refl
at_once false e next h = cc

same : (n : ℕ) → n < 10 → min n 255 ≡ n
same n h = omega arith

-- A number of one of the chunks.
chunk_at : (n k : ℕ) (xs : List ℕ) (j : ℕ) → k < n → j < 5 → get_or (get_or (first_chunks 5 n xs) k []) j 0 ≡ get_or xs (k * 5 + j) 0
chunk_at zero k xs j h l = absurd (omega arith)
chunk_at (suc n) zero xs j h l = get_or-take 5 xs j 0 l ∙ ap (λ (i : ℕ). get_or xs i 0) (let e : j ≡ 0 * 5 + j = omega arith in e)
chunk_at (suc n) (suc k) xs j h l =
    chunk_at n k (drop 5 xs) j (omega arith) l ∙ get_or-drop 5 xs (k * 5 + j) 0 ∙ ap (λ (i : ℕ). get_or xs i 0) (let e : 5 + (k * 5 + j) ≡ suc k * 5 + j = omega arith in e)

alike : {X : Type 0} (call : (a b c d e : ℕ) → X) (a a' b b' c c' d d' e e' : ℕ) → a ≡ a' → b ≡ b' → c ≡ c' → d ≡ d' → e ≡ e' → call a b c d e ≡ call a' b' c' d' e'
alike call a a' b b' c c' d d' e e' p q r s t = cc

module _ (Q : Question) (few : Q.count ≤ 10) where
  still_missing : (a : ℕ) → missing Q a ≡ true → missing Q (min a 255) ≡ true
  still_missing a m = le-leb Q.count (min a 255) (omega (arith, leb-true Q.count a m))

  pub tied_clipped : (a b p q cost : ℕ) → tied Q (min a 255) (min b 255) p q cost ≡ tied Q a b p q cost
  tied_clipped a b p q cost = by (cases_Bool (missing Q a || missing Q b))
    where
      gone : (missing Q a ≡ true) ⊎ (missing Q b ≡ true) → (missing Q (min a 255) || missing Q (min b 255)) ≡ true
      gone (inl h) = or_left _ _ (still_missing a h)
      gone (inr h) = or_right _ _ (still_missing b h)

      by : ((missing Q a || missing Q b) ≡ true) ⊎ ((missing Q a || missing Q b) ≡ false) → tied Q (min a 255) (min b 255) p q cost ≡ tied Q a b p q cost
      by (inl h) = at_once _ NoSuchTable _ (gone (or_cases _ _ h)) ∙ sym (at_once _ NoSuchTable _ h)
      by (inr h) =
          let parts = or_parts (missing Q a) (missing Q b) h in
          let low = same a (omega (arith, leb-false Q.count a parts.0)) in
          let high = same b (omega (arith, leb-false Q.count b parts.1)) in
          ap (λ (n : ℕ). tied Q n (min b 255) p q cost) low ∙ ap (λ (n : ℕ). tied Q a n p q cost) high

  pub tested_clipped : (a p q cost k : ℕ) → tested Q (min a 255) p q cost (min k 255) ≡ tested Q a p q cost k
  tested_clipped a p q cost k =
      by (cases_Bool (missing Q a)) ∙ ap (λ (o : Option Kind). unless (missing Q a) NoSuchTable (unless (bad_selectivity p q) BadSelectivity (tested_by Q a p q cost o))) (kinds (cases_lt 255 k))
    where
      none : (n : ℕ) → 255 < n → kind_of 255 ≡ kind_of n
      none zero h = absurd (omega arith)
      none (suc zero) h = absurd (omega arith)
      none (suc (suc n)) h = refl

      kinds : (255 < k) ⊎ (k ≤ 255) → kind_of (min k 255) ≡ kind_of k
      kinds (inl h) = ap kind_of (min-eq_right {n = 255} {m = k} (let l : 255 ≤ k = omega arith in l)) ∙ none k h
      kinds (inr h) = ap kind_of (min-eq_left h)

      by : (missing Q a ≡ true) ⊎ (missing Q a ≡ false) → tested Q (min a 255) p q cost (min k 255) ≡ tested Q a p q cost (min k 255)
      by (inl h) = at_once _ NoSuchTable _ (still_missing a h) ∙ sym (at_once _ NoSuchTable _ h)
      by (inr h) = ap (λ (n : ℕ). tested Q n p q cost (min k 255)) (same a (omega (arith, leb-false Q.count a h)))

  module _ (xs : List ℕ) (chunks : List (List ℕ)) (k : ℕ) (front : chunks ≡ first_chunks 5 (length xs / 5) xs) (h : k < length xs / 5) where
    abbrev number : (j : ℕ) → ℕ
    number j = get_or (get_or chunks k []) j 0

    entry : (j : ℕ) → j < 5 → get_or xs (k * 5 + j) 0 ≡ number j
    entry j l = sym (ap (λ (cs : List (List ℕ)). get_or (get_or cs k []) j 0) front ∙ chunk_at (length xs / 5) k xs j h l)

    first : get_or xs (k * 5) 0 ≡ number 0
    first = ap (λ (i : ℕ). get_or xs i 0) (let e : k * 5 ≡ k * 5 + 0 = omega arith in e) ∙ entry 0 (omega arith)

    pub tie_clipped : (x y : ℕ) → x ≡ min (number 0) 255 → y ≡ min (number 1) 255 → tie_at xs Q k ≡ tied Q x y (number 2) (number 3) (number 4)
    tie_clipped x y e f =
        alike (tied Q) _ _ _ _ _ _ _ _ _ _ first (entry 1 (omega arith)) (entry 2 (omega arith)) (entry 3 (omega arith)) (entry 4 (omega arith))
        ∙ sym (tied_clipped (number 0) (number 1) (number 2) (number 3) (number 4))
        ∙ alike (tied Q) _ _ _ _ (number 2) _ (number 3) _ (number 4) _ (sym e) (sym f) refl refl refl

    pub test_clipped : (x y : ℕ) → x ≡ min (number 0) 255 → y ≡ min (number 4) 255 → test_at xs Q k ≡ tested Q x (number 1) (number 2) (number 3) y
    test_clipped x y e f =
        alike (tested Q) _ _ _ _ _ _ _ _ _ _ first (entry 1 (omega arith)) (entry 2 (omega arith)) (entry 3 (omega arith)) (entry 4 (omega arith))
        ∙ sym (tested_clipped (number 0) (number 1) (number 2) (number 3) (number 4))
        ∙ alike (tested Q) _ _ (number 1) _ (number 2) _ (number 3) _ _ _ (sym e) refl refl refl (sym f)
