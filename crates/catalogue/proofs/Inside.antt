-- The costs inside a set cut in two: those inside each side, and those across.
use Rattle.std.proofs.Common.{◌≡◌, ℕ, zero, suc, ◌+◌, ◌^◌, ◌<◌, Bool, true, false, cond, ◌||◌, ◌≢◌, sym, refl, ap, ◌∙◌, ap₂, ⊎_elim, arith}
use lib.Bits.{bit_and}
use Rattle.std.proofs.lemmas.Bool.{cases_eq, eqb-true, ne_eqb, false≢true}
use Rattle.sets.specs.Sets.{has, sum_below}
use Rattle.sets.proofs.Bits.{has_sum, has_pow, has_pow_self, zero_bits, apart_has}
use Rattle.plans.specs.Questions.{Question, all_tables, cost_of, across}
use Rattle.catalogue.specs.Within.{inside}
use Rattle.catalogue.proofs.OneWay.{CostsBothWays}
use Rattle.catalogue.proofs.Near.{all_given}

-- ---- sums

sum_same : (f g : ℕ → ℕ) (n : ℕ) → ((i : ℕ) → i < n → f i ≡ g i) → sum_below f n ≡ sum_below g n
unfolding sum_below
sum_same f g zero h = refl
sum_same f g (suc n) h = ap₂ ◌+◌ (sum_same f g n (λ i l. h i (omega arith))) (h n (omega arith))

sum_both : (f g h : ℕ → ℕ) (n : ℕ) → ((i : ℕ) → i < n → h i ≡ f i + g i) → sum_below h n ≡ sum_below f n + sum_below g n
unfolding sum_below
sum_both f g h zero e = refl
sum_both f g h (suc n) e = omega (arith, sum_both f g h n (λ i l. e i (omega arith)), e n (omega arith))

sum_zero : (f : ℕ → ℕ) (n : ℕ) → ((i : ℕ) → i < n → f i ≡ 0) → sum_below f n ≡ 0
unfolding sum_below
sum_zero f zero h = refl
sum_zero f (suc n) h = omega (arith, sum_zero f n (λ i l. h i (omega arith)), h n (omega arith))

sum_next : (f : ℕ → ℕ) (n : ℕ) → sum_below f (suc n) ≡ sum_below f n + f n
unfolding sum_below
sum_next f n = refl

-- f at t alone
sum_at : (f : ℕ → ℕ) (t n : ℕ) → t < n → ((i : ℕ) → i < n → i ≢ t → f i ≡ 0) → sum_below f n ≡ f t
sum_at f t zero l h = absurd (omega arith)
sum_at f t (suc n) l h = sum_next f n ∙ ⊎_elim
    (λ same. omega (arith, sum_zero f n (λ i k. h i (omega arith) (omega arith)), ap f same))
    (λ ne. omega (arith, sum_at f t n (omega (arith, ne)) (λ i k. h i (omega arith)), h n (omega arith) (λ e. ne (sym e))))
    (cases_eq t n)

-- ---- costs into a set, and across

module _ (Q : Question) where
  -- of the ties of a table to those of a set below n
  into : (i n R : ℕ) → ℕ
  into i n R = sum_below (λ j. cond (has R j) (cost_of Q i j) 0) n

  -- of the ties between those of two sets, the one below n, the other below k
  over : (n k A B : ℕ) → ℕ
  over n k A B = sum_below (λ i. cond (has A i) (into i k B) 0) n

  -- of the ties of those of a set below n to those below them
  below : (n R : ℕ) → ℕ
  below n R = sum_below (λ i. cond (has R i) (into i i R) 0) n

  module _ (both_ways : CostsBothWays Q) (A B : ℕ) (apart : bit_and A B ≡ 0) where
    into_sum : (i n : ℕ) → into i n (A + B) ≡ into i n A + into i n B
    unfolding into
    into_sum i n = sum_both _ _ _ n (λ j l.
        ap (λ (b : Bool). cond b (cost_of Q i j) 0) (has_sum A B j apart) ∙ go (cost_of Q i j) (has A j) (has B j) (apart_has A B j apart))
      where
        go : (c : ℕ) (a b : Bool) → (a ≡ true → b ≡ false) → cond (a || b) c 0 ≡ cond a c 0 + cond b c 0
        go c true true f = absurd (false≢true (sym (f refl)))
        go c true false f = omega arith
        go c false true f = omega arith
        go c false false f = refl

    -- one table more on the right
    over_right : (n k : ℕ) → over n (suc k) A B ≡ over n k A B + cond (has B k) (into k n A) 0
    unfolding over into
    over_right n k = go (has B k) refl
      where
        kept : (a : Bool) (x y : ℕ) → x ≡ y → cond a x 0 ≡ cond a y 0
        kept true x y e = e
        kept false x y e = refl

        more : (a : Bool) (x y z c : ℕ) → x ≡ y + z → z ≡ c → cond a x 0 ≡ cond a y 0 + cond a c 0
        more true x y z c e f = omega arith
        more false x y z c e f = refl

        term : (b : Bool) → has B k ≡ b → (i : ℕ) → into i (suc k) B ≡ into i k B + cond b (cost_of Q i k) 0
        term b e i = sum_next _ k ∙ ap (λ (x : Bool). into i k B + cond x (cost_of Q i k) 0) e

        go : (b : Bool) → has B k ≡ b → over n (suc k) A B ≡ over n k A B + cond b (into k n A) 0
        go true e = sum_both _ _ _ n (λ i l. more (has A i) _ _ _ _ (term true e i) (both_ways i k))
        go false e = sum_same _ _ n (λ i l. kept (has A i) _ _ (let z : into i (suc k) B ≡ into i k B = omega (arith, term false e i) in z)) ∙ omega arith

    cut_at : (n : ℕ) → below n (A + B) ≡ below n A + below n B + over n n A B
    unfolding below over into sum_below
    cut_at zero = refl
    cut_at (suc n) =
        sum_next _ n ∙ ap₂ ◌+◌ (cut_at n) (ap₂ (λ (b : Bool) (x : ℕ). cond b x 0) (has_sum A B n apart) (into_sum n n))
        ∙ go (has A n) (has B n) (apart_has A B n apart) (below n A) (below n B) (over n n A B) (into n n A) (into n n B) (cost_of Q n n)
        ∙ sym (ap₂ ◌+◌ (ap₂ ◌+◌ (sum_next _ n) (sum_next _ n)) (sum_next _ n ∙ ap₂ ◌+◌ (over_right n n) (ap (λ (x : ℕ). cond (has A n) x 0) (sum_next _ n))))
      where
        go : (a b : Bool) → (a ≡ true → b ≡ false) → (x y z i j c : ℕ)
            → x + y + z + cond (a || b) (i + j) 0 ≡ x + cond a i 0 + (y + cond b j 0) + (z + cond b i 0 + cond a (j + cond b c 0) 0)
        go true true f x y z i j c = absurd (false≢true (sym (f refl)))
        go true false f x y z i j c = omega arith
        go false true f x y z i j c = omega arith
        go false false f x y z i j c = omega arith

    pub inside_cut : inside Q (A + B) ≡ inside Q A + inside Q B + across Q A B
    unfolding inside across below over into
    inside_cut = cut_at Q.count

  -- ---- one table

  one_in : (t i : ℕ) → i ≢ t → has (2 ^ t) i ≡ false
  one_in t i ne = has_pow t i ∙ ne_eqb t i (λ e. ne (sym e))

  pub inside_one : (t : ℕ) → inside Q (2 ^ t) ≡ 0
  unfolding inside
  inside_one t = sum_zero _ Q.count (λ i l. go i (has (2 ^ t) i) refl)
    where
      go : (i : ℕ) (b : Bool) → has (2 ^ t) i ≡ b → cond b (sum_below (λ j. cond (has (2 ^ t) j) (cost_of Q i j) 0) i) 0 ≡ 0
      go i false e = refl
      go i true e =
          let same : t ≡ i = eqb-true t i (sym (has_pow t i) ∙ e) in
          sum_zero _ i (λ j l. ap (λ (b : Bool). cond b (cost_of Q i j) 0) (one_in t j (omega arith)))

  pub across_one : (t B : ℕ) → t < Q.count → across Q (2 ^ t) B ≡ sum_below (λ j. cond (has B j) (cost_of Q t j) 0) Q.count
  unfolding across
  across_one t B l =
      sum_at _ t Q.count l (λ i k ne. ap (λ (b : Bool). cond b (sum_below (λ j. cond (has B j) (cost_of Q i j) 0) Q.count) 0) (one_in t i ne))
      ∙ ap (λ (b : Bool). cond b (sum_below (λ j. cond (has B j) (cost_of Q t j) 0) Q.count) 0) (has_pow_self t)

  pub inside_none : inside Q 0 ≡ 0
  unfolding inside
  inside_none = sum_zero _ Q.count (λ i l. ap (λ (b : Bool). cond b (sum_below (λ j. cond (has 0 j) (cost_of Q i j) 0) i) 0) (zero_bits i))

  -- only given tables count
  pub across_given : (A B : ℕ) → across Q (bit_and A (all_tables Q)) (bit_and B (all_tables Q)) ≡ across Q A B
  unfolding across
  across_given A B = sum_same _ _ Q.count (λ i l.
      ap₂ (λ (b : Bool) (x : ℕ). cond b x 0) (all_given Q A i l) (sum_same _ _ Q.count (λ j k. ap (λ (b : Bool). cond b (cost_of Q i j) 0) (all_given Q B j k))))
