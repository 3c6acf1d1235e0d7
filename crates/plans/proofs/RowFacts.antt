-- What a row says of itself: the price of each candidate by its parts' prices, and what its choice number tells.
use Rattle.std.proofs.Common.{◌≡◌, ℕ, ◌+◌, ◌-◌, ◌*◌, ◌^◌, ◌<◌, ◌≤◌, min, Bool, true, false, cond, ◌&&◌, List, [], ◌∷◌, Some, None, filter, Option, sym, refl, ap, ◌∙◌, subst, ap₂, arith}
use lib.Bits.{bit_and}
use Rattle.std.specs.List.{range_with_len, AllByRecursion as All}
use Rattle.std.proofs.ByRecursion.{kept_by_passes, All-weaker}
use Rattle.sets.specs.Sets.{has, members, ◌⊆◌}
use Rattle.plans.specs.Questions.{Question, base, size_of, narrowed, size, across, up}
use Rattle.plans.specs.declared.predicates.Test.{Test}
use Rattle.plans.specs.Plans.{Plan, bare, test, join, tables, tests}
use Rattle.pricing.specs.Models.{Model}
use Rattle.plans.specs.Prices.{price}
use Rattle.plans.specs.Recurrence.{opt, code}
use Rattle.sets.proofs.Bits.{has_and}
use Rattle.sets.proofs.Parts.{rest_sum, meet_part, tests_shared}
use Rattle.plans.proofs.Rows.{Splits, test_smaller, opt_comes}
use Rattle.plans.proofs.Optimal.{sound}

-- ---- the size goes by the tests on R alone

base_same : (Q : Question) (S S' i : ℕ) → has S i ≡ has S' i → base Q S i ≡ base Q S' i
unfolding base
base_same Q S S' i e = go (Q.test i)
  where
    of : ℕ → Option Test → ℕ
    of s o = elim o [ Some t ↦ cond (has s i) (up (Q.rows i * t.p) t.q) (Q.rows i) | None ↦ Q.rows i ]

    go : (o : Option Test) → of S o ≡ of S' o
    go None = refl
    go (Some t) = ap (λ (b : Bool). cond b (up (Q.rows i * t.p) t.q) (Q.rows i)) e

size_of_same : (Q : Question) (S S' : ℕ) (is : List ℕ) → All (λ i. has S i ≡ has S' i) is → size_of Q S is ≡ size_of Q S' is
unfolding size_of
size_of_same Q S S' [] h = refl
size_of_same Q S S' (i ∷ is) h = ap₂ (λ (x y : ℕ). min 16777215 (narrowed Q i is (x * y))) (base_same Q S S' i h.0) (size_of_same Q S S' is h.1)

pub size_same : (Q : Question) (R S S' : ℕ) → bit_and S R ≡ bit_and S' R → size Q R S ≡ size Q R S'
unfolding members
size_same Q R S S' e =
    size_of_same Q S S' (filter (has R) (range_with_len 0 Q.count)) (All-weaker (λ i. has R i ≡ true) (λ i. has S i ≡ has S' i) same _ (kept_by_passes (has R) (range_with_len 0 Q.count)))
  where
    same : (i : ℕ) → has R i ≡ true → has S i ≡ has S' i
    same i h = sym (and_true (has S i)) ∙ ap (λ (b : Bool). has S i && b) (sym h) ∙ sym (has_and S R i) ∙ ap (λ (n : ℕ). has n i) e ∙ has_and S' R i ∙ ap (λ (b : Bool). has S' i && b) h ∙ and_true (has S' i)
      where
        and_true : (b : Bool) → (b && true) ≡ b
        and_true true = refl
        and_true false = refl

module _ {P : Type 0} (m : Model P) (Q : Question) where
  -- ---- prices

  pub join_price : (R S L : ℕ) (l r : Plan) → S ⊆ R → Splits Q R L → opt m Q L (bit_and S L) ≡ Some l → opt m Q (R - L) (bit_and S (R - L)) ≡ Some r
      → price m Q (join l r) ≡ m.joined (price m Q l) (price m Q r) (size Q L (bit_and S L)) (size Q (R - L) (bit_and S (R - L))) (size Q R S) (across Q L (R - L))
  unfolding price
  join_price R S L l r e s a b =
      let u = sound m Q L (bit_and S L) l (meet_part S L) a in
      let v = sound m Q (R - L) (bit_and S (R - L)) r (meet_part S (R - L)) b in
      same _ _ _ _ _ _ _ _ (ap₂ (size Q) u.just_tables u.just_tests) (ap₂ (size Q) v.just_tables v.just_tests)
      (ap₂ (size Q) (ap₂ ◌+◌ u.just_tables v.just_tables ∙ rest_sum L R s.part) (ap₂ ◌+◌ u.just_tests v.just_tests ∙ tests_shared S L R s.part e))
      (ap₂ (across Q) u.just_tables v.just_tables)
    where
      same : (a b n c a' b' n' c' : ℕ) → a ≡ a' → b ≡ b' → n ≡ n' → c ≡ c' → m.joined (price m Q l) (price m Q r) a b n c ≡ m.joined (price m Q l) (price m Q r) a' b' n' c'
      same a b n c a' b' n' c' ea eb en ec = rw (ea, eb, en, ec)

  pub test_price : (R S i : ℕ) (p : Plan) (t : Test) → S ⊆ R → has S i ≡ true → Q.test i ≡ Some t → opt m Q R (S - 2 ^ i) ≡ Some p
      → price m Q (test i p) ≡ m.tested (price m Q p) (size Q R (S - 2 ^ i)) t.cost t.kind
  unfolding price
  test_price R S i p t e h k o =
      let v = sound m Q R (S - 2 ^ i) p ((test_smaller R S i h).own e) o in
      ap of k ∙ ap (λ (n : ℕ). m.tested (price m Q p) n t.cost t.kind) (ap₂ (size Q) v.just_tables v.just_tests)
    where
      of : Option Test → P
      of o = elim o [ Some t ↦ m.tested (price m Q p) (size Q (tables p) (tests p)) t.cost t.kind | None ↦ price m Q p ]

  -- ---- choices

  pub told_none : (R S : ℕ) → code (opt m Q R S) ≡ 0 → opt m Q R S ≡ None
  unfolding code
  told_none R S = go (opt m Q R S)
    where
      go : (o : Option Plan) → code o ≡ 0 → o ≡ None
      go None e = refl
      go (Some (bare i)) e = absurd (omega arith)
      go (Some (test i p)) e = absurd (omega arith)
      go (Some (join l r)) e = absurd (omega arith)

  pub told_bare : (R S : ℕ) → code (opt m Q R S) ≡ 1 → (i : ℕ) × (i < Q.count) × (R ≡ 2 ^ i) × (S ≡ 0) × (opt m Q R S ≡ Some (bare i))
  unfolding code
  told_bare R S = go (opt m Q R S) refl
    where
      go : (o : Option Plan) → opt m Q R S ≡ o → code o ≡ 1 → (i : ℕ) × (i < Q.count) × (R ≡ 2 ^ i) × (S ≡ 0) × (opt m Q R S ≡ Some (bare i))
      go None h e = absurd (omega arith)
      go (Some (bare i)) h e = let c = opt_comes m Q R S (bare i) h in (i, c.0, c.1, c.2, h)
      go (Some (test i p)) h e = absurd (omega arith)
      go (Some (join l r)) h e = absurd (omega arith)

  pub told_test : (R S i : ℕ) → i < 3840 → code (opt m Q R S) ≡ 256 + i → (p : Plan) × (i < Q.count) × (has S i ≡ true) × (opt m Q R S ≡ Some (test i p)) × (opt m Q R (S - 2 ^ i) ≡ Some p)
  unfolding code
  told_test R S i k = go (opt m Q R S) refl
    where
      Told : ℕ → Type 0
      Told j = (p : Plan) × (j < Q.count) × (has S j ≡ true) × (opt m Q R S ≡ Some (test j p)) × (opt m Q R (S - 2 ^ j) ≡ Some p)

      go : (o : Option Plan) → opt m Q R S ≡ o → code o ≡ 256 + i → Told i
      go None h e = absurd (omega arith)
      go (Some (bare j)) h e = absurd (omega arith)
      go (Some (test j p)) h e =
          let c = opt_comes m Q R S (test j p) h in
          let same : j ≡ i = omega arith in
          subst Told same (p, c.0, c.1, h, c.3)
      go (Some (join l r)) h e = absurd (omega arith)

  pub told_join : (R S L : ℕ) → Q.count ≤ 3840 → code (opt m Q R S) ≡ 4096 + L → (l : Plan) × (r : Plan) × Splits Q R L × (opt m Q R S ≡ Some (join l r)) × (opt m Q L (bit_and S L) ≡ Some l) × (opt m Q (R - L) (bit_and S (R - L)) ≡ Some r)
  unfolding code
  told_join R S L k = go (opt m Q R S) refl
    where
      Told : ℕ → Type 0
      Told L = (l : Plan) × (r : Plan) × Splits Q R L × (opt m Q R S ≡ Some (join l r)) × (opt m Q L (bit_and S L) ≡ Some l) × (opt m Q (R - L) (bit_and S (R - L)) ≡ Some r)

      go : (o : Option Plan) → opt m Q R S ≡ o → code o ≡ 4096 + L → Told L
      go None h e = absurd (omega arith)
      go (Some (bare j)) h e = absurd (omega arith)
      go (Some (test j p)) h e = let c = (opt_comes m Q R S (test j p) h).0 in absurd (omega arith)
      go (Some (join l r)) h e =
          let c = opt_comes m Q R S (join l r) h in
          let v = (sound m Q c.0 (bit_and S c.0) l (meet_part S c.0) c.2).just_tables in
          let same : c.0 ≡ L = omega arith in
          subst Told same (l, r, c.1, h, c.2, c.3)
