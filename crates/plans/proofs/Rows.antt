-- A row of the recurrence: where its plan comes from, that it goes by smaller rows alone, and so that the rows keep the recurrence.
use Rattle.std.proofs.Common.{◌≡◌, ℕ, zero, suc, ◌+◌, ◌-◌, ◌^◌, ◌<◌, Bool, true, false, ◌&&◌, eqb, ltb, is_some, Some, None, Option, sym, refl, ap, ◌∙◌, subst, ap₂, arith, pow_pos}
use lib.Bits.{bit_and, and_le_l}
use Rattle.std.proofs.lemmas.Bool.{and_parts, and_from, ltb-true, lt-ltb, eqb-true, eq-eqb}
use Rattle.sets.specs.Sets.{has, within, ◌⊆◌}
use Rattle.plans.specs.Questions.{Question, linked}
use Rattle.plans.specs.Plans.{Plan, bare, test, join}
use Rattle.pricing.specs.Models.{Model, Lawful}
use Rattle.plans.specs.Prices.{price}
use Rattle.plans.specs.Recurrence.{Rows, splits, both, above, alone, joining, testing, row, rows_to, opt}
use Rattle.sets.proofs.Parts.{one_le, part_self, part_chain, meet_part, meet_part_left, rest_part, without_part}
use Rattle.plans.proofs.Firsts.{some_same, none_some, NoDearer, first_one, first_same, first_start, first_of}

-- ---- the candidates

pub record Splits (Q : Question) (R L : ℕ) : Type 0 where
  pub some : 0 < L
  pub proper : L < R
  pub part : L ⊆ R
  pub tied : linked Q L (R - L) ≡ true

pub split_facts : (Q : Question) (R L : ℕ) → splits Q R L ≡ true → Splits Q R L
unfolding splits
split_facts Q R L e =
    let a = and_parts (ltb 0 L) _ e in
    let b = and_parts (ltb L R) _ a.1 in
    let c = and_parts (within L R) _ b.1 in
    record { some = ltb-true 0 L a.0; proper = ltb-true L R b.0; part = eqb-true (bit_and L R) L c.0; tied = c.1 }

pub splits_by : (Q : Question) (R L : ℕ) → Splits Q R L → splits Q R L ≡ true
unfolding splits
splits_by Q R L s =
    and_from (ltb 0 L) _ (lt-ltb 0 L s.some) (and_from (ltb L R) _ (lt-ltb L R s.proper) (and_from (within L R) _ (eq-eqb (bit_and L R) L s.part) s.tied))

-- ---- the rows that a row goes by

pub record Smaller (R S R' S' : ℕ) : Type 0 where
  pub tables_of : R' ⊆ R
  pub tests_of : S' ⊆ S
  pub own : S ⊆ R → S' ⊆ R'
  pub less : R' + S' < R + S

pub left_smaller : (Q : Question) (R S L : ℕ) → Splits Q R L → Smaller R S L (bit_and S L)
left_smaller Q R S L s =
    let a = and_le_l S L in
    let d = s.proper in
    record { tables_of = s.part; tests_of = meet_part_left S L; own = λ _. meet_part S L; less = omega arith }

pub right_smaller : (Q : Question) (R S L : ℕ) → Splits Q R L → Smaller R S (R - L) (bit_and S (R - L))
right_smaller Q R S L s =
    let a = and_le_l S (R - L) in
    let c = s.some in
    let d = s.proper in
    record { tables_of = rest_part L R s.part; tests_of = meet_part_left S (R - L); own = λ _. meet_part S (R - L); less = omega arith }

pub test_smaller : (R S i : ℕ) → has S i ≡ true → Smaller R S R (S - 2 ^ i)
test_smaller R S i h =
    let k = one_le S i h in
    let z = pow_pos i in
    let p = without_part S i h in
    record { tables_of = part_self R; tests_of = p; own = λ e. part_chain (S - 2 ^ i) S R p e; less = omega arith }

module _ (Q : Question) where
  -- How a plan comes to stand in the row of R and S.
  abbrev pub Comes : Rows → ℕ → ℕ → Plan → Type 0
  Comes rows R S (bare i) = (i < Q.count) × (R ≡ 2 ^ i) × (S ≡ 0)
  Comes rows R S (test i p) = (i < Q.count) × (has S i ≡ true) × (is_some (Q.test i) ≡ true) × (rows R (S - 2 ^ i) ≡ Some p)
  Comes rows R S (join l r) = (L : ℕ) × Splits Q R L × (rows L (bit_and S L) ≡ Some l) × (rows (R - L) (bit_and S (R - L)) ≡ Some r)

  -- what o holds comes so
  abbrev pub AllCome : Rows → ℕ → ℕ → Option Plan → Type 0
  AllCome rows R S o = (p : Plan) → o ≡ Some p → Comes rows R S p

  pub alone_shape : (R S i : ℕ) (p : Plan) → alone R S i ≡ Some p → (R ≡ 2 ^ i) × (S ≡ 0) × (bare i ≡ p)
  unfolding alone
  alone_shape R S i p e = go (eqb R (2 ^ i) && eqb S 0) refl e
    where
      go : (t : Bool) → (eqb R (2 ^ i) && eqb S 0) ≡ t → elim t as (λ _. Option Plan) [ true ↦ Some (bare i) | false ↦ None ] ≡ Some p → (R ≡ 2 ^ i) × (S ≡ 0) × (bare i ≡ p)
      go true t h =
          let k = and_parts (eqb R (2 ^ i)) (eqb S 0) t in
          (eqb-true R (2 ^ i) k.0, eqb-true S 0 k.1, some_same (bare i) p h)
      go false t h = absurd (none_some p h)

  alone_comes : (rows : Rows) (R S i : ℕ) → i < Q.count → AllCome rows R S (alone R S i)
  alone_comes rows R S i l p e = let h = alone_shape R S i p e in subst (Comes rows R S) h.2 (l, h.0, h.1)

  pub alone_is : (R S i : ℕ) → R ≡ 2 ^ i → S ≡ 0 → alone R S i ≡ Some (bare i)
  unfolding alone
  alone_is R S i e z = rw (and_from (eqb R (2 ^ i)) (eqb S 0) (eq-eqb R (2 ^ i) e) (eq-eqb S 0 z), alone)

  -- what stands at L among the joins
  abbrev pub JoinAt : Rows → ℕ → ℕ → ℕ → Plan → Type 0
  JoinAt rows R S L p = (l : Plan) × (r : Plan) × Splits Q R L × (rows L (bit_and S L) ≡ Some l) × (rows (R - L) (bit_and S (R - L)) ≡ Some r) × (join l r ≡ p)

  pub joining_shape : (rows : Rows) (R S L : ℕ) (p : Plan) → joining Q rows R S L ≡ Some p → JoinAt rows R S L p
  unfolding joining both
  joining_shape rows R S L p e = go (splits Q R L) refl e
    where
      two : Splits Q R L → (x y : Option Plan) → rows L (bit_and S L) ≡ x → rows (R - L) (bit_and S (R - L)) ≡ y → both x y ≡ Some p → JoinAt rows R S L p
      two s None y ex ey h = absurd (none_some p h)
      two s (Some l) None ex ey h = absurd (none_some p h)
      two s (Some l) (Some r) ex ey h = (l, r, s, ex, ey, some_same (join l r) p h)

      go : (t : Bool) → splits Q R L ≡ t → elim t as (λ _. Option Plan) [ true ↦ both (rows L (bit_and S L)) (rows (R - L) (bit_and S (R - L))) | false ↦ None ] ≡ Some p → JoinAt rows R S L p
      go true t h = two (split_facts Q R L t) _ _ refl refl h
      go false t h = absurd (none_some p h)

  joining_comes : (rows : Rows) (R S L : ℕ) → AllCome rows R S (joining Q rows R S L)
  joining_comes rows R S L p e = let h = joining_shape rows R S L p e in subst (Comes rows R S) h.5 (L, h.2, h.3, h.4)

  pub joining_is : (rows : Rows) (R S L : ℕ) (l r : Plan) → Splits Q R L → rows L (bit_and S L) ≡ Some l → rows (R - L) (bit_and S (R - L)) ≡ Some r → joining Q rows R S L ≡ Some (join l r)
  unfolding joining both
  joining_is rows R S L l r s ex ey = rw (splits_by Q R L s, joining) (rw (ex, ey))

  -- what stands at i among the tests
  abbrev pub TestAt : Rows → ℕ → ℕ → ℕ → Plan → Type 0
  TestAt rows R S i p = (q : Plan) × (has S i ≡ true) × (is_some (Q.test i) ≡ true) × (rows R (S - 2 ^ i) ≡ Some q) × (test i q ≡ p)

  pub testing_shape : (rows : Rows) (R S i : ℕ) (p : Plan) → testing Q rows R S i ≡ Some p → TestAt rows R S i p
  unfolding testing above
  testing_shape rows R S i p e = go (has S i && is_some (Q.test i)) refl e
    where
      one : (has S i && is_some (Q.test i)) ≡ true → (x : Option Plan) → rows R (S - 2 ^ i) ≡ x → above i x ≡ Some p → TestAt rows R S i p
      one t None ex h = absurd (none_some p h)
      one t (Some q) ex h =
          let k = and_parts (has S i) (is_some (Q.test i)) t in
          (q, k.0, k.1, ex, some_same (test i q) p h)

      go : (t : Bool) → (has S i && is_some (Q.test i)) ≡ t → elim t as (λ _. Option Plan) [ true ↦ above i (rows R (S - 2 ^ i)) | false ↦ None ] ≡ Some p → TestAt rows R S i p
      go true t h = one t _ refl h
      go false t h = absurd (none_some p h)

  testing_comes : (rows : Rows) (R S i : ℕ) → i < Q.count → AllCome rows R S (testing Q rows R S i)
  testing_comes rows R S i l p e = let h = testing_shape rows R S i p e in subst (Comes rows R S) h.4 (l, h.1, h.2, h.3)

  pub testing_is : (rows : Rows) (R S i : ℕ) (p : Plan) → has S i ≡ true → is_some (Q.test i) ≡ true → rows R (S - 2 ^ i) ≡ Some p → testing Q rows R S i ≡ Some (test i p)
  unfolding testing above
  testing_is rows R S i p h k e = rw (and_from (has S i) (is_some (Q.test i)) h k, testing) (rw e)

  -- ---- a row goes by smaller rows alone

  -- The two agree on the rows below that of R and S.
  abbrev pub Agree : Rows → Rows → ℕ → ℕ → Type 0
  Agree f g R S = (R' S' : ℕ) → Smaller R S R' S' → f R' S' ≡ g R' S'

  joining_same : (f g : Rows) (R S L : ℕ) → Agree f g R S → joining Q f R S L ≡ joining Q g R S L
  unfolding joining
  joining_same f g R S L h = go (splits Q R L) refl
    where
      go : (t : Bool) → splits Q R L ≡ t → ◌≡◌ {A = Option Plan} (elim t as (λ _. Option Plan) [ true ↦ both (f L (bit_and S L)) (f (R - L) (bit_and S (R - L))) | false ↦ None ]) (elim t as (λ _. Option Plan) [ true ↦ both (g L (bit_and S L)) (g (R - L) (bit_and S (R - L))) | false ↦ None ])
      go true t =
          let s = split_facts Q R L t in
          ap₂ both (h L (bit_and S L) (left_smaller Q R S L s)) (h (R - L) (bit_and S (R - L)) (right_smaller Q R S L s))
      go false t = refl

  testing_same : (f g : Rows) (R S i : ℕ) → Agree f g R S → testing Q f R S i ≡ testing Q g R S i
  unfolding testing
  testing_same f g R S i h = go (has S i && is_some (Q.test i)) refl
    where
      go : (t : Bool) → (has S i && is_some (Q.test i)) ≡ t → ◌≡◌ {A = Option Plan} (elim t as (λ _. Option Plan) [ true ↦ above i (f R (S - 2 ^ i)) | false ↦ None ]) (elim t as (λ _. Option Plan) [ true ↦ above i (g R (S - 2 ^ i)) | false ↦ None ])
      go true t = ap (above i) (h R (S - 2 ^ i) (test_smaller R S i (and_parts (has S i) (is_some (Q.test i)) t).0))
      go false t = refl

module _ {P : Type 0} (m : Model P) (Q : Question) where
  pub row_comes : (rows : Rows) (R S : ℕ) → AllCome Q rows R S (row m Q rows R S)
  unfolding row
  row_comes rows R S =
      first_one m Q K _ _ Q.count
      (first_one m Q K _ _ R
      (first_one m Q K None _ Q.count (λ p e. absurd (none_some p e)) (λ i l. alone_comes Q rows R S i l))
      (λ L l. joining_comes Q rows R S L))
      (λ i l. testing_comes Q rows R S i l)
    where
      K : Option Plan → Type 0
      K o = AllCome Q rows R S o

  pub row_same : (f g : Rows) (R S : ℕ) → Agree Q f g R S → row m Q f R S ≡ row m Q g R S
  unfolding row
  row_same f g R S h =
      first_same m Q _ _ (testing Q f R S) (testing Q g R S) Q.count
      (first_same m Q _ _ (joining Q f R S) (joining Q g R S) R refl (λ L l. joining_same Q f g R S L h))
      (λ i l. testing_same Q f g R S i h)

  pub rows_same : (n k : ℕ) → (R S : ℕ) → R + S < n → R + S < k → rows_to m Q n R S ≡ rows_to m Q k R S
  unfolding rows_to
  rows_same zero k R S h j = absurd (omega arith)
  rows_same (suc n) zero R S h j = absurd (omega arith)
  rows_same (suc n) (suc k) R S h j = row_same (rows_to m Q n) (rows_to m Q k) R S (λ R' S' l. let d = l.less in rows_same n k R' S' (omega arith) (omega arith))

  -- The recurrence holds.
  pub opt_row : (R S : ℕ) → opt m Q R S ≡ row m Q (opt m Q) R S
  unfolding opt rows_to
  opt_row R S = row_same (rows_to m Q (R + S)) (opt m Q) R S (λ R' S' l. rows_same (R + S) (suc (R' + S')) R' S' l.less (omega arith))

  pub opt_comes : (R S : ℕ) → AllCome Q (opt m Q) R S (opt m Q R S)
  opt_comes R S p e = row_comes (opt m Q) R S p (sym (opt_row R S) ∙ e)

  -- ---- none that comes so is cheaper

  module _ (laws : Lawful m) where
    exact : (o : Option Plan) (p : Plan) → o ≡ Some p → NoDearer m Q o p
    exact o p e = (p, e, laws.reflexive (price m Q p))

    pub row_best : (rows : Rows) (R S : ℕ) (p : Plan) → Comes Q rows R S p → NoDearer m Q (row m Q rows R S) p
    unfolding row
    row_best rows R S (bare i) c =
        first_start m Q laws _ _ Q.count _ (first_start m Q laws _ _ R _
        (first_of m Q laws None (alone R S) Q.count i _ c.0 (exact _ _ (alone_is Q R S i c.1 c.2))))
    row_best rows R S (test i p) c =
        first_of m Q laws _ (testing Q rows R S) Q.count i _ c.0 (exact _ _ (testing_is Q rows R S i p c.1 c.2 c.3))
    row_best rows R S (join l r) c =
        first_start m Q laws _ _ Q.count _
        (first_of m Q laws _ (joining Q rows R S) R c.0 _ c.1.proper (exact _ _ (joining_is Q rows R S c.0 l r c.1 c.2 c.3)))

    pub opt_best : (R S : ℕ) (p : Plan) → Comes Q (opt m Q) R S p → NoDearer m Q (opt m Q R S) p
    opt_best R S p c = rw (opt_row R S) (row_best (opt m Q) R S p c)
