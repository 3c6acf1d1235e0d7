-- The rows hold valid plans, one where there is any, and none is cheaper.
use Rattle.std.proofs.Common.{◌≡◌, ℕ, zero, suc, ◌+◌, ◌-◌, ◌^◌, ◌<◌, Bool, true, false, cond, ◌||◌, is_some, Some, None, Option, sym, refl, ap, ◌∙◌, ap₂, ⊎_elim, arith, pow_pos}
use lib.Bits.{bit_and, and_zero_l}
use Rattle.sets.specs.Sets.{has, ◌⊆◌}
use Rattle.pricing.specs.declared.kinds.Kind.{Kind}
use Rattle.plans.specs.Questions.{Question, linked, size, charged, across}
use Rattle.plans.specs.declared.predicates.Test.{Test}
use Rattle.plans.specs.Plans.{Plan, bare, test, join, tables, tests, WellFormed, Valid, table_times, test_times}
use Rattle.pricing.specs.Models.{Model, Lawful}
use Rattle.plans.specs.Prices.{price}
use Rattle.plans.specs.Recurrence.{opt}
use Rattle.std.proofs.lemmas.Bool.{eqb-true, or_cases, true≢false}
use Rattle.sets.proofs.Bits.{zero_bits, part_has, apart_has, has_pow, has_sum}
use Rattle.sets.proofs.Parts.{rest_sum, rest_apart, meet_part, tests_shared, sum_part, side_tests, other_tests, sum_parts, parts_apart, one_apart, without, without_with, one_more, one_more_part}
use Rattle.plans.proofs.Links.{linked_means, linked_by}
use Rattle.plans.proofs.Firsts.{some_same, NoDearer}
use Rattle.plans.proofs.Rows.{Splits, Smaller, left_smaller, right_smaller, test_smaller, Comes, opt_comes, opt_best}

-- ---- any plan

pub tables_some : (p : Plan) → 0 < tables p
unfolding tables
tables_some (bare i) = pow_pos i
tables_some (test i p) = tables_some p
tables_some (join l r) = let a = tables_some l in let b = tables_some r in omega arith

pub tests_part : (Q : Question) (p : Plan) → WellFormed Q p → tests p ⊆ tables p
unfolding tables tests WellFormed
tests_part Q (bare i) w = and_zero_l (2 ^ i)
tests_part Q (test i p) w = one_more_part (tests p) (tables p) i (tests_part Q p w.0) w.2 w.3
tests_part Q (join l r) w = sum_parts (tests l) (tests r) (tables l) (tables r) (tests_part Q l w.0) (tests_part Q r w.1) w.2

pub table_below : (Q : Question) (p : Plan) (i : ℕ) → WellFormed Q p → has (tables p) i ≡ true → i < Q.count
unfolding tables WellFormed
table_below Q (bare j) i w h = rw (← eqb-true j i (sym (has_pow j i) ∙ h)) w
table_below Q (test j p) i w h = table_below Q p i w.0 h
table_below Q (join l r) i w h =
    ⊎_elim (table_below Q l i w.0) (table_below Q r i w.1) (or_cases (has (tables l) i) (has (tables r) i) (sym (has_sum (tables l) (tables r) i w.2) ∙ h))

-- ---- each table once, each test once

sum_once : (x y : Bool) → (x ≡ true → y ≡ false) → cond x 1 0 + cond y 1 0 ≡ cond (x || y) 1 0
sum_once true true h = absurd (true≢false (h refl))
sum_once true false h = refl
sum_once false true h = refl
sum_once false false h = refl

-- of two disjoint sets
both_once : (A B i a b : ℕ) → bit_and A B ≡ 0 → a ≡ cond (has A i) 1 0 → b ≡ cond (has B i) 1 0 → a + b ≡ cond (has (A + B) i) 1 0
both_once A B i a b e ea eb =
    ap₂ ◌+◌ ea eb ∙ sum_once (has A i) (has B i) (apart_has A B i e) ∙ ap (λ (t : Bool). cond t 1 0) (sym (has_sum A B i e))

pub table_once : (Q : Question) (p : Plan) (i : ℕ) → WellFormed Q p → table_times i p ≡ cond (has (tables p) i) 1 0
unfolding tables table_times WellFormed
table_once Q (bare j) i w = ap (λ (t : Bool). cond t 1 0) (sym (has_pow j i))
table_once Q (test j p) i w = table_once Q p i w.0
table_once Q (join l r) i w = both_once (tables l) (tables r) i _ _ w.2 (table_once Q l i w.0) (table_once Q r i w.1)

pub test_once : (Q : Question) (p : Plan) (i : ℕ) → WellFormed Q p → test_times i p ≡ cond (has (tests p) i) 1 0
unfolding tests test_times WellFormed
test_once Q (bare j) i w = ap (λ (t : Bool). cond t 1 0) (sym (zero_bits i))
test_once Q (test j p) i w =
    both_once (tests p) (2 ^ j) i _ _ (one_apart (tests p) j w.3) (test_once Q p i w.0) (ap (λ (t : Bool). cond t 1 0) (sym (has_pow j i)))
test_once Q (join l r) i w =
    both_once (tests l) (tests r) i _ _ (parts_apart (tests l) (tests r) (tables l) (tables r) (tests_part Q l w.0) (tests_part Q r w.1) w.2) (test_once Q l i w.0) (test_once Q r i w.1)

module _ {P : Type 0} (m : Model P) (Q : Question) where
  -- ---- sound

  Sound : ℕ → ℕ → Type 0
  Sound R S = (p : Plan) → S ⊆ R → opt m Q R S ≡ Some p → Valid Q R S p

  sound_from : (R S : ℕ) → S ⊆ R → ((R' S' : ℕ) → Smaller R S R' S' → Sound R' S') → (p : Plan) → Comes Q (opt m Q) R S p → Valid Q R S p
  unfolding Sound tables tests WellFormed
  sound_from R S e ih (bare i) c = record { formed = c.0; just_tables = sym c.1; just_tests = sym c.2 }
  sound_from R S e ih (test i p) c =
      let d = test_smaller R S i c.1 in
      let v = ih R (S - 2 ^ i) d p (d.own e) c.3 in
      record {
        formed = (v.formed, c.2, ap (λ (n : ℕ). has n i) v.just_tables ∙ part_has S R i e c.1, ap (λ (n : ℕ). has n i) v.just_tests ∙ without S i c.1);
        just_tables = v.just_tables;
        just_tests = ap (λ (n : ℕ). n + 2 ^ i) v.just_tests ∙ without_with S i c.1;
      }
  sound_from R S e ih (join l r) c =
      let L = c.0 in
      let s = c.1 in
      let a = ih L (bit_and S L) (left_smaller Q R S L s) l (meet_part S L) c.2 in
      let b = ih (R - L) (bit_and S (R - L)) (right_smaller Q R S L s) r (meet_part S (R - L)) c.3 in
      record {
        formed = (a.formed, b.formed, ap₂ bit_and a.just_tables b.just_tables ∙ rest_apart L R s.part, rw (a.just_tables, b.just_tables) (linked_means Q L (R - L) s.tied));
        just_tables = ap₂ ◌+◌ a.just_tables b.just_tables ∙ rest_sum L R s.part;
        just_tests = ap₂ ◌+◌ a.just_tests b.just_tests ∙ tests_shared S L R s.part e;
      }

  sound_to : (n R S : ℕ) → R + S < n → Sound R S
  unfolding Sound
  sound_to zero R S h p e o = absurd (omega arith)
  sound_to (suc n) R S h p e o = sound_from R S e (λ R' S' k. let d = k.less in sound_to n R' S' (omega arith)) p (opt_comes m Q R S p o)

  pub sound : (R S : ℕ) (p : Plan) → S ⊆ R → opt m Q R S ≡ Some p → Valid Q R S p
  unfolding Sound
  sound R S = sound_to (suc (R + S)) R S (omega arith)

  -- ---- the parts of a row's plan

  pub left_part : (R S : ℕ) (l r : Plan) → opt m Q R S ≡ Some (join l r) → opt m Q (tables l) (bit_and S (tables l)) ≡ Some l
  left_part R S l r o =
      let c = opt_comes m Q R S (join l r) o in
      let v = sound c.0 (bit_and S c.0) l (meet_part S c.0) c.2 in
      rw v.just_tables c.2

  pub right_part : (R S : ℕ) (l r : Plan) → opt m Q R S ≡ Some (join l r) → opt m Q (tables r) (bit_and S (tables r)) ≡ Some r
  right_part R S l r o =
      let c = opt_comes m Q R S (join l r) o in
      let v = sound (R - c.0) (bit_and S (R - c.0)) r (meet_part S (R - c.0)) c.3 in
      rw v.just_tables c.3

  pub tested_part : (R S i : ℕ) (p : Plan) → opt m Q R S ≡ Some (test i p) → opt m Q R (S - 2 ^ i) ≡ Some p
  tested_part R S i p o = (opt_comes m Q R S (test i p) o).3

  -- ---- cheapest

  module _ (laws : Lawful m) where
    tested_same : (x y : P) (n n' c : ℕ) (k : Kind) → n ≡ n' → m.at_most x y ≡ true → m.at_most (m.tested x n c k) (m.tested y n' c k) ≡ true
    tested_same x y n n' c k e h = rw e (laws.dearer_test x y n' c k h)

    joined_same : (x y u v : P) (a a' b b' n n' c c' : ℕ) → a ≡ a' → b ≡ b' → n ≡ n' → c ≡ c' → m.at_most x u ≡ true → m.at_most y v ≡ true → m.at_most (m.joined x y a b n c) (m.joined u v a' b' n' c') ≡ true
    joined_same x y u v a a' b b' n n' c c' ea eb en ec h k =
        rw (ea, eb, en, ec) (laws.transitive _ _ _ (laws.dearer_left x u y a' b' n' c' h) (laws.dearer_right u y v a' b' n' c' k))

    test_grows : (i : ℕ) (b p : Plan) → tables b ≡ tables p → tests b ≡ tests p → m.at_most (price m Q b) (price m Q p) ≡ true → m.at_most (price m Q (test i b)) (price m Q (test i p)) ≡ true
    unfolding price
    test_grows i b p et es h = go (Q.test i)
      where
        of : Plan → Option Test → P
        of q o = elim o [ Some t ↦ m.tested (price m Q q) (charged Q i (tables q) (tests q)) t.cost t.kind | None ↦ price m Q q ]

        go : (o : Option Test) → m.at_most (of b o) (of p o) ≡ true
        go None = h
        go (Some t) = tested_same (price m Q b) (price m Q p) _ _ t.cost t.kind (ap₂ (size Q) et es) h

    join_grows : (a b l r : Plan) → tables a ≡ tables l → tests a ≡ tests l → tables b ≡ tables r → tests b ≡ tests r → m.at_most (price m Q a) (price m Q l) ≡ true → m.at_most (price m Q b) (price m Q r) ≡ true → m.at_most (price m Q (join a b)) (price m Q (join l r)) ≡ true
    unfolding price
    join_grows a b l r ta sa tb sb h k =
        joined_same (price m Q a) (price m Q b) (price m Q l) (price m Q r) _ _ _ _ _ _ _ _
        (ap₂ (size Q) ta sa) (ap₂ (size Q) tb sb) (ap₂ (size Q) (ap₂ ◌+◌ ta tb) (ap₂ ◌+◌ sa sb)) (ap₂ (across Q) ta tb) h k

    -- b is no dearer than what is no dearer than p
    further : (o : Option Plan) (q p : Plan) → NoDearer m Q o q → m.at_most (price m Q q) (price m Q p) ≡ true → NoDearer m Q o p
    further o q p d h = (d.0, d.1, laws.transitive _ _ _ d.2 h)

    pub best_of : (p : Plan) → WellFormed Q p → NoDearer m Q (opt m Q (tables p) (tests p)) p
    unfolding tables tests WellFormed
    best_of (bare i) w = opt_best m Q laws (2 ^ i) 0 (bare i) (w, refl, refl)
    best_of (test i p) w =
        let d = best_of p w.0 in
        let v = sound (tables p) (tests p) d.0 (tests_part Q p w.0) d.1 in
        let less : (tests p + 2 ^ i) - 2 ^ i ≡ tests p = omega arith in
        let c : opt m Q (tables p) ((tests p + 2 ^ i) - 2 ^ i) ≡ Some d.0 = ap (opt m Q (tables p)) less ∙ d.1 in
        further _ (test i d.0) (test i p)
        (opt_best m Q laws (tables p) (tests p + 2 ^ i) (test i d.0) (table_below Q p i w.0 w.2, one_more (tests p) i w.3, w.1, c))
        (test_grows i d.0 p v.just_tables v.just_tests d.2)
    best_of (join l r) w =
        let d = best_of l w.0 in
        let f = best_of r w.1 in
        let pl = tests_part Q l w.0 in
        let pr = tests_part Q r w.1 in
        let v = sound (tables l) (tests l) d.0 pl d.1 in
        let u = sound (tables r) (tests r) f.0 pr f.1 in
        let x = tables_some l in
        let y = tables_some r in
        let rest : (tables l + tables r) - tables l ≡ tables r = omega arith in
        let sl = side_tests (tests l) (tests r) (tables l) (tables r) pl pr w.2 in
        let sr = other_tests (tests l) (tests r) (tables l) (tables r) pl pr w.2 in
        let t = w.3 in
        let tied = linked_by Q (tables l) (tables r) t.0 t.1 (table_below Q l t.0 w.0 t.2) (table_below Q r t.1 w.1 t.3) t.2 t.3 t.4 in
        let s : Splits Q (tables l + tables r) (tables l) = record { some = x; proper = omega arith; part = sum_part (tables l) (tables r) w.2; tied = ap (linked Q (tables l)) rest ∙ tied } in
        further _ (join d.0 f.0) (join l r)
        (opt_best m Q laws (tables l + tables r) (tests l + tests r) (join d.0 f.0)
        (tables l, s, ap (opt m Q (tables l)) sl ∙ d.1, rw rest (ap (opt m Q (tables r)) sr ∙ f.1)))
        (join_grows d.0 f.0 l r v.just_tables v.just_tests u.just_tables u.just_tests d.2 f.2)

    pub cheapest : (R S : ℕ) (p p' : Plan) → opt m Q R S ≡ Some p → Valid Q R S p' → m.at_most (price m Q p) (price m Q p') ≡ true
    cheapest R S p p' o v =
        let d = best_of p' v.formed in
        let e : opt m Q R S ≡ Some d.0 = rw (v.just_tables, v.just_tests) at d.1 in
        let same : d.0 ≡ p = some_same d.0 p (sym e ∙ o) in
        rw same at d.2

    pub complete : (R S : ℕ) (p : Plan) → Valid Q R S p → is_some (opt m Q R S) ≡ true
    complete R S p v =
        let d = best_of p v.formed in
        let e : opt m Q R S ≡ Some d.0 = rw (v.just_tables, v.just_tests) at d.1 in
        rw e

    pub past_all : (R S : ℕ) (p p' : Plan) → opt m Q R S ≡ Some p → m.past (price m Q p) ≡ true → Valid Q R S p' → m.past (price m Q p') ≡ true
    past_all R S p p' o h v = laws.dearer_past (price m Q p) (price m Q p') (cheapest R S p p' o v) h
