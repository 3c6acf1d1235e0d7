-- Of equally cheap candidates a row takes the first: joins by their left side's tables, then tests by number.
use Rattle.std.proofs.Common.{◌≡◌, ℕ, ◌<◌, false, Some, None, Option, sym, ap, ◌∙◌, inl, inr, arith}
use lib.Bits.{bit_and}
use Rattle.plans.specs.Questions.{Question}
use Rattle.plans.specs.Plans.{Plan, bare, test, join, tables}
use Rattle.pricing.specs.Models.{Model, Lawful}
use Rattle.plans.specs.Prices.{price}
use Rattle.plans.specs.Recurrence.{alone, joining, testing, first_best, row, opt}
use Rattle.sets.proofs.Parts.{meet_part}
use Rattle.plans.proofs.Firsts.{First, first_is, first_of, exactly, still_dearer, none_some}
use Rattle.plans.proofs.Rows.{alone_shape, joining_shape, testing_shape, opt_row}
use Rattle.plans.proofs.Optimal.{sound}

pub bare_join : (i : ℕ) (l r : Plan) → bare i ≡ join l r → ⊥
bare_join i l r e = let z : ◌≡◌ {A = ℕ} 0 1 = cc in omega arith

pub test_join : (i : ℕ) (q l r : Plan) → test i q ≡ join l r → ⊥
test_join i q l r e = let z : ◌≡◌ {A = ℕ} 0 1 = cc in omega arith

pub bare_test : (j i : ℕ) (p : Plan) → bare j ≡ test i p → ⊥
bare_test j i p e = let z : ◌≡◌ {A = ℕ} 0 1 = cc in omega arith

same_test : (j i : ℕ) (q p : Plan) → test j q ≡ test i p → j ≡ i
same_test j i q p e = cc

same_left : (a b l r : Plan) → join a b ≡ join l r → a ≡ l
same_left a b l r e = cc

module _ {P : Type 0} (m : Model P) (Q : Question) (laws : Lawful m) where
  bares : ℕ → ℕ → Option Plan
  bares R S = first_best m Q None (alone R S) Q.count

  joins : ℕ → ℕ → Option Plan
  joins R S = first_best m Q (bares R S) (joining Q (opt m Q) R S) R

  opt_split : (R S : ℕ) (p : Plan) → opt m Q R S ≡ Some p → First m Q laws (joins R S) (testing Q (opt m Q) R S) Q.count p
  unfolding row bares joins
  opt_split R S p o = first_is m Q laws _ _ Q.count p (sym (opt_row m Q R S) ∙ o)

  joins_split : (R S : ℕ) (p : Plan) → joins R S ≡ Some p → First m Q laws (bares R S) (joining Q (opt m Q) R S) R p
  unfolding bares joins
  joins_split R S p o = first_is m Q laws _ _ R p o

  bares_are : (R S : ℕ) (p : Plan) → bares R S ≡ Some p → (i : ℕ) × (bare i ≡ p)
  unfolding bares
  bares_are R S p o = go (first_is m Q laws _ _ Q.count p o)
    where
      go : First m Q laws None (alone R S) Q.count p → (i : ℕ) × (bare i ≡ p)
      go (inl h) = absurd (none_some p h)
      go (inr h) = (h.0, (alone_shape Q R S h.0 p h.2).2)

  -- A join on the left of which stands a smaller set is dearer.
  pub first_join : (R S L : ℕ) (l r c : Plan) → opt m Q R S ≡ Some (join l r) → L < tables l → joining Q (opt m Q) R S L ≡ Some c → m.at_most (price m Q c) (price m Q (join l r)) ≡ false
  first_join R S L l r c o k e = outer (opt_split R S (join l r) o)
    where
      inner : First m Q laws (bares R S) (joining Q (opt m Q) R S) R (join l r) → m.at_most (price m Q c) (price m Q (join l r)) ≡ false
      inner (inl h) = let b = bares_are R S (join l r) h in absurd (bare_join b.0 l r b.1)
      inner (inr h) =
          let s = joining_shape Q (opt m Q) R S h.0 (join l r) h.2 in
          let v = (sound m Q h.0 (bit_and S h.0) s.0 (meet_part S h.0) s.3).just_tables in
          let w : tables s.0 ≡ tables l = ap tables (same_left s.0 s.1 l r s.5) in
          h.4 L (omega arith) c e

      outer : First m Q laws (joins R S) (testing Q (opt m Q) R S) Q.count (join l r) → m.at_most (price m Q c) (price m Q (join l r)) ≡ false
      outer (inl h) = inner (joins_split R S (join l r) h)
      outer (inr h) = let s = testing_shape Q (opt m Q) R S h.0 (join l r) h.2 in absurd (test_join h.0 s.0 l r s.4)

  no_join : (R S i : ℕ) (p : Plan) → joins R S ≡ Some (test i p) → ⊥
  no_join R S i p h = inner (joins_split R S (test i p) h)
    where
      inner : First m Q laws (bares R S) (joining Q (opt m Q) R S) R (test i p) → ⊥
      inner (inl h) = let b = bares_are R S (test i p) h in bare_test b.0 i p b.1
      inner (inr h) = let s = joining_shape Q (opt m Q) R S h.0 (test i p) h.2 in test_join i p s.0 s.1 (sym s.5)

  -- Where a test is made last, every join is dearer, ..
  pub joins_dearer : (R S L i : ℕ) (p c : Plan) → opt m Q R S ≡ Some (test i p) → joining Q (opt m Q) R S L ≡ Some c → m.at_most (price m Q c) (price m Q (test i p)) ≡ false
  unfolding joins
  joins_dearer R S L i p c o e = go (opt_split R S (test i p) o)
    where
      go : First m Q laws (joins R S) (testing Q (opt m Q) R S) Q.count (test i p) → m.at_most (price m Q c) (price m Q (test i p)) ≡ false
      go (inl h) = absurd (no_join R S i p h)
      go (inr h) =
          let s = joining_shape Q (opt m Q) R S L c e in
          let d = first_of m Q laws (bares R S) (joining Q (opt m Q) R S) R L c s.2.proper (exactly m Q laws _ c e) in
          still_dearer m Q laws d.0 c (test i p) d.2 (h.3 d.0 d.1)

  -- .. and so is an earlier test.
  pub first_test : (R S i j : ℕ) (p c : Plan) → opt m Q R S ≡ Some (test i p) → j < i → testing Q (opt m Q) R S j ≡ Some c → m.at_most (price m Q c) (price m Q (test i p)) ≡ false
  first_test R S i j p c o k e = go (opt_split R S (test i p) o)
    where
      go : First m Q laws (joins R S) (testing Q (opt m Q) R S) Q.count (test i p) → m.at_most (price m Q c) (price m Q (test i p)) ≡ false
      go (inl h) = absurd (no_join R S i p h)
      go (inr h) =
          let s = testing_shape Q (opt m Q) R S h.0 (test i p) h.2 in
          let w = same_test h.0 i s.0 p s.4 in
          h.4 j (omega arith) c e
