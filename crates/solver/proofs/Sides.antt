-- The parts of a candidate: rows before, of which the lists hold the plan's price and the size.
use Rattle.std.proofs.Common.{◌≡◌, ℕ, ◌+◌, ◌-◌, ◌^◌, ◌<◌, ◌≤◌, Bool, true, false, List, Some, None, Option, sym, refl, ap, ◌∙◌, subst, ap₂, ⊎_elim, ◌&&◌, ◌==◌, arith, pow_pos}
use lib.Bits.{bit_and, and_zero_l}
use Rattle.std.specs.List.{slice_get}
use Rattle.std.proofs.Math.Pow.{pow_mono}
use Rattle.std.proofs.lemmas.Bool.{cases_eq, ne_eqb}
use Rattle.pricing.specs.Models.{Model}
use Rattle.sets.specs.Sets.{has, ◌⊆◌}
use Rattle.sets.specs.Rows.{tests_on, place_of}
use Rattle.sets.proofs.Parts.{meet_part, meet_part_left, part_chain, without_part, one_le}
use Rattle.sets.proofs.Positions.{place_smaller, place_fewer}
use Rattle.plans.specs.Questions.{Question, all_tests, size, charged, across}
use Rattle.plans.specs.Recurrence.{splits}
use Rattle.plans.specs.Entries.{join_entry, alone_entry, joining_entry, test_entry, testing_entry}
use Rattle.plans.specs.declared.entries.Entry.{Entry}
use Rattle.plans.specs.declared.predicates.Test.{Test}
use Rattle.solver.specs.Held.{side_of}
use Rattle.solver.specs.Solved.{Own, place, Turn}
use Rattle.solver.specs.declared.lists.Side.{Side}
use Rattle.solver.proofs.Splitting.{splits_none, splits_outside}
use Rattle.solver.proofs.Steps.{own_tests, own_by}

-- ---- the sizes of the parts

module _ (Q : Question) (T R S : ℕ) (sizes : List ℕ) (turn : Turn Q T R S sizes) where
  at_place : (R' S' : ℕ) → Own Q R' S' → place Q R' S' < place Q R S → slice_get sizes (place_of T R' S') ≡ Some (size Q R' S')
  at_place R' S' o l = ap (λ (t : ℕ). slice_get sizes (place_of t R' S')) turn.tested ∙ turn.sized R' S' o l

  -- of fewer tables, with their tests
  pub part_sized : (A : ℕ) → A ⊆ R → A < R → slice_get sizes (place_of T A (bit_and S A)) ≡ Some (size Q A (bit_and S A))
  part_sized A p l =
      at_place A (bit_and S A) (own_by Q A (bit_and S A) (meet_part S A) (part_chain (bit_and S A) S (all_tests Q) (meet_part_left S A) (own_tests Q R S turn.own)))
      (place_smaller (all_tests Q) A R (bit_and S A) S l)

  -- and of one test fewer
  pub test_sized : (i : ℕ) → has S i ≡ true → slice_get sizes (place_of T R (S - 2 ^ i)) ≡ Some (size Q R (S - 2 ^ i))
  test_sized i h =
      let own : Own Q R (S - 2 ^ i) = part_chain (S - 2 ^ i) S (tests_on (all_tests Q) R) (without_part S i h) turn.own in
      at_place R (S - 2 ^ i) own (place_fewer (all_tests Q) R (S - 2 ^ i) S own turn.own (omega (arith, one_le S i h, pow_pos i)))

-- ---- what is read of a part

-- by what the code has of the row
pub side_as : {P : Type 0} (r : Option (Side P)) (table : ℕ → ℕ → Option (Entry P)) (sizes : List ℕ) (T A B A' B' n : ℕ) → A ≡ A' → B ≡ B' → slice_get sizes (place_of T A' B') ≡ Some n
    → r ≡ side_of (table A B) (slice_get sizes (place_of T A B)) → r ≡ side_of (table A' B') (Some n)
side_as r table sizes T A B A' B' n e f at h = h ∙ ap₂ (λ (x y : ℕ). side_of (table x y) (slice_get sizes (place_of T x y))) e f ∙ ap (side_of (table A' B')) at

-- of the tables A, with their tests
pub part_read : {P : Type 0} (r : Option (Side P)) (table : ℕ → ℕ → Option (Entry P)) (Q : Question) (T R S : ℕ) (sizes : List ℕ) → Turn Q T R S sizes → (A A' B' : ℕ) → A' ≡ A → B' ≡ bit_and S A → A ⊆ R → A < R
    → r ≡ side_of (table A' B') (slice_get sizes (place_of T A' B')) → r ≡ side_of (table A (bit_and S A)) (Some (size Q A (bit_and S A)))
part_read r table Q T R S sizes turn A A' B' e f part less h =
    side_as r table sizes T A' B' A (bit_and S A) (size Q A (bit_and S A)) e f (part_sized Q T R S sizes turn A part less) h

-- of one test fewer
pub test_read : {P : Type 0} (r : Option (Side P)) (table : ℕ → ℕ → Option (Entry P)) (Q : Question) (T R S : ℕ) (sizes : List ℕ) → Turn Q T R S sizes → (i R' S' : ℕ) → has S i ≡ true → R' ≡ R → S' ≡ S - 2 ^ i
    → r ≡ side_of (table R' S') (slice_get sizes (place_of T R' S')) → r ≡ side_of (table R (S - 2 ^ i)) (Some (size Q R (S - 2 ^ i)))
test_read r table Q T R S sizes turn i R' S' own e f h = side_as r table sizes T R' S' R (S - 2 ^ i) (size Q R (S - 2 ^ i)) e f (test_sized Q T R S sizes turn i own) h

-- the entry is there just where the side is
none_of : {P : Type 0} (e : Option (Entry P)) (n : ℕ) → None ≡ side_of e (Some n) → e ≡ None
none_of None n h = refl
none_of (Some e) n h = let z : ◌≡◌ {A = ℕ} 0 1 = cc in absurd (omega arith)

some_of : {P : Type 0} (e : Option (Entry P)) (n : ℕ) (s : Side P) → Some s ≡ side_of e (Some n) → (x : Entry P) × (e ≡ Some x) × (s.price ≡ x.price) × (s.size ≡ n)
some_of None n s h = let z : ◌≡◌ {A = ℕ} 0 1 = cc in absurd (omega arith)
some_of (Some e) n s h =
    let same : s ≡ record { price = e.price; size = n } = cc in
    (e, refl, ap (λ t. t.price) same, ap (λ t. t.size) same)

-- ---- a join, by its sides

module _ {P : Type 0} (m : Model P) (Q : Question) (table : ℕ → ℕ → Option (Entry P)) (R S L : ℕ) where
  left : Option (Entry P)
  left = table L (bit_and S L)

  right : Option (Entry P)
  right = table (R - L) (bit_and S (R - L))

  unsplit : splits Q R L ≡ false → joining_entry m Q table R S L ≡ None
  unsplit e = ap (λ (b : Bool). elim b [ true ↦ join_entry m Q R S L (table L (bit_and S L)) (table (R - L) (bit_and S (R - L))) | false ↦ None ]) e

  split : splits Q R L ≡ true → joining_entry m Q table R S L ≡ join_entry m Q R S L left right
  unfolding left right
  split e = ap (λ (b : Bool). elim b [ true ↦ join_entry m Q R S L (table L (bit_and S L)) (table (R - L) (bit_and S (R - L))) | false ↦ None ]) e

  pub not_splitting : splits Q R L ≡ false → None ≡ joining_entry m Q table R S L
  not_splitting e = sym (unsplit e)

  module _ (tied : splits Q R L ≡ true) where
    pub no_left : None ≡ side_of (table L (bit_and S L)) (Some (size Q L (bit_and S L))) → None ≡ joining_entry m Q table R S L
    unfolding left right
    no_left e = sym (split tied ∙ ap (λ (x : Option (Entry P)). join_entry m Q R S L x right) (none_of left (size Q L (bit_and S L)) e))

    pub no_right : None ≡ side_of (table (R - L) (bit_and S (R - L))) (Some (size Q (R - L) (bit_and S (R - L)))) → None ≡ joining_entry m Q table R S L
    unfolding left right
    no_right e = sym (split tied ∙ ap (join_entry m Q R S L left) (none_of right (size Q (R - L) (bit_and S (R - L))) e) ∙ nothing left)
      where
        nothing : (x : Option (Entry P)) → join_entry m Q R S L x None ≡ None
        nothing None = refl
        nothing (Some x) = refl

    pub both_sides : (a b : Side P) (n costs choice : ℕ) → Some a ≡ side_of (table L (bit_and S L)) (Some (size Q L (bit_and S L)))
        → Some b ≡ side_of (table (R - L) (bit_and S (R - L))) (Some (size Q (R - L) (bit_and S (R - L)))) → n ≡ size Q R S → costs ≡ across Q L (R - L) → choice ≡ 4096 + L
        → Some (record { price = m.joined a.price b.price a.size b.size n costs; choice = choice }) ≡ joining_entry m Q table R S L
    unfolding left right
    both_sides a b n costs choice e f whole cost code =
        let x = some_of left (size Q L (bit_and S L)) a e in
        let y = some_of right (size Q (R - L) (bit_and S (R - L))) b f in
        let price : m.joined a.price b.price a.size b.size n costs
        ≡ m.joined x.0.price y.0.price (size Q L (bit_and S L)) (size Q (R - L) (bit_and S (R - L))) (size Q R S) (across Q L (R - L)) = cc in
        (cc) ∙ sym (split tied ∙ ap₂ (join_entry m Q R S L) x.1 y.1)

-- ---- between a left set and the next there are no joins

module _ {P : Type 0} (m : Model P) (Q : Question) (table : ℕ → ℕ → Option (Entry P)) (R S : ℕ) where
  pub no_joins : (L next : ℕ) → ((t : ℕ) → t ⊆ R → L < t → next ≤ t) → (k : ℕ) → L < k → k < next → joining_entry m Q table R S k ≡ None
  no_joins L next least k l u = unsplit m Q table R S k (splits_outside Q R k (λ p. absurd (omega (arith, least k p l))))

  pub no_joins_before : (none next : ℕ) → none ≡ 0 → (none ⊆ R → (t : ℕ) → t ⊆ R → none < t → next ≤ t) → (k : ℕ) → k < next → joining_entry m Q table R S k ≡ None
  no_joins_before none next z least k u = ⊎_elim
      (λ e. unsplit m Q table R S k (splits_none Q R k e))
      (λ ne. no_joins none next (least (subst (λ (x : ℕ). x ⊆ R) (sym z) (and_zero_l R))) k (omega (arith, z, ne)) u)
      (cases_eq k 0)

-- ---- a test, by what is below

module _ {P : Type 0} (m : Model P) (Q : Question) (table : ℕ → ℕ → Option (Entry P)) (R S i : ℕ) (in_row : has S i ≡ true) where
  below : Option (Entry P)
  below = table R (S - 2 ^ i)

  made : testing_entry m Q table R S i ≡ test_entry m Q R S i (Q.test i) below
  unfolding below
  made = ap (λ (b : Bool). elim b [ true ↦ test_entry m Q R S i (Q.test i) (table R (S - 2 ^ i)) | false ↦ None ]) in_row

  pub no_below : None ≡ side_of (table R (S - 2 ^ i)) (Some (size Q R (S - 2 ^ i))) → None ≡ testing_entry m Q table R S i
  unfolding below
  no_below e = sym (made ∙ ap (test_entry m Q R S i (Q.test i)) (none_of below (size Q R (S - 2 ^ i)) e) ∙ nothing (Q.test i))
    where
      nothing : (o : Option Test) → test_entry m Q R S i o None ≡ None
      nothing None = refl
      nothing (Some t) = refl

  pub test_above : (t : Test) (a : Side P) (rows choice : ℕ) → Some t ≡ Q.test i → Some a ≡ side_of (table R (S - 2 ^ i)) (Some (size Q R (S - 2 ^ i)))
      → (a.size ≡ size Q R (S - 2 ^ i) → rows ≡ charged Q i R (S - 2 ^ i)) → choice ≡ 256 + i
      → Some (record { price = m.tested a.price rows t.cost t.kind; choice = choice }) ≡ testing_entry m Q table R S i
  unfolding below
  test_above t a rows choice given e charge code =
      let x = some_of below (size Q R (S - 2 ^ i)) a e in
      let paid = charge x.3 in
      let price : m.tested a.price rows t.cost t.kind ≡ m.tested x.0.price (charged Q i R (S - 2 ^ i)) t.cost t.kind = cc in
      (cc) ∙ sym (made ∙ ap₂ (test_entry m Q R S i) (sym given) x.1)

-- ---- a bare table

pub not_alone : {P : Type 0} (m : Model P) (Q : Question) (R S i : ℕ) → R < 1024 → 10 ≤ i → None ≡ alone_entry m Q R S i
not_alone m Q R S i few far =
    ap (λ (b : Bool). elim (b && (S == 0)) [ true ↦ Some (record { price = m.bare (Q.rows i); choice = 1 }) | false ↦ None ]) (sym (ne_eqb R (2 ^ i) (λ e. absurd (omega (arith, e, pow_mono far)))))
