-- The recurrence over prices and choices gives those of the best plans.
use Rattle.std.proofs.Common.{◌≡◌, ℕ, zero, suc, ◌+◌, ◌-◌, ◌^◌, ◌<◌, Bool, true, false, cond, ◌&&◌, eqb, is_some, Some, None, Option, sym, refl, ap, ◌∙◌, ap₂, add-one, arith}
use lib.Bits.{bit_and}
use Rattle.plans.specs.declared.entries.Entry.{Entry}
use Rattle.sets.specs.Sets.{has, ◌⊆◌}
use Rattle.plans.specs.Questions.{Question}
use Rattle.plans.specs.declared.predicates.Test.{Test}
use Rattle.plans.specs.Plans.{Plan, bare}
use Rattle.pricing.specs.Models.{Model}
use Rattle.plans.specs.Prices.{price}
use Rattle.plans.specs.Recurrence.{splits, both, above, alone, joining, testing, found, pick, first_best, row, opt, tries, code}
use Rattle.plans.specs.Entries.{entry, better, best_entry, alone_entry, join_entry, test_entry, joining_entry, testing_entry, row_entry}
use Rattle.sets.proofs.Parts.{meet_part}
use Rattle.plans.proofs.Rows.{Splits, split_facts, Smaller, left_smaller, right_smaller, test_smaller, opt_row}
use Rattle.plans.proofs.Optimal.{sound}
use Rattle.plans.proofs.RowFacts.{join_price, test_price}

module _ {P : Type 0} (m : Model P) (Q : Question) where
  pub entry_pick : (x y : Option Plan) → entry m Q (pick m Q x y) ≡ better m (entry m Q x) (entry m Q y)
  unfolding entry pick
  entry_pick None y = refl
  entry_pick (Some a) None = refl
  entry_pick (Some a) (Some b) = go (m.at_most (price m Q a) (price m Q b))
    where
      go : (t : Bool) → entry m Q (cond t (Some a) (Some b)) ≡ cond t (entry m Q (Some a)) (entry m Q (Some b))
      go true = refl
      go false = refl

  pub entry_first : (a : Option Plan) (b : Option (Entry P)) (f : ℕ → Option Plan) (g : ℕ → Option (Entry P)) (n : ℕ) → entry m Q a ≡ b → ((i : ℕ) → i < n → entry m Q (f i) ≡ g i) → entry m Q (first_best m Q a f n) ≡ best_entry m b g n
  unfolding first_best best_entry
  entry_first a b f g zero e h = e
  entry_first a b f g (suc n) e h =
      entry_pick (first_best m Q a f n) (f n) ∙ ap₂ (better m) (entry_first a b f g n e (λ i l. h i (omega arith))) (h n (omega arith))

  entry_alone : (R S i : ℕ) → entry m Q (alone R S i) ≡ alone_entry m Q R S i
  unfolding alone entry code price
  entry_alone R S i = go (eqb R (2 ^ i) && eqb S 0)
    where
      go : (t : Bool) → entry m Q (elim t [ true ↦ Some (bare i) | false ↦ None ]) ≡ elim t as (λ _. Option (Entry P)) [ true ↦ Some (record { price = m.bare (Q.rows i); choice = 1 }) | false ↦ None ]
      go true = refl
      go false = refl

  -- the table has the entries of the rows below that of R and S
  abbrev pub Holds : (ℕ → ℕ → Option (Entry P)) → ℕ → ℕ → Type 0
  Holds table R S = (R' S' : ℕ) → Smaller R S R' S' → table R' S' ≡ entry m Q (opt m Q R' S')

  entry_joining : (table : ℕ → ℕ → Option (Entry P)) (R S L : ℕ) → S ⊆ R → Holds table R S → entry m Q (joining Q (opt m Q) R S L) ≡ joining_entry m Q table R S L
  unfolding joining both entry code
  entry_joining table R S L d h = go (splits Q R L) refl
    where
      two : Splits Q R L → (x y : Option Plan) → opt m Q L (bit_and S L) ≡ x → opt m Q (R - L) (bit_and S (R - L)) ≡ y → entry m Q (both x y) ≡ join_entry m Q R S L (entry m Q x) (entry m Q y)
      two s None y ex ey = refl
      two s (Some l) None ex ey = refl
      two s (Some l) (Some r) ex ey =
          let v = (sound m Q L (bit_and S L) l (meet_part S L) ex).just_tables in
          ap₂ (λ (c : P) (k : ℕ). Some (record { price = c; choice = k })) (join_price m Q R S L l r d s ex ey) (ap (λ (n : ℕ). 4096 + n) v)

      go : (t : Bool) → splits Q R L ≡ t
          → entry m Q (elim t [ true ↦ both (opt m Q L (bit_and S L)) (opt m Q (R - L) (bit_and S (R - L))) | false ↦ None ])
          ≡ elim t as (λ _. Option (Entry P)) [ true ↦ join_entry m Q R S L (table L (bit_and S L)) (table (R - L) (bit_and S (R - L))) | false ↦ None ]
      go true t =
          let s = split_facts Q R L t in
          two s _ _ refl refl ∙ ap₂ (join_entry m Q R S L) (sym (h L (bit_and S L) (left_smaller Q R S L s))) (sym (h (R - L) (bit_and S (R - L)) (right_smaller Q R S L s)))
      go false t = refl

  entry_testing : (table : ℕ → ℕ → Option (Entry P)) (R S i : ℕ) → S ⊆ R → Holds table R S → entry m Q (testing Q (opt m Q) R S i) ≡ testing_entry m Q table R S i
  unfolding testing above entry code
  entry_testing table R S i d h = go (has S i) refl
    where
      one : has S i ≡ true → (o : Option Test) → Q.test i ≡ o → (x : Option Plan) → opt m Q R (S - 2 ^ i) ≡ x
          → entry m Q (elim (is_some o) [ true ↦ above i x | false ↦ None ]) ≡ test_entry m Q R S i o (entry m Q x)
      one k None eo x ex = refl
      one k (Some t) eo None ex = refl
      one k (Some t) eo (Some p) ex = ap (λ (c : P). Some (record { price = c; choice = 256 + i })) (test_price m Q R S i p t d k eo ex)

      go : (t : Bool) → has S i ≡ t
          → entry m Q (elim (t && is_some (Q.test i)) [ true ↦ above i (opt m Q R (S - 2 ^ i)) | false ↦ None ])
          ≡ elim t as (λ _. Option (Entry P)) [ true ↦ test_entry m Q R S i (Q.test i) (table R (S - 2 ^ i)) | false ↦ None ]
      go true t =
          one t _ refl _ refl ∙ ap (test_entry m Q R S i (Q.test i)) (sym (h R (S - 2 ^ i) (test_smaller R S i t)))
      go false t = refl

  pub entry_row : (table : ℕ → ℕ → Option (Entry P)) (R S : ℕ) → S ⊆ R → Holds table R S → entry m Q (opt m Q R S) ≡ row_entry m Q table R S
  unfolding row row_entry entry
  entry_row table R S d h =
      ap (entry m Q) (opt_row m Q R S)
      ∙ entry_first _ _ _ _ Q.count
      (entry_first _ _ _ _ R
      (entry_first _ _ _ _ Q.count refl (λ i l. entry_alone R S i))
      (λ L l. entry_joining table R S L d h))
      (λ i l. entry_testing table R S i d h)

  -- ---- tries

  entry_some : (x : Option Plan) → is_some x ≡ is_some (entry m Q x)
  unfolding entry
  entry_some None = refl
  entry_some (Some p) = refl

  pub found_entry : (f : ℕ → Option Plan) (g : ℕ → Option (Entry P)) (n : ℕ) → ((i : ℕ) → i < n → entry m Q (f i) ≡ g i) → found f n ≡ found g n
  unfolding found
  found_entry f g zero h = refl
  found_entry f g (suc n) h =
      ap₂ (λ (x : ℕ) (t : Bool). x + cond t 1 0) (found_entry f g n (λ i l. h i (omega arith))) (entry_some (f n) ∙ ap is_some (h n (omega arith)))

  pub tries_entry : (table : ℕ → ℕ → Option (Entry P)) (R S : ℕ) → S ⊆ R → Holds table R S → tries m Q R S ≡ found (joining_entry m Q table R S) R + found (testing_entry m Q table R S) Q.count
  unfolding tries
  tries_entry table R S d h = ap₂ ◌+◌ (found_entry _ _ R (λ L l. entry_joining table R S L d h)) (found_entry _ _ Q.count (λ i l. entry_testing table R S i d h))

-- ---- a loop over candidates

pub best_entry_none : {P : Type 0} (m : Model P) (a : Option (Entry P)) (f : ℕ → Option (Entry P)) → best_entry m a f 0 ≡ a
unfolding best_entry
best_entry_none m a f = refl

pub best_entry_more : {P : Type 0} (m : Model P) (a : Option (Entry P)) (f : ℕ → Option (Entry P)) (n : ℕ) → best_entry m a f (n + 1) ≡ better m (best_entry m a f n) (f n)
unfolding best_entry
best_entry_more m a f n = rw add-one
