-- Validity by counting is validity.
use Rattle.std.proofs.Common.{◌≡◌, ℕ, ◌<◌, ◌≤◌, Bool, true, false, cond, eqb, sym, refl, ap, ◌∙◌, arith}
use Rattle.std.proofs.lemmas.Bool.{eq-eqb}
use Rattle.sets.specs.Sets.{has}
use Rattle.sets.proofs.Bits.{same_bits, has_apart}
use Rattle.plans.specs.Questions.{Question}
use Rattle.plans.specs.Plans.{Plan, bare, test, join, tables, tests, WellFormed, Valid, table_times, test_times, Placed, Counted}
use Rattle.plans.specs.Statement.{ValidByCounting}
use Rattle.plans.proofs.Optimal.{table_once, test_once}

once_true : (b : Bool) (n : ℕ) → n ≡ cond b 1 0 → 0 < n → b ≡ true
once_true true n e h = refl
once_true false n e h = absurd (omega arith)

once_false : (b : Bool) (n : ℕ) → n ≡ cond b 1 0 → n ≡ 0 → b ≡ false
once_false true n e h = absurd (omega arith)
once_false false n e h = refl

once_some : (b : Bool) (n : ℕ) → n ≡ cond b 1 0 → b ≡ true → 0 < n
once_some true n e h = omega arith
once_some false n e h = let z : ◌≡◌ {A = ℕ} 0 1 = cc in absurd (omega arith)

once_few : (b : Bool) (n : ℕ) → n ≡ cond b 1 0 → n ≤ 1
once_few true n e = omega arith
once_few false n e = omega arith

once_same : (a b : Bool) → ◌≡◌ {A = ℕ} (cond a 1 0) (cond b 1 0) → a ≡ b
once_same true b e = sym (once_true b 1 e (omega arith))
once_same false b e = sym (once_false b 0 e refl)

-- ---- from validity to counts

placed : (Q : Question) (p : Plan) → WellFormed Q p → Placed Q p
unfolding WellFormed Placed
placed Q (bare i) w = w
placed Q (test i p) w = (placed Q p w.0, w.1, once_some _ _ (table_once Q p i w.0) w.2)
placed Q (join l r) w =
    let t = w.3 in (
      placed Q l w.0,
      placed Q r w.1,
      (t.0, t.1, once_some _ _ (table_once Q l t.0 w.0) t.2, once_some _ _ (table_once Q r t.1 w.1) t.3, t.4),
    )

counted : (Q : Question) (R S : ℕ) (p : Plan) → Valid Q R S p → Counted Q R S p
counted Q R S p v = record {
  tables_once = λ i. table_once Q p i v.formed ∙ ap (λ (n : ℕ). cond (has n i) 1 0) v.just_tables;
  tests_once = λ i. test_once Q p i v.formed ∙ ap (λ (n : ℕ). cond (has n i) 1 0) v.just_tests;
  placed = placed Q p v.formed;
}

-- ---- and back

formed : (Q : Question) (p : Plan) → ((i : ℕ) → table_times i p ≤ 1) → ((i : ℕ) → test_times i p ≤ 1) → Placed Q p → WellFormed Q p
unfolding WellFormed Placed table_times test_times
formed Q (bare i) few once k = k
formed Q (test i p) few once k =
    let w = formed Q p few (λ j. omega (arith, once j)) k.0 in
    let one : ◌≡◌ {A = ℕ} (cond (eqb i i) 1 0) 1 = ap (λ (b : Bool). cond b 1 0) (eq-eqb i i refl) in
    (w, k.1, once_true _ _ (table_once Q p i w) k.2, once_false _ _ (test_once Q p i w) (omega (arith, once i, one)))
formed Q (join l r) few once k =
    let a = formed Q l (λ j. omega (arith, few j)) (λ j. omega (arith, once j)) k.0 in
    let b = formed Q r (λ j. omega (arith, few j)) (λ j. omega (arith, once j)) k.1 in
    let t = k.2 in (
      a,
      b,
      has_apart (tables l) (tables r) (λ i h. once_false _ _ (table_once Q r i b) (omega (arith, few i, once_some _ _ (table_once Q l i a) h))),
      (t.0, t.1, once_true _ _ (table_once Q l t.0 a) t.2, once_true _ _ (table_once Q r t.1 b) t.3, t.4),
    )

valid : (Q : Question) (R S : ℕ) (p : Plan) → Counted Q R S p → Valid Q R S p
valid Q R S p c =
    let w = formed Q p (λ i. once_few _ _ (c.tables_once i)) (λ i. once_few _ _ (c.tests_once i)) c.placed in
    record {
      formed = w;
      just_tables = same_bits (tables p) R (λ i. once_same _ _ (sym (table_once Q p i w) ∙ c.tables_once i));
      just_tests = same_bits (tests p) S (λ i. once_same _ _ (sym (test_once Q p i w) ∙ c.tests_once i));
    }

pub valid_by_counting : (Q : Question) → ValidByCounting Q
valid_by_counting Q = record { counted = counted Q; valid = valid Q }
