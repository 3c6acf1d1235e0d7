-- From a row the choices lead to one plan at most, and its top is what the row's choice says.
use Rattle.std.proofs.Common.{◌≡◌, ℕ, ◌-◌, ◌^◌, ◌<◌, true, sym, refl, ap, ◌∙◌, ap₂, ⊎_elim, arith}
use lib.Bits.{bit_and, and_le_l}
use Rattle.std.proofs.lemmas.Bool.{cases_lt, eqb-true, true≢false}
use Rattle.sets.specs.Sets.{has}
use Rattle.sets.proofs.Bits.{has_past, has_pow, has_pow_self}
use Rattle.plans.specs.Plans.{Plan, bare, test, join}
use Rattle.readoff.specs.Leads.{Bare, Tested, Joined, Leads}
use Rattle.readoff.specs.Choices.{Nothing}

pub small_member : (S i : ℕ) → S < 1024 → has S i ≡ true → i < 10
small_member S i few h =
    ⊎_elim (λ k. k) (λ k. absurd (true≢false (sym h ∙ has_past 10 S i few k))) (cases_lt i 10)

pub same_power : (i j : ℕ) → 2 ^ i ≡ 2 ^ j → i ≡ j
same_power i j e = eqb-true i j (sym (has_pow i j) ∙ ap (λ (n : ℕ). has n j) e ∙ has_pow_self j)

module _ (choice : ℕ → ℕ → ℕ) where
  pub nothing_led : (R S : ℕ) → Nothing (choice R S) R S → (p : Plan) → Leads choice R S p → ⊥
  unfolding Leads
  nothing_led R S n (bare i) a = n.no_table i a
  nothing_led R S n (test i p) a = n.no_test i a.0
  nothing_led R S n (join l r) a = n.no_join a.0 a.1

  bare_only : (R S i : ℕ) → Bare (choice R S) R S i → (p : Plan) → Leads choice R S p → p ≡ bare i
  unfolding Leads
  bare_only R S i b (bare j) a = ap bare (same_power j i (sym a.alone ∙ b.alone))
  bare_only R S i b (test j p) a = absurd (omega (arith, b.chosen, a.0.chosen))
  bare_only R S i b (join l r) a = absurd (omega (arith, b.chosen, a.1.chosen))

  pub test_only : (R S i : ℕ) → S < 1024 → Tested (choice R S) S i → (p : Plan) → Leads choice R S p
      → (q : Plan) × (p ≡ test i q) × Leads choice R (S - 2 ^ i) q
  unfolding Leads
  test_only R S i few t (bare j) a = absurd (omega (arith, t.chosen, a.chosen))
  test_only R S i few t (test j q) a =
      let e : j ≡ i = omega (arith, t.chosen, a.0.chosen) in
      (q, ap (λ (n : ℕ). test n q) e, rw e at a.1)
  test_only R S i few t (join l r) a = absurd (omega (arith, small_member S i few t.there, t.chosen, a.1.chosen))

  pub join_only : (R S L : ℕ) → S < 1024 → Joined (choice R S) R L → (p : Plan) → Leads choice R S p
      → (l : Plan) × (r : Plan) × (p ≡ join l r) × Leads choice L (bit_and S L) l × Leads choice (R - L) (bit_and S (R - L)) r
  unfolding Leads
  join_only R S L few j (bare i) a = absurd (omega (arith, j.chosen, a.chosen))
  join_only R S L few j (test i p) a = absurd (omega (arith, small_member S i few a.0.there, j.chosen, a.0.chosen))
  join_only R S L few j (join l r) a =
      let e : a.0 ≡ L = omega (arith, j.chosen, a.1.chosen) in
      (l, r, refl, rw e at a.2, rw e at a.3)

  pub same_plan : (R S : ℕ) → S < 1024 → (p q : Plan) → Leads choice R S p → Leads choice R S q → p ≡ q
  unfolding Leads
  same_plan R S few (bare i) q a b = sym (bare_only R S i a q b)
  same_plan R S few (test i p) q a b =
      let u = test_only R S i few a.0 q b in
      ap (test i) (same_plan R (S - 2 ^ i) (omega arith) p u.0 a.1 u.2) ∙ sym u.1
  same_plan R S few (join l r) q a b =
      let L = a.0 in
      let u = join_only R S L few a.1 q b in
      ap₂ join (same_plan L (bit_and S L) (omega (arith, and_le_l S L)) l u.0 a.2 u.3)
      (same_plan (R - L) (bit_and S (R - L)) (omega (arith, and_le_l S (R - L))) r u.1 a.3 u.4)
      ∙ sym u.2
