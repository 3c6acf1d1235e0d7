-- An operation's price, written at its place, keeps what the list holds.
use Rattle.std.proofs.Common.{◌≡◌, ℕ, ◌+◌, ◌-◌, ◌<◌, ◌≤◌, ◌≢◌, List, [], ◌∷◌, length, get_or, set, Some, None, sym, refl, ap, ◌∙◌, subst, ⊎_elim, arith, get_or-set_other, get_or-set_same}
use Rattle.std.proofs.lemmas.Bool.{cases_eq}
use Rattle.pricing.specs.Models.{Model}
use Rattle.plans.specs.Questions.{Question, charged}
use Rattle.plans.specs.Plans.{Plan, bare, test, join, tables, tests, WellFormed}
use Rattle.plans.specs.Prices.{price}
use Rattle.checker.specs.declared.operations.Operation.{Operation}
use Rattle.checker.specs.declared.operations.Operation.TheVariants.{Table, Test, Join}
use Rattle.checker.specs.declared.parts.Parts.{Parts}
use Rattle.checker.specs.Checks.{price_or, Held}
use Rattle.checker.specs.Steps.{step, steps, Sound}
use Rattle.checker.specs.Stored.{price_from, last_in, Stored}
use Rattle.checker.specs.Taken.{Holds, Made, Took}
use Rattle.checker.proofs.Last.{at_place, below_place, table_elsewhere, test_elsewhere, join_elsewhere, lone_last}
use Rattle.checker.proofs.Pairs.{rest_of}
use Rattle.checker.proofs.Singles.{size_alone}
use Rattle.checker.proofs.Turns.{turn}

-- ---- an operation leaves a part

module _ (Q : Question) (held after : Parts) (parts next : List Plan) (before_it : Holds Q held parts) (after_it : Holds Q after next) where
  some_part : (done : Operation) → Made done parts next → 0 < after.depth
  some_part (Table row) w = omega (arith, after_it.depth, ap length w.2)
  some_part (Test i row) w = omega (arith, after_it.depth, ap length w.4)
  some_part (Join left right both) w = omega (arith, after_it.depth, ap length w.7)

-- ---- what the list holds

module _ {P : Type 0} (m : Model P) (Q : Question) (before now : List P) (at : ℕ) (v : P) (room : at < length now) where
  written : (o : Plan) (rest parts : List Plan) → at ≡ length rest → v ≡ price m Q o → ((k : ℕ) → k ≢ length rest → last_in k (o ∷ rest) ≡ last_in k parts)
      → Stored m Q parts before now → Stored m Q (o ∷ rest) before (set now at v)
  written o rest parts here e same s k d =
      ⊎_elim
      (λ q. ap (λ (n : ℕ). get_or (set now at v) n d) q ∙ get_or-set_same now at v d room ∙ e ∙ ap (λ x. price_or m Q x (get_or before k d)) (sym (at_place k o rest (q ∙ here))))
      (λ ne. get_or-set_other now at k v d ne ∙ s k d ∙ ap (λ x. price_or m Q x (get_or before k d)) (sym (same k (λ q. ne (q ∙ sym here)))))
      (cases_eq k at)

  -- The price of a part stands at its place.
  stands : (k : ℕ) (p : Plan) (parts : List Plan) → last_in k parts ≡ Some p → Stored m Q parts before now → get_or now k v ≡ price m Q p
  stands k p parts e s = s k v ∙ ap (λ x. price_or m Q x (get_or before k v)) e

  abbrev tested_by : (i : ℕ) (input : P) (R S : ℕ) → P
  tested_by i input R S = elim (Q.test i) [ Some t ↦ m.tested input (charged Q i R S) t.cost t.kind | None ↦ input ]

  pub stored_more : (done : Operation) (parts next : List Plan) → Sound Q next → ((i : ℕ) → Q.rows i ≤ 16777215) → Made done parts next → at + 1 ≡ length next
      → v ≡ price_from m Q done (get_or now at v) (get_or now (at + 1) v) → Stored m Q parts before now → Stored m Q next before (set now at v)
  unfolding price tables tests WellFormed Sound
  stored_more (Table row) parts next sound few (i, shown, e) here value s =
      let given = (subst (Sound Q) e sound).0 in
      let rows = size_alone Q i given (few i) in
      let alone : v ≡ m.bare (Q.rows i) = cc in
      subst (λ ps. Stored m Q ps before (set now at v)) (sym e)
      (written (bare i) parts parts (omega (arith, ap length e)) alone (λ k ne. table_elsewhere k i parts ne) s)
  stored_more (Test i row) parts next sound few (p, rest, shown, was, e) here value s =
      let place : at ≡ length rest = omega (arith, ap length e) in
      let old = subst (λ ps. Stored m Q ps before now) was s in
      let input = stands at p (p ∷ rest) (at_place at p rest place) old in
      let same : v ≡ price m Q (test i p) = value ∙ ap (λ x. tested_by i x row.tables.bits row.tests.bits) input
      ∙ ap (λ (n : ℕ). tested_by i (price m Q p) n row.tests.bits) shown.0 ∙ ap (λ (n : ℕ). tested_by i (price m Q p) (tables p) n) shown.1 in
      subst (λ ps. Stored m Q ps before (set now at v)) (sym e) (written (test i p) rest (p ∷ rest) place same (λ k ne. test_elsewhere k i p rest ne) old)
  stored_more (Join left right both) parts next sound few (l, r, rest, lefts, rights, boths, was, e) here value s =
      let place : at ≡ length rest = omega (arith, ap length e) in
      let old = subst (λ ps. Stored m Q ps before now) was s in
      let one = stands at l (r ∷ l ∷ rest) (below_place at r (l ∷ rest) (omega arith) ∙ at_place at l rest place) old in
      let other = stands (at + 1) r (r ∷ l ∷ rest) (at_place (at + 1) r (l ∷ rest) (omega arith)) old in
      let same : v ≡ price m Q (join l r) = cc in
      subst (λ ps. Stored m Q ps before (set now at v)) (sym e) (written (join l r) rest (r ∷ l ∷ rest) place same (λ k ne. join_elsewhere k l r rest ne) old)

-- A turn of the loop that prices one operation after another.
pub priced_turn : {P : Type 0} (m : Model P) (Q : Question) (bytes left : List ℕ) (parts : List Plan) (held after : Parts) (before now : List P) (done : Operation) (v : P)
    → 2 ≤ length left → steps Q bytes [] ≡ steps Q left parts → Holds Q held parts → Stored m Q parts before now → ((i : ℕ) → Q.rows i ≤ 16777215) → 10 ≤ length now
    → Took Q parts (step Q (get_or left 0 0) (get_or left 1 0) parts) (Some done) after → v ≡ price_from m Q done (get_or now (after.depth - 1) v) (get_or now (after.depth - 1 + 1) v)
    → (next : List Plan) × (steps Q bytes [] ≡ steps Q (rest_of left) next) × Holds Q after next × Stored m Q next before (set now (after.depth - 1) v)
priced_turn m Q bytes left parts held after before now done v two read h s rows ten took value =
    let t = turn Q bytes left parts after two read done took in
    let some = some_part Q held after parts t.0 h t.2 done t.3 in
    (t.0, t.1, t.2, stored_more m Q before now (after.depth - 1) v (omega (arith, after.few)) done parts t.0 t.2.sound rows t.3 (omega (arith, t.2.depth)) value s)

-- Where one part is left, the list holds what it shall, and its price at 0.
module _ {P : Type 0} (m : Model P) (Q : Question) (p : Plan) (before after : List P) where
  pub all_held : length after ≡ length before → Stored m Q (p ∷ []) before after → Held m Q p before after
  all_held e s = record { same_length = e; entries = λ k d. s k d ∙ ap (λ x. price_or m Q x (get_or before k d)) (lone_last k p) }

  pub price_first : (v : P) → v ≡ get_or after 0 v → Stored m Q (p ∷ []) before after → v ≡ price m Q p
  price_first v e s = e ∙ s 0 v ∙ ap (λ x. price_or m Q x (get_or before 0 v)) (at_place 0 p [] refl)
