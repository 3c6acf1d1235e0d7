-- Every step keeps the parts sound, and reads what the bytes spell.
use Rattle.std.proofs.Common.{◌≡◌, ℕ, ◌+◌, ◌^◌, Bool, true, false, not, ◌&&◌, ltb, ◌⊎◌, List, [], ◌∷◌, is_some, Some, None, Option, sym, refl, ◌∙◌, subst, inl, inr, arith}
use lib.Bits.{bit_and, and_comm}
use Rattle.std.proofs.lemmas.Bool.{and_parts, or_cases, ltb-true, not-true}
use Rattle.sets.specs.Sets.{has, ◌⊆◌}
use Rattle.sets.proofs.Bits.{has_sum, apart_has, has_apart}
use Rattle.sets.proofs.Parts.{one_apart, part_self, parts_apart, sum_part}
use Rattle.plans.specs.Questions.{Question, linked}
use Rattle.plans.specs.Plans.{Plan, bare, test, join, tables, tests, WellFormed}
use Rattle.plans.proofs.Links.{linked_means}
use Rattle.checker.specs.Steps.{tables_in, provided, more_table, more_test, more_join, testable, Sound}

-- ---- what a step that was taken says

pub nothing : {X : Type 0} (next : List Plan) → ◌≡◌ {A = Option (List Plan)} None (Some next) → X
nothing next e = let z : ◌≡◌ {A = ℕ} 0 1 = cc in absurd (omega arith)

pub was_provided : (b : Bool) (parts next : List Plan) → provided b parts ≡ Some next → (b ≡ true) × (parts ≡ next)
was_provided true parts next e = (refl, cc)
was_provided false parts next e = nothing next e

-- ---- two sets that each share nothing with a third

pub sum_apart : (A B C : ℕ) → bit_and A C ≡ 0 → bit_and B C ≡ 0 → bit_and A B ≡ 0 → bit_and (A + B) C ≡ 0
sum_apart A B C a b e = has_apart (A + B) C (λ i h. out i (or_cases (has A i) (has B i) (sym (has_sum A B i e) ∙ h)))
  where
    out : (i : ℕ) → (has A i ≡ true) ⊎ (has B i ≡ true) → has C i ≡ false
    out i (inl h) = apart_has A C i a h
    out i (inr h) = apart_has B C i b h

-- and back
pub apart_left : (A B C : ℕ) → bit_and A B ≡ 0 → bit_and C (A + B) ≡ 0 → bit_and C A ≡ 0
apart_left A B C e h = parts_apart C A C (A + B) (part_self C) (sum_part A B e) h

pub apart_right : (A B C : ℕ) → bit_and A B ≡ 0 → bit_and C (A + B) ≡ 0 → bit_and C B ≡ 0
apart_right A B C e h = parts_apart C B C (A + B) (part_self C) (subst (λ (n : ℕ). B ⊆ n) (let s : B + A ≡ A + B = omega arith in s) (sum_part B A (and_comm B A ∙ e))) h

-- ---- steps keep the parts sound

module _ (Q : Question) where
  pub table_sound : (i : ℕ) (parts next : List Plan) → Sound Q parts → more_table Q i parts ≡ Some next → Sound Q next
  unfolding Sound WellFormed tables
  table_sound i parts next s e =
      let k = was_provided (ltb i Q.count && not (has (tables_in parts) i)) (bare i ∷ parts) next e in
      let both = and_parts (ltb i Q.count) (not (has (tables_in parts) i)) k.0 in
      subst (Sound Q) k.1 (ltb-true i Q.count both.0, and_comm (2 ^ i) (tables_in parts) ∙ one_apart (tables_in parts) i (not-true _ both.1), s)

  pub test_sound : (i : ℕ) (parts next : List Plan) → Sound Q parts → more_test Q i parts ≡ Some next → Sound Q next
  unfolding Sound WellFormed tables
  test_sound i [] next s e = nothing next e
  test_sound i (p ∷ parts) next s e =
      let k = was_provided (testable Q i (tables p) (tests p)) (test i p ∷ parts) next e in
      let given = and_parts (is_some (Q.test i)) (has (tables p) i && not (has (tests p) i)) k.0 in
      let both = and_parts (has (tables p) i) (not (has (tests p) i)) given.1 in
      subst (Sound Q) k.1 ((s.0, given.0, both.0, not-true _ both.1), s.1, s.2)

  pub join_sound : (parts next : List Plan) → Sound Q parts → more_join Q parts ≡ Some next → Sound Q next
  unfolding Sound WellFormed tables tables_in
  join_sound [] next s e = nothing next e
  join_sound (r ∷ []) next s e = nothing next e
  join_sound (r ∷ l ∷ parts) next s e =
      let k = was_provided (linked Q (tables l) (tables r)) (join l r ∷ parts) next e in
      let right = s.0 in
      let older = s.2 in
      let apart = and_comm (tables l) (tables r) ∙ apart_left (tables l) (tables_in parts) (tables r) older.1 s.1 in
      let rest = apart_right (tables l) (tables_in parts) (tables r) older.1 s.1 in
      subst (Sound Q) k.1
      ((older.0, right, apart, linked_means Q (tables l) (tables r) k.0), sum_apart (tables l) (tables r) (tables_in parts) older.1 rest apart, older.2)
