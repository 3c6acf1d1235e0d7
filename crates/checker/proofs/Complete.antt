-- Steps read just the plans that bytes spell and that may stand together.
use Rattle.std.proofs.Common.{◌≡◌, ℕ, ◌+◌, ◌^◌, Bool, true, false, not, ◌&&◌, eqb, ltb, List, [], ◌∷◌, ◌++◌, is_some, Some, None, Option, sym, refl, ap, ◌∙◌, append_assoc, append-nil}
use lib.Bits.{bit_and, and_comm, and_zero_r}
use Rattle.std.proofs.lemmas.Bool.{and_from, lt-ltb, not_from_false}
use Rattle.sets.specs.Sets.{has}
use Rattle.sets.proofs.Bits.{apart_has, has_pow_self}
use Rattle.plans.specs.Questions.{Question, linked}
use Rattle.plans.specs.Plans.{Plan, bare, test, join, tables, tests, WellFormed}
use Rattle.plans.specs.Spelling.{spelled, with_test, with_join, after_pair, and_then, after_bytes, lone}
use Rattle.plans.proofs.Links.{linked_by}
use Rattle.plans.proofs.Optimal.{table_below}
use Rattle.plans.proofs.Spellings.{spelled_one_way}
use Rattle.checker.specs.Steps.{tables_in, provided, more_table, more_test, more_join, step, steps, testable}
use Rattle.checker.proofs.Sound.{sum_apart, apart_left, apart_right, nothing, was_provided}

-- ---- a plan that shares no table with the parts is read on top of them

go_on : (b : Bool) (parts : List Plan) (f : List Plan → Option (List Plan)) → b ≡ true → and_then (provided b parts) f ≡ f parts
go_on b parts f e = ap (λ (t : Bool). and_then (provided t parts) f) e

module _ (Q : Question) where
  pub steps_spelled : (p : Plan) (bytes : List ℕ) (parts : List Plan) → WellFormed Q p → bit_and (tables p) (tables_in parts) ≡ 0
      → steps Q (spelled p ++ bytes) parts ≡ steps Q bytes (p ∷ parts)
  unfolding spelled step steps WellFormed tables tables_in
  steps_spelled (bare i) bytes parts w apart =
      go_on (ltb i Q.count && not (has (tables_in parts) i)) (bare i ∷ parts) (steps Q bytes)
      (and_from (ltb i Q.count) (not (has (tables_in parts) i)) (lt-ltb i Q.count w) (not_from_false _ (apart_has (2 ^ i) (tables_in parts) i apart (has_pow_self i))))
  steps_spelled (test i p) bytes parts w apart =
      ap (λ bs. steps Q bs parts) (append_assoc (spelled p) (0x11 ∷ i ∷ []) bytes) ∙ steps_spelled p (0x11 ∷ i ∷ bytes) parts w.0 apart
      ∙ go_on (testable Q i (tables p) (tests p)) (test i p ∷ parts) (steps Q bytes)
      (and_from (is_some (Q.test i)) (has (tables p) i && not (has (tests p) i)) w.1 (and_from (has (tables p) i) (not (has (tests p) i)) w.2 (not_from_false _ w.3)))
  steps_spelled (join l r) bytes parts w apart =
      let t = w.3 in
      let swapped = and_comm (tables_in parts) (tables l + tables r) ∙ apart in
      let left = apart_left (tables l) (tables r) (tables_in parts) w.2 swapped in
      let right = apart_right (tables l) (tables r) (tables_in parts) w.2 swapped in
      let above = and_comm (tables r) (tables l + tables_in parts)
      ∙ sum_apart (tables l) (tables_in parts) (tables r) w.2 right (and_comm (tables l) (tables_in parts) ∙ left) in
      ap (λ bs. steps Q bs parts) (append_assoc (spelled l) (spelled r ++ (0x12 ∷ 0 ∷ [])) bytes)
      ∙ steps_spelled l ((spelled r ++ (0x12 ∷ 0 ∷ [])) ++ bytes) parts w.0 (and_comm (tables l) (tables_in parts) ∙ left)
      ∙ ap (λ bs. steps Q bs (l ∷ parts)) (append_assoc (spelled r) (0x12 ∷ 0 ∷ []) bytes)
      ∙ steps_spelled r (0x12 ∷ 0 ∷ bytes) (l ∷ parts) w.1 above
      ∙ go_on (linked Q (tables l) (tables r)) (join l r ∷ parts) (steps Q bytes)
      (linked_by Q (tables l) (tables r) t.0 t.1 (table_below Q l t.0 w.0 t.2) (table_below Q r t.1 w.1 t.3) t.2 t.3 t.4)

  pub all_steps : (p : Plan) → WellFormed Q p → steps Q (spelled p) [] ≡ Some (p ∷ [])
  unfolding steps tables_in
  all_steps p w = ap (λ bs. steps Q bs []) (sym (append-nil (spelled p))) ∙ steps_spelled p [] [] w (and_zero_r (tables p))

  -- ---- and what steps read, the bytes spell

  test_reads : (i : ℕ) (parts next : List Plan) → more_test Q i parts ≡ Some next → with_test i parts ≡ Some next
  test_reads i [] next e = e
  test_reads i (p ∷ parts) next e = ap Some (was_provided _ _ next e).1

  join_reads : (parts next : List Plan) → more_join Q parts ≡ Some next → with_join parts ≡ Some next
  join_reads [] next e = e
  join_reads (r ∷ []) next e = e
  join_reads (r ∷ l ∷ parts) next e = ap Some (was_provided _ _ next e).1

  step_reads : (a b : ℕ) (parts next : List Plan) → step Q a b parts ≡ Some next → after_pair a b parts ≡ Some next
  unfolding step after_pair
  step_reads a b parts next e = bares (eqb a 0x10) e
    where
      joins : (t : Bool) → ◌≡◌ {A = Option (List Plan)} (elim t [ true ↦ more_join Q parts | false ↦ None ]) (Some next)
          → ◌≡◌ {A = Option (List Plan)} (elim t [ true ↦ with_join parts | false ↦ None ]) (Some next)
      joins true h = join_reads parts next h
      joins false h = h

      tested : (t : Bool) → ◌≡◌ {A = Option (List Plan)} (elim t [ true ↦ more_test Q b parts | false ↦ elim (eqb a 0x12 && eqb b 0) [ true ↦ more_join Q parts | false ↦ None ] ]) (Some next)
          → ◌≡◌ {A = Option (List Plan)} (elim t [ true ↦ with_test b parts | false ↦ elim (eqb a 0x12 && eqb b 0) [ true ↦ with_join parts | false ↦ None ] ]) (Some next)
      tested true h = test_reads b parts next h
      tested false h = joins (eqb a 0x12 && eqb b 0) h

      bares : (t : Bool)
          → ◌≡◌ {A = Option (List Plan)} (elim t [ true ↦ more_table Q b parts | false ↦ elim (eqb a 0x11) [ true ↦ more_test Q b parts | false ↦ elim (eqb a 0x12 && eqb b 0) [ true ↦ more_join Q parts | false ↦ None ] ] ]) (Some next)
          → ◌≡◌ {A = Option (List Plan)} (elim t [ true ↦ Some (bare b ∷ parts) | false ↦ elim (eqb a 0x11) [ true ↦ with_test b parts | false ↦ elim (eqb a 0x12 && eqb b 0) [ true ↦ with_join parts | false ↦ None ] ] ]) (Some next)
      bares true h = ap Some (was_provided _ _ next h).1
      bares false h = tested (eqb a 0x11) h

  steps_read : (bytes : List ℕ) (parts last : List Plan) → steps Q bytes parts ≡ Some last → after_bytes bytes parts ≡ Some last
  unfolding steps after_bytes
  steps_read [] parts last e = e
  steps_read (a ∷ []) parts last e = e
  steps_read (a ∷ b ∷ bytes) parts last e = go (step Q a b parts) refl e (steps_read bytes)
    where
      go : (o : Option (List Plan)) → step Q a b parts ≡ o → and_then o (steps Q bytes) ≡ Some last
          → ((next end : List Plan) → steps Q bytes next ≡ Some end → after_bytes bytes next ≡ Some end)
          → and_then (after_pair a b parts) (after_bytes bytes) ≡ Some last
      go None h k rest = nothing last k
      go (Some next) h k rest = ap (λ o. and_then o (after_bytes bytes)) (step_reads a b parts next h) ∙ rest next last k

  pub steps_spell : (bytes : List ℕ) (p : Plan) → steps Q bytes [] ≡ Some (p ∷ []) → spelled p ≡ bytes
  steps_spell bytes p e = sym (spelled_one_way.spelling bytes p (ap lone (steps_read bytes [] (p ∷ []) e)))
