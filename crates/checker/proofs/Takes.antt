-- An operation that the code takes leads to the next parts.
use Rattle.std.proofs.Common.{◌≡◌, ℕ, ◌+◌, ◌-◌, ◌^◌, ◌<◌, ◌≤◌, Bool, true, false, not, ◌&&◌, eqb, ltb, ◌≢◌, List, [], ◌∷◌, length, get_or, set, is_some, Some, None, Option, sym, refl, ap, ◌∙◌, subst, arith}
use lib.Bits.{bit_or}
use Rattle.std.proofs.lemmas.Bool.{and_from, and_parts, eqb-true, lt-ltb, ne_eqb, not-true, not_from_false}
use Rattle.sets.specs.Sets.{has}
use Rattle.sets.specs.declared.rows.Row.{Row}
use Rattle.sets.proofs.Bits.{part_le}
use Rattle.sets.proofs.Masks.{or_one}
use Rattle.plans.specs.Questions.{Question, linked}
use Rattle.plans.specs.Plans.{Plan, bare, test, join, tables, tests}
use Rattle.plans.proofs.Optimal.{tests_part}
use Rattle.checker.specs.declared.operations.Operation.TheVariants.{Table, Test, Join}
use Rattle.checker.specs.declared.parts.Parts.{Parts}
use Rattle.checker.specs.Steps.{tables_in, provided, more_table, more_test, more_join, step, testable, Sound}
use Rattle.checker.specs.Taken.{Shows, Stacked, Holds, Took}
use Rattle.checker.proofs.Sound.{table_sound, test_sound, join_sound}
use Rattle.checker.proofs.Stacks.{stacked_on}

module _ (Q : Question) (held after : Parts) where
  pub table_took : (i : ℕ) (row : Row) (parts : List Plan) → Holds Q held parts → i < Q.count → has held.seen.bits i ≡ false → Shows row (bare i)
      → held.depth < length held.rows → after.rows ≡ set held.rows held.depth row → after.depth ≡ held.depth + 1
      → after.seen.bits ≡ bit_or held.seen.bits (2 ^ i) → Took Q parts (more_table Q i parts) (Some (Table row)) after
  unfolding tables tables_in
  table_took i row parts h given new shown room rows depth seen =
      let fresh : has (tables_in parts) i ≡ false = ap (λ (n : ℕ). has n i) (sym h.seen) ∙ new in
      let may = and_from (ltb i Q.count) (not (has (tables_in parts) i)) (lt-ltb i Q.count given) (not_from_false _ fresh) in
      let next : more_table Q i parts ≡ Some (bare i ∷ parts) = ap (λ (b : Bool). provided b (bare i ∷ parts)) may in
      let all : after.seen.bits ≡ 2 ^ i + tables_in parts = omega (arith, seen, or_one held.seen.bits i new, h.seen) in
      subst (λ o. Took Q parts o (Some (Table row)) after) (sym next) (
        (i, shown, refl),
        record {
          stacked = subst (λ rs. Stacked rs (bare i ∷ parts)) (sym rows) (stacked_on held.rows held.depth row (bare i) parts h.depth room shown h.stacked);
          depth = omega (arith, depth, h.depth);
          seen = all;
          sound = table_sound Q i parts (bare i ∷ parts) h.sound next;
        },
      )

  -- ---- a test on the newest part

  abbrev pub newest_row : Row → Row
  newest_row d = get_or held.rows (held.depth - 1) d

  newest : (p : Plan) (rest : List Plan) (d : Row) → Holds Q held (p ∷ rest) → Shows (newest_row d) p
  unfolding Stacked
  newest p rest d h =
      let at : length rest ≡ held.depth - 1 = omega (arith, h.depth) in
      subst (λ (n : ℕ). Shows (get_or held.rows n d) p) at (h.stacked.0 d)

  shown_testable : (i : ℕ) (row : Row) (p : Plan) (b : Bool) → Shows row p → b ≡ testable Q i row.tables.bits row.tests.bits → testable Q i (tables p) (tests p) ≡ b
  shown_testable i row p b s e = sym (e ∙ ap (λ (n : ℕ). testable Q i n row.tests.bits) s.0 ∙ ap (λ (n : ℕ). testable Q i (tables p) n) s.1)

  pub test_refused : (i : ℕ) (d : Row) (parts : List Plan) → Holds Q held parts
      → false ≡ testable Q i (newest_row d).tables.bits (newest_row d).tests.bits
      → Took Q parts (more_test Q i parts) None after
  test_refused i d [] h e = tt
  test_refused i d (p ∷ rest) h e =
      let no_more : more_test Q i (p ∷ rest) ≡ None = ap (λ (b : Bool). provided b (test i p ∷ rest)) (shown_testable i (newest_row d) p false (newest p rest d h) e) in
      subst (λ o. Took Q (p ∷ rest) o None after) (sym no_more) tt

  pub test_took : (i : ℕ) (d row : Row) (parts : List Plan) → Holds Q held parts → 0 < held.depth
      → true ≡ testable Q i (newest_row d).tables.bits (newest_row d).tests.bits
      → row.tables.bits ≡ (newest_row d).tables.bits → row.tests.bits ≡ bit_or (newest_row d).tests.bits (2 ^ i)
      → held.depth - 1 < length held.rows → after.rows ≡ set held.rows (held.depth - 1) row → after.depth ≡ held.depth → after.seen.bits ≡ held.seen.bits
      → Took Q parts (more_test Q i parts) (Some (Test i (newest_row d))) after
  unfolding tables tests tables_in Stacked
  test_took i d row [] h deep may same_tables more room rows depth seen = absurd (omega (arith, h.depth))
  test_took i d row (p ∷ rest) h deep may same_tables more room rows depth seen =
      let shown = newest p rest d h in
      let can = shown_testable i (newest_row d) p true shown may in
      let new = not-true (has (tests p) i) (and_parts (has (tables p) i) (not (has (tests p) i)) (and_parts (is_some (Q.test i)) (has (tables p) i && not (has (tests p) i)) can).1).1 in
      let next : more_test Q i (p ∷ rest) ≡ Some (test i p ∷ rest) = ap (λ (b : Bool). provided b (test i p ∷ rest)) can in
      let tested : Shows row (test i p) = (same_tables ∙ shown.0, more ∙ ap (λ (n : ℕ). bit_or n (2 ^ i)) shown.1 ∙ or_one (tests p) i new) in
      let at : held.depth - 1 ≡ length rest = omega (arith, h.depth) in
      subst (λ o. Took Q (p ∷ rest) o (Some (Test i (newest_row d))) after) (sym next) (
        (p, rest, shown, refl, refl),
        record {
          stacked = subst (λ rs. Stacked rs (test i p ∷ rest)) (sym rows) (stacked_on held.rows (held.depth - 1) row (test i p) rest at room tested h.stacked.1);
          depth = depth ∙ h.depth;
          seen = seen ∙ h.seen;
          sound = test_sound Q i (p ∷ rest) (test i p ∷ rest) h.sound next;
        },
      )

  -- ---- a join of the two newest parts

  abbrev pub older_row : Row → Row
  older_row d = get_or held.rows (held.depth - 2) d

  older : (r l : Plan) (rest : List Plan) (d : Row) → Holds Q held (r ∷ l ∷ rest) → Shows (older_row d) l
  unfolding Stacked
  older r l rest d h =
      let at : length rest ≡ held.depth - 2 = omega (arith, h.depth) in
      subst (λ (n : ℕ). Shows (get_or held.rows n d) l) at (h.stacked.1.0 d)

  shown_linked : (left right : Row) (l r : Plan) (b : Bool) → Shows left l → Shows right r → b ≡ linked Q left.tables.bits right.tables.bits → linked Q (tables l) (tables r) ≡ b
  shown_linked left right l r b s t e = sym (e ∙ ap (λ (n : ℕ). linked Q n right.tables.bits) s.0 ∙ ap (linked Q (tables l)) t.0)

  pub join_refused : (d e : Row) (parts : List Plan) → Holds Q held parts
      → false ≡ linked Q (older_row d).tables.bits (newest_row e).tables.bits
      → Took Q parts (more_join Q parts) None after
  join_refused d e [] h t = tt
  join_refused d e (r ∷ []) h t = tt
  join_refused d e (r ∷ l ∷ rest) h t =
      let no_more : more_join Q (r ∷ l ∷ rest) ≡ None = ap (λ (b : Bool). provided b (join l r ∷ rest)) (shown_linked (older_row d) (newest_row e) l r false (older r l rest d h) (newest r (l ∷ rest) e h) t) in
      subst (λ o. Took Q (r ∷ l ∷ rest) o None after) (sym no_more) tt

  -- Two parts have no more tables, and no more tests, than there can be.
  pub join_fits : (d e : Row) (parts : List Plan) → Holds Q held parts → 2 ≤ held.depth
      → ((older_row d).tables.bits + (newest_row e).tables.bits < 1024) × ((older_row d).tests.bits + (newest_row e).tests.bits < 1024)
  unfolding tables_in Sound
  join_fits d e [] h deep = absurd (omega (arith, h.depth))
  join_fits d e (r ∷ []) h deep = absurd (omega (arith, h.depth))
  join_fits d e (r ∷ l ∷ rest) h deep =
      let lefts = older r l rest d h in
      let rights = newest r (l ∷ rest) e h in
      let few = held.seen.few in
      let fewer = part_le (tests l) (tables l) (tests_part Q l h.sound.2.0) in
      let fewer_too = part_le (tests r) (tables r) (tests_part Q r h.sound.0) in
      (omega (arith, lefts.0, rights.0, few, h.seen), omega (arith, lefts.1, rights.1, few, h.seen, fewer, fewer_too))

  pub join_took : (d e both : Row) (parts : List Plan) → Holds Q held parts → 2 ≤ held.depth
      → true ≡ linked Q (older_row d).tables.bits (newest_row e).tables.bits
      → both.tables.bits ≡ (older_row d).tables.bits + (newest_row e).tables.bits
      → both.tests.bits ≡ (older_row d).tests.bits + (newest_row e).tests.bits
      → held.depth - 2 < length held.rows → after.rows ≡ set held.rows (held.depth - 2) both → after.depth ≡ held.depth - 1 → after.seen.bits ≡ held.seen.bits
      → Took Q parts (more_join Q parts) (Some (Join (older_row d) (newest_row e) both)) after
  unfolding tables tests tables_in Stacked
  join_took d e both [] h deep may all_tables all_tests room rows depth seen = absurd (omega (arith, h.depth))
  join_took d e both (r ∷ []) h deep may all_tables all_tests room rows depth seen = absurd (omega (arith, h.depth))
  join_took d e both (r ∷ l ∷ rest) h deep may all_tables all_tests room rows depth seen =
      let lefts = older r l rest d h in
      let rights = newest r (l ∷ rest) e h in
      let next : more_join Q (r ∷ l ∷ rest) ≡ Some (join l r ∷ rest) = ap (λ (b : Bool). provided b (join l r ∷ rest)) (shown_linked (older_row d) (newest_row e) l r true lefts rights may) in
      let joined : Shows both (join l r) = (omega (arith, all_tables, lefts.0, rights.0), omega (arith, all_tests, lefts.1, rights.1)) in
      let at : held.depth - 2 ≡ length rest = omega (arith, h.depth) in
      subst (λ o. Took Q (r ∷ l ∷ rest) o (Some (Join (older_row d) (newest_row e) both)) after) (sym next) (
        (l, r, rest, lefts, rights, joined, refl, refl),
        record {
          stacked = subst (λ rs. Stacked rs (join l r ∷ rest)) (sym rows) (stacked_on held.rows (held.depth - 2) both (join l r) rest at room joined h.stacked.1.1);
          depth = omega (arith, depth, h.depth);
          seen = omega (arith, seen, h.seen);
          sound = join_sound Q (r ∷ l ∷ rest) (join l r ∷ rest) h.sound next;
        },
      )

-- ---- by the first byte of the pair

module _ (Q : Question) (a b : ℕ) (parts : List Plan) where
  pub step_table : a ≡ 0x10 → more_table Q b parts ≡ step Q a b parts
  unfolding step
  step_table e = ap (λ (n : ℕ). step Q n b parts) (sym e)

  pub step_test : a ≡ 0x11 → more_test Q b parts ≡ step Q a b parts
  unfolding step
  step_test e = ap (λ (n : ℕ). step Q n b parts) (sym e)

  pub step_join : a ≡ 0x12 → b ≡ 0 → more_join Q parts ≡ step Q a b parts
  unfolding step
  step_join e z = ap (λ (n : ℕ). step Q n 0 parts) (sym e) ∙ ap (λ (n : ℕ). step Q a n parts) (sym z)

  step_none : a ≢ 0x10 → a ≢ 0x11 → (a ≡ 0x12 → b ≢ 0) → step Q a b parts ≡ None
  unfolding step
  step_none t u v = rw (step, ne_eqb a 0x10 t, ne_eqb a 0x11 u) (go (eqb a 0x12) refl)
    where
      go : (t : Bool) → eqb a 0x12 ≡ t → ◌≡◌ {A = Option (List Plan)} (elim (t && eqb b 0) [ true ↦ more_join Q parts | false ↦ None ]) None
      go true h = rw (ne_eqb b 0 (v (eqb-true a 0x12 h)))
      go false h = refl

  pub none_taken : (after : Parts) → a ≢ 0x10 → a ≢ 0x11 → (a ≡ 0x12 → b ≢ 0) → Took Q parts (step Q a b parts) None after
  none_taken after t u v = subst (λ o. Took Q parts o None after) (sym (step_none t u v)) tt
