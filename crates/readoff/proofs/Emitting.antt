-- What is written for a row, from what is written for the rows of its parts.
use Rattle.std.proofs.Common.{◌≡◌, ℕ, ◌+◌, ◌-◌, ◌^◌, ◌<◌, ◌≤◌, List, [], ◌∷◌, ◌++◌, length, drop, Some, None, Option, sym, ap, ◌∙◌, arith, length-append, pow_pos}
use lib.Bits.{bit_and, and_le_l}
use Rattle.plans.specs.Plans.{Plan, bare, test, join}
use Rattle.plans.specs.Spelling.{spelled}
use Rattle.sets.specs.declared.rows.Row.{Row}
use Rattle.sets.proofs.Parts.{one_le}
use Rattle.readoff.specs.Leads.{Bare, Tested, Leads}
use Rattle.readoff.specs.Choices.{Is, Sides}
use Rattle.buffers.specs.Put.{PutOrNot}
use Rattle.readoff.specs.Written.{Emitted, Front, ReadOff}
use Rattle.readoff.proofs.Leading.{test_only, join_only, same_plan}
use Rattle.buffers.proofs.Putting.{put_length, put_more}

pub length_test : (i : ℕ) (p : Plan) → length (spelled (test i p)) ≡ length (spelled p) + 2
unfolding spelled
length_test i p = length-append (spelled p) (0x11 ∷ i ∷ [])

pub length_join : (l r : Plan) → length (spelled (join l r)) ≡ length (spelled l) + length (spelled r) + 2
unfolding spelled
length_join l r =
    omega (arith, length-append (spelled l) (spelled r ++ (0x12 ∷ 0 ∷ [])), length-append (spelled r) (0x12 ∷ 0 ∷ []))

two_bytes : (p : Plan) → 2 ≤ length (spelled p)
unfolding spelled
two_bytes (bare i) = omega arith
two_bytes (test i p) = omega (arith, length_test i p)
two_bytes (join l r) = omega (arith, length_join l r)

-- One operation is put after what stands, or there is no room for it.
abbrev pub PutOne : (before after : List ℕ) (at operation index : ℕ) → Option ℕ → Type 0
PutOne before after at operation index answer = PutOrNot before after at (operation ∷ index ∷ []) answer

-- No plan has room: each that the row leads to needs more than there is.
abbrev pub HasNoRoom : (choice : ℕ → ℕ → ℕ) (R S room at : ℕ) → Type 0
HasNoRoom choice R S room at = (p : Plan) → Leads choice R S p → room < at + length (spelled p)

-- ---- rows by their numbers

leads_same : (choice : ℕ → ℕ → ℕ) (R S R' S' : ℕ) (p : Plan) → R' ≡ R → S' ≡ S → Leads choice R S p → Leads choice R' S' p
leads_same choice R S R' S' p er es h = rw (er, es) h

to_row : (choice : ℕ → ℕ → ℕ) (row : Row) (R S : ℕ) (p : Plan) → Is row R S → Leads choice R S p → Leads choice row.tables.bits row.tests.bits p
to_row choice row R S p is h = leads_same choice R S _ _ p is.0 is.1 h

of_row : (choice : ℕ → ℕ → ℕ) (row : Row) (R S : ℕ) (p : Plan) → Is row R S → Leads choice row.tables.bits row.tests.bits p → Leads choice R S p
of_row choice row R S p is h = leads_same choice _ _ R S p (sym is.0) (sym is.1) h

-- ---- the rows of the parts are smaller

pub input_smaller : (code R S i : ℕ) (input : Row) → Tested code S i → Is input R (S - 2 ^ i) → input.tables.bits + input.tests.bits < R + S
input_smaller code R S i input t is = omega (arith, is.0, is.1, one_le S i t.there, pow_pos i)

module _ (code R S : ℕ) (left right : Row) (s : Sides code R S left right) where
  pub left_smaller : left.tables.bits + left.tests.bits < R + S
  left_smaller = omega (arith, s.left_is.0, s.left_is.1, s.joined.proper, and_le_l S s.L)

  pub right_smaller : right.tables.bits + right.tests.bits < R + S
  right_smaller = omega (arith, s.right_is.0, s.right_is.1, s.joined.some, s.joined.proper, and_le_l S (R - s.L))

-- ---- the three choices

module _ (choice : ℕ → ℕ → ℕ) (R S : ℕ) (before after : List ℕ) (at : ℕ) where
  pub table_emitted : (i : ℕ) (answer : Option ℕ) → Bare (choice R S) R S i → PutOne before after at 0x10 i answer
      → Emitted choice R S before after at answer
  unfolding Leads spelled
  table_emitted i None b put = λ p a. omega (arith, put.short, two_bytes p)
  table_emitted i (Some end) b put = (bare i, b, put)

  module _ (few : S < 1024) where
    -- Where a plan is led to, no other one is.
    room_for_none : (q : Plan) → Leads choice R S q → length before < at + length (spelled q) → HasNoRoom choice R S (length before) at
    room_for_none q b h p a = rw (same_plan choice R S few p q a b) h

    module _ (i : ℕ) (input : Row) (t : Tested (choice R S) S i) (is : Is input R (S - 2 ^ i)) where
      pub input_none : HasNoRoom choice input.tables.bits input.tests.bits (length before) at → HasNoRoom choice R S (length before) at
      input_none h p a =
          let u = test_only choice R S i few t p a in
          omega (arith, h u.0 (to_row choice input R (S - 2 ^ i) u.0 is u.2), ap (λ q. length (spelled q)) u.1, length_test i u.0)

      pub test_emitted : (between : List ℕ) (middle : ℕ) (answer : Option ℕ)
          → Emitted choice input.tables.bits input.tests.bits before between at (Some middle)
          → PutOne between after middle 0x11 i answer → Emitted choice R S before after at answer
      unfolding Leads spelled
      test_emitted between middle None d put =
          room_for_none (test i d.0) (t, of_row choice input R (S - 2 ^ i) d.0 is d.1)
          (omega (arith, put.short, put_length _ _ _ _ _ d.2, d.2.ends, length_test i d.0))
      test_emitted between middle (Some end) d put = (
        test i d.0,
        (t, of_row choice input R (S - 2 ^ i) d.0 is d.1),
        put_more _ _ _ _ _ d.2 after (0x11 ∷ i ∷ []) end put,
      )

    module _ (left right : Row) (s : Sides (choice R S) R S left right) where
      pub left_none : HasNoRoom choice left.tables.bits left.tests.bits (length before) at → HasNoRoom choice R S (length before) at
      left_none h p a =
          let u = join_only choice R S s.L few s.joined p a in
          omega (arith, h u.0 (to_row choice left _ _ u.0 s.left_is u.3), ap (λ q. length (spelled q)) u.2, length_join u.0 u.1)

      pub right_none : (between : List ℕ) (middle : ℕ) → Emitted choice left.tables.bits left.tests.bits before between at (Some middle)
          → HasNoRoom choice right.tables.bits right.tests.bits (length between) middle → HasNoRoom choice R S (length before) at
      right_none between middle d h p a =
          let u = join_only choice R S s.L few s.joined p a in
          let l = of_row choice left _ _ d.0 s.left_is d.1 in
          let same = same_plan choice s.L (bit_and S s.L) (omega (arith, and_le_l S s.L)) u.0 d.0 u.3 l in
          omega (
            arith,
            h u.1 (to_row choice right _ _ u.1 s.right_is u.4),
            put_length _ _ _ _ _ d.2,
            d.2.ends,
            ap (λ q. length (spelled q)) same,
            ap (λ q. length (spelled q)) u.2,
            length_join u.0 u.1,
          )

      both_led : (l r : Plan) → Leads choice left.tables.bits left.tests.bits l → Leads choice right.tables.bits right.tests.bits r
          → Leads choice R S (join l r)
      unfolding Leads
      both_led l r a b = (s.L, s.joined, of_row choice left _ _ l s.left_is a, of_row choice right _ _ r s.right_is b)

      pub join_emitted : (one two : List ℕ) (m n : ℕ) (answer : Option ℕ)
          → Emitted choice left.tables.bits left.tests.bits before one at (Some m)
          → Emitted choice right.tables.bits right.tests.bits one two m (Some n)
          → PutOne two after n 0x12 0 answer → Emitted choice R S before after at answer
      unfolding spelled
      join_emitted one two m n None d e put =
          room_for_none (join d.0 e.0) (both_led d.0 e.0 d.1 e.1)
          (omega (arith, put.short, put_length _ _ _ _ _ d.2, put_length _ _ _ _ _ e.2, d.2.ends, e.2.ends, length_join d.0 e.0))
      join_emitted one two m n (Some end) d e put = (
        join d.0 e.0,
        both_led d.0 e.0 d.1 e.1,
        put_more _ _ _ _ _ d.2 after _ end (put_more _ _ _ _ _ e.2 after (0x12 ∷ 0 ∷ []) end put),
      )

-- ---- from the front on

module _ (choice : ℕ → ℕ → ℕ) (R S : ℕ) (few : S < 1024) (before after : List ℕ) where
  written : (answer : Option ℕ) → Emitted choice R S before after 0 answer
      → (p : Plan) → Leads choice R S p → length (spelled p) ≤ length before → Front p before after answer
  written None d p a h = absurd (omega (arith, d p a))
  written (Some end) d p a h =
      let same = same_plan choice R S few d.0 p d.1 a in
      let ends : end ≡ length (spelled p) = omega (arith, d.2.ends, ap (λ q. length (spelled q)) same) in
      record {
        number = ap Some ends;
        holds = d.2.holds ∙ ap (λ (n : ℕ). spelled d.0 ++ drop n before) ends ∙ ap (λ q. spelled q ++ drop (length (spelled p)) before) same;
      }

  led : (answer : Option ℕ) → Emitted choice R S before after 0 answer
      → (n : ℕ) → answer ≡ Some n → (p : Plan) × Leads choice R S p × (length (spelled p) ≡ n) × (n ≤ length before)
  led None d n e = let z : ◌≡◌ {A = ℕ} 0 1 = cc in absurd (omega arith)
  led (Some end) d n e =
      let same : end ≡ n = cc in
      (d.0, d.1, omega (arith, d.2.ends), omega (arith, d.2.room))

  pub from_front : (answer : Option ℕ) → Emitted choice R S before after 0 answer → ReadOff choice R S before after answer
  from_front answer d = record { written = written answer d; led = led answer d }
