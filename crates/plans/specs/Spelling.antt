-- Plan bytes: two for each operation, in postorder; and the plan that bytes spell, if they spell one.
use Rattle.std.specs.Prelude.{◌≡◌, ℕ, true, false, ◌&&◌, List, [], ◌∷◌, ◌++◌, Some, None, Option, ◌==◌}
use Rattle.plans.specs.Plans.{Plan, bare, test, join}

-- 10 ii is table ii, 11 ii test ii on what precedes, 12 00 a join.
unfoldable pub spelled : Plan → List ℕ
spelled (bare i) = 0x10 ∷ i ∷ []
spelled (test i p) = spelled p ++ (0x11 ∷ i ∷ [])
spelled (join l r) = spelled l ++ (spelled r ++ (0x12 ∷ 0 ∷ []))

-- Unjoined parts, the newest first: a test takes the newest, and a join the two newest, of which the older is its left side.
abbrev pub with_test : ℕ → List Plan → Option (List Plan)
with_test i [] = None
with_test i (p ∷ parts) = Some (test i p ∷ parts)

abbrev pub with_join : List Plan → Option (List Plan)
with_join [] = None
with_join (r ∷ []) = None
with_join (r ∷ l ∷ parts) = Some (join l r ∷ parts)

-- The parts after one pair of bytes, ..
unfoldable pub after_pair : (a b : ℕ) → List Plan → Option (List Plan)
after_pair a b parts =
    elim (a == 0x10) [
      | true ↦ Some (bare b ∷ parts)
      | false ↦ elim (a == 0x11) [ true ↦ with_test b parts | false ↦ elim (a == 0x12 && b == 0) [ true ↦ with_join parts | false ↦ None ] ]
    ]

-- .. and after all of them.
abbrev pub and_then : {X Y : Type 0} → Option X → (X → Option Y) → Option Y
and_then None f = None
and_then (Some x) f = f x

unfoldable pub after_bytes : List ℕ → List Plan → Option (List Plan)
after_bytes [] parts = Some parts
after_bytes (a ∷ []) parts = None
after_bytes (a ∷ b ∷ bytes) parts = and_then (after_pair a b parts) (after_bytes bytes)

-- Bytes spell a plan if it alone is left at the end.
abbrev pub lone : Option (List Plan) → Option Plan
lone None = None
lone (Some []) = None
lone (Some (p ∷ [])) = Some p
lone (Some (p ∷ q ∷ parts)) = None

abbrev pub plan_of : List ℕ → Option Plan
plan_of bytes = lone (after_bytes bytes [])

-- Each plan has one spelling, and bytes spell one plan or none.
pub record SpelledOneWay : Type 0 where
  pub apart : (p q : Plan) → spelled p ≡ spelled q → p ≡ q
  pub read_back : (p : Plan) → plan_of (spelled p) ≡ Some p
  pub spelling : (bytes : List ℕ) (p : Plan) → plan_of bytes ≡ Some p → bytes ≡ spelled p
