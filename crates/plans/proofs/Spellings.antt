-- Reading plan bytes back.
use Rattle.std.proofs.Common.{◌≡◌, ℕ, Bool, true, false, ◌&&◌, eqb, List, [], ◌∷◌, ◌++◌, Some, None, Option, sym, refl, ap, ◌∙◌, append_assoc, append-nil, arith}
use Rattle.std.proofs.lemmas.Bool.{eqb-true, and_parts}
use Rattle.plans.specs.Plans.{Plan, bare, test, join}
use Rattle.plans.specs.Spelling.{spelled, with_test, with_join, after_pair, and_then, after_bytes, lone, plan_of, SpelledOneWay}

-- ---- from a plan to its bytes and back

pub after_spelled : (p : Plan) (bytes : List ℕ) (parts : List Plan) → after_bytes (spelled p ++ bytes) parts ≡ after_bytes bytes (p ∷ parts)
unfolding spelled after_pair after_bytes
after_spelled (bare i) bytes parts = refl
after_spelled (test i p) bytes parts = ap (λ bs. after_bytes bs parts) (append_assoc (spelled p) (0x11 ∷ i ∷ []) bytes) ∙ after_spelled p (0x11 ∷ i ∷ bytes) parts
after_spelled (join l r) bytes parts =
    ap (λ bs. after_bytes bs parts) (append_assoc (spelled l) (spelled r ++ (0x12 ∷ 0 ∷ [])) bytes)
    ∙ after_spelled l ((spelled r ++ (0x12 ∷ 0 ∷ [])) ++ bytes) parts
    ∙ ap (λ bs. after_bytes bs (l ∷ parts)) (append_assoc (spelled r) (0x12 ∷ 0 ∷ []) bytes)
    ∙ after_spelled r (0x12 ∷ 0 ∷ bytes) (l ∷ parts)

pub read_back : (p : Plan) → plan_of (spelled p) ≡ Some p
unfolding after_bytes
read_back p = ap lone (ap (λ bs. after_bytes bs []) (sym (append-nil (spelled p))) ∙ after_spelled p [] [])

apart : (p q : Plan) → spelled p ≡ spelled q → p ≡ q
apart p q e =
    let both : ◌≡◌ {A = Option Plan} (Some p) (Some q) = sym (read_back p) ∙ ap plan_of e ∙ read_back q in
    cc

-- ---- from bytes to a plan and back

-- The bytes of parts, the oldest first.
unfoldable pub spelled_parts : List Plan → List ℕ
spelled_parts [] = []
spelled_parts (p ∷ parts) = spelled_parts parts ++ spelled p

same_parts : (parts next : List Plan) → ◌≡◌ {A = Option (List Plan)} (Some parts) (Some next) → parts ≡ next
same_parts parts next e = cc

no_parts : {X : Type 0} (next : List Plan) → ◌≡◌ {A = Option (List Plan)} None (Some next) → X
no_parts next e = let z : ◌≡◌ {A = ℕ} 0 1 = cc in absurd (omega arith)

test_spells : (i : ℕ) (parts next : List Plan) → with_test i parts ≡ Some next → spelled_parts parts ++ (0x11 ∷ i ∷ []) ≡ spelled_parts next
unfolding spelled spelled_parts
test_spells i [] next e = no_parts next e
test_spells i (p ∷ parts) next e = append_assoc (spelled_parts parts) (spelled p) (0x11 ∷ i ∷ []) ∙ ap spelled_parts (same_parts (test i p ∷ parts) next e)

join_spells : (parts next : List Plan) → with_join parts ≡ Some next → spelled_parts parts ++ (0x12 ∷ 0 ∷ []) ≡ spelled_parts next
unfolding spelled spelled_parts
join_spells [] next e = no_parts next e
join_spells (r ∷ []) next e = no_parts next e
join_spells (r ∷ l ∷ parts) next e =
    append_assoc (spelled_parts parts ++ spelled l) (spelled r) (0x12 ∷ 0 ∷ []) ∙ append_assoc (spelled_parts parts) (spelled l) (spelled r ++ (0x12 ∷ 0 ∷ []))
    ∙ ap spelled_parts (same_parts (join l r ∷ parts) next e)

-- One pair more spells what the parts then are.
pub pair_spells : (a b : ℕ) (parts next : List Plan) → after_pair a b parts ≡ Some next → spelled_parts parts ++ (a ∷ b ∷ []) ≡ spelled_parts next
unfolding spelled after_pair spelled_parts
pair_spells a b parts next e = bares (eqb a 0x10) refl e
  where
    joins : (t : Bool) → (eqb a 0x12 && eqb b 0) ≡ t → ◌≡◌ {A = Option (List Plan)} (elim t [ true ↦ with_join parts | false ↦ None ]) (Some next) → spelled_parts parts ++ (a ∷ b ∷ []) ≡ spelled_parts next
    joins true t h =
        let k = and_parts (eqb a 0x12) (eqb b 0) t in
        rw (eqb-true a 0x12 k.0, eqb-true b 0 k.1) (join_spells parts next h)
    joins false t h = no_parts next h

    tested : (t : Bool) → eqb a 0x11 ≡ t → ◌≡◌ {A = Option (List Plan)} (elim t [ true ↦ with_test b parts | false ↦ elim (eqb a 0x12 && eqb b 0) [ true ↦ with_join parts | false ↦ None ] ]) (Some next) → spelled_parts parts ++ (a ∷ b ∷ []) ≡ spelled_parts next
    tested true t h = rw (eqb-true a 0x11 t) (test_spells b parts next h)
    tested false t h = joins (eqb a 0x12 && eqb b 0) refl h

    bares : (t : Bool) → eqb a 0x10 ≡ t → ◌≡◌ {A = Option (List Plan)} (elim t [ true ↦ Some (bare b ∷ parts) | false ↦ elim (eqb a 0x11) [ true ↦ with_test b parts | false ↦ elim (eqb a 0x12 && eqb b 0) [ true ↦ with_join parts | false ↦ None ] ] ]) (Some next) → spelled_parts parts ++ (a ∷ b ∷ []) ≡ spelled_parts next
    bares true t h = rw (eqb-true a 0x10 t) (ap spelled_parts (same_parts (bare b ∷ parts) next h))
    bares false t h = tested (eqb a 0x11) refl h

pub bytes_spell : (bytes : List ℕ) (parts last : List Plan) → after_bytes bytes parts ≡ Some last → spelled_parts parts ++ bytes ≡ spelled_parts last
unfolding after_bytes
bytes_spell [] parts last e = append-nil (spelled_parts parts) ∙ ap spelled_parts (same_parts parts last e)
bytes_spell (a ∷ []) parts last e = no_parts last e
bytes_spell (a ∷ b ∷ bytes) parts last e = go (after_pair a b parts) refl e (bytes_spell bytes)
  where
    go : (o : Option (List Plan)) → after_pair a b parts ≡ o → and_then o (after_bytes bytes) ≡ Some last
        → ((next end : List Plan) → after_bytes bytes next ≡ Some end → spelled_parts next ++ bytes ≡ spelled_parts end)
        → spelled_parts parts ++ (a ∷ b ∷ bytes) ≡ spelled_parts last
    go None h k rest = no_parts last k
    go (Some next) h k rest =
        sym (append_assoc (spelled_parts parts) (a ∷ b ∷ []) bytes) ∙ ap (λ bs. bs ++ bytes) (pair_spells a b parts next h) ∙ rest next last k

spelling : (bytes : List ℕ) (p : Plan) → plan_of bytes ≡ Some p → bytes ≡ spelled p
unfolding spelled_parts
spelling bytes p e = go (after_bytes bytes []) refl e
  where
    none : {X : Type 0} → ◌≡◌ {A = Option Plan} None (Some p) → X
    none h = let z : ◌≡◌ {A = ℕ} 0 1 = cc in absurd (omega arith)

    go : (o : Option (List Plan)) → after_bytes bytes [] ≡ o → lone o ≡ Some p → bytes ≡ spelled p
    go None h k = none k
    go (Some []) h k = none k
    go (Some (q ∷ [])) h k =
        let same : q ≡ p = cc in
        bytes_spell bytes [] (q ∷ []) h ∙ ap spelled same
    go (Some (q ∷ r ∷ parts)) h k = none k

pub spelled_one_way : SpelledOneWay
spelled_one_way = record { apart = apart; read_back = read_back; spelling = spelling }
