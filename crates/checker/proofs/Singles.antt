-- The size of a table alone is its rows.
use Rattle.std.proofs.Common.{◌≡◌, ℕ, zero, suc, ◌+◌, ◌-◌, ◌*◌, ◌^◌, ◌<◌, ◌≤◌, min, Bool, cond, [], ◌∷◌, Some, None, Option, sym, refl, ap, ◌∙◌, arith}
use Rattle.std.proofs.lemmas.Bool.{ne_eqb}
use Rattle.sets.specs.Sets.{has}
use Rattle.sets.proofs.Bits.{zero_bits, has_pow, has_pow_self}
use Rattle.plans.specs.Questions.{Question, up, base, narrowed, size_of, size}
use Rattle.plans.specs.declared.predicates.Test.{Test}
use Rattle.catalogue.specs.Members.{from}
use Rattle.catalogue.proofs.From.{from_none, from_in, from_out, from_all}

-- The members of a set of one from k up to k + j.
none_above : (i k j : ℕ) → i < k → from k (k + j) (2 ^ i) ≡ []
none_above i k zero h = from_none k (k + 0) (2 ^ i) (omega arith)
none_above i k (suc j) h =
    let further : k + suc j ≡ (k + 1) + j = omega arith in
    from_out k (k + suc j) (2 ^ i) (omega arith) (has_pow i k ∙ ne_eqb i k (omega arith)) ∙ ap (λ (n : ℕ). from (k + 1) n (2 ^ i)) further ∙ none_above i (k + 1) j (omega arith)

only_one : (i n k j : ℕ) → k + j ≡ i → i < n → from k n (2 ^ i) ≡ i ∷ []
only_one i n k zero e h =
    let here : k ≡ i = omega arith in
    let rest : n ≡ (i + 1) + (n - (i + 1)) = omega arith in
    ap (λ (x : ℕ). from x n (2 ^ i)) here ∙ from_in i n (2 ^ i) h (has_pow_self i)
    ∙ ap (λ xs. i ∷ xs) (ap (λ (x : ℕ). from (i + 1) x (2 ^ i)) rest ∙ none_above i (i + 1) (n - (i + 1)) (omega arith))
only_one i n k (suc j) e h = from_out k n (2 ^ i) (omega arith) (has_pow i k ∙ ne_eqb i k (omega arith)) ∙ only_one i n (k + 1) j (omega arith) h

base_bare : (Q : Question) (i : ℕ) → base Q 0 i ≡ Q.rows i
unfolding base
base_bare Q i = go (Q.test i)
  where
    go : (o : Option Test) → ◌≡◌ {A = ℕ} (elim o [ Some t ↦ cond (has 0 i) (up (Q.rows i * t.p) t.q) (Q.rows i) | None ↦ Q.rows i ]) (Q.rows i)
    go (Some t) = ap (λ (b : Bool). cond b (up (Q.rows i * t.p) t.q) (Q.rows i)) (zero_bits i)
    go None = refl

pub size_alone : (Q : Question) (i : ℕ) → i < Q.count → Q.rows i ≤ 16777215 → size Q (2 ^ i) 0 ≡ Q.rows i
unfolding size_of narrowed
size_alone Q i h few =
    let one = sym (from_all Q.count (2 ^ i)) ∙ only_one i Q.count 0 i (omega arith) h in
    let b = base_bare Q i in
    let least : min 16777215 (base Q 0 i * 1) ≡ Q.rows i = omega arith in
    ap (size_of Q 0) one ∙ least
