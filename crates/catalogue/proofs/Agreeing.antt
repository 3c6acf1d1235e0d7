-- The size of a set from that of all but its lowest table.
use Rattle.std.proofs.Common.{◌≡◌, ℕ, zero, suc, ◌+◌, ◌-◌, ◌*◌, ◌^◌, ◌<◌, ◌≤◌, min, Bool, true, false, cond, not, ◌&&◌, List, ◌∷◌, Some, None, Option, sym, refl, ap, ◌∙◌, ap₂, ⊎_elim, arith}
use lib.Bits.{bit_and}
use Rattle.std.proofs.Math.Bool.{and-true}
use Rattle.std.proofs.lemmas.Bool.{cases_Bool, cases_eq, ne_eqb}
use Rattle.sets.specs.Sets.{has}
use Rattle.sets.proofs.Bits.{has_and, has_pow, has_rest}
use Rattle.sets.proofs.Parts.{one_part, without}
use Rattle.plans.specs.Questions.{Question, base, narrowed, size_of, size, up}
use Rattle.plans.specs.declared.predicates.Test.{Test}
use Rattle.catalogue.specs.Members.{from, Lowest}
use Rattle.catalogue.proofs.From.{from_none, from_in, from_out, from_all, size_in}

-- ---- sets that agree from some number on

from_same : (d k n A B : ℕ) → n - k ≡ d → ((i : ℕ) → k ≤ i → has A i ≡ has B i) → from k n A ≡ from k n B
from_same zero k n A B e h = from_none k n A (omega arith) ∙ sym (from_none k n B (omega arith))
from_same (suc d) k n A B e h =
    let ih = from_same d (k + 1) n A B (omega arith) (λ i l. h i (omega arith)) in
    ⊎_elim
    (λ t. from_in k n A (omega arith) t ∙ ap (λ (js : List ℕ). k ∷ js) ih ∙ sym (from_in k n B (omega arith) (sym (h k (omega arith)) ∙ t)))
    (λ f. from_out k n A (omega arith) f ∙ ih ∙ sym (from_out k n B (omega arith) (sym (h k (omega arith)) ∙ f)))
    (cases_Bool (has A k))

-- none of R is below k
from_skip : (k n R : ℕ) → k ≤ n → ((i : ℕ) → i < k → has R i ≡ false) → from 0 n R ≡ from k n R
from_skip zero n R l h = refl
from_skip (suc k) n R l h =
    from_skip k n R (omega arith) (λ i u. h i (omega arith)) ∙ from_out k n R l (h k (omega arith)) ∙ ap (λ (x : ℕ). from x n R) (let z : k + 1 ≡ suc k = omega arith in z)

base_same : (Q : Question) (S U i : ℕ) → has S i ≡ has U i → base Q S i ≡ base Q U i
unfolding base
base_same Q S U i e = ap (λ (b : Bool). by b (Q.test i)) e
  where
    by : Bool → Option Test → ℕ
    by b o = elim o [ Some t ↦ cond b (up (Q.rows i * t.p) t.q) (Q.rows i) | None ↦ Q.rows i ]

-- tests that agree on the members from k on
size_same : (Q : Question) (d k n R S U : ℕ) → n - k ≡ d → ((i : ℕ) → k ≤ i → has R i ≡ true → has S i ≡ has U i) → size_of Q S (from k n R) ≡ size_of Q U (from k n R)
unfolding size_of
size_same Q zero k n R S U e h = ap (size_of Q S) (from_none k n R (omega arith)) ∙ sym (ap (size_of Q U) (from_none k n R (omega arith)))
size_same Q (suc d) k n R S U e h =
    let ih = size_same Q d (k + 1) n R S U (omega arith) (λ i l. h i (omega arith)) in
    ⊎_elim
    (λ t.
    size_in Q S k n R (omega arith) (sym t)
    ∙ ap₂ (λ (x y : ℕ). min 16777215 (narrowed Q k (from (k + 1) n R) (x * y))) (base_same Q S U k (h k (omega arith) t)) ih
    ∙ sym (size_in Q U k n R (omega arith) (sym t)))
    (λ f. ap (size_of Q S) (from_out k n R (omega arith) f) ∙ ih ∙ sym (ap (size_of Q U) (from_out k n R (omega arith) f)))
    (cases_Bool (has R k))

-- ---- without the lowest

module _ (Q : Question) (R S k : ℕ) (lowest : Lowest R k) where
  rest : ℕ
  rest = R - 2 ^ k

  rest_has : (i : ℕ) → (i ≡ k → ⊥) → has rest i ≡ has R i
  unfolding rest
  rest_has i ne =
      has_rest (2 ^ k) R i (one_part R k lowest.0) ∙ ap (λ (b : Bool). has R i && not b) (has_pow k i ∙ ne_eqb k i (λ e. ne (sym e))) ∙ and-true (has R i)

  rest_none : (i : ℕ) → i < k + 1 → has rest i ≡ false
  unfolding rest
  rest_none i l = ⊎_elim (λ same. ap (has (R - 2 ^ k)) same ∙ without R k lowest.0) (λ ne. rest_has i ne ∙ lowest.1 i (omega (arith, ne))) (cases_eq i k)

  -- the tests on the rest
  pub rest_size : k < Q.count → size Q (R - 2 ^ k) (bit_and S (R - 2 ^ k)) ≡ size_of Q S (from (k + 1) Q.count R)
  unfolding rest
  rest_size l =
      ap (size_of Q (bit_and S rest)) (sym (from_all Q.count rest) ∙ from_skip (k + 1) Q.count rest (omega arith) rest_none)
      ∙ size_same Q _ (k + 1) Q.count rest (bit_and S rest) S refl (λ i u t. has_and S rest i ∙ ap (λ (b : Bool). has S i && b) t ∙ and-true (has S i))
      ∙ ap (size_of Q S) (from_same _ (k + 1) Q.count rest R refl (λ i u. rest_has i (omega arith)))

  pub size_from_rest : (s r : ℕ) → k < Q.count → s ≡ size Q (R - 2 ^ k) (bit_and S (R - 2 ^ k))
      → r ≡ min 16777215 (narrowed Q k (from (k + 1) Q.count R) (base Q S k * s)) → r ≡ size Q R S
  size_from_rest s r l e v =
      v ∙ ap (λ (x : ℕ). min 16777215 (narrowed Q k (from (k + 1) Q.count R) (base Q S k * x))) (e ∙ rest_size l)
      ∙ sym (size_in Q S k Q.count R l (sym lowest.0))
      ∙ ap (size_of Q S) (sym (from_skip k Q.count R (omega arith) lowest.1) ∙ from_all Q.count R)

  -- where no table is given
  pub size_beyond : Q.count ≤ k → 1 ≡ size Q R S
  unfolding size_of
  size_beyond l =
      sym (ap (size_of Q S) (sym (from_all Q.count R) ∙ from_skip Q.count Q.count R (omega arith) (λ i u. lowest.1 i (omega arith)) ∙ from_none Q.count Q.count R (omega arith)))
