-- The members of a set from some number on, one by one; and sizes along them.
use Rattle.std.proofs.Common.{◌≡◌, ℕ, suc, ◌+◌, ◌-◌, ◌*◌, ◌<◌, ◌≤◌, min, Bool, true, false, cond, List, [], ◌∷◌, ◌++◌, Some, None, filter, Option, sym, refl, ap, ◌∙◌, arith}
use Rattle.std.specs.List.{range_with_len, FoldsTo}
use denote.Param.Members.{Mut}
use denote.Ref.{Bor}
use Rattle.std.specs.Fn.{Called, CalledAt}
use Rattle.std.specs.Iterator.{Drains}
use Rattle.std.specs.Iterator.Adapters.{filter_callee, filter_source, filter_steps}
use Rattle.std.specs.declared.iter.Filter.{Filter}
use Rattle.std.specs.declared.ops.Range.{Range}
use Rattle.std.proofs.iter.Yields.{nat_range_steps}
use Rattle.std.proofs.lemmas.Fn.{fold_over}
use Rattle.std.proofs.lemmas.Iterator.{YieldsList-from_range}
use Rattle.std.proofs.lemmas.Iterator.Consumers.{YieldsList-from_filter}
use Rattle.sets.specs.Sets.{has, members}
use Rattle.plans.specs.Questions.{Question, tie_of, up, base, narrowed, size_of, size}
use Rattle.plans.specs.declared.predicates.Tie.{Tie}
use Rattle.catalogue.specs.Members.{from, tied_rows}

pub from_none : (k n R : ℕ) → n ≤ k → from k n R ≡ []
unfolding from
from_none k n R h = ap (λ (m : ℕ). filter (has R) (range_with_len k m)) (let z : n - k ≡ 0 = omega arith in z)

one_on : (k n R : ℕ) → k < n → from k n R ≡ cond (has R k) (k ∷ from (k + 1) n R) (from (k + 1) n R)
unfolding from
one_on k n R h =
    let step : n - k ≡ suc (n - (k + 1)) = omega arith in
    ap (λ (m : ℕ). filter (has R) (range_with_len k m)) step

pub from_in : (k n R : ℕ) → k < n → has R k ≡ true → from k n R ≡ k ∷ from (k + 1) n R
from_in k n R h e = one_on k n R h ∙ ap (λ (b : Bool). cond b (k ∷ from (k + 1) n R) (from (k + 1) n R)) e

pub from_out : (k n R : ℕ) → k < n → has R k ≡ false → from k n R ≡ from (k + 1) n R
from_out k n R h e = one_on k n R h ∙ ap (λ (b : Bool). cond b (k ∷ from (k + 1) n R) (from (k + 1) n R)) e

pub from_all : (n R : ℕ) → from 0 n R ≡ members n R
unfolding from members
from_all n R = ap (λ (m : ℕ). filter (has R) (range_with_len 0 m)) (let z : n - 0 ≡ n = omega arith in z)

-- ---- ties

module _ (Q : Question) (i : ℕ) where
  one_tie : (j : ℕ) (js : List ℕ) (n : ℕ) → narrowed Q i (j ∷ js) n ≡ narrowed Q i js (tied_rows (tie_of Q i j) n)
  unfolding narrowed
  one_tie j js n = go (tie_of Q i j)
    where
      go : (o : Option Tie) → narrowed Q i js (elim o [ Some t ↦ up (n * t.p) t.q | None ↦ n ]) ≡ narrowed Q i js (tied_rows o n)
      go None = refl
      go (Some t) = refl

  -- a tie more
  pub narrowed_more : (js : List ℕ) (j n r : ℕ) → r ≡ tied_rows (tie_of Q i j) (narrowed Q i js n) → r ≡ narrowed Q i (js ++ (j ∷ [])) n
  unfolding narrowed
  narrowed_more js j n r e = e ∙ go js n
    where
      go : (js : List ℕ) (n : ℕ) → tied_rows (tie_of Q i j) (narrowed Q i js n) ≡ narrowed Q i (js ++ (j ∷ [])) n
      go [] n = sym (one_tie j [] n)
      go (k ∷ js) n =
          ap (tied_rows (tie_of Q i j)) (one_tie k js n) ∙ go js (tied_rows (tie_of Q i k) n) ∙ sym (one_tie k (js ++ (j ∷ [])) n)

  pub narrowed_start : (n : ℕ) → n ≡ narrowed Q i [] n
  unfolding narrowed
  narrowed_start n = refl

  -- What `filter` and `fold` give over the numbers from k up to m, where the closures compute R's members and one tie.
  pub narrowed_over : {P F : Type 0} {test : Mut P (Bor ℕ × Unit {0}) Bool} {each : Mut F (ℕ × (ℕ × Unit {0})) ℕ} (s : Filter (Range ℕ) P) {cp : P} {cf : F} (k m R n r : ℕ)
      → (xs : List ℕ) × (f : F) × Drains (filter_steps nat_range_steps test) s xs × FoldsTo {P = F × ℕ} (λ p x q. Called each p.0 (p.1, (x, tt)) q.1 q.0) (cf, n) xs (f, r)
      → filter_source s ≡ record { start = k; end = m } → filter_callee s ≡ cp
      → ((x : ℕ) (b : Bool) (q : P) → CalledAt test cp x b q → (q ≡ cp) × (b ≡ has R x))
      → ((a x b : ℕ) (f : F) → Called each cf (a, (x, tt)) b f → (f ≡ cf) × (b ≡ tied_rows (tie_of Q i x) a) × (b ≤ a))
      → (r ≡ narrowed Q i (from k m R) n) × (r ≤ n)
  unfolding from
  narrowed_over {test = test} {each = each} s {cp} {cf} k m R n r ran range_is p_is tests calls =
      fold_over (filter_steps nat_range_steps test) (λ (x : ℕ). x) each (λ (js : List ℕ) (a : ℕ). (a ≡ narrowed Q i js n) × (a ≤ n)) cf
      (λ js a x b f j c. let w = calls a x b f c in ((narrowed_more js x n b (w.1 ∙ ap (tied_rows (tie_of Q i x)) j.0), omega (arith, w.2, j.1)), w.0))
      s (filter (has R) (range_with_len k (m - k))) n r (YieldsList-from_filter test (has R) (YieldsList-from_range k m (m - k) range_is refl) p_is tests).runs
      (narrowed_start n, omega arith) ran

-- ---- sizes

pub size_none : (Q : Question) (S k n R : ℕ) → n ≤ k → size_of Q S (from k n R) ≡ 1
unfolding size_of
size_none Q S k n R h = ap (size_of Q S) (from_none k n R h)

pub size_in : (Q : Question) (S k n R : ℕ) → k < n → true ≡ has R k
    → size_of Q S (from k n R) ≡ min 16777215 (narrowed Q k (from (k + 1) n R) (base Q S k * size_of Q S (from (k + 1) n R)))
unfolding size_of
size_in Q S k n R h e = ap (size_of Q S) (from_in k n R h (sym e))

pub size_out : (Q : Question) (S k n R : ℕ) → k < n → false ≡ has R k → size_of Q S (from k n R) ≡ size_of Q S (from (k + 1) n R)
size_out Q S k n R h e = ap (size_of Q S) (from_out k n R h (sym e))

-- One table down.
pub size_down_in : (Q : Question) (S t n R s r : ℕ) → 0 < t → t ≤ n → true ≡ has R (t - 1) → s ≡ size_of Q S (from t n R)
    → r ≡ min 16777215 (narrowed Q (t - 1) (from (t - 1 + 1) n R) (base Q S (t - 1) * s)) → r ≡ size_of Q S (from (t - 1) n R)
size_down_in Q S t n R s r some h e size v =
    let up_again : t ≡ t - 1 + 1 = omega arith in
    v ∙ ap (λ (x : ℕ). min 16777215 (narrowed Q (t - 1) (from (t - 1 + 1) n R) (base Q S (t - 1) * x))) (size ∙ ap (λ (k : ℕ). size_of Q S (from k n R)) up_again)
    ∙ sym (size_in Q S (t - 1) n R (omega arith) e)

pub size_down_out : (Q : Question) (S t n R s : ℕ) → 0 < t → t ≤ n → false ≡ has R (t - 1) → s ≡ size_of Q S (from t n R) → s ≡ size_of Q S (from (t - 1) n R)
size_down_out Q S t n R s some h e size =
    let up_again : t ≡ t - 1 + 1 = omega arith in
    size ∙ ap (λ (k : ℕ). size_of Q S (from k n R)) up_again ∙ sym (size_out Q S (t - 1) n R (omega arith) e)
