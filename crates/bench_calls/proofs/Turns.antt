-- Calls one by one, and what an answer says of the call.
use Rattle.std.proofs.Common.{◌≡◌, ℕ, zero, suc, ◌+◌, ◌<◌, ◌≤◌, ◌⊎◌, Ok, Err, Result, sym, refl, ap, ◌∙◌, inl, inr, add-one, arith}
use Rattle.std.proofs.lemmas.Bool.{cases_lt}
use Rattle.plans.specs.Questions.{Question}
use Rattle.catalogue.specs.Changes.{Follows}
use Rattle.catalogue.specs.declared.refusals.ChangeRefusal.{ChangeRefusal}
use Rattle.bench_calls.specs.Built.{and_then, calls}

pub taken : {X : Type 0} (o : Result Question ChangeRefusal) (before : Question) (x : X) (after : Question) → Follows {X = X} o before (Ok x) after → o ≡ Ok after
taken (Ok Q) before x after f = ap Ok (sym f)
taken (Err e) before x after f = absurd f

pub refused : (X : Type 0) (o : Result Question ChangeRefusal) (before : Question) (e : ChangeRefusal) (after : Question) → Follows {X = X} o before (Err e) after → o ≡ Err e
refused X (Ok Q) before e after f = absurd f
refused X (Err d) before e after f = ap Err (sym f.0)

module _ (call : Question → ℕ → Result Question ChangeRefusal) (Q : Question) where
  pub none_called : calls call Q 0 ≡ Ok Q
  unfolding calls
  none_called = refl

  pub one_more : (k : ℕ) (W : Question) → calls call Q k ≡ Ok W → calls call Q (k + 1) ≡ call W k
  unfolding calls
  one_more k W e = ap (calls call Q) (add-one k) ∙ ap (λ (o : Result Question ChangeRefusal). and_then o (λ V. call V k)) e

  -- A refusal stays.
  pub still_refused : (k n : ℕ) (e : ChangeRefusal) → calls call Q k ≡ Err e → k ≤ n → calls call Q n ≡ Err e
  unfolding calls
  still_refused k zero e r h = let z : k ≡ 0 = omega arith in ap (calls call Q) (sym z) ∙ r
  still_refused k (suc n) e r h = by (cases_lt n k) (still_refused k n e r)
    where
      by : (n < k) ⊎ (k ≤ n) → (k ≤ n → calls call Q n ≡ Err e) → calls call Q (suc n) ≡ Err e
      by (inl m) before = let all : k ≡ suc n = omega arith in ap (calls call Q) (sym all) ∙ r
      by (inr l) before = ap (λ (o : Result Question ChangeRefusal). and_then o (λ W. call W n)) (before l)

  -- The next call is taken or refused.
  pub goes_on : {X : Type 0} (k : ℕ) (W : Question) (o : Result Question ChangeRefusal) (x : X) (after : Question)
      → calls call Q k ≡ Ok W → call W k ≡ o → Follows {X = X} o W (Ok x) after → calls call Q (k + 1) ≡ Ok after
  goes_on k W o x after before is f = one_more k W before ∙ is ∙ taken o W x after f

  pub stops : (X : Type 0) (k n : ℕ) (W : Question) (o : Result Question ChangeRefusal) (e : ChangeRefusal) (after : Question)
      → calls call Q k ≡ Ok W → call W k ≡ o → Follows {X = X} o W (Err e) after → k < n → calls call Q n ≡ Err e
  stops X k n W o e after before is f h = still_refused (k + 1) n e (one_more k W before ∙ is ∙ refused X o W e after f) (omega arith)
