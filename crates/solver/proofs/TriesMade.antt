-- One candidate more: the best so far, and how many were there.
use Rattle.std.proofs.Common.{◌≡◌, ℕ, zero, suc, ◌+◌, ◌<◌, ◌≤◌, Bool, true, false, cond, is_some, Some, None, Option, sym, refl, ap, ◌∙◌, subst, ap₂, add-one, arith}
use Rattle.pricing.specs.Models.{Model}
use Rattle.plans.specs.declared.entries.Entry.{Entry}
use Rattle.plans.specs.Entries.{better, best_entry}
use Rattle.plans.specs.Recurrence.{found}
use Rattle.plans.proofs.RowEntries.{best_entry_none, best_entry_more}

pub found_none : {X : Type 0} (f : ℕ → Option X) → found f 0 ≡ 0
unfolding found
found_none f = refl

pub found_more : {X : Type 0} (f : ℕ → Option X) (n : ℕ) → found f (n + 1) ≡ found f n + cond (is_some (f n)) 1 0
unfolding found
found_more f n = ap (found f) (add-one n)

pub one_at_most : (b : Bool) → cond b 1 0 ≤ 1
one_at_most true = omega arith
one_at_most false = omega arith

-- After n candidates of f, from an earlier best and an earlier number of tries.
pub record Tries {P : Type 0} (m : Model P) (a : Option (Entry P)) (k : ℕ) (f : ℕ → Option (Entry P)) (n : ℕ) (best : Option (Entry P)) (tries : ℕ) : Type 0 where
  pub best_is : best ≡ best_entry m a f n
  pub tries_are : tries ≡ k + found f n
  pub few : tries ≤ k + n

module _ {P : Type 0} (m : Model P) (a : Option (Entry P)) (k : ℕ) (f : ℕ → Option (Entry P)) where
  pub tries_none : (n : ℕ) → n ≡ 0 → Tries m a k f n a k
  tries_none n z = record {
    best_is = sym (ap (best_entry m a f) z ∙ best_entry_none m a f);
    tries_are = omega (arith, ap (found f) z, found_none f);
    few = omega arith;
  }

  pub tries_more : (n : ℕ) (best new : Option (Entry P)) (tries more : ℕ) (c : Option (Entry P)) → Tries m a k f n best tries
      → c ≡ f n → new ≡ better m best c → more ≡ tries + cond (is_some c) 1 0 → Tries m a k f (n + 1) new more
  tries_more n best new tries more c h e v w = record {
    best_is = v ∙ ap₂ (better m) h.best_is e ∙ sym (best_entry_more m a f n);
    tries_are = omega (arith, w, h.tries_are, found_more f n, ap {B = ℕ} (λ (o : Option (Entry P)). cond (is_some o) 1 0) e);
    few = omega (arith, w, h.few, one_at_most (is_some c));
  }

  pub tries_end : (n e : ℕ) (best : Option (Entry P)) (tries : ℕ) → Tries m a k f n best tries → n ≡ e → Tries m a k f e best tries
  tries_end n e best tries h z = subst (λ (x : ℕ). Tries m a k f x best tries) z h

  -- numbers that are no candidates
  pub tries_skip : (d n e : ℕ) (best : Option (Entry P)) (tries : ℕ) → e ≡ n + d → ((i : ℕ) → n ≤ i → i < e → f i ≡ None) → Tries m a k f n best tries → Tries m a k f e best tries
  tries_skip zero n e best tries z none h = tries_end n e best tries h (omega arith)
  tries_skip (suc d) n e best tries z none h =
      tries_skip d (n + 1) e best tries (omega arith) (λ i l u. none i (omega arith) u)
      (tries_more n best best tries tries None h (sym (none n (omega arith) (omega arith))) (sym (kept best)) (omega arith))
    where
      kept : (b : Option (Entry P)) → better m b None ≡ b
      kept None = refl
      kept (Some b) = refl
