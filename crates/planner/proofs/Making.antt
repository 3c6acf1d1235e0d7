-- One call more of a list of calls.
use Rattle.std.proofs.Common.{◌≡◌, ℕ, ◌+◌, ◌<◌, List, [], ◌∷◌, ◌++◌, map, length, get_or, take, drop, set, sym, ap, ◌∙◌, subst, arith, drop-drop, drop-set-lt}
use mathlib.Core.List.{map-append}
use Rattle.std.proofs.lemmas.List.{take_more, take_more_set}
use Rattle.pricing.specs.Models.{Model, Lawful}
use Rattle.planner.specs.declared.calls.Call as code
use Rattle.pricing.specs.declared.models.PriceModel.{Ghosts}
use Rattle.planner.specs.declared.questions.Question.{Question}
use Rattle.catalogue.specs.Asked.{asked}
use Rattle.planner.specs.Calls.{Answer}
use Rattle.planner.specs.Law.{Run}
use Rattle.planner.specs.Lent.{Lent, Leaves, Works}
use Rattle.planner.specs.Made.{Made}
use Rattle.planner.specs.Replies.{call_of}
use Rattle.planner.specs.States.{state_of}
use Rattle.planner.specs.Steps.{Step}
use Rattle.planner.proofs.Promise.{Sound, promised, run_more, stay}

-- A run by the first i of a list of calls, and one call more.
pub listed_more : {S C D A B : Type 0} (R : S → C → A → S → Type 0) (f : D → C) (g : B → A) (s t u : S) (calls : List D) (replies : List B) (i : ℕ) (d : D) (y : B)
    → i < length calls → i < length replies → Run R s (map f (take i calls)) (map g (take i replies)) t → R t (f (get_or calls i d)) (g y) u
    → Run R s (map f (take (i + 1) calls)) (map g (take (i + 1) (set replies i y))) u
listed_more R f g s t u calls replies i d y in_calls in_replies run next =
    subst (λ xs. Run R s xs (map g (take (i + 1) (set replies i y))) u) (sym (ap (map f) (take_more calls i d in_calls) ∙ map-append f (take i calls) (get_or calls i d ∷ [])))
    (subst (λ ys. Run R s (map f (take i calls) ++ f (get_or calls i d) ∷ []) ys u) (sym (ap (map g) (take_more_set replies i y in_replies) ∙ map-append g (take i replies) (y ∷ [])))
    (run_more R (map f (take i calls)) (map g (take i replies)) s t u (f (get_or calls i d)) (g y) run next))

module _ {M P : Type 0} {G : Ghosts M P} (meaning : M → Model P) (laws : (x : M) → Lawful (meaning x)) (start : M) (q r : Question M P G) (kept : q.model ≡ start) (c : code.Call) (a : Answer P) (l k : Lent P)
    (sound : Sound (meaning start) (state_of q.held)) (ps ss cs : ℕ)
    (made : Made meaning q (call_of (length l.prices) (length l.sizes) (length l.choices) c) a r)
    (lists : Leaves (meaning q.model) (asked q.held.catalogue) (call_of (length l.prices) (length l.sizes) (length l.choices) c) a l k)
    (pe : length l.prices ≡ ps) (se : length l.sizes ≡ ss) (ce : length l.choices ≡ cs) where
  -- The call is one of the run's, and what stands after it is a cheapest plan.
  pub made_one : (r.model ≡ start) × Sound (meaning start) (state_of r.held) × Works (meaning start) (state_of q.held, l) (call_of ps ss cs c) a (state_of r.held, k)
  made_one =
      let s = state_of q.held in
      let t = state_of r.held in
      let same : call_of (length l.prices) (length l.sizes) (length l.choices) c ≡ call_of ps ss cs c =
      ap (λ (n : ℕ). call_of n (length l.sizes) (length l.choices) c) pe ∙ ap (λ (n : ℕ). call_of ps n (length l.choices) c) se ∙ ap (λ (n : ℕ). call_of ps ss n c) ce in
      let step = subst (λ x. Step (meaning start) s x a t) same (subst (λ x. Step (meaning x) s (call_of (length l.prices) (length l.sizes) (length l.choices) c) a t) kept made.step) in
      let leaves = subst (λ x. Leaves (meaning start) s.question x a l k) same (subst (λ x. Leaves (meaning x) s.question (call_of (length l.prices) (length l.sizes) (length l.choices) c) a l k) kept lists) in (
        made.model ∙ kept,
        stay (meaning start) (laws start) s (call_of ps ss cs c) a t sound step,
        ((step, promised (meaning start) (laws start) s (call_of ps ss cs c) a t sound step), leaves),
      )

-- What is not written yet stays as it was.
pub rest_more : {A : Type 0} (xs ys : List A) (i : ℕ) (y : A) → drop i xs ≡ drop i ys → drop (i + 1) (set xs i y) ≡ drop (i + 1) ys
rest_more xs ys i y e =
    drop-set-lt (i + 1) xs i y (omega arith) ∙ sym (drop-drop 1 i xs) ∙ ap (drop 1) e ∙ drop-drop 1 i ys
