-- A change that the question must take.
use Rattle.std.proofs.Common.{◌≡◌, Ok, Err, Result, ap, ◌∙◌, subst}
use Rattle.plans.specs.Questions.{Question}
use Rattle.catalogue.specs.Changes.{Follows}
use Rattle.catalogue.specs.declared.refusals.ChangeRefusal.{ChangeRefusal}

module _ (X : Type 0) (change : Question → Result Question ChangeRefusal) (Q Q' before after : Question) (is : before ≡ Q) (takes : change Q ≡ Ok Q') where
  pub accepted : (x : X) → Follows {X = X} (change before) before (Ok x) after → after ≡ Q'
  accepted x f = subst (λ (o : Result Question ChangeRefusal). Follows {X = X} o before (Ok x) after) (ap change is ∙ takes) f

  pub never_refused : (e : ChangeRefusal) → Follows {X = X} (change before) before (Err e) after → ⊥
  never_refused e f = subst (λ (o : Result Question ChangeRefusal). Follows {X = X} o before (Err e) after) (ap change is ∙ takes) f
