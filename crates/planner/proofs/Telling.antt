-- A tell, by what stands.
use Rattle.std.proofs.Common.{◌≡◌, ℕ, ◌≤◌, List, length, Some, sym, refl, ap, subst, inr, arith}
use Rattle.pricing.specs.Models.{Model}
use Rattle.planner.specs.Calls.{tell_into, told}
use Rattle.planner.specs.States.{State, Stood}
use Rattle.planner.specs.Steps.{Step, Tells}

module _ {P : Type 0} (m : Model P) (s : State P) (x : Stood P) (buffer : ℕ) (stands : s.standing ≡ Some x) where
  pub tell_long : (bytes : List ℕ) → length x.plan ≤ buffer → bytes ≡ x.plan → Step m s (tell_into buffer) (told bytes x.price) s
  tell_long bytes h e = subst (λ o. Tells m s (told bytes x.price) s buffer o) (sym stands) (inr (λ k. omega arith, (ap (λ b. told b x.price) e, refl)))
