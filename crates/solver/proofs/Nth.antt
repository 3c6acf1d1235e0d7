-- Places of a list of which one is set.
use Rattle.std.proofs.Common.{◌≡◌, ℕ, zero, suc, ◌<◌, ◌≢◌, List, [], ◌∷◌, length, set, Some, refl, ap, le_of_suc-le-suc, not-suc-le-zero}
use Rattle.std.specs.List.{slice_get}

pub nth_set_same : {X : Type 0} (xs : List X) (i : ℕ) (v : X) → i < length xs → slice_get (set xs i v) i ≡ Some v
nth_set_same [] i v h = absurd (not-suc-le-zero h)
nth_set_same (x ∷ xs) zero v h = refl
nth_set_same (x ∷ xs) (suc i) v h = nth_set_same xs i v (le_of_suc-le-suc h)

pub nth_set_other : {X : Type 0} (xs : List X) (i j : ℕ) (v : X) → j ≢ i → slice_get (set xs i v) j ≡ slice_get xs j
nth_set_other [] i j v h = refl
nth_set_other (x ∷ xs) zero zero v h = absurd (h refl)
nth_set_other (x ∷ xs) zero (suc j) v h = refl
nth_set_other (x ∷ xs) (suc i) zero v h = refl
nth_set_other (x ∷ xs) (suc i) (suc j) v h = nth_set_other xs i j v (λ e. h (ap suc e))
