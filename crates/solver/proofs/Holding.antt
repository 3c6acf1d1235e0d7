-- What the lists hold of a row, by what stands at its place.
use Rattle.std.proofs.Common.{◌≡◌, ℕ, Bool, true, false, cond, eqb, List, Some, None, Option, refl, ap, ◌∙◌, ap₂}
use Rattle.std.specs.List.{slice_get}
use Rattle.sets.specs.Rows.{place_of}
use Rattle.solver.specs.Held.{as_entry, held, price_at, side_of}
use Rattle.solver.specs.declared.lists.Side.{Side}

-- The price and the size, if both are there.
abbrev pub sided : {P : Type 0} → Option P → Option ℕ → Option (Side P)
sided None n = None
sided (Some v) None = None
sided (Some v) (Some n) = Some (record { price = v; size = n })

side_priced : {P : Type 0} (o : Option P) (c n : Option ℕ) → sided (price_at o c) n ≡ side_of (as_entry o c) n
side_priced None c n = refl
side_priced (Some v) None n = refl
side_priced {P} (Some v) (Some c) n = by_choice (eqb c 0) n
  where
    by_choice : (b : Bool) (n : Option ℕ) → sided (cond b None (Some v)) n ≡ side_of (cond b None (Some (record { price = v; choice = c }))) n
    by_choice true n = refl
    by_choice false None = refl
    by_choice false (Some n) = refl

pub side_held : {P : Type 0} (ps : List P) (ss cs : List ℕ) (T R S k : ℕ) (o : Option P) (n : Option ℕ) → k ≡ place_of T R S → o ≡ price_at (slice_get ps k) (slice_get cs k) → n ≡ slice_get ss k
    → sided o n ≡ side_of (held ps cs T R S) (slice_get ss (place_of T R S))
unfolding held
side_held ps ss cs T R S k o n at price size =
    ap₂ sided price size ∙ side_priced (slice_get ps k) (slice_get cs k) (slice_get ss k)
    ∙ ap (λ (i : ℕ). side_of (as_entry (slice_get ps i) (slice_get cs i)) (slice_get ss i)) at
