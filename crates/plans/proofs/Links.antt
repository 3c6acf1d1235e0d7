-- The test for a tie between two sets of tables tells.
use Rattle.std.proofs.Common.{◌≡◌, ℕ, ◌<◌, Bool, true, is_some, Decides, refl}
use Rattle.std.proofs.lemmas.Bool.{and_parts, and_from}
use Rattle.std.proofs.lemmas.Bool.Decides.{Decides-below_or}
use Rattle.sets.specs.Sets.{has, any_below}
use Rattle.plans.specs.Questions.{Question, tie_of, Linked, linked}

pub any_tells : (f : ℕ → Bool) (n : ℕ) → Decides (any_below f n) ((k : ℕ) × (k < n) × (f k ≡ true))
unfolding any_below
any_tells f n = Decides-below_or f (λ k. f k ≡ true) (any_below f) (λ k. (λ h. h, λ h. h)) refl (λ _. refl) n

pub linked_means : (Q : Question) (A B : ℕ) → linked Q A B ≡ true → Linked Q A B
unfolding linked
linked_means Q A B e =
    let x = (any_tells _ Q.count).0 e in
    let a = and_parts (has A x.0) _ x.2 in
    let y = (any_tells _ Q.count).0 a.1 in
    let b = and_parts (has B y.0) _ y.2 in
    (x.0, y.0, a.0, b.0, b.1)

pub linked_by : (Q : Question) (A B i j : ℕ) → i < Q.count → j < Q.count → has A i ≡ true → has B j ≡ true → is_some (tie_of Q i j) ≡ true → linked Q A B ≡ true
unfolding linked
linked_by Q A B i j l k a b t =
    (any_tells _ Q.count).1 (i, l, and_from (has A i) _ a ((any_tells _ Q.count).1 (j, k, and_from (has B j) (is_some (tie_of Q i j)) b t)))
