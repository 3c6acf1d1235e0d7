-- A tie is given one way round alone, and so it is found the same whichever way its tables are named.
use Rattle.std.proofs.Common.{◌≡◌, ℕ, Bool, true, false, cond, ◌&&◌, eqb, ◌≢◌, is_some, Some, None, Option, sym, refl, ap, ◌∙◌, subst, ap₂, ⊎_elim, arith}
use Rattle.std.proofs.Math.Bool.{and-false}
use Rattle.std.proofs.lemmas.Bool.{cases_eq, cond_both, cond-false, ne_eqb, true≢false}
use Rattle.plans.specs.Questions.{Question, tie_of, cost_of}
use Rattle.plans.specs.declared.predicates.Tie.{Tie}
use Rattle.catalogue.specs.Asked.{asked}
use Rattle.catalogue.specs.declared.catalogues.Catalogue.{Catalogue}

-- ---- a tie more, between tables that had none

-- the first that is there
abbrev either : (a b : Option Tie) → Option Tie
either a b = elim a [ Some t ↦ Some t | None ↦ b ]

pub untied : (Q : Question) (i j : ℕ) → is_some (tie_of Q i j) ≡ false → (Q.tie i j ≡ None) × (Q.tie j i ≡ None)
unfolding tie_of
untied Q i j h = go (Q.tie i j) (Q.tie j i) h
  where
    go : (a b : Option Tie) → is_some (either a b) ≡ false → (a ≡ None) × (b ≡ None)
    go None None e = (refl, refl)
    go None (Some u) e = absurd (true≢false e)
    go (Some t) b e = absurd (true≢false e)

not_both : (i j a b : ℕ) → (i ≡ a → j ≢ b) → (eqb i a && eqb j b) ≡ false
not_both i j a b ne = ⊎_elim
    (λ x. ap (λ (y : Bool). eqb i a && y) (ne_eqb j b (ne x)) ∙ and-false (eqb i a))
    (λ x. ap (λ (y : Bool). y && eqb j b) (ne_eqb i a x))
    (cases_eq i a)

module _ (old new : ℕ → ℕ → Option Tie) (a b : ℕ) (v : Option Tie) (is : (i j : ℕ) → new i j ≡ cond (eqb i a && eqb j b) v (old i j)) where
  pub each_tie : (P : Option Tie → Type 0) → P v → ((i j : ℕ) → P (old i j)) → (i j : ℕ) → P (new i j)
  each_tie P here h i j = subst P (sym (is i j)) (cond_both (eqb i a && eqb j b) v (old i j) P (λ e. here) (λ e. h i j))

  pub other_tie : (i j : ℕ) → (i ≡ a → j ≢ b) → new i j ≡ old i j
  other_tie i j ne = is i j ∙ cond-false (eqb i a && eqb j b) _ _ (not_both i j a b ne)

  pub one_more : a ≢ b → old b a ≡ None → ((i j : ℕ) → is_some (old i j) ≡ true → old j i ≡ None) → (i j : ℕ) → is_some (new i j) ≡ true → new j i ≡ None
  one_more apart none h i j some =
      ⊎_elim
      (λ x. ⊎_elim
      (λ y. absurd (true≢false (sym some ∙ ap is_some (other_tie i j (λ e. omega (arith, x, y, apart)) ∙ ap₂ old y x ∙ none))))
      (λ y. go (λ e. y))
      (cases_eq i b))
      (λ x. go (λ e. absurd (x e)))
      (cases_eq j a)
    where
      go : (j ≡ a → i ≢ b) → new j i ≡ None
      go ne = other_tie j i ne ∙ ⊎_elim
          (λ x. ⊎_elim
          (λ y. ap₂ old y x ∙ none)
          (λ y. h i j (ap is_some (sym (other_tie i j (λ e. y))) ∙ some))
          (cases_eq j b))
          (λ x. h i j (ap is_some (sym (other_tie i j (λ e. absurd (x e)))) ∙ some))
          (cases_eq i a)

-- ---- whichever way round

abbrev pub CostsBothWays : Question → Type 0
CostsBothWays Q = (i j : ℕ) → cost_of Q i j ≡ cost_of Q j i

module _ (q : Catalogue) where
  pub tie_both_ways : (i j : ℕ) → tie_of (asked q) i j ≡ tie_of (asked q) j i
  unfolding tie_of
  tie_both_ways i j = go ((asked q).tie i j) ((asked q).tie j i) (q.one_way i j)
    where
      go : (a b : Option Tie) → (is_some a ≡ true → b ≡ None) → either a b ≡ either b a
      go None None h = refl
      go None (Some u) h = refl
      go (Some t) None h = refl
      go (Some t) (Some u) h = absurd (true≢false (ap is_some (h refl)))

  pub costs_both_ways : CostsBothWays (asked q)
  unfolding cost_of
  costs_both_ways i j = ap (λ (o : Option Tie). elim o [ Some t ↦ t.cost | None ↦ 0 ]) (tie_both_ways i j)
