-- What the loop of `fill_rows` keeps: the first cells hold the value, and the others what they held.
use Rattle.std.proofs.Common.{◌≡◌, ℕ, ◌+◌, ◌<◌, List, [], ◌∷◌, ◌++◌, length, get_or, drop, set, replicate, sym, ap, ◌∙◌, subst, ⊎_elim, ap₂, arith}
use Rattle.sets.specs.Rows.{filled}
use Rattle.std.proofs.lemmas.List.{append_assoc, drop_more, get_or-set_same, get_or-set_other, length-replicate, replicate_more, set_at}
use Rattle.std.proofs.lemmas.Bool.{cases_eq}

module _ {A : Type 0} (value : A) (old : List A) where
  pub filled_more : (cells new : List A) (p q : ℕ) → p < length old → q ≡ p → cells ≡ filled p value old → new ≡ set cells q value → new ≡ filled (p + 1) value old
  filled_more cells new p q lt same is made =
      made ∙ ap₂ (λ (l : List A) (k : ℕ). set l k value) (is ∙ ap (λ (l : List A). replicate p value ++ l) (drop_more old p value lt)) same
      ∙ set_at (replicate p value) (get_or old p value) (drop (p + 1) old) value p (length-replicate p value)
      ∙ sym (append_assoc (replicate p value) (value ∷ []) (drop (p + 1) old)) ∙ ap (λ (l : List A). l ++ drop (p + 1) old) (replicate_more p value)

-- one place more at which P holds of what stands there
pub each_more : (P : ℕ → ℕ → Type 0) (xs : List ℕ) (n v : ℕ) → ((k : ℕ) → k < n → P k (get_or xs k 0)) → n < length xs → P n v → (k : ℕ) → k < n + 1 → P k (get_or (set xs n v) k 0)
each_more P xs n v h l here k lt = ⊎_elim
    (λ same. subst (λ (x : ℕ). P x (get_or (set xs n v) x 0)) (sym same) (subst (P n) (sym (get_or-set_same xs n v 0 l)) here))
    (λ ne. subst (P k) (sym (get_or-set_other xs n k v 0 ne)) (h k (omega (arith, ne))))
    (cases_eq k n)
