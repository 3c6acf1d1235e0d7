-- A list of a known length is the list of its elements.
use Rattle.std.proofs.Common.{◌≡◌, ℕ, zero, suc, List, [], ◌∷◌, length, get_or, sym, refl, ap, ◌∙◌, subst}

-- n elements of xs, from the place i on
abbrev pub spelled : ℕ → ℕ → List ℕ → List ℕ
spelled i zero xs = []
spelled i (suc n) xs = get_or xs i 0 ∷ spelled (suc i) n xs

spelled_tail : (n i x : ℕ) (xs : List ℕ) → spelled (suc i) n (x ∷ xs) ≡ spelled i n xs
spelled_tail zero i x xs = refl
spelled_tail (suc n) i x xs = ap (λ ys. get_or xs i 0 ∷ ys) (spelled_tail n (suc i) x xs)

spelled_all : (xs : List ℕ) → spelled 0 (length xs) xs ≡ xs
spelled_all [] = refl
spelled_all (x ∷ xs) = ap (λ ys. x ∷ ys) (spelled_tail (length xs) 0 x xs ∙ spelled_all xs)

-- what holds of the list of n elements holds of the list itself
pub by_elements : (P : List ℕ → Type 0) (n : ℕ) (xs : List ℕ) → length xs ≡ n → P (spelled 0 n xs) → P xs
by_elements P n xs e h = subst P (ap (λ k. spelled 0 k xs) (sym e) ∙ spelled_all xs) h
