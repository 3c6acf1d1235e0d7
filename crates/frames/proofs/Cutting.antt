-- The lines are the input, cut at its 0As.
use Rattle.std.proofs.Common.{◌≡◌, ℕ, eqb, List, [], ◌∷◌, refl, ap, ◌∙◌, arith}
use Rattle.std.proofs.lemmas.Bool.{eqb-true, eqb-false, cond_both}
use Rattle.std.specs.List.{flat_map, AllByRecursion}
use Rattle.frames.specs.Laws.{line_text, CutAtEnds}
use Rattle.frames.specs.Lines.{PlainLine, longer, before, lines_of}

abbrev Inside : PlainLine → Type 0
Inside l = AllByRecursion (λ c. c ≡ 10 → ⊥) l.characters

longer_text : (c : ℕ) (ls : List PlainLine) → flat_map line_text (longer c ls) ≡ c ∷ flat_map line_text ls
longer_text c [] = refl
longer_text c (l ∷ ls) = refl

longer_inside : (c : ℕ) (ls : List PlainLine) → (c ≡ 10 → ⊥) → AllByRecursion Inside ls → AllByRecursion Inside (longer c ls)
longer_inside c [] n h = ((n, tt), tt)
longer_inside c (l ∷ ls) n h = ((n, h.0), h.1)

before_text : (c : ℕ) (ls : List PlainLine) → flat_map line_text (before c ls) ≡ c ∷ flat_map line_text ls
before_text c ls =
    cond_both (eqb c 10) _ _ (λ xs. flat_map line_text xs ≡ c ∷ flat_map line_text ls)
    (λ e. ap (λ x. x ∷ flat_map line_text ls) (let s : 10 ≡ c = omega (arith, eqb-true c 10 e) in s)) (λ _. longer_text c ls)

before_inside : (c : ℕ) (ls : List PlainLine) → AllByRecursion Inside ls → AllByRecursion Inside (before c ls)
before_inside c ls h =
    cond_both (eqb c 10) _ _ (AllByRecursion Inside) (λ _. (tt, h)) (λ e. longer_inside c ls (eqb-false c 10 e) h)

whole : (input : List ℕ) → flat_map line_text (lines_of input) ≡ input
unfolding lines_of
whole [] = refl
whole (c ∷ cs) = before_text c (lines_of cs) ∙ ap (λ xs. c ∷ xs) (whole cs)

none_within : (input : List ℕ) → AllByRecursion Inside (lines_of input)
unfolding lines_of
none_within [] = tt
none_within (c ∷ cs) = before_inside c (lines_of cs) (none_within cs)

pub cut_at_ends : CutAtEnds
cut_at_ends = record { whole = whole; none_within = none_within }
