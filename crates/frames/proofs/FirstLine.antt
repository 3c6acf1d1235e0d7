-- The first line goes to the first 0A, or to the end of the input where there is none.
use Rattle.std.proofs.Common.{◌≡◌, ℕ, zero, suc, ◌+◌, ◌-◌, ◌<◌, ◌≤◌, ◌==◌, Some, None, true, false, List, [], ◌∷◌, length, get_or, take, drop, refl, ap, ◌∙◌, add-one, arith, length-drop}
use Rattle.std.proofs.lemmas.List.{take_rest, drop_all}
use Rattle.std.specs.List.{position, position_or_len}
use Rattle.std.proofs.lemmas.Bool.{eq-eqb, ne_eqb, eqb-true, eqb-false, cond-true, cond-false}
use Rattle.std.proofs.lemmas.Grind.{common_steps}
use Rattle.std.proofs.lemmas.List.Quantifiers.{position-Some}
use Rattle.std.proofs.lemmas.List.Sums.{fails_before_first}
use Rattle.frames.specs.Lines.{PlainLine, line, longer, before, lines_of}
use Rattle.frames.specs.Splitting.{First}

-- none of the first n characters is a 0A
abbrev pub NoneBelow : ℕ → List ℕ → Type 0
NoneBelow n xs = (k : ℕ) → k < n → get_or xs k 0 ≡ 10 → ⊥

later : (n x : ℕ) (xs : List ℕ) → NoneBelow (suc n) (x ∷ xs) → NoneBelow n xs
later n x xs none k h = none (suc k) (omega arith)

inside : (n x : ℕ) (xs : List ℕ) (ls : List PlainLine) → NoneBelow (suc n) (x ∷ xs) → before x ls ≡ longer x ls
inside n x xs ls none = cond-false _ _ _ (ne_eqb x 10 (none 0 (omega arith)))

ended_line : (n : ℕ) (xs : List ℕ) → NoneBelow n xs → n < length xs → get_or xs n 0 ≡ 10
    → lines_of xs ≡ line (take n xs) true ∷ lines_of (drop (suc n) xs)
unfolding lines_of
ended_line n [] none h e = absurd (omega arith)
ended_line zero (x ∷ xs) none h e = cond-true _ _ _ (eq-eqb x 10 e)
ended_line (suc n) (x ∷ xs) none h e =
    inside n x xs (lines_of xs) none ∙ ap (longer x) (ended_line n xs (later n x xs none) (omega arith) e)

last_line : (xs : List ℕ) → NoneBelow (length xs) xs → 0 < length xs → lines_of xs ≡ line xs false ∷ []
unfolding lines_of
last_line [] none h = absurd (omega arith)
last_line (x ∷ []) none h = inside 0 x [] [] none
last_line (x ∷ y ∷ ys) none h =
    inside (length (y ∷ ys)) x (y ∷ ys) (lines_of (y ∷ ys)) none
    ∙ ap (longer x) (last_line (y ∷ ys) (later (length (y ∷ ys)) x (y ∷ ys) none) (omega arith))

pub no_lines : lines_of [] ≡ []
unfolding lines_of
no_lines = refl

-- the two splits, with the parts as slices of the input
pub first_ended : (xs : List ℕ) (n : ℕ) → NoneBelow n xs → n < length xs → get_or xs n 0 ≡ 10
    → First xs (line (take n xs) true) (take (length xs - (n + 1)) (drop (n + 1) xs))
first_ended xs n none h e =
    let cut = length-drop (suc n) xs in
    rw (add-one n, take_rest xs (suc n)) (record { lines = ended_line n xs none h e; shorter = omega arith })

pub first_not_ended : (xs : List ℕ) → NoneBelow (length xs) xs → 0 < length xs
    → First xs (line xs false) (take (length xs - length xs) (drop (length xs) xs))
first_not_ended xs none h =
    let rest = drop_all (length xs) xs (omega arith) in
    rw (take_rest xs (length xs), rest) (record { lines = rw no_lines (last_line xs none h); shorter = h })

-- where the search for a 0A finds none, and what stands before the one that it finds
pub found_below : (xs : List ℕ) (n : ℕ) → position (λ c. c == 10) xs ≡ Some n → (n < length xs) × (get_or xs n 0 ≡ 10) × NoneBelow n xs
found_below xs n e =
    let f = position-Some (λ c. c == 10) xs n 0 e in
    (f.0, eqb-true _ _ f.1, λ k h. eqb-false _ _ (f.2 k h))

pub none_found : (xs : List ℕ) → position (λ c. c == 10) xs ≡ None → NoneBelow (length xs) xs
none_found xs e k h =
    let past : length xs ≤ position_or_len (λ c. c == 10) xs = grind (arith, common_steps) in
    eqb-false _ _ (fails_before_first (λ c. c == 10) xs k 0 (omega arith))
