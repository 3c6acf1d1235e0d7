-- The text of a number of thousandths.
use Rattle.std.specs.Prelude.{ℕ, suc, ◌+◌, ◌/◌, ◌%◌, Bool, true, false, cond, List, [], ◌∷◌, ◌++◌, ℤ, pos, negsuc, ◌==◌, slice_index}
use Rattle.reading.specs.Forms.{point, sign}

-- the character of the lowest digit
abbrev pub last_digit : ℕ → ℕ
last_digit n = 48 + n % 10

-- the characters of the five lowest digits
abbrev pub five_digits : ℕ → List ℕ
five_digits n = last_digit (n / 10_000) ∷ last_digit (n / 1_000) ∷ last_digit (n / 100) ∷ last_digit (n / 10) ∷ last_digit n ∷ []

-- the whole part: two digits, or only the second where the first is '0' (48)
abbrev pub whole_text : (tens ones : ℕ) → List ℕ
whole_text tens ones = cond (tens == 48) (ones ∷ []) (tens ∷ ones ∷ [])

-- five digits as a text: two for the whole part, a point, and three
abbrev pub laid : (minus : Bool) → List ℕ → List ℕ
laid minus ds = sign minus ++ (whole_text (slice_index ds 0) (slice_index ds 1) ++ (point ++ (slice_index ds 2 ∷ slice_index ds 3 ∷ slice_index ds 4 ∷ [])))

-- a minus stands just where the number is negative, so never on zero
abbrev pub text : ℤ → List ℕ
text (pos n) = laid false (five_digits n)
text (negsuc n) = laid true (five_digits (suc n))
