-- Bytes as a line of hexadecimal.
use Rattle.std.specs.Prelude.{ℕ, ◌+◌, ◌-◌, ◌/◌, ◌%◌, cond, List, [], ◌∷◌, ◌++◌, nat_le}

-- the character of a value below 16: 0-9 are 48 to 57, A-F are 65 to 70
abbrev pub hex_digit : ℕ → ℕ
hex_digit n = cond (nat_le n 9) (48 + n) (65 + (n - 10))

-- two characters for each byte
unfoldable pub hex_digits : List ℕ → List ℕ
hex_digits [] = []
hex_digits (b ∷ bs) = hex_digit (b / 16) ∷ hex_digit (b % 16) ∷ hex_digits bs

-- and 0A at the end
abbrev pub hex_line : List ℕ → List ℕ
hex_line bytes = hex_digits bytes ++ 10 ∷ []
