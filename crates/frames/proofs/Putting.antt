-- Bytes as hexadecimal, one after another.
use Rattle.std.proofs.Common.{◌≡◌, ℕ, ◌+◌, ◌*◌, ◌/◌, ◌%◌, ◌<◌, ◌≤◌, List, [], ◌∷◌, ◌++◌, length, get_or, take, set, refl, ap, arith, length-append}
use Rattle.std.proofs.lemmas.List.{take_more}
use Rattle.buffers.specs.Put.{Put, NoRoom}
use Rattle.buffers.proofs.Putting.{put_more, put_two}
use Rattle.frames.specs.Hexadecimal.{hex_digit, hex_digits, hex_line}

pub hex_digits_none : hex_digits [] ≡ []
unfolding hex_digits
hex_digits_none = refl

hex_digits_append : (xs : List ℕ) (b : ℕ) → hex_digits (xs ++ b ∷ []) ≡ hex_digits xs ++ hex_digit (b / 16) ∷ hex_digit (b % 16) ∷ []
unfolding hex_digits
hex_digits_append [] b = refl
hex_digits_append (x ∷ xs) b = ap (λ ds. hex_digit (x / 16) ∷ hex_digit (x % 16) ∷ ds) (hex_digits_append xs b)

pub length_hex_digits : (xs : List ℕ) → length (hex_digits xs) ≡ 2 * length xs
unfolding hex_digits
length_hex_digits [] = refl
length_hex_digits (x ∷ xs) = omega (arith, length_hex_digits xs)

-- the digits of one byte more
pub put_byte : (a b bytes : List ℕ) (at m i x y : ℕ) → i < length bytes → m + 2 ≤ length b → Put a b at m (hex_digits (take i bytes))
    → x ≡ hex_digit (get_or bytes i 0 / 16) → y ≡ hex_digit (get_or bytes i 0 % 16)
    → Put a (set (set b m x) (m + 1) y) at (m + 2) (hex_digits (take (i + 1) bytes))
put_byte a b bytes at m i x y h room f high low =
    rw (take_more bytes i 0 h, hex_digits_append (take i bytes) (get_or bytes i 0), ← high, ← low)
    (put_more a b at m (hex_digits (take i bytes)) f _ _ (m + 2) (put_two b m x y room))

pub no_room : (a bytes : List ℕ) (at : ℕ) → length a < at + 2 * length bytes + 1 → NoRoom a a at (hex_line bytes)
no_room a bytes at h = record { short = omega (arith, length-append (hex_digits bytes) (10 ∷ []), length_hex_digits bytes); same = refl }
