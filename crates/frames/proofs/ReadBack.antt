-- A written line reads back.
use Rattle.std.proofs.Common.{◌≡◌, ℕ, ◌+◌, ◌-◌, ◌*◌, ◌/◌, ◌%◌, ◌<◌, ◌≤◌, true, leb, List, [], ◌∷◌, ◌++◌, length, Some, refl, ap, ◌∙◌, ⊎_elim, arith}
use Rattle.std.proofs.lemmas.Bool.{le-leb, lt-leb, ne_eqb, and_from, and_right, cond-true, cond-false, cond_both, cases_lt}
use Rattle.std.specs.List.{AllByRecursion}
use Rattle.frames.specs.Hexadecimal.{hex_digit, hex_digits, hex_line}
use Rattle.frames.specs.Laws.{LinesReadBack}
use Rattle.frames.specs.Lines.{PlainLine, line, longer, before, lines_of, digit_value, pair_value, byte_value, byte_before, pairs, frame_bytes}

low_digit : (n : ℕ) → n ≤ 9 → digit_value (hex_digit n) ≡ Some n
low_digit n h =
    ap digit_value (cond-true (leb n 9) _ _ (le-leb n 9 h))
    ∙ cond-true _ _ _ (and_from _ _ (le-leb 48 (48 + n) (omega arith)) (le-leb (48 + n) 57 (omega arith)))
    ∙ ap Some (let e : 48 + n - 48 ≡ n = omega arith in e)

high_digit : (n : ℕ) → 9 < n → n < 16 → digit_value (hex_digit n) ≡ Some n
high_digit n h k =
    let c = 65 + (n - 10) in
    ap digit_value (cond-false (leb n 9) _ _ (lt-leb n 9 h))
    ∙ cond-false _ _ _ (and_right (leb 48 c) (leb c 57) (lt-leb c 57 (omega arith)))
    ∙ cond-true _ _ _ (and_from _ _ (le-leb 65 c (omega arith)) (le-leb c 70 (omega arith)))
    ∙ ap Some (let e : c - 65 + 10 ≡ n = omega arith in e)

pub digit_back : (n : ℕ) → n < 16 → digit_value (hex_digit n) ≡ Some n
digit_back n h = ⊎_elim (λ l. low_digit n (omega arith)) (λ l. high_digit n (omega arith) h) (cases_lt n 10)

byte_back : (b : ℕ) → b < 256 → byte_value (hex_digit (b / 16)) (hex_digit (b % 16)) ≡ Some b
byte_back b h =
    ap (λ o. pair_value o (digit_value (hex_digit (b % 16)))) (digit_back (b / 16) (omega arith))
    ∙ ap (λ o. pair_value (Some (b / 16)) o) (digit_back (b % 16) (omega arith))
    ∙ ap Some (let e : b / 16 * 16 + b % 16 ≡ b = omega arith in e)

pairs_back : (bytes : List ℕ) → AllByRecursion (λ b. b < 256) bytes → pairs (hex_digits bytes) ≡ Some bytes
unfolding pairs hex_digits
pairs_back [] h = refl
pairs_back (b ∷ bs) h =
    ap (λ o. byte_before o (pairs (hex_digits bs))) (byte_back b h.0) ∙ ap (byte_before (Some b)) (pairs_back bs h.1)

some_digits : (bytes : List ℕ) → 0 < length bytes → leb 1 (length (hex_digits bytes)) ≡ true
unfolding hex_digits
some_digits [] h = absurd (omega arith)
some_digits (b ∷ bs) h = le-leb _ _ (omega arith)

bytes_back : (bytes : List ℕ) → AllByRecursion (λ b. b < 256) bytes → 0 < length bytes → frame_bytes (line (hex_digits bytes) true) ≡ Some bytes
bytes_back bytes h some = cond-true _ _ _ (some_digits bytes some) ∙ pairs_back bytes h

-- a digit is no 0A
no_end : (n : ℕ) → hex_digit n ≡ 10 → ⊥
no_end n = cond_both (leb n 9) (48 + n) (65 + (n - 10)) (λ x. x ≡ 10 → ⊥) (λ _ e. omega arith) (λ _ e. omega arith)

within : (n : ℕ) (ls : List PlainLine) → before (hex_digit n) ls ≡ longer (hex_digit n) ls
within n ls = cond-false _ _ _ (ne_eqb (hex_digit n) 10 (no_end n))

first_back : (bytes rest : List ℕ) → lines_of (hex_line bytes ++ rest) ≡ line (hex_digits bytes) true ∷ lines_of rest
unfolding lines_of hex_digits
first_back [] rest = refl
first_back (b ∷ bs) rest =
    within (b / 16) (before (hex_digit (b % 16)) (lines_of (hex_line bs ++ rest)))
    ∙ ap (longer (hex_digit (b / 16))) (within (b % 16) (lines_of (hex_line bs ++ rest)) ∙ ap (longer (hex_digit (b % 16))) (first_back bs rest))

pub reads_back : LinesReadBack
reads_back = record { first = first_back; bytes = bytes_back }
