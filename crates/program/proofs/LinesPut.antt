-- A line that was put behind others.
use Rattle.std.proofs.Common.{◌≡◌, ℕ, ◌+◌, ◌*◌, ◌/◌, ◌%◌, ◌<◌, ◌≤◌, List, [], ◌∷◌, ◌++◌, length, get_or, take, drop, set, refl, ap, ◌∙◌, div-one, arith, length-append, length-take, take_at}
use borrow.Rule.Slice.PartMut.{put_mid}
use Rattle.frames.specs.Hexadecimal.{hex_digits, hex_line}
use Rattle.buffers.specs.Put.{Put}
use Rattle.frames.proofs.Putting.{length_hex_digits}
use Rattle.std.proofs.lemmas.Slice.{take-put_mid}
use Rattle.checker.proofs.Pairs.{rest_of, two_first}
use Rattle.pricing.specs.Shown.{in_bytes, low_bytes}
use Rattle.program.specs.Outputs.{pair_lines}

pub hex_line_length : (bytes : List ℕ) → length (hex_line bytes) ≡ 2 * length bytes + 1
hex_line_length bytes = length-append (hex_digits bytes) (10 ∷ []) ∙ ap (λ (n : ℕ). n + 1) (length_hex_digits bytes)

pub put_front : (before after : List ℕ) (at end : ℕ) (text : List ℕ) → Put before after at end text → take end after ≡ take at before ++ text
put_front before after at end text put =
    let long : length (take at before ++ text) ≡ end = length-append (take at before) text ∙ omega (arith, put.ends, put.room, length-take at before) in
    ap (take end) put.holds ∙ take_at (take at before ++ text) (drop end before) end long

-- A label and bytes in front of a room.
pub label_front : (room bytes written : List ℕ) (label k : ℕ) → 0 < length room → written ≡ bytes → take (length bytes + 1) (put_mid 1 k (set room 0 label) written) ≡ label ∷ bytes
label_front [] bytes written label k h e = absurd (omega arith)
label_front (x ∷ xs) bytes written label k h e = ap (λ (ys : List ℕ). take (length bytes + 1) (put_mid 1 k (label ∷ xs) ys)) e ∙ take-put_mid 1 k (label ∷ xs) bytes (length bytes + 1) (omega arith) (omega arith)

-- One pair more.
pub pairs_two : (xs : List ℕ) → 2 ≤ length xs → pair_lines xs ≡ hex_line (get_or xs 0 0 ∷ get_or xs 1 0 ∷ []) ++ pair_lines (rest_of xs)
unfolding pair_lines
pairs_two xs h = ap pair_lines (two_first xs h)

pub pairs_end : (xs : List ℕ) → length xs < 2 → pair_lines xs ≡ []
unfolding pair_lines
pairs_end [] h = refl
pairs_end (a ∷ []) h = refl
pairs_end (a ∷ b ∷ xs) h = absurd (omega arith)

-- Two bytes of a number, the highest first.
pub two_bytes : (n : ℕ) → in_bytes 2 n ≡ n / 256 ∷ (n % 256) ∷ []
unfolding in_bytes low_bytes
two_bytes n = ap (λ (m : ℕ). n / 256 ∷ (m % 256) ∷ []) (div-one n)
