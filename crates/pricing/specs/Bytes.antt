-- Numbers in bytes: how long they are, that no two are alike, and what the machine's own order of bytes gives.
use Rattle.std.specs.Prelude.{◌≡◌, ℕ, zero, suc, ◌/◌, ◌%◌, ◌^◌, ◌<◌, List, [], ◌∷◌, ◌++◌, length, slice_index, refl}
use Rattle.std.proofs.Common.{sym, ap, ◌∙◌, pow-suc, arith}
use Rattle.std.proofs.Math.Nat.{div-div-eq-div-mul}
use Rattle.pricing.specs.Shown.{low_bytes, in_bytes}

pub low_bytes_length : (k n : ℕ) → length (low_bytes k n) ≡ k
unfolding low_bytes
low_bytes_length zero n = refl
low_bytes_length (suc k) n = ap suc (low_bytes_length k n)

pub in_bytes_length : (k n : ℕ) → length (in_bytes k n) ≡ k
unfolding in_bytes
in_bytes_length zero n = refl
in_bytes_length (suc k) n = ap suc (low_bytes_length k n)

-- The lowest bytes and what stands above them make the number.
low_bytes_apart : (k a b : ℕ) → a / 256 ^ k ≡ b / 256 ^ k → low_bytes k a ≡ low_bytes k b → a ≡ b
unfolding low_bytes
low_bytes_apart zero a b high low = omega arith
low_bytes_apart (suc k) a b high low =
    let above : (n : ℕ) → n / 256 ^ k / 256 ≡ n / 256 ^ suc k = λ n. div-div-eq-div-mul n (256 ^ k) 256 ∙ ap (λ m. n / m) (sym (pow-suc 256 k)) in
    let top : a / 256 ^ k / 256 ≡ b / 256 ^ k / 256 = above a ∙ high ∙ sym (above b) in
    let byte : a / 256 ^ k % 256 ≡ b / 256 ^ k % 256 = cc in
    let rest : low_bytes k a ≡ low_bytes k b = cc in
    low_bytes_apart k a b (omega arith) rest

pub in_bytes_apart : (k a b : ℕ) → in_bytes (suc k) a ≡ in_bytes (suc k) b → a ≡ b
unfolding in_bytes
in_bytes_apart k a b e =
    let high : a / 256 ^ k ≡ b / 256 ^ k = cc in
    let low : low_bytes k a ≡ low_bytes k b = cc in
    low_bytes_apart k a b high low

pub four_bytes : (n : ℕ) → n < 2 ^ 32 → (n / 16777216 % 256) ∷ (n / 65536 % 256) ∷ (n / 256 % 256) ∷ (n % 256) ∷ [] ≡ in_bytes 4 n
unfolding in_bytes low_bytes
four_bytes n h =
    let top : n / 16777216 % 256 ≡ n / 16777216 = omega arith in
    let low : n % 256 ≡ n / 1 % 256 = omega arith in
    cc

pub eight_bytes : (n : ℕ) → n < 2 ^ 64
    → (n / 72057594037927936 % 256) ∷ (n / 281474976710656 % 256) ∷ (n / 1099511627776 % 256) ∷ (n / 4294967296 % 256) ∷ (n / 16777216 % 256) ∷ (n / 65536 % 256)
    ∷ (n / 256 % 256) ∷ (n % 256) ∷ [] ≡ in_bytes 8 n
unfolding in_bytes low_bytes
eight_bytes n h =
    let top : n / 72057594037927936 % 256 ≡ n / 72057594037927936 = omega arith in
    let low : n % 256 ≡ n / 1 % 256 = omega arith in
    cc

-- Four bytes and eight bytes, one by one.
pub twelve_bytes : (a b : List ℕ) (f m : ℕ) → a ≡ in_bytes 4 f → b ≡ in_bytes 8 m
    → slice_index a 0 ∷ slice_index a 1 ∷ slice_index a 2 ∷ slice_index a 3 ∷ slice_index b 0 ∷ slice_index b 1 ∷ slice_index b 2 ∷ slice_index b 3 ∷ slice_index b 4 ∷ slice_index b 5 ∷ slice_index b 6 ∷ slice_index b 7 ∷ []
    ≡ in_bytes 4 f ++ in_bytes 8 m
unfolding in_bytes low_bytes
twelve_bytes a b f m p q =
    ap (λ xs. slice_index xs 0 ∷ slice_index xs 1 ∷ slice_index xs 2 ∷ slice_index xs 3 ∷ slice_index b 0 ∷ slice_index b 1 ∷ slice_index b 2 ∷ slice_index b 3 ∷ slice_index b 4 ∷ slice_index b 5 ∷ slice_index b 6 ∷ slice_index b 7 ∷ []) p
    ∙ ap (λ ys. in_bytes 4 f ++ (slice_index ys 0 ∷ slice_index ys 1 ∷ slice_index ys 2 ∷ slice_index ys 3 ∷ slice_index ys 4 ∷ slice_index ys 5 ∷ slice_index ys 6 ∷ slice_index ys 7 ∷ [])) q
