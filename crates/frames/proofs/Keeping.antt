-- Pair by pair, the first ten bytes are kept.
use Rattle.std.proofs.Common.{◌≡◌, ℕ, zero, suc, ◌-◌, ◌<◌, ◌≤◌, Bool, true, false, cond, nat_lt, List, [], ◌∷◌, ◌++◌, length, get_or, take, drop, Some, None, Option, sym, refl, ap, ◌∙◌, arith}
use Rattle.std.proofs.lemmas.Bool.{ltb-true, ltb-false}
use Rattle.std.proofs.lemmas.List.{append_assoc, append-nil, length_push, take_all, take_at, take_rest}
use Rattle.frames.specs.Lines.{byte_value, byte_before, pairs}

-- the first ten bytes, after some that were kept before
abbrev pub ten_after : List ℕ → Option (List ℕ) → Option (List ℕ)
ten_after kept (Some bytes) = Some (take 10 (kept ++ bytes))
ten_after kept None = None

-- a byte is kept if it is among the first ten
pub kept_ten : (kept more : List ℕ) (b : ℕ) (there : Bool) → length kept ≤ 10 → there ≡ nat_lt (length kept) 10
    → more ≡ cond there (kept ++ b ∷ []) kept → more ≡ take 10 (kept ++ b ∷ [])
kept_ten kept more b true few t e =
    let room : length kept < 10 = ltb-true _ _ (sym t) in
    e ∙ sym (take_all 10 (kept ++ b ∷ []) (omega (arith, length_push kept b)))
kept_ten kept more b false few t e =
    let full : length kept ≡ 10 = omega (arith, ltb-false _ _ (sym t)) in
    e ∙ sym (take_at kept (b ∷ []) 10 full)

pub ten_after_all : (kept : List ℕ) → length kept ≤ 10 → ten_after kept (Some []) ≡ Some kept
ten_after_all kept h = ap Some (ap (take 10) (append-nil kept) ∙ take_all 10 kept h)

-- what is cut off early is cut off later
take_append_take : (n : ℕ) (xs ys : List ℕ) → take n (take n xs ++ ys) ≡ take n (xs ++ ys)
take_append_take zero xs ys = refl
take_append_take (suc n) [] ys = refl
take_append_take (suc n) (x ∷ xs) ys = ap (λ zs. x ∷ zs) (take_append_take n xs ys)

ten_after_byte : (kept : List ℕ) (b : ℕ) (o : Option (List ℕ))
    → ten_after kept (byte_before (Some b) o) ≡ ten_after (take 10 (kept ++ b ∷ [])) o
ten_after_byte kept b (Some bytes) =
    ap Some (ap (take 10) (sym (append_assoc kept (b ∷ []) bytes)) ∙ sym (take_append_take 10 (kept ++ b ∷ []) bytes))
ten_after_byte kept b None = refl

no_byte : (o : Option (List ℕ)) → byte_before None o ≡ None
no_byte (Some bytes) = refl
no_byte None = refl

pub pairs_none : pairs [] ≡ Some []
unfolding pairs
pairs_none = refl

pub pairs_odd : (xs : List ℕ) → length xs ≡ 1 → pairs xs ≡ None
unfolding pairs
pairs_odd [] h = absurd (omega arith)
pairs_odd (x ∷ []) h = refl
pairs_odd (x ∷ y ∷ xs) h = absurd (omega arith)

pairs_more : (xs : List ℕ) → 2 ≤ length xs → pairs xs ≡ byte_before (byte_value (get_or xs 0 0) (get_or xs 1 0)) (pairs (drop 2 xs))
unfolding pairs
pairs_more [] h = absurd (omega arith)
pairs_more (x ∷ []) h = absurd (omega arith)
pairs_more (x ∷ y ∷ xs) h = refl

-- one byte more was kept, and the rest is what follows its pair
pub ten_after_more : (kept more xs : List ℕ) (b : ℕ) → 2 ≤ length xs → Some b ≡ byte_value (get_or xs 0 0) (get_or xs 1 0)
    → more ≡ take 10 (kept ++ b ∷ []) → ten_after more (pairs (take (length xs - 2) (drop 2 xs))) ≡ ten_after kept (pairs xs)
ten_after_more kept more xs b h e m =
    ap (λ ys. ten_after more (pairs ys)) (take_rest xs 2) ∙ ap (λ ys. ten_after ys (pairs (drop 2 xs))) m
    ∙ sym (ten_after_byte kept b (pairs (drop 2 xs))) ∙ ap (λ o. ten_after kept (byte_before o (pairs (drop 2 xs)))) e
    ∙ sym (ap (ten_after kept) (pairs_more xs h))

pub pairs_refused : (xs : List ℕ) → 2 ≤ length xs → None ≡ byte_value (get_or xs 0 0) (get_or xs 1 0) → pairs xs ≡ None
pairs_refused xs h e = pairs_more xs h ∙ ap (λ o. byte_before o (pairs (drop 2 xs))) (sym e) ∙ no_byte (pairs (drop 2 xs))
