-- Fetches first prices by fetches, and of equally many by milliseconds.
use Rattle.std.specs.Prelude.{◌≡◌, ℕ, ◌+◌, ◌≤◌, min, Bool, true, false, cond, ◌&&◌, ◌||◌, T, leb, ◌==◌, nat_le, nat_lt, refl}
use Rattle.std.proofs.Common.{subst, arith}
use Rattle.std.proofs.lemmas.Bool.{leb-true, leb-false, lt-leb}
use Rattle.pricing.specs.Clocks.{clock, most_ms, limited, test_ms, join_ms}
use Rattle.pricing.specs.Counts.{most_fetches, counts}
use Rattle.pricing.specs.Models.{Model}
use Rattle.pricing.specs.declared.kinds.Kind.{Kind}
use Rattle.pricing.specs.declared.kinds.Kind.TheVariants.{Look, Fetch}
use Rattle.pricing.specs.declared.fetch_prices.FetchPrice.{FetchPrice}

-- The price that alone is past the count.
abbrev pub uncounted : FetchPrice
uncounted = record { fetches = most_fetches; ms = most_ms; whole = tt }

-- Fetches up to their limit; at the limit or above they take the milliseconds with them.
abbrev pub counted_fetches : (fetches : ℕ) → ℕ
counted_fetches fetches = min fetches most_fetches

abbrev pub counted_ms : (fetches ms : ℕ) → ℕ
counted_ms fetches ms = cond (nat_le most_fetches fetches) most_ms (limited ms)

pub counted_whole : (fetches ms : ℕ) → T (counts (counted_fetches fetches) (counted_ms fetches ms))
counted_whole fetches ms = go (nat_le most_fetches fetches) refl
  where
    go : (far : Bool) → nat_le most_fetches fetches ≡ far → T (counts (counted_fetches fetches) (cond far most_ms (limited ms)))
    go true far =
        let all : most_fetches ≡ counted_fetches fetches = omega (arith, leb-true most_fetches fetches far) in
        subst (λ (n : ℕ). T (counts n most_ms)) all tt
    go false few =
        let less : leb most_fetches (counted_fetches fetches) ≡ false = lt-leb _ _ (omega (arith, leb-false most_fetches fetches few)) in
        rw less tt

abbrev pub counted : (fetches ms : ℕ) → FetchPrice
counted fetches ms = record { fetches = counted_fetches fetches; ms = counted_ms fetches ms; whole = counted_whole fetches ms }

-- What a test adds: a fetch its input's rows, a look none.
abbrev pub test_fetches : Kind → (size : ℕ) → ℕ
test_fetches Look size = 0
test_fetches Fetch size = size

abbrev pub fetches_first : Model FetchPrice
fetches_first = record {
  bare = λ rows. counted 0 rows;
  tested = λ input size cost kind. counted (input.fetches + test_fetches kind size) (input.ms + test_ms size cost);
  joined = λ left right left_size right_size size costs.
      counted (left.fetches + right.fetches) (left.ms + right.ms + join_ms left_size right_size size costs);
  at_most = λ a b. nat_lt a.fetches b.fetches || (a.fetches == b.fetches && nat_le a.ms b.ms);
  past = λ price. nat_le most_fetches price.fetches;
}

-- Under each model one price alone is past the count: 2^64 - 1 ms, and the most fetches with as many.
pub record OnePast : Type 0 where
  pub by_clock : (price : ℕ) → price ≤ most_ms → clock.past price ≡ true → price ≡ most_ms
  pub by_fetches : (price : FetchPrice) → fetches_first.past price ≡ true → price ≡ uncounted
