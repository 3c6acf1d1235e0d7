-- How numbers and prices are written: the highest byte first.
use Rattle.std.specs.Prelude.{ℕ, zero, suc, ◌/◌, ◌%◌, ◌^◌, List, [], ◌∷◌, ◌++◌}
use Rattle.pricing.specs.declared.fetch_prices.FetchPrice.{FetchPrice}

-- The lowest k bytes of a number.
unfoldable pub low_bytes : (k n : ℕ) → List ℕ
low_bytes zero n = []
low_bytes (suc k) n = (n / 256 ^ k % 256) ∷ low_bytes k n

-- A number in k bytes. The highest is not cut, so that no two numbers, however large, are written alike.
unfoldable pub in_bytes : (k n : ℕ) → List ℕ
in_bytes zero n = []
in_bytes (suc k) n = (n / 256 ^ k) ∷ low_bytes k n

abbrev pub clock_bytes : ℕ → List ℕ
clock_bytes ms = in_bytes 8 ms

abbrev pub fetches_first_bytes : FetchPrice → List ℕ
fetches_first_bytes price = in_bytes 4 price.fetches ++ in_bytes 8 price.ms
