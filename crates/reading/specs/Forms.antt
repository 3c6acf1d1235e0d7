-- Which texts are readings, and of which numbers: the relation `Reads` between a text and its number of thousandths.
use Rattle.std.specs.Prelude.{◌≡◌, ℕ, ◌+◌, ◌-◌, ◌*◌, ◌≤◌, Bool, true, false, ◌⊎◌, List, [], ◌∷◌, ◌++◌, length, ℤ, pos, negsuc, neg_ℤ, ◌≤ℤ◌, codes, ◌≢◌, slice_index}
use Rattle.std.specs.List.{AllByRecursion}

-- the characters '0' to '9' are 48 to 57
abbrev pub Digit : ℕ → Type 0
Digit c = (48 ≤ c) × (c ≤ 57)

-- the number that digits write, after a number that was written before them
abbrev pub value_after : ℕ → List ℕ → ℕ
value_after n [] = n
value_after n (c ∷ cs) = value_after (n * 10 + (c - 48)) cs

abbrev pub value : List ℕ → ℕ
value cs = value_after 0 cs

abbrev pub sign : Bool → List ℕ
sign true = codes "-"
sign false = []

abbrev pub point : List ℕ
point = codes "."

abbrev pub signed : Bool → ℕ → ℤ
signed true m = neg_ℤ (pos m)
signed false m = pos m

-- the text t is a reading, of n thousandths
pub record Reads (t : List ℕ) (n : ℤ) : Type 0 where
  pub minus : Bool
  pub whole : List ℕ
  pub fraction : List ℕ
  pub parts : t ≡ sign minus ++ (whole ++ (point ++ fraction))
  pub whole_digits : AllByRecursion Digit whole
  pub one_or_two : (length whole ≡ 1) ⊎ (length whole ≡ 2)
  pub no_needless_zero : length whole ≡ 2 → slice_index whole 0 ≢ 48
  pub fraction_digits : AllByRecursion Digit fraction
  pub three : length fraction ≡ 3
  pub number : n ≡ signed minus (value (whole ++ fraction))
  pub no_minus_on_zero : minus ≡ true → n ≢ pos 0

-- from -99,999 to 99,999
pub record InRange (n : ℤ) : Type 0 where
  pub least : negsuc 99_998 ≤ℤ n
  pub greatest : n ≤ℤ pos 99_999
