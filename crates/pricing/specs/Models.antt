-- What a price model means, and the laws that it keeps.
use Rattle.std.specs.Prelude.{◌≡◌, ℕ, Bool, true, false, not}
use Rattle.pricing.specs.declared.kinds.Kind.{Kind}

-- Five answers, which are all that a model means.
pub record Model (P : Type 0) : Type 0 where
  -- a bare table's price, from its rows
  pub bare : (rows : ℕ) → P
  -- a test's price, from the price and the size of its input, and the test's cost and kind
  pub tested : (input : P) (size cost : ℕ) → Kind → P
  -- a join's price, from the prices and the sizes of both sides, the result's size, and the summed costs of the ties across
  pub joined : (left right : P) (left_size right_size size costs : ℕ) → P
  -- whether one price is at most another
  pub at_most : P → P → Bool
  -- whether a price is past the count
  pub past : P → Bool

-- Price a is cheaper than b if b is not at most a.
abbrev pub cheaper : {P : Type 0} → Model P → P → P → Bool
cheaper m a b = not (m.at_most b a)

pub record Lawful {P : Type 0} (m : Model P) : Type 0 where
  -- A price is at most itself; of any two prices one is at most the other; at most is transitive.
  pub reflexive : (a : P) → m.at_most a a ≡ true
  pub total : (a b : P) → m.at_most a b ≡ false → m.at_most b a ≡ true
  pub transitive : (a b c : P) → m.at_most a b ≡ true → m.at_most b c ≡ true → m.at_most a c ≡ true
  -- With all else alike, an input at least as dear never gives a cheaper test, ..
  pub dearer_test : (a b : P) (size cost : ℕ) (kind : Kind)
      → m.at_most a b ≡ true → m.at_most (m.tested a size cost kind) (m.tested b size cost kind) ≡ true
  -- .. nor a side at least as dear, left or right, a cheaper join.
  pub dearer_left : (a b right : P) (left_size right_size size costs : ℕ)
      → m.at_most a b ≡ true → m.at_most (m.joined a right left_size right_size size costs) (m.joined b right left_size right_size size costs) ≡ true
  pub dearer_right : (left a b : P) (left_size right_size size costs : ℕ)
      → m.at_most a b ≡ true → m.at_most (m.joined left a left_size right_size size costs) (m.joined left b left_size right_size size costs) ≡ true
  -- A price at least as dear as one past the count is past it.
  pub dearer_past : (a b : P) → m.at_most a b ≡ true → m.past a ≡ true → m.past b ≡ true
