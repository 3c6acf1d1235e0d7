-- What the three lists hold of the rows before a place, and what they hold from there on.
use Rattle.std.specs.Prelude.{◌≡◌, ℕ, ◌<◌, ◌≤◌, List, Some, None}
use Rattle.std.specs.List.{slice_get}
use Rattle.pricing.specs.Models.{Model}
use Rattle.sets.specs.Sets.{◌⊆◌}
use Rattle.sets.specs.Rows.{tests_on, place_of}
use Rattle.plans.specs.Questions.{Question, all_tests, size}
use Rattle.plans.specs.Plans.{Plan}
use Rattle.plans.specs.Prices.{price}
use Rattle.plans.specs.Recurrence.{opt, code}

-- S are tests on the tables R.
abbrev pub Own : Question → (R S : ℕ) → Type 0
Own Q R S = S ⊆ tests_on (all_tests Q) R

abbrev pub place : Question → (R S : ℕ) → ℕ
place Q R S = place_of (all_tests Q) R S

-- Every row before p has its size and its choice, and the price of its plan if it has one; all else is as it was provided.
pub record Solved {P : Type 0} (m : Model P) (Q : Question) (p : ℕ) (prices₀ prices : List P) (sizes₀ sizes choices₀ choices : List ℕ) : Type 0 where
  pub sizes_are : (R S : ℕ) → Own Q R S → place Q R S < p → slice_get sizes (place Q R S) ≡ Some (size Q R S)
  pub choices_are : (R S : ℕ) → Own Q R S → place Q R S < p → slice_get choices (place Q R S) ≡ Some (code (opt m Q R S))
  pub prices_are : (R S : ℕ) (plan : Plan) → Own Q R S → place Q R S < p → opt m Q R S ≡ Some plan → slice_get prices (place Q R S) ≡ Some (price m Q plan)
  pub prices_kept : (R S : ℕ) → Own Q R S → place Q R S < p → opt m Q R S ≡ None → slice_get prices (place Q R S) ≡ slice_get prices₀ (place Q R S)
  pub prices_rest : (k : ℕ) → p ≤ k → slice_get prices k ≡ slice_get prices₀ k
  pub sizes_rest : (k : ℕ) → p ≤ k → slice_get sizes k ≡ slice_get sizes₀ k
  pub choices_rest : (k : ℕ) → p ≤ k → slice_get choices k ≡ slice_get choices₀ k

-- It is the turn of the tables R and the tests S, where T have a test: the rows before have their sizes.
pub record Turn (Q : Question) (T R S : ℕ) (sizes : List ℕ) : Type 0 where
  pub tested : T ≡ all_tests Q
  pub own : Own Q R S
  pub sized : (R' S' : ℕ) → Own Q R' S' → place Q R' S' < place Q R S → slice_get sizes (place Q R' S') ≡ Some (size Q R' S')
