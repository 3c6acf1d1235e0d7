-- What the recurrence gives, under any lawful model of prices.
use Rattle.std.specs.Prelude.{◌≡◌, ℕ, ◌-◌, ◌^◌, ◌<◌, true, false, is_some, Some}
use Rattle.plans.specs.Questions.{Question, Belongs, tests_on}
use Rattle.plans.specs.Plans.{Plan, Valid, Counted, test, join, tables}
use Rattle.pricing.specs.Models.{Model}
use Rattle.plans.specs.Prices.{price}
use Rattle.plans.specs.Recurrence.{joining, testing, opt}

-- A plan is valid for R and S just where each table of R and each test of S stands once in it, in its place, and nothing else.
pub record ValidByCounting (Q : Question) : Type 0 where
  pub counted : (R S : ℕ) (p : Plan) → Valid Q R S p → Counted Q R S p
  pub valid : (R S : ℕ) (p : Plan) → Counted Q R S p → Valid Q R S p

pub record Planned {P : Type 0} (m : Model P) (Q : Question) : Type 0 where
  -- The plan of R and S joins just the tables R, makes just the tests S, ..
  pub sound : (R S : ℕ) (p : Plan) → Belongs Q S R → opt m Q R S ≡ Some p → Valid Q R S p
  -- .. there is one if any plan does, ..
  pub complete : (R S : ℕ) (p : Plan) → Valid Q R S p → is_some (opt m Q R S) ≡ true
  -- .. and no plan that does is cheaper.
  pub cheapest : (R S : ℕ) (p p' : Plan) → opt m Q R S ≡ Some p → Valid Q R S p' → m.at_most (price m Q p) (price m Q p') ≡ true
  -- Where it is past the limit, so is each.
  pub past_all : (R S : ℕ) (p p' : Plan) → opt m Q R S ≡ Some p → m.past (price m Q p) ≡ true → Valid Q R S p' → m.past (price m Q p') ≡ true
  -- Its parts are the plans of their own tables and tests.
  pub left_part : (R S : ℕ) (l r : Plan) → opt m Q R S ≡ Some (join l r) → opt m Q (tables l) (tests_on Q S (tables l)) ≡ Some l
  pub right_part : (R S : ℕ) (l r : Plan) → opt m Q R S ≡ Some (join l r) → opt m Q (tables r) (tests_on Q S (tables r)) ≡ Some r
  pub tested_part : (R S i : ℕ) (p : Plan) → opt m Q R S ≡ Some (test i p) → opt m Q R (S - 2 ^ i) ≡ Some p
  -- Of equally cheap candidates it is the first. Where it is a join, a join with a smaller set on the left is dearer; ..
  pub first_join : (R S L : ℕ) (l r c : Plan) → opt m Q R S ≡ Some (join l r) → L < tables l → joining Q (opt m Q) R S L ≡ Some c
      → m.at_most (price m Q c) (price m Q (join l r)) ≡ false
  -- .. and where a test is made last, so are every join and every earlier test.
  pub joins_dearer : (R S L i : ℕ) (p c : Plan) → opt m Q R S ≡ Some (test i p) → joining Q (opt m Q) R S L ≡ Some c
      → m.at_most (price m Q c) (price m Q (test i p)) ≡ false
  pub first_test : (R S i j : ℕ) (p c : Plan) → opt m Q R S ≡ Some (test i p) → j < i → testing Q (opt m Q) R S j ≡ Some c
      → m.at_most (price m Q c) (price m Q (test i p)) ≡ false
