-- What the lists of prices and choices hold of a row, as the recurrence over entries reads it.
use Rattle.std.specs.Prelude.{ℕ, ◌+◌, cond, List, Some, None, Option, ◌==◌, slice_set}
use Rattle.std.specs.List.{slice_get}
use Rattle.sets.specs.Rows.{place_of}
use Rattle.pricing.specs.Models.{Model}
use Rattle.plans.specs.Questions.{Question}
use Rattle.plans.specs.Recurrence.{found}
use Rattle.plans.specs.Entries.{joining_entry, testing_entry}
use Rattle.plans.specs.declared.entries.Entry.{Entry}
use Rattle.solver.specs.declared.lists.Side.{Side}

-- A choice of 0 is no entry, whatever price stands beside it.
abbrev pub as_entry : {P : Type 0} → Option P → Option ℕ → Option (Entry P)
as_entry None c = None
as_entry (Some p) None = None
as_entry (Some p) (Some c) = cond (c == 0) None (Some (record { price = p; choice = c }))

-- The entry of the tables R and the tests S; T are the tables that have a test.
unfoldable pub held : {P : Type 0} → (prices : List P) (choices : List ℕ) (T R S : ℕ) → Option (Entry P)
held prices choices T R S = as_entry (slice_get prices (place_of T R S)) (slice_get choices (place_of T R S))

-- How many candidates of a row are there, by the entries of the rows before it.
abbrev pub tries_by : {P : Type 0} → Model P → Question → (ℕ → ℕ → Option (Entry P)) → (R S : ℕ) → ℕ
tries_by m Q table R S = found (joining_entry m Q table R S) R + found (testing_entry m Q table R S) Q.count

-- The choice that an entry leads to, 0 without one.
abbrev pub choice_of : {P : Type 0} → Option (Entry P) → ℕ
choice_of None = 0
choice_of (Some e) = e.choice

-- The prices with that of an entry at a place, and as they were without one.
abbrev pub priced : {P : Type 0} → (prices : List P) (place : ℕ) → Option (Entry P) → List P
priced prices place None = prices
priced prices place (Some e) = slice_set prices place e.price

-- The price that stands beside a choice other than 0.
abbrev pub price_at : {P : Type 0} → Option P → Option ℕ → Option P
price_at None c = None
price_at (Some p) None = None
price_at (Some p) (Some c) = cond (c == 0) None (Some p)

-- What a candidate reads of one of its parts: the price of its plan, and its size.
abbrev pub side_of : {P : Type 0} → Option (Entry P) → Option ℕ → Option (Side P)
side_of None n = None
side_of (Some e) None = None
side_of (Some e) (Some n) = Some (record { price = e.price; size = n })
