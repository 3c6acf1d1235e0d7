-- The question that flat lists give: calls of table, tie and test in order, up to the first that is refused.
use Rattle.std.specs.Prelude.{ℕ, zero, suc, ◌+◌, ◌*◌, ◌/◌, List, length, Ok, Err, Result, slice_index}
use Rattle.plans.specs.Questions.{Question}
use Rattle.catalogue.specs.Asked.{asked}
use Rattle.catalogue.specs.Changes.{empty, tabled, tied, tested}
use Rattle.catalogue.specs.declared.catalogues.Catalogue.{Catalogue}
use Rattle.catalogue.specs.declared.refusals.ChangeRefusal.{ChangeRefusal}

-- A call if those before it were taken, and else their refusal.
abbrev pub and_then : Result Question ChangeRefusal → (Question → Result Question ChangeRefusal) → Result Question ChangeRefusal
and_then (Ok Q) call = call Q
and_then (Err e) call = Err e

-- The first n of some calls.
unfoldable pub calls : (call : Question → ℕ → Result Question ChangeRefusal) (Q : Question) (n : ℕ) → Result Question ChangeRefusal
calls call Q zero = Ok Q
calls call Q (suc k) = and_then (calls call Q k) (λ W. call W k)

abbrev pub table_at : List ℕ → Question → ℕ → Result Question ChangeRefusal
table_at rows Q k = tabled Q (slice_index rows k)

-- Table, other, p, q and cost.
abbrev pub tie_at : List ℕ → Question → ℕ → Result Question ChangeRefusal
tie_at ties Q k = tied Q (slice_index ties (k * 5)) (slice_index ties (k * 5 + 1)) (slice_index ties (k * 5 + 2)) (slice_index ties (k * 5 + 3)) (slice_index ties (k * 5 + 4))

-- Table, p, q, cost and kind.
abbrev pub test_at : List ℕ → Question → ℕ → Result Question ChangeRefusal
test_at tests Q k = tested Q (slice_index tests (k * 5)) (slice_index tests (k * 5 + 1)) (slice_index tests (k * 5 + 2)) (slice_index tests (k * 5 + 3)) (slice_index tests (k * 5 + 4))

abbrev pub tables_of : Question → List ℕ → Result Question ChangeRefusal
tables_of Q rows = calls (table_at rows) Q (length rows)

abbrev pub ties_of : Question → List ℕ → Result Question ChangeRefusal
ties_of Q ties = calls (tie_at ties) Q (length ties / 5)

abbrev pub tests_of : Question → List ℕ → Result Question ChangeRefusal
tests_of Q tests = calls (test_at tests) Q (length tests / 5)

abbrev pub built : (rows ties tests : List ℕ) → Result Question ChangeRefusal
built rows ties tests = and_then (and_then (tables_of empty rows) (λ Q. ties_of Q ties)) (λ Q. tests_of Q tests)

-- The question that calls led to, or their refusal.
abbrev pub left_by : {X : Type 0} → Result X ChangeRefusal → Question → Result Question ChangeRefusal
left_by (Ok x) Q = Ok Q
left_by (Err e) Q = Err e

abbrev pub asked_by : Result Catalogue ChangeRefusal → Result Question ChangeRefusal
asked_by (Ok c) = Ok (asked c)
asked_by (Err e) = Err e
