-- The question after table, tie, test or correct, or the refusal, the causes from the top down.
use Rattle.std.specs.Prelude.{◌≡◌, ℕ, ◌+◌, Bool, true, false, cond, ◌&&◌, ◌||◌, ℤ, pos, negsuc, ◌+ℤ◌, is_some, Some, None, Ok, Err, Option, Result, ◌==◌, nat_le, nat_lt}
use Rattle.pricing.specs.Kinds.{kind_of}
use Rattle.pricing.specs.declared.kinds.Kind.{Kind}
use Rattle.plans.specs.Questions.{Question, tie_of, ceiling}
use Rattle.plans.specs.declared.predicates.Tie.{Tie}
use Rattle.plans.specs.declared.predicates.Test.{Test}
use Rattle.catalogue.specs.declared.refusals.ChangeRefusal.{ChangeRefusal}
use Rattle.catalogue.specs.declared.refusals.ChangeRefusal.TheVariants.{TenTables, TooManyRows, NoSuchTable, SameTable, BadSelectivity, AlreadyTied, NoSuchKind, AlreadyTested, NoTest, CostOutOfRange}

-- No tables, no ties, no tests.
abbrev pub empty : Question
empty = record { count = 0; rows = λ i. 0; tie = λ i j. None; test = λ i. None }

abbrev pub with_table : Question → (rows : ℕ) → Question
with_table Q n = record { count = Q.count + 1; rows = λ i. cond (i == Q.count) n (Q.rows i); tie = Q.tie; test = Q.test }

abbrev pub with_tie : Question → (table other : ℕ) → Tie → Question
with_tie Q a b t = record { count = Q.count; rows = Q.rows; tie = λ i j. cond (i == a && j == b) (Some t) (Q.tie i j); test = Q.test }

abbrev pub with_test : Question → (table : ℕ) → Test → Question
with_test Q a t = record { count = Q.count; rows = Q.rows; tie = Q.tie; test = λ i. cond (i == a) (Some t) (Q.test i) }

-- Refused by e if the cause is there, and else what follows.
abbrev pub unless : {X : Type 0} → Bool → ChangeRefusal → Result X ChangeRefusal → Result X ChangeRefusal
unless true e next = Err e
unless false e next = next

abbrev pub missing : Question → (table : ℕ) → Bool
missing Q a = nat_le Q.count a

abbrev pub bad_selectivity : (p q : ℕ) → Bool
bad_selectivity p q = q == 0 || nat_lt q p

abbrev pub tabled : Question → (rows : ℕ) → Result Question ChangeRefusal
tabled Q n =
    unless (nat_le 10 Q.count) TenTables (
    unless (nat_lt ceiling n) TooManyRows (
    Ok (with_table Q n)))

abbrev pub tied : Question → (table other p q cost : ℕ) → Result Question ChangeRefusal
tied Q a b p q cost =
    unless (missing Q a || missing Q b) NoSuchTable (
    unless (a == b) SameTable (
    unless (bad_selectivity p q) BadSelectivity (
    unless (is_some (tie_of Q a b)) AlreadyTied (
    Ok (with_tie Q a b (record { p = p; q = q; cost = cost }))))))

-- With the kind that has the number, if one has.
abbrev pub tested_by : Question → (table p q cost : ℕ) → Option Kind → Result Question ChangeRefusal
tested_by Q a p q cost None = Err NoSuchKind
tested_by Q a p q cost (Some kind) =
    unless (is_some (Q.test a)) AlreadyTested (
    Ok (with_test Q a (record { p = p; q = q; cost = cost; kind = kind })))

abbrev pub tested : Question → (table p q cost kind : ℕ) → Result Question ChangeRefusal
tested Q a p q cost kind =
    unless (missing Q a) NoSuchTable (
    unless (bad_selectivity p q) BadSelectivity (
    tested_by Q a p q cost (kind_of kind)))

-- A cost is from 0 to 65,535.
abbrev pub as_cost : ℤ → Option ℕ
as_cost (pos ms) = cond (nat_le ms 65535) (Some ms) None
as_cost (negsuc ms) = None

abbrev pub at_cost : Question → (table : ℕ) → Test → Option ℕ → Result Question ChangeRefusal
at_cost Q a t None = Err CostOutOfRange
at_cost Q a t (Some cost) = Ok (with_test Q a (record { p = t.p; q = t.q; cost = cost; kind = t.kind }))

abbrev pub corrected_test : Question → (table : ℕ) (by : ℤ) → Option Test → Result Question ChangeRefusal
corrected_test Q a by None = Err NoTest
corrected_test Q a by (Some t) = at_cost Q a t (as_cost (pos t.cost +ℤ by))

abbrev pub corrected : Question → (table : ℕ) (by : ℤ) → Result Question ChangeRefusal
corrected Q a by = unless (missing Q a) NoSuchTable (corrected_test Q a by (Q.test a))

-- An answer and the question after it are as the outcome says; a refusal leaves the question as it was.
abbrev pub Follows : {X : Type 0} → Result Question ChangeRefusal → (before : Question) → Result X ChangeRefusal → (after : Question) → Type 0
Follows (Ok Q) before (Ok x) after = after ≡ Q
Follows (Ok Q) before (Err e) after = ⊥
Follows (Err e) before (Ok x) after = ⊥
Follows (Err e) before (Err f) after = (f ≡ e) × (after ≡ before)
