-- The recurrence over prices and choices alone, as a table holds them.
use Rattle.std.specs.Prelude.{ℕ, zero, suc, ◌+◌, ◌-◌, ◌^◌, true, false, cond, ◌&&◌, Some, None, Option, ◌==◌}
use Rattle.plans.specs.declared.entries.Entry.{Entry}
use Rattle.sets.specs.Sets.{has}
use Rattle.plans.specs.Questions.{Question, size, charged, across, tests_on}
use Rattle.plans.specs.declared.predicates.Test.{Test}
use Rattle.plans.specs.Plans.{Plan}
use Rattle.pricing.specs.Models.{Model}
use Rattle.plans.specs.Prices.{price}
use Rattle.plans.specs.Recurrence.{splits, code}

-- A row's price and choice.
unfoldable pub entry : {P : Type 0} → Model P → Question → Option Plan → Option (Entry P)
entry m Q None = None
entry m Q (Some p) = Some (record { price = price m Q p; choice = code (Some p) })

-- The later one only if it is cheaper.
abbrev pub better : {P : Type 0} → Model P → Option (Entry P) → Option (Entry P) → Option (Entry P)
better m None c = c
better m (Some a) None = Some a
better m (Some a) (Some b) = cond (m.at_most a.price b.price) (Some a) (Some b)

unfoldable pub best_entry : {P : Type 0} → Model P → Option (Entry P) → (ℕ → Option (Entry P)) → ℕ → Option (Entry P)
best_entry m a f zero = a
best_entry m a f (suc n) = better m (best_entry m a f n) (f n)

module _ {P : Type 0} (m : Model P) (Q : Question) where
  abbrev pub alone_entry : ℕ → ℕ → ℕ → Option (Entry P)
  alone_entry R S i = elim (R == 2 ^ i && S == 0) [ true ↦ Some (record { price = m.bare (Q.rows i); choice = 1 }) | false ↦ None ]

  abbrev pub join_entry : ℕ → ℕ → ℕ → Option (Entry P) → Option (Entry P) → Option (Entry P)
  join_entry R S L None y = None
  join_entry R S L (Some x) None = None
  join_entry R S L (Some x) (Some y) =
      Some (record {
        price = m.joined x.price y.price (size Q L (tests_on Q S L)) (size Q (R - L) (tests_on Q S (R - L))) (size Q R S) (across Q L (R - L));
        choice = 4096 + L;
      })

  abbrev pub test_entry : ℕ → ℕ → ℕ → Option Test → Option (Entry P) → Option (Entry P)
  test_entry R S i None x = None
  test_entry R S i (Some t) None = None
  test_entry R S i (Some t) (Some x) = Some (record { price = m.tested x.price (charged Q i R (S - 2 ^ i)) t.cost t.kind; choice = 256 + i })

  abbrev pub joining_entry : (ℕ → ℕ → Option (Entry P)) → ℕ → ℕ → ℕ → Option (Entry P)
  joining_entry table R S L = elim (splits Q R L) [ true ↦ join_entry R S L (table L (tests_on Q S L)) (table (R - L) (tests_on Q S (R - L))) | false ↦ None ]

  abbrev pub testing_entry : (ℕ → ℕ → Option (Entry P)) → ℕ → ℕ → ℕ → Option (Entry P)
  testing_entry table R S i = elim (has S i) [ true ↦ test_entry R S i (Q.test i) (table R (S - 2 ^ i)) | false ↦ None ]

  unfoldable pub row_entry : (ℕ → ℕ → Option (Entry P)) → ℕ → ℕ → Option (Entry P)
  row_entry table R S =
      best_entry m (best_entry m (best_entry m None (alone_entry R S) Q.count) (joining_entry table R S) R) (testing_entry table R S) Q.count
