-- A join, by what the code has of the two sides.
use Rattle.std.proofs.Common.{◌≡◌, ℕ, ◌+◌, ◌-◌, ◌<◌, true, false, List, Some, None, Option, ap, ◌∙◌, arith}
use lib.Bits.{bit_and}
use Rattle.std.specs.List.{slice_get}
use Rattle.pricing.specs.Models.{Model}
use Rattle.sets.specs.Sets.{◌⊆◌}
use Rattle.sets.specs.Rows.{place_of}
use Rattle.sets.specs.declared.rows.Row.{Row}
use Rattle.sets.proofs.Parts.{rest_part}
use Rattle.plans.specs.Questions.{Question, across, linked, size}
use Rattle.plans.specs.Entries.{joining_entry}
use Rattle.plans.specs.Recurrence.{splits}
use Rattle.plans.specs.declared.entries.Entry.{Entry}
use Rattle.solver.specs.Held.{side_of}
use Rattle.solver.specs.Solved.{Turn}
use Rattle.solver.specs.declared.lists.Side.{Side}
use Rattle.solver.proofs.Sides.{part_read, not_splitting, no_left, no_right, both_sides}
use Rattle.solver.proofs.Splitting.{others_are, splits_by}

-- L is cut off R, and B are the others; the links are those of G.
pub record Cut (Q G : Question) (R L B : ℕ) : Type 0 where
  pub same : G ≡ Q
  pub some : 0 < L
  pub proper : L < R
  pub part : L ⊆ R
  pub others : B ≡ R - bit_and R L

module _ {P : Type 0} (m : Model P) (Q G : Question) (table : ℕ → ℕ → Option (Entry P)) (T R S L B : ℕ) (sizes : List ℕ) (turn : Turn Q T R S sizes) (cut : Cut Q G R L B) where
  rest : B ≡ R - L
  rest = others_are R L B cut.others cut.part

  -- What the lists hold of a row.
  abbrev pub Read : Option (Side P) → (A S' : ℕ) → Type 0
  Read r A S' = r ≡ side_of (table A S') (slice_get sizes (place_of T A S'))

  pub unlinked : false ≡ linked G L B → None ≡ joining_entry m Q table R S L
  unlinked e = not_splitting m Q table R S L (splits_by Q R L G B false cut.same rest cut.some cut.proper cut.part e)

  module _ (tie : true ≡ linked G L B) where
    tied : splits Q R L ≡ true
    tied = splits_by Q R L G B true cut.same rest cut.some cut.proper cut.part tie

    left_read : (r : Option (Side P)) (A S' : ℕ) → A ≡ L → S' ≡ bit_and S L → Read r A S' → r ≡ side_of (table L (bit_and S L)) (Some (size Q L (bit_and S L)))
    left_read r A S' e f h = part_read r table Q T R S sizes turn L A S' e f cut.part cut.proper h

    right_read : (r : Option (Side P)) (A S' : ℕ) → A ≡ B → S' ≡ bit_and S B → Read r A S' → r ≡ side_of (table (R - L) (bit_and S (R - L))) (Some (size Q (R - L) (bit_and S (R - L))))
    right_read r A S' e f h = part_read r table Q T R S sizes turn (R - L) A S' (e ∙ rest) (f ∙ ap (bit_and S) rest) (rest_part L R cut.part) (omega (arith, cut.some, cut.proper)) h

    pub left_lost : (A S' : ℕ) → A ≡ L → S' ≡ bit_and S L → Read None A S' → None ≡ joining_entry m Q table R S L
    left_lost A S' e f h = no_left m Q table R S L tied (left_read None A S' e f h)

    pub right_lost : (A S' : ℕ) → A ≡ B → S' ≡ bit_and S B → Read None A S' → None ≡ joining_entry m Q table R S L
    right_lost A S' e f h = no_right m Q table R S L tied (right_read None A S' e f h)

    -- The rows of the two sides, and what the lists hold of them.
    pub joined : (a b : Side P) (l r : Row) (n costs choice : ℕ) → l.tables.bits ≡ L → l.tests.bits ≡ bit_and S L → r.tables.bits ≡ B → r.tests.bits ≡ bit_and S B
        → Read (Some a) l.tables.bits l.tests.bits → Read (Some b) r.tables.bits r.tests.bits → n ≡ size Q R S → costs ≡ across G L B → choice ≡ 4096 + L
        → Some (record { price = m.joined a.price b.price a.size b.size n costs; choice = choice }) ≡ joining_entry m Q table R S L
    joined a b l r n costs choice lt ls rt rs left right sized cost coded =
        both_sides m Q table R S L tied a b n costs choice (left_read (Some a) l.tables.bits l.tests.bits lt ls left) (right_read (Some b) r.tables.bits r.tests.bits rt rs right) sized
        (cost ∙ ap (λ (q : Question). across q L B) cut.same ∙ ap (across Q L) rest) coded
