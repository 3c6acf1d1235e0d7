use Rattle.std.proofs.Common.{◌+◌, ◌<◌, ◌≤◌, sym, refl, ◌∙◌, arith, length-set}
use lib.Count.{ones}
use Rattle.catalogue.specs.Asked.{asked}
use Rattle.plans.specs.Plans.{tables, tests}
use Rattle.checker.proofs.Stacks.{deeper, at_most_ten}
use Rattle.checker.proofs.Takes.{table_took}
use Rattle.checker.proofs.parts.Parts.add_table.Goals as goal
use Rattle.checker.proofs.parts.Parts.add_table.Goals.{After-empty}

-- There is room for one more.
more : (c : goal.After-empty) → c.args.self.now.depth + 1 ≤ ones c.in_ok-seen.seen.bits
more c = deeper c.args.self.now.seen.bits c.in_ok-seen.seen.bits c.args.table c.args.self.now.depth
    (sym c.if-contains.ensures) c.in_ok-seen.ensures.1 c.args.self.now.deep

room : (c : goal.After-empty) → c.args.self.now.depth < 10
room c = omega (arith, at_most_ten c.in_ok-seen.seen.bits (c.args.self.now.depth + 1) c.in_ok-seen.seen.few (more c))

pub listed : goal.listed
listed c = omega (arith, room (goal.at.listed c).After-empty, c.args.self.now.ten)

pub bounds-self-self : goal.bounds-self-self
bounds-self-self c = room (goal.at.bounds-self-self c).After-empty

pub invariant_of-self : goal.invariant_of-self
invariant_of-self c =
    record { ten = length-set _ _ _ ∙ c.args.self.now.ten; deep = more (goal.at.invariant_of-self c).After-empty; few = omega (arith, room (goal.at.invariant_of-self c).After-empty) }

pub returns : goal.returns
unfolding tables tests
returns c = λ parts h.
    table_took (asked c.args.catalogue.now) c.args.self.now _ c.args.table _ parts h (omega (arith, c.if-table-count.false, c.count.ensures.value)) (sym c.if-contains.ensures)
    (c.in_ok-tables.ensures.1, c.empty.ensures) (omega (arith, room (goal.at.returns c).After-empty, c.args.self.now.ten)) refl refl c.in_ok-seen.ensures.1
