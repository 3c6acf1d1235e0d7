use Rattle.std.proofs.Common.{subst, arith}
use Rattle.readoff.specs.Choices.{Means}
use Rattle.readoff.specs.Leads.{choice_in}
use Rattle.readoff.proofs.Emitting.{input_smaller, left_smaller, right_smaller}
use Rattle.plan_trees.proofs.trees.+print_tree.Goals as goal

pub print_tree-requires : goal.print_tree-requires
print_tree-requires g t c κs within =
    let R = c.args.row.tables.bits in
    let S = c.args.row.tests.bits in
    let code = choice_in c.args.solved.now.choices.now c.args.solved.now.tested.bits R S in
    let d = subst (Means code R S) c.in-Test.is c.in-Some.ensures in
    (omega (arith, input_smaller code R S _ c.in-Test.input d.0 d.1, c.decreases), within)

pub print_tree-requires-in-Join : goal.print_tree-requires-in-Join
print_tree-requires-in-Join g t c κs within =
    let R = c.args.row.tables.bits in
    let S = c.args.row.tests.bits in
    let code = choice_in c.args.solved.now.choices.now c.args.solved.now.tested.bits R S in
    let d = subst (Means code R S) c.in-Join.is c.in-Some.ensures in
    (omega (arith, left_smaller code R S c.in-Join.left c.in-Join.right d, c.decreases), within)

pub print_tree-requires-in-Join-2 : goal.print_tree-requires-in-Join-2
print_tree-requires-in-Join-2 g t c κs within =
    let R = c.args.row.tables.bits in
    let S = c.args.row.tests.bits in
    let code = choice_in c.args.solved.now.choices.now c.args.solved.now.tested.bits R S in
    let d = subst (Means code R S) c.in-Join.is c.in-Some.ensures in
    (omega (arith, right_smaller code R S c.in-Join.left c.in-Join.right d, c.decreases), within)
