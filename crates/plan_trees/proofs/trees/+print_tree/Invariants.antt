use Rattle.std.proofs.Common.{◌+◌}
use Rattle.plan_trees.proofs.trees.+print_tree.Given as goal

abbrev pub decreases-print_tree : goal.decreases-print_tree
decreases-print_tree g l = l.row.tables.bits + l.row.tests.bits
