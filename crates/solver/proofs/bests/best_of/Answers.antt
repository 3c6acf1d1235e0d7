use Rattle.std.proofs.Common.{◌≡◌, ◌+◌, cond, is_some, arith}
use Rattle.std.proofs.lemmas.Fn.{FoldsTo-push}
use Rattle.solver.proofs.TriesMade.{one_at_most}
use Rattle.solver.proofs.bests.best_of.Goals as goal

pub loop-item-preserved : goal.loop-item-preserved
loop-item-preserved g c =
    let i = c.loop-item.invariant in
    let nearer = c.in-Some.ensures.goes.on i.1 in
    let one = c.with_candidate-so_far in
    let more : one.result.tries ≡ c.loop-item.so_far.tries + cond (is_some c.candidate.result) 1 0 = one.ensures.tries in
    (nearer.0, nearer.1, FoldsTo-push _ _ _ _ c.in-Some.item _ i.2 (c.candidate.result, c.candidate.ensures, one.ensures.best, one.ensures.tries), omega (arith, i.3, nearer.2, more, one_at_most (is_some c.candidate.result)))
