use Rattle.std.proofs.Common.{replicate, refl, ◌∙◌, arith, length-set}
use lib.ListN.{get_or-replicate}
use Rattle.sets.proofs.Fives.{numbered_none, half_small, numbered_in, numbered_out}
use Rattle.sets.proofs.places.five_places.Goals as goal
use Rattle.sets.proofs.places.five_places.Goals.{then-mask-eq1, else-mask-eq1}

pub loop-place-init : goal.loop-place-init
loop-place-init c = (refl, numbered_none (replicate 1024 0) (λ k h. get_or-replicate 1024 k 0 0 h))

pub overflow_mul-numbers : goal.overflow_mul-numbers
overflow_mul-numbers c = omega (arith, half_small _ c.loop-place.place c.loop-place.invariant.1 (omega arith) (omega arith))

pub overflow_add-numbers : goal.overflow_add-numbers
overflow_add-numbers c = omega (arith, half_small _ c.loop-place.place c.loop-place.invariant.1 (omega arith) (omega arith))

pub loop-place-preserved : goal.loop-place-preserved
loop-place-preserved c =
    let i = c.loop-place.invariant in
    let p = c.loop-place.place in
    elim c.if-mask-eq1.branch [
      | then-mask-eq1 w ↦ (length-set _ _ _ ∙ i.0, numbered_in _ p i.1 (omega arith) (omega arith) i.0 _ w.if-mask-eq1.true w.numbers-is)
      | else-mask-eq1 w ↦ (length-set _ _ _ ∙ i.0, numbered_out _ p i.1 (omega arith) (omega arith) i.0 _ w.if-mask-eq1.false w.numbers-is)
    ]
