use Rattle.std.proofs.Common.{None, Some, sym, refl, ap, ◌∙◌}
use Rattle.std.specs.List.{slice_get}
use Rattle.std.proofs.lemmas.Option.{slice_get_past, slice_get-get_or}
use Rattle.solver.proofs.Holding.{side_held}
use Rattle.solver.proofs.lists.RowTurn.side_at.Goals as goal

pub returns-in_err-price : goal.returns-in_err-price
returns-in_err-price g c =
    let t = c.args.self.now in
    let k = c.position-place.result in
    c.from_residual.ensures ∙ side_held _ t.sizes.now _ _ _ _ k None (slice_get t.sizes.now k) c.position-place.ensures (c.in_err-price.ensures) refl

pub returns-in_err-size : goal.returns-in_err-size
returns-in_err-size g c =
    let t = c.args.self.now in
    let k = c.position-place.result in
    c.from_residual-in_err-size.ensures
    ∙ side_held _ t.sizes.now _ _ _ _ k (Some c.in_ok-price.price) None c.position-place.ensures (c.in_ok-price.ensures) (sym (slice_get_past t.sizes.now k c.in_err-size.ensures.lookup.3))

pub returns : goal.returns
returns g c =
    let t = c.args.self.now in
    let k = c.position-place.result in
    let found = c.in_ok-size.ensures.lookup.3 in
    side_held _ t.sizes.now _ _ _ _ k (Some c.in_ok-price.price) (Some c.in_ok-size.field-0.now) c.position-place.ensures (c.in_ok-price.ensures) (sym (slice_get-get_or t.sizes.now k c.in_ok-size.field-0.now found.0 ∙ ap Some (sym (found.1 c.in_ok-size.field-0.now))))
