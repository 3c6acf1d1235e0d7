use Rattle.std.proofs.Common.{ℕ, ◌-◌, ◌^◌, get_or, ap, ◌∙◌, ap₂, arith, pow_pos}
use lib.Bits.{bit_and}
use Rattle.std.proofs.lemmas.Option.{get_or_from_slice_get}
use Rattle.sets.specs.Rows.{place_of}
use Rattle.sets.proofs.Parts.{one_le, without_part}
use Rattle.catalogue.specs.Asked.{asked}
use Rattle.plans.specs.Questions.{size}
use Rattle.solver.proofs.Sides.{part_sized}
use Rattle.solver.proofs.lists.RowTurn.size.Goals as goal

pub returns-in-Some-get : goal.returns-in-Some-get
returns-in-Some-get g c =
    let t = c.args.self.now in
    let Q = asked t.work.now.catalogue.now in
    let R = t.row.tables.bits in
    let S = t.row.tests.bits in
    let T = t.work.now.places.now.tested.bits in
    let lowest = c.in-Some.ensures in
    let A : ℕ = R - 2 ^ c.in-Some.table in
    let rest = c.without_member-others.ensures.inside lowest.0 in
    let row = c.on-rest.ensures in
    let at = c.position.ensures ∙ ap₂ (place_of T) (row.tables ∙ rest) (row.tests ∙ ap (bit_and S) rest) in
    let sized = part_sized Q T R S t.sizes.now t.turn A (without_part R c.in-Some.table lowest.0) (omega (arith, one_le R c.in-Some.table lowest.0, pow_pos c.in-Some.table)) in
    let read = c.in-Some-get.ensures.lookup.3 in
    c.size_from.ensures lowest (read.1 0 ∙ ap (λ (k : ℕ). get_or t.sizes.now k 0) at ∙ get_or_from_slice_get t.sizes.now (place_of T A (bit_and S A)) (size Q A (bit_and S A)) 0 sized)
