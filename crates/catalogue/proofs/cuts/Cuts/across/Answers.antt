use Rattle.std.proofs.Common.{◌≡◌, ◌+◌, ◌<◌, get_or, sym, ◌∙◌, arith}
use lib.Bits.{bit_or, and_le_r, or_lt}
use Rattle.std.proofs.lemmas.Bool.{eqb-true}
use Rattle.plans.specs.Questions.{across}
use Rattle.catalogue.specs.Asked.{asked}
use Rattle.catalogue.proofs.OneWay.{costs_both_ways}
use Rattle.catalogue.proofs.Cutting.{no_cut, cut_given}
use Rattle.catalogue.proofs.cuts.Cuts.across.Goals as goal
use Rattle.catalogue.proofs.cuts.Cuts.across.Goals.{After-bits-other}

parts : (c : After-bits-other) → (get_or c.args.self.now.cuts (bit_or c.bits-one.result c.bits-other.result) no_cut).inside
    ≡ (get_or c.args.self.now.cuts c.bits-one.result no_cut).inside + (get_or c.args.self.now.cuts c.bits-other.result no_cut).inside + across (asked c.args.self.now.catalogue.now) c.args.left.bits c.args.right.bits
parts c =
    let s = c.args.self.now in
    let l = c.bits-one.result in
    let b = c.bits-other.result in
    let left = c.bits-one.ensures ∙ c.intersection-2.ensures in
    let right = c.bits-other.ensures ∙ c.intersection-3.ensures in
    let apart = sym c.intersection.ensures ∙ eqb-true c.intersection.result.bits 0 (sym c.if-not-is_empty.ensures) in
    let cut = cut_given (asked s.catalogue.now) (costs_both_ways s.catalogue.now) s.all.bits c.args.left.bits c.args.right.bits l b s.given apart left right in
    omega (arith, cut.1, (s.listed (bit_or l b) cut.0 no_cut).1, (s.listed l (omega (arith, left, and_le_r c.args.left.bits s.all.bits)) no_cut).1, (s.listed b (omega (arith, right, and_le_r c.args.right.bits s.all.bits)) no_cut).1)

few : (c : After-bits-other) → bit_or c.bits-one.result c.bits-other.result < 1024
few c =
    or_lt 10 c.bits-one.result c.bits-other.result (omega (arith, c.bits-one.ensures, c.intersection-2.result.few)) (omega (arith, c.bits-other.ensures, c.intersection-3.result.few))

pub bounds-self-one : goal.bounds-self-one
bounds-self-one c = few (goal.at.bounds-self-one c).After-bits-other

pub overflow_sub-result : goal.overflow_sub-result
overflow_sub-result c = omega (arith, parts (goal.at.overflow_sub-result c).After-bits-other)

pub overflow_sub-result-2 : goal.overflow_sub-result-2
overflow_sub-result-2 c = omega (arith, parts (goal.at.overflow_sub-result-2 c).After-bits-other)

pub returns : goal.returns
returns c = omega (arith, parts (goal.at.returns c).After-bits-other)
