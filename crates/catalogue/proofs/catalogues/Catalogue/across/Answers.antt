use Rattle.std.proofs.Common.{cond, rules, arith}
use Rattle.sets.specs.Sets.{has, sum_below}
use Rattle.plans.specs.Questions.{across, cost_of}
use Rattle.catalogue.specs.Asked.{asked}
use Rattle.catalogue.proofs.Below.{sum_over, sum_over_fits}
use Rattle.catalogue.proofs.catalogues.Catalogue.across.Goals as goal

pub sum-requires-clause-fits : goal.sum-requires-clause-fits
sum-requires-clause-fits c =
    let n = c.args.self.now.count in
    sum_over_fits c.map.result n 655350 (has c.args.left.bits) (λ i. sum_below (λ j. cond (has c.args.right.bits j) (cost_of (asked c.args.self.now) i j) 0) n) c.map.ensures.source c.map.ensures.closure
    c.filter.ensures.source c.filter.ensures.closure (λ x b q k. search rules) (λ x r q k. search rules) _ (omega arith)

pub returns : goal.returns
unfolding across
returns c =
    let n = c.args.self.now.count in
    let e = sum_over c.map.result n 655350 (has c.args.left.bits) (λ i. sum_below (λ j. cond (has c.args.right.bits j) (cost_of (asked c.args.self.now) i j) 0) n) c.map.ensures.source c.map.ensures.closure
    c.filter.ensures.source c.filter.ensures.closure (λ x b q k. search rules) (λ x r q k. search rules) _ c.sum.ensures.ran in
    e.0
