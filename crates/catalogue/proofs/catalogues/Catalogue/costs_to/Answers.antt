use Rattle.std.proofs.Common.{rules, arith}
use Rattle.sets.specs.Sets.{has}
use Rattle.plans.specs.Questions.{cost_of}
use Rattle.catalogue.specs.Asked.{asked}
use Rattle.catalogue.proofs.Below.{sum_over, sum_over_fits}
use Rattle.catalogue.proofs.catalogues.Catalogue.costs_to.Goals as goal

pub sum-requires-clause-fits : goal.sum-requires-clause-fits
sum-requires-clause-fits c =
    sum_over_fits c.map.result c.args.self.now.count 65535 (has c.args.others.bits) (cost_of (asked c.args.self.now) c.args.table) c.map.ensures.source c.map.ensures.closure
    c.filter.ensures.source c.filter.ensures.closure (λ x b q k. search rules) (λ x r q k. search rules) _ (omega arith)

pub returns : goal.returns
returns c =
    let e = sum_over c.map.result c.args.self.now.count 65535 (has c.args.others.bits) (cost_of (asked c.args.self.now) c.args.table) c.map.ensures.source c.map.ensures.closure
    c.filter.ensures.source c.filter.ensures.closure (λ x b q k. search rules) (λ x r q k. search rules) _ c.sum.ensures.ran in
    record { value = e.0; bound = omega (arith, e.1) }
