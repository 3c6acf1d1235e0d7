use Rattle.std.proofs.Common.{sym, ap, ◌∙◌, arith}
use Rattle.catalogue.specs.Asked.{asked}
use Rattle.catalogue.specs.Within.{inside}
use Rattle.catalogue.proofs.Inside.{inside_none}
use Rattle.catalogue.proofs.OneWay.{costs_both_ways}
use Rattle.catalogue.proofs.Cutting.{no_cut, inside_from, rest_below}
use Rattle.catalogue.proofs.cuts.inside_set.Goals as goal

pub returns-in_default : goal.returns-in_default
returns-in_default c =
    let Q = asked c.args.catalogue.now in
    record { value = sym (ap (inside Q) c.in_default.ensures ∙ inside_none Q); few = omega arith }

pub overflow_add-result : goal.overflow_add-result
overflow_add-result c =
    let Q = asked c.args.catalogue.now in
    let t = c.in-Some.ensures in
    let less = rest_below Q c.args.tables.bits c.in-Some.table c.without_member-rest.result.bits t.0 (c.without_member-rest.ensures.inside t.0) in
    let below = c.requires.below c.bits.result (omega (arith, less, c.bits.ensures)) no_cut in
    record { fits = omega (arith, less, c.bits.ensures, below.2, c.costs_to.ensures.bound, c.args.tables.few) }

pub returns : goal.returns
returns c =
    let q = c.args.catalogue.now in
    let Q = asked q in
    let R = c.args.tables.bits in
    let t = c.in-Some.ensures in
    let i = c.in-Some.table in
    let r = c.without_member-rest.result.bits in
    let rest = c.without_member-rest.ensures.inside t.0 in
    let less = rest_below Q R i r t.0 rest in
    let below = c.requires.below c.bits.result (omega (arith, less, c.bits.ensures)) no_cut in
    record {
      value = inside_from Q R i r t.0 rest c.requires.given (costs_both_ways q) _ c.costs_to.result (below.1 ∙ ap (inside Q) c.bits.ensures) c.costs_to.ensures.value;
      few = omega (arith, less, c.bits.ensures, below.2, c.costs_to.ensures.bound);
    }
