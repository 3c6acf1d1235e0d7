use Rattle.std.proofs.Common.{◌≡◌, ◌^◌, ◌&&◌, is_some, ◌∙◌, rules}
use Rattle.sets.specs.Sets.{any_below, has}
use Rattle.plans.specs.Questions.{linked, tie_of}
use Rattle.catalogue.specs.Asked.{asked}
use Rattle.catalogue.specs.Within.{near}
use Rattle.catalogue.proofs.Near.{linked_to}
use Rattle.catalogue.proofs.OneWay.{tie_both_ways}
use Rattle.catalogue.proofs.cuts.neighbours.Goals as goal

pub returns : goal.returns
unfolding near
returns c =
    let q = c.args.catalogue.now in
    let R = c.args.tables.bits in
    c.tables_where.ensures (λ j. linked (asked q) R (2 ^ j)) (λ j b l k.
    let tied : b ≡ any_below (λ i. has R i && is_some (tie_of (asked q) j i)) q.count = search rules in
    tied ∙ linked_to (asked q) (tie_both_ways q) R j l)
