use Rattle.std.proofs.Common.{◌≡◌, ◌^◌, ◌<◌, true, false, sym, ap, ◌∙◌, rules, arith}
use lib.Bits.{bit_or}
use Rattle.sets.specs.Sets.{sum_below}
use Rattle.sets.specs.declared.small_sets.SmallSet.{SmallSet}
use Rattle.catalogue.proofs.Below.{sum_none}
use Rattle.catalogue.proofs.Tested.{or_above, where_more}
use Rattle.catalogue.proofs.catalogues.Catalogue.tables_where.Goals as goal
use Rattle.catalogue.proofs.catalogues.Catalogue.tables_where.Goals.{then-holds, else-holds}

pub loop-table-init : goal.loop-table-init
loop-table-init g c = (omega (arith, c.empty-tables.ensures), λ f h. c.empty-tables.ensures ∙ sym (sum_none _))

pub loop-table-preserved : goal.loop-table-preserved
loop-table-preserved g c =
    let i = c.loop-table.table in
    let S = c.loop-table.tables.bits in
    let lt : c.loop-table.table < c.args.self.now.count = omega arith in
    elim c.if-holds.branch [
      | then-holds w ↦
          let e : w.unwrap_or-tables.result.bits ≡ bit_or c.loop-table.tables.bits (2 ^ c.loop-table.table) = search rules in
          let m = where_more S i c.if-holds.tables.bits true c.loop-table.invariant.0 (ap (λ (s : SmallSet). s.bits) w.tables-is ∙ e ∙ or_above S i c.loop-table.invariant.0) in
          (m.0, λ f h. m.1 f (c.loop-table.invariant.1 f h) (h i true lt w.if-holds.ensures))
      | else-holds w ↦
          let e : c.if-holds.tables.bits ≡ S = ap (λ (s : SmallSet). s.bits) w.tables-is in
          let m = where_more S i c.if-holds.tables.bits false c.loop-table.invariant.0 (omega (arith, e)) in
          (m.0, λ f h. m.1 f (c.loop-table.invariant.1 f h) (h i false lt w.if-holds.ensures))
    ]

pub returns : goal.returns
returns g c f h = let end : c.loop-table.table ≡ c.args.self.now.count = omega arith in c.loop-table.invariant.1 f h ∙ ap (sum_below _) end
