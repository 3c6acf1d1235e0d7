use Rattle.std.proofs.Common.{◌≡◌, ℕ, sym, ap, ◌∙◌, arith}
use Rattle.plans.specs.Questions.{size_of}
use Rattle.catalogue.specs.Asked.{asked}
use Rattle.catalogue.specs.Members.{from}
use Rattle.catalogue.proofs.From.{from_all, size_none, size_down_in, size_down_out}
use Rattle.catalogue.proofs.catalogues.Catalogue.size.Goals as goal

pub loop-table-init : goal.loop-table-init
loop-table-init c = (sym (size_none (asked c.args.self.now) c.args.tests.bits _ _ _ (omega arith)), omega arith)

pub loop-table-preserved-then-contains : goal.loop-table-preserved-then-contains
loop-table-preserved-then-contains c = (
  size_down_in (asked c.args.self.now) c.args.tests.bits c.loop-table.table c.args.self.now.count c.args.tables.bits c.loop-table.size _
      c.loop-table-test.true c.loop-table.auto.table c.if-contains.ensures c.loop-table.invariant.0 c.size_above-size.ensures.value,
  omega (arith, c.size_above-size.ensures.value),
)

pub loop-table-preserved : goal.loop-table-preserved
loop-table-preserved c = (
  size_down_out (asked c.args.self.now) c.args.tests.bits c.loop-table.table c.args.self.now.count c.args.tables.bits c.loop-table.size
      c.loop-table-test.true c.loop-table.auto.table c.if-contains.ensures c.loop-table.invariant.0,
  c.loop-table.invariant.1,
)

pub returns : goal.returns
returns c =
    let Q = asked c.args.self.now in
    let end : c.loop-table.table ≡ 0 = omega arith in
    record {
      value = c.loop-table.invariant.0 ∙ ap (λ (k : ℕ). size_of Q c.args.tests.bits (from k c.args.self.now.count c.args.tables.bits)) end
          ∙ ap (size_of Q c.args.tests.bits) (from_all c.args.self.now.count c.args.tables.bits);
      bound = c.loop-table.invariant.1;
    }
