use Rattle.std.proofs.Common.{◌≡◌, ◌<◌, length, is_some, Some, sym, refl, ap, ◌∙◌, rules, arith}
use Rattle.pricing.specs.Kinds.{kind_of}
use Rattle.catalogue.specs.Asked.{asked}
use Rattle.catalogue.proofs.Following.{tested_follows}
use Rattle.catalogue.proofs.Places.{question_tested}
use Rattle.catalogue.proofs.catalogues.Catalogue.test.Goals as goal

pub returns : goal.returns
returns c =
    let q = c.args.self.now in
    let in_room : c.args.table < length q.tables = omega (arith, q.ten_tables, q.few) in
    let is : kind_of c.args.kind ≡ Some c.in_ok-kind.kind = search rules in
    tested_follows (asked q) _ c.args.table c.args.p c.args.q c.args.cost c.args.kind c.in_ok-kind.kind c.if-table-self.false c.if-q-eq0.false c.if-p-q.false is
    (ap is_some (sym c.test_of.ensures.value) ∙ sym c.if-is_some.ensures)
    (question_tested q.tables c.args.table in_room q.count _ _ refl refl refl)
