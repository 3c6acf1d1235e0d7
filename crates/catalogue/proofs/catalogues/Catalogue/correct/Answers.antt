use Rattle.std.proofs.Common.{◌≡◌, ◌<◌, ◌≤◌, ◌≢◌, length, get_or, is_some, pos, ◌+ℤ◌, Some, None, sym, refl, ap, ◌∙◌, subst, rules, arith, length-set, get_or-set_other}
use Rattle.catalogue.specs.Asked.{asked}
use Rattle.catalogue.specs.Changes.{as_cost}
use Rattle.catalogue.specs.Fair.{test_p, test_q, tie_p, tie_q}
use Rattle.catalogue.specs.Tables.{no_table}
use Rattle.catalogue.specs.declared.catalogues.Table.{Table}
use Rattle.catalogue.proofs.Following.{corrected_follows}
use Rattle.catalogue.proofs.Places.{each_set, kept, question_tested}
use Rattle.catalogue.proofs.catalogues.Catalogue.correct.Goals as goal

pub invariant_of-self : goal.invariant_of-self
invariant_of-self c =
    let q = c.args.self.now in
    let a = c.args.table in
    let in_room : a < length q.tables = omega (arith, q.ten_tables, q.few) in
    let stood : Some c.in_ok-test.test ≡ (get_or q.tables a no_table).test = search rules in
    record {
      few = q.few;
      ten_tables = length-set _ _ _ ∙ q.ten_tables;
      ten_ties = λ i l. kept q.tables a in_room (λ (t : Table). length t.ties) _ refl i ∙ q.ten_ties i l;
      room = each_set (λ t. t.rows ≤ 16777215) q.tables a _ no_table in_room (q.room a) q.room;
      tie_whole = λ i j. each_set (λ t. 1 ≤ tie_q (get_or t.ties j None)) q.tables a _ no_table in_room (q.tie_whole a j) (λ k. q.tie_whole k j) i;
      tie_part = λ i j. each_set (λ t. tie_p (get_or t.ties j None) ≤ tie_q (get_or t.ties j None)) q.tables a _ no_table in_room (q.tie_part a j) (λ k. q.tie_part k j) i;
      test_whole = each_set (λ t. 1 ≤ test_q t.test) q.tables a _ no_table in_room (subst (λ o. 1 ≤ test_q o) (sym stood) (q.test_whole a)) q.test_whole;
      test_part = each_set (λ t. test_p t.test ≤ test_q t.test) q.tables a _ no_table in_room (subst (λ o. test_p o ≤ test_q o) (sym stood) (q.test_part a)) q.test_part;
      no_self = λ i. kept q.tables a in_room (λ (t : Table). get_or t.ties i None) _ refl i ∙ q.no_self i;
      one_way = λ i j some. kept q.tables a in_room (λ (t : Table). get_or t.ties i None) _ refl j ∙ q.one_way i j (sym (ap is_some (kept q.tables a in_room (λ (t : Table). get_or t.ties j None) _ refl i)) ∙ some);
      tie_given = λ i j h. kept q.tables a in_room (λ (t : Table). get_or t.ties j None) _ refl i ∙ q.tie_given i j h;
      other_given = λ i j h. kept q.tables a in_room (λ (t : Table). get_or t.ties j None) _ refl i ∙ q.other_given i j h;
      test_given = λ i h. ap (λ (t : Table). t.test) (get_or-set_other q.tables a i _ no_table (let ne : i ≢ a = omega arith in ne)) ∙ q.test_given i h;
    }

pub returns : goal.returns
returns c =
    let q = c.args.self.now in
    let a = c.args.table in
    let in_room : a < length q.tables = omega (arith, q.ten_tables, q.few) in
    let stood : (get_or q.tables a no_table).test ≡ Some c.in_ok-test.test = search rules in
    let is : as_cost (pos c.in_ok-test.test.cost +ℤ c.args.by) ≡ Some c.in_ok-cost.cost = search rules in
    corrected_follows (asked q) _ a c.args.by c.in_ok-test.test c.in_ok-cost.cost c.if-table-self.false stood is (question_tested q.tables a in_room q.count _ _ refl refl refl)
