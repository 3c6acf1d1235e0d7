use Rattle.std.proofs.Common.{◌<◌, ◌≤◌, length, get_or, is_some, Some, sym, refl, ap, ◌∙◌, arith, length-set}
use Rattle.catalogue.specs.Asked.{asked}
use Rattle.catalogue.specs.Fair.{test_p, test_q, tie_p, tie_q}
use Rattle.catalogue.specs.Tables.{no_table, tie_at}
use Rattle.catalogue.specs.declared.catalogues.Table.{Table}
use Rattle.catalogue.proofs.Following.{tied_follows}
use Rattle.catalogue.proofs.OneWay.{each_tie, one_more, other_tie, untied}
use Rattle.catalogue.proofs.Places.{each_set, kept, question_tied, tie_changed}
use Rattle.catalogue.proofs.catalogues.Catalogue.tie.Goals as goal

pub invariant_of-self : goal.invariant_of-self
invariant_of-self c =
    let q = c.args.self.now in
    let a = c.args.table in
    let b = c.args.other in
    let in_room : a < length q.tables = omega (arith, q.ten_tables, q.few) in
    let l : b < length (get_or q.tables a no_table).ties = omega (arith, q.ten_ties a (omega arith), q.few) in
    let none = untied (asked q) a b (ap is_some (sym c.tie_of.ensures.value) ∙ sym c.if-is_some.ensures) in
    let changed = tie_changed q.tables a in_room b _ (Some (record { p = c.args.p; q = c.args.q; cost = c.args.cost })) l refl in
    record {
      few = q.few;
      ten_tables = length-set _ _ _ ∙ q.ten_tables;
      ten_ties = λ i h. kept q.tables a in_room (λ (t : Table). length t.ties) _ (length-set _ _ _) i ∙ q.ten_ties i h;
      room = each_set (λ t. t.rows ≤ 16777215) q.tables a _ no_table in_room (q.room a) q.room;
      tie_whole = each_tie (tie_at q.tables) _ a b _ changed (λ o. 1 ≤ tie_q o) (omega (arith, c.if-q-eq0.false)) q.tie_whole;
      tie_part = each_tie (tie_at q.tables) _ a b _ changed (λ o. tie_p o ≤ tie_q o) (omega (arith, c.if-p-q.false)) q.tie_part;
      test_whole = each_set (λ t. 1 ≤ test_q t.test) q.tables a _ no_table in_room (q.test_whole a) q.test_whole;
      test_part = each_set (λ t. test_p t.test ≤ test_q t.test) q.tables a _ no_table in_room (q.test_part a) q.test_part;
      no_self = λ i. other_tie (tie_at q.tables) _ a b _ changed i i (λ e. omega (arith, e, c.if-table-other.false)) ∙ q.no_self i;
      one_way = one_more (tie_at q.tables) _ a b _ changed c.if-table-other.false none.1 q.one_way;
      tie_given = λ i j h. other_tie (tie_at q.tables) _ a b _ changed i j (λ e. absurd (omega (arith, e, h))) ∙ q.tie_given i j h;
      other_given = λ i j h. other_tie (tie_at q.tables) _ a b _ changed i j (λ e. omega (arith, h)) ∙ q.other_given i j h;
      test_given = λ i h. kept q.tables a in_room (λ (t : Table). t.test) _ refl i ∙ q.test_given i h;
    }

pub returns : goal.returns
returns c =
    let q = c.args.self.now in
    let a = c.args.table in
    let b = c.args.other in
    let in_room : a < length q.tables = omega (arith, q.ten_tables, q.few) in
    let l : b < length (get_or q.tables a no_table).ties = omega (arith, q.ten_ties a (omega arith), q.few) in
    tied_follows (asked q) _ a b c.args.p c.args.q c.args.cost (omega arith) (omega arith) c.if-table-other.false c.if-q-eq0.false c.if-p-q.false
    (ap is_some (sym c.tie_of.ensures.value) ∙ sym c.if-is_some.ensures) (question_tied q.tables a in_room q.count b _ _ l refl refl refl)
