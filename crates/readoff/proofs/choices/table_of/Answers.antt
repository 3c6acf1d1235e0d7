use Rattle.std.proofs.Common.{ℕ, ◌^◌, sym, refl, ap, ◌∙◌, arith}
use Rattle.std.proofs.lemmas.Bool.{eqb-true, eqb-false}
use Rattle.sets.specs.Sets.{has}
use Rattle.sets.proofs.Bits.{has_pow}
use Rattle.sets.proofs.Parts.{one_le}
use Rattle.readoff.proofs.choices.table_of.Goals as goal

pub returns-then-not-is_empty-2 : goal.returns-then-not-is_empty-2
returns-then-not-is_empty-2 c =
    let R = c.args.row.tables.bits in
    let m = c.in_ok-table.table in
    let there = c.in_ok-table.ensures.0 in
    let some = eqb-false c.without_member.result.bits 0 (sym c.if-not-is_empty-2.ensures) in
    record {
      no_table = λ i b.
          let same = eqb-true i m (sym (has_pow i m) ∙ ap (λ (n : ℕ). has n m) (sym b.alone) ∙ there) in
          some (omega (arith, c.without_member.ensures.inside there, b.alone, ap (λ (n : ℕ). 2 ^ n) same));
      no_test = λ i t. omega (arith, t.chosen);
      no_join = λ L j. omega (arith, j.chosen);
    }

pub returns : goal.returns
returns c =
    let there = c.in_ok-table.ensures.0 in
    let none = eqb-true c.without_member.result.bits 0 (sym c.if-not-is_empty-2.ensures) in
    record {
      chosen = refl;
      alone = omega (arith, c.without_member.ensures.inside there, one_le c.args.row.tables.bits c.in_ok-table.table there);
      untested = eqb-true c.args.row.tests.bits 0 (sym c.if-not-is_empty.ensures);
    }
