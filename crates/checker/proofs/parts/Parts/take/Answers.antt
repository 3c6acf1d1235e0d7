use Rattle.std.proofs.Common.{sym, ap, ◌∙◌, subst}
use Rattle.catalogue.specs.Asked.{asked}
use Rattle.plans.specs.Steps.{step_bytes}
use Rattle.checker.specs.Steps.{more_table, more_test}
use Rattle.checker.specs.Taken.{Took}
use Rattle.checker.proofs.Reading.{same_pair, no_step}
use Rattle.checker.proofs.Takes.{step_table, step_test, step_join, none_taken}
use Rattle.checker.proofs.parts.Parts.take.Goals as goal

pub returns-in-Ok-Table : goal.returns-in-Ok-Table
returns-in-Ok-Table c = λ parts h.
    let Q = asked c.args.catalogue.now in
    let same = same_pair c.args.first c.args.second 0x10 c.in-Ok-Table.table (c.in-Ok-Table.ensures ∙ ap step_bytes c.in-Ok-Table.field-0-is) in
    subst (λ o. Took Q parts o c.add_table.result c.add_table.new.self) (ap (λ i. more_table Q i parts) (sym same.1) ∙ step_table Q _ _ parts same.0) (c.add_table.ensures parts h)

pub returns-in-Ok-Test : goal.returns-in-Ok-Test
returns-in-Ok-Test c = λ parts h.
    let Q = asked c.args.catalogue.now in
    let same = same_pair c.args.first c.args.second 0x11 c.in-Ok-Test.table (c.in-Ok-Test.ensures ∙ ap step_bytes c.in-Ok-Test.field-0-is) in
    subst (λ o. Took Q parts o c.add_test.result c.add_test.new.self) (ap (λ i. more_test Q i parts) (sym same.1) ∙ step_test Q _ _ parts same.0) (c.add_test.ensures parts h)

pub returns-in-Ok-Join : goal.returns-in-Ok-Join
returns-in-Ok-Join c = λ parts h.
    let same = same_pair c.args.first c.args.second 0x12 0 (c.in-Ok-Join.ensures ∙ ap step_bytes c.in-Ok-Join.field-0-is) in
    subst (λ o. Took (asked c.args.catalogue.now) parts o c.add_join.result c.add_join.new.self) (step_join _ _ _ parts same.0 same.1) (c.add_join.ensures parts h)

pub returns-in-Err : goal.returns-in-Err
returns-in-Err c = λ parts h.
    let none = no_step c.args.first c.args.second c.in-Err.ensures in
    none_taken _ c.args.first c.args.second parts _ none.0 none.1 none.2
