use Rattle.std.proofs.Common.{◌<◌, ◌≤◌, [], length, sym, refl, ◌∙◌, subst, rules}
use Rattle.catalogue.specs.Asked.{asked}
use Rattle.checker.specs.Taken.{Read}
use Rattle.checker.proofs.Pairs.{steps_done, steps_odd}
use Rattle.checker.proofs.Turns.{turn, turned_away}
use Rattle.checker.proofs.valid.read.Goals as goal

pub loop-left-init : goal.loop-left-init
loop-left-init c = ([], refl, c.none-parts.ensures (asked c.args.catalogue.now))

pub returns-in_err-take : goal.returns-in_err-take
returns-in_err-take c =
    let Q = asked c.args.catalogue.now in
    let i = c.loop-left.invariant in
    let two : 2 ≤ length c.loop-left.left.now = search rules in
    subst (Read Q c.args.bytes.now) (sym c.from_residual.ensures) (turned_away Q c.args.bytes.now c.loop-left.left.now i.0 c.take.new.self two i.1 (c.in_err-take.ensures i.0 i.2))

pub loop-left-preserved : goal.loop-left-preserved
loop-left-preserved c =
    let Q = asked c.args.catalogue.now in
    let i = c.loop-left.invariant in
    let two : 2 ≤ length c.loop-left.left.now = search rules in
    let t = turn Q c.args.bytes.now c.loop-left.left.now i.0 c.take.new.self two i.1 c.in_ok-take.field-0 (c.in_ok-take.ensures i.0 i.2) in
    (t.0, t.1, t.2)

pub returns-then-is_empty : goal.returns-then-is_empty
returns-then-is_empty c =
    let Q = asked c.args.catalogue.now in
    let i = c.loop-left.invariant in
    (i.0, i.1 ∙ steps_done Q c.loop-left.left.now i.0 (sym c.if-is_empty.ensures), i.2)

pub returns-else-is_empty : goal.returns-else-is_empty
returns-else-is_empty c =
    let Q = asked c.args.catalogue.now in
    let i = c.loop-left.invariant in
    let few : length c.loop-left.left.now < 2 = search rules in
    i.1 ∙ steps_odd Q c.loop-left.left.now i.0 few (sym c.if-is_empty.ensures)
