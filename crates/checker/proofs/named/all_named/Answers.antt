use Rattle.std.proofs.Common.{◌<◌, ◌≤◌, Bool, ◌&&◌, length, sym, ap, ◌∙◌, rules}
use Rattle.catalogue.specs.Asked.{asked}
use Rattle.checker.specs.Checks.{named_pairs}
use Rattle.checker.proofs.Pairs.{rest_of, named_two, named_end}
use Rattle.checker.proofs.named.all_named.Goals as goal

pub returns-then-not-is_named : goal.returns-then-not-is_named
returns-then-not-is_named c =
    let Q = asked c.args.catalogue.now in
    let left = c.loop-left.left.now in
    let two : 2 ≤ length left = search rules in
    ap (λ (b : Bool). b && named_pairs Q (rest_of left)) c.if-not-is_named.ensures ∙ sym (c.loop-left.invariant ∙ named_two Q left two)

pub loop-left-preserved : goal.loop-left-preserved
loop-left-preserved c =
    let Q = asked c.args.catalogue.now in
    let left = c.loop-left.left.now in
    let two : 2 ≤ length left = search rules in
    c.loop-left.invariant ∙ named_two Q left two ∙ ap (λ (b : Bool). b && named_pairs Q (rest_of left)) (sym c.if-not-is_named.ensures)

pub returns : goal.returns
returns c =
    let Q = asked c.args.catalogue.now in
    let left = c.loop-left.left.now in
    let few : length left < 2 = search rules in
    c.is_empty.ensures ∙ named_end Q left few ∙ sym c.loop-left.invariant
