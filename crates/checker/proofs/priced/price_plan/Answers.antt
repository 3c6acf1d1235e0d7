use Rattle.std.proofs.Common.{◌<◌, ◌≤◌, [], ◌∷◌, length, sym, refl, ◌∙◌, subst, arith, rules}
use Rattle.catalogue.specs.Asked.{asked}
use Rattle.checker.specs.Stored.{last_in, Stored}
use Rattle.checker.proofs.Pairs.{all_read}
use Rattle.checker.proofs.Storing.{priced_turn, all_held, price_first}
use Rattle.checker.proofs.Turns.{turned_away}
use Rattle.checker.proofs.Whole.{valid_steps, none_valid}
use Rattle.checker.proofs.priced.price_plan.Goals as goal

pub loop-left-init : goal.loop-left-init
unfolding last_in
loop-left-init g c = ([], refl, c.none-parts.ensures (asked c.args.catalogue.now), λ k d. refl)

pub unreachable-requires : goal.unreachable-requires
unreachable-requires g c =
    let Q = asked c.args.catalogue.now in
    let i = c.loop-left.invariant in
    let two : 2 ≤ length c.loop-left.left.now = search rules in
    none_valid Q c.args.bytes.now (turned_away Q c.args.bytes.now c.loop-left.left.now i.0 c.take.new.self two i.1 (c.in_default-take.ensures i.0 i.2)) c.requires.valid

pub loop-left-preserved : goal.loop-left-preserved
loop-left-preserved g c =
    let i = c.loop-left.invariant in
    let two : 2 ≤ length c.loop-left.left.now = search rules in
    priced_turn (g.M.PriceModel.meaning c.args.model.now) (asked c.args.catalogue.now) c.args.bytes.now c.loop-left.left.now i.0 c.loop-left.parts c.take.new.self
    c.args.prices.now c.loop-left.prices c.in-Some.done c.price_of-price.result two i.1 i.2 i.3 c.args.catalogue.now.room
    (omega (arith, c.requires.room, c.loop-left.auto.prices)) (c.in-Some.ensures i.0 i.2) c.price_of-price.ensures

pub returns : goal.returns
returns g c =
    let m = g.M.PriceModel.meaning c.args.model.now in
    let Q = asked c.args.catalogue.now in
    let p = c.requires.valid.0 in
    let spells = c.requires.valid.1 in
    let i = c.loop-left.invariant in
    let few : length c.loop-left.left.now < 2 = search rules in
    let one = all_read Q c.loop-left.left.now i.0 (p ∷ []) few (sym i.1 ∙ valid_steps Q c.args.bytes.now p spells) in
    let s = subst (λ parts. Stored m Q parts c.args.prices.now c.loop-left.prices) one i.3 in
    (p, spells, price_first m Q p c.args.prices.now c.loop-left.prices c.index-prices-0.result c.index-prices-0.is s, all_held m Q p c.args.prices.now c.loop-left.prices c.loop-left.auto.prices s)
