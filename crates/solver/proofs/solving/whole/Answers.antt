use Rattle.std.proofs.Common.{◌≡◌, ◌<◌, MatchOption, Option, None, Some, take, refl, sym, ◌∙◌, subst}
use Rattle.buffers.specs.Written.{written}
use Rattle.catalogue.specs.Asked.{asked}
use Rattle.plans.specs.Questions.{all_tables, all_tests}
use Rattle.solver.specs.Held.{price_at}
use Rattle.solver.specs.Solved.{place}
use Rattle.solver.specs.Solves.{Answers}
use Rattle.std.specs.List.{slice_get}
use Rattle.solver.proofs.Wholes.{whole_none, whole_past, whole_unread, whole_told, full_at, full_written, moved, no_plan}
use Rattle.solver.proofs.solving.whole.Goals as goal
use Rattle.solver.proofs.solving.whole.Goals.{After-price_at}

-- What stands at the whole question's place.
priced : (g : _) (c : After-price_at g) (o : Option _) → c.price_at.result ≡ o → let Q = asked c.args.catalogue.now in let k = place Q (all_tables Q) (all_tests Q) in o ≡ price_at (slice_get c.args.prices.now k) (slice_get c.args.choices.now k)
priced g c o e = moved _ _ _ _ _ (full_at (asked c.args.catalogue.now) _ _ c.position.result c.tests-tested.ensures c.tables.ensures c.position.ensures) (sym e ∙ c.price_at.ensures)

pub returns-in_err-price : goal.returns-in_err-price
returns-in_err-price g c =
    let m = g.M.PriceModel.meaning c.args.model.now in
    let Q = asked c.args.catalogue.now in
    let h = c.in_err-price.ensures in
    subst (Answers m Q _) (sym (no_plan c.from_residual.result c.in_err-price.field-0.0 c.price_at.result c.from_residual.ensures.1 h.value h.ok_part))
    (whole_none m Q _ _ c.requires.readable (priced g (goal.at.returns-in_err-price g c).After-price_at None h.ok_part))

pub returns-then-past : goal.returns-then-past
returns-then-past g c =
    whole_past _ (asked c.args.catalogue.now) _ _ c.requires.readable c.in_ok-price.price
    (priced g (goal.at.returns-then-past g c).After-price_at (Some c.in_ok-price.price) c.in_ok-price.ensures.ok_part) c.if-past.ensures

pub returns-in_err-len : goal.returns-in_err-len
returns-in_err-len g c =
    let m = g.M.PriceModel.meaning c.args.model.now in
    let Q = asked c.args.catalogue.now in
    let h = c.in_err-len.ensures in
    subst (Answers m Q _) (sym (no_plan c.from_residual-in_err-len.result c.in_err-len.field-0.0 c.read_off.result c.from_residual-in_err-len.ensures.1 h.value h.ok_part))
    (whole_unread m Q _ _ c.requires.readable c.args.catalogue.now.few _ _ c.read_off.result refl
    (full_written Q _ _ _ _ _ _ c.tests-tested.ensures c.tables.ensures c.read_off.ensures.written)
    c.in_ok-price.price (priced g (goal.at.returns-in_err-len g c).After-price_at (Some c.in_ok-price.price) c.in_ok-price.ensures.ok_part) h.ok_part)

pub returns : goal.returns
returns g c =
    let Q = asked c.args.catalogue.now in
    let n = c.in_ok-len.len in
    let plan : written c.unwrap.result ≡ take n c.read_off.new.buffer =
    subst (λ r. MatchOption r (58 < n) (λ bytes. written bytes ≡ take n c.read_off.new.buffer)) c.unwrap.ensures c.of.ensures in
    whole_told _ Q _ _ c.requires.readable c.args.catalogue.now.few _ _ c.read_off.result refl
    (full_written Q _ _ _ _ _ _ c.tests-tested.ensures c.tables.ensures c.read_off.ensures.written)
    c.in_ok-price.price _ n (priced g (goal.at.returns g c).After-price_at (Some c.in_ok-price.price) c.in_ok-price.ensures.ok_part) c.if-past.ensures c.in_ok-len.ensures.ok_part plan refl c.requires.tried
