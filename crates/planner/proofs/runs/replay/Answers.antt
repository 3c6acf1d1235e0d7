use Rattle.std.proofs.Common.{◌+◌, ◌<◌, map, length, take, drop, sym, ap, ◌∙◌, subst, arith}
use Rattle.planner.specs.Law.{Run}
use Rattle.planner.specs.Lent.{Lent, Works}
use Rattle.planner.specs.Replies.{answer_of, call_of, replied}
use Rattle.planner.specs.States.{fresh, state_of}
use Rattle.planner.proofs.Making.{listed_more, made_one, rest_more}
use Rattle.planner.proofs.runs.replay.Goals as goal

pub loop-i-preserved : goal.loop-i-preserved
loop-i-preserved g c =
    let meaning = g.M.PriceModel.meaning in
    let start = c.new-question.result.model in
    let i = c.loop-i.i in
    let calls = c.args.calls.now in
    let replies = c.loop-i.replies in
    let y = replied c.make-answer.result in
    let f = call_of (length c.args.prices.now) (length c.args.sizes.now) (length c.args.choices.now) in
    let first : Lent g.row.M-Price.Denot = record { prices = c.args.prices.now; sizes = c.args.sizes.now; choices = c.args.choices.now } in
    let l : Lent g.row.M-Price.Denot = record { prices = c.loop-i.prices; sizes = c.loop-i.sizes; choices = c.loop-i.choices } in
    let k : Lent g.row.M-Price.Denot = record { prices = c.make-answer.new.prices; sizes = c.make-answer.new.sizes; choices = c.make-answer.new.choices } in
    let q = c.loop-i.question in
    let r = c.make-answer.new.question in
    let in_calls : i < length calls = omega arith in
    let in_replies : i < length replies = omega arith in
    let one = made_one meaning g.met.M.PriceModel.lawful start q r c.loop-i.invariant.0 _ (answer_of y) l k c.loop-i.invariant.1 _ _ _
    c.make-answer.ensures.made c.make-answer.ensures.lists c.loop-i.auto.prices c.loop-i.auto.sizes c.loop-i.auto.choices in
    let more = listed_more (Works (meaning start)) f answer_of (fresh, first) (state_of q.held, l) (state_of r.held, k) calls replies i _ y in_calls in_replies c.loop-i.invariant.2 one.2 in (
      one.0,
      one.1,
      subst (λ ys. Run (Works (meaning start)) (fresh, first) (map f (take (i + 1) calls)) (map answer_of (take (i + 1) ys)) (state_of r.held, k)) (sym c.note.ensures) more,
      ap (drop (i + 1)) c.note.ensures ∙ rest_more replies c.args.replies.now i y c.loop-i.invariant.3,
    )
