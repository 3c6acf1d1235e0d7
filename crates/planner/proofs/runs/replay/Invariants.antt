use Rattle.std.proofs.Common.{◌≡◌, map, length, take, drop}
use Rattle.planner.specs.Law.{Run}
use Rattle.planner.specs.Lent.{Works}
use Rattle.planner.specs.Replies.{answer_of, call_of}
use Rattle.planner.specs.States.{fresh, state_of}
use Rattle.planner.proofs.Promise.{Sound}
use Rattle.planner.proofs.runs.replay.Given as goal

abbrev pub invariant-loop-i : goal.invariant-loop-i
invariant-loop-i g l =
    (l.question.model ≡ l.initial.question.model)
    × Sound (g.M.PriceModel.meaning l.initial.question.model) (state_of l.question.held)
    × Run (Works (g.M.PriceModel.meaning l.initial.question.model))
    (fresh, record { prices = l.initial.prices; sizes = l.initial.sizes; choices = l.initial.choices })
    (map (call_of (length l.initial.prices) (length l.initial.sizes) (length l.initial.choices)) (take l.i l.calls))
    (map answer_of (take l.i l.replies))
    (state_of l.question.held, record { prices = l.prices; sizes = l.sizes; choices = l.choices })
    × (drop l.i l.replies ≡ drop l.i l.initial.replies)
