use Rattle.std.proofs.lemmas.Bool.{false≢true}
use Rattle.catalogue.specs.Asked.{asked}
use Rattle.checker.proofs.Whole.{valid, none_valid}
use Rattle.checker.proofs.valid.is_valid.Goals as goal

pub returns-in-Some : goal.returns-in-Some
returns-in-Some c =
    let w = c.in-Some.ensures in
    valid (asked c.args.catalogue.now) c.args.bytes.now w.0 c.is_whole.result w.1 (c.is_whole.ensures w.0 w.2)

pub returns-in-None : goal.returns-in-None
returns-in-None c = (
  λ e. absurd (false≢true e),
  λ w. absurd (none_valid (asked c.args.catalogue.now) c.args.bytes.now c.in-None.ensures w),
)
