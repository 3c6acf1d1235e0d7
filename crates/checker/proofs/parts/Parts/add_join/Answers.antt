use Rattle.std.proofs.Common.{refl, ⊎_elim, arith}
use Rattle.catalogue.specs.Asked.{asked}
use Rattle.checker.proofs.Takes.{join_took, join_refused, join_fits}
use Rattle.checker.proofs.parts.Parts.add_join.Goals as goal

pub returns-then-not-linked : goal.returns-then-not-linked
returns-then-not-linked c = λ parts h.
    join_refused (asked c.args.catalogue.now) c.args.self.now _ c.index-self-self-2.result c.index-self-self.result parts h c.if-not-linked.ensures

pub returns-in_err-both : goal.returns-in_err-both
returns-in_err-both c = λ parts h.
    let fits = join_fits (asked c.args.catalogue.now) c.args.self.now c.args.self.now c.index-self-self-2.result c.index-self-self.result parts h (omega arith) in
    absurd (⊎_elim (λ far. omega (arith, far, fits.0)) (λ far. omega (arith, far, fits.1)) c.in_err-both.ensures)

pub returns : goal.returns
returns c = λ parts h.
    join_took (asked c.args.catalogue.now) c.args.self.now _ c.index-self-self-2.result c.index-self-self.result _ parts h (omega arith) c.if-not-linked.ensures
    c.in_ok-both.ensures.0 c.in_ok-both.ensures.1 (omega (arith, c.args.self.now.ten, c.args.self.now.few)) refl refl refl
