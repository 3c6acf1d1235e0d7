use Rattle.std.proofs.Common.{sym, ◌∙◌, arith}
use Rattle.std.proofs.lemmas.Bool.{eqb-true, eq-eqb, true≢false}
use Rattle.catalogue.specs.Asked.{asked}
use Rattle.checker.proofs.Whole.{whole}
use Rattle.checker.proofs.valid.is_whole.Goals as goal

pub returns-then-eq : goal.returns-then-eq
returns-then-eq c = λ all h.
    whole (asked c.args.catalogue.now) c.args.parts.now c.index-parts-0.result _ all h (omega arith) (
      λ e. (eqb-true _ _ (sym c.eq.ensures ∙ c.if-eq.true) ∙ c.tables.ensures, eqb-true _ _ (sym c.eq-then-eq.ensures ∙ e) ∙ c.tests.ensures),
      λ k. c.eq-then-eq.ensures ∙ eq-eqb _ _ (k.1 ∙ sym c.tests.ensures),
    )

pub returns-else-eq : goal.returns-else-eq
returns-else-eq c = λ all h.
    whole (asked c.args.catalogue.now) c.args.parts.now c.index-parts-0.result _ all h (omega arith) (
      λ e. absurd (true≢false (sym e ∙ c.if-eq.false)),
      λ k. c.eq.ensures ∙ eq-eqb _ _ (k.0 ∙ sym c.tables.ensures),
    )
