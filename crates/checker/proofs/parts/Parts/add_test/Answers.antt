use Rattle.std.proofs.Common.{refl, arith}
use Rattle.catalogue.specs.Asked.{asked}
use Rattle.checker.proofs.Takes.{test_took, test_refused}
use Rattle.checker.proofs.parts.Parts.add_test.Goals as goal

pub returns-then-not-may_test : goal.returns-then-not-may_test
returns-then-not-may_test c = λ parts h. test_refused (asked c.args.catalogue.now) c.args.self.now _ c.args.test c.index-self-self.result parts h c.if-not-may_test.ensures

pub returns : goal.returns
returns c = λ parts h.
    test_took (asked c.args.catalogue.now) c.args.self.now _ c.args.test c.index-self-self.result _ parts h (omega arith) c.if-not-may_test.ensures refl c.in_ok-tests.ensures.1
    (omega (arith, c.args.self.now.ten, c.args.self.now.few)) refl refl refl
