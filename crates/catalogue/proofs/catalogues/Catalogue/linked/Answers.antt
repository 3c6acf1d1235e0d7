use Rattle.std.proofs.Common.{refl, rules}
use Rattle.plans.specs.Questions.{linked}
use Rattle.catalogue.proofs.Below.{any_over}
use Rattle.catalogue.proofs.catalogues.Catalogue.linked.Goals as goal

pub returns : goal.returns
unfolding linked
returns c = any_over _ _ _ _ _ c.args.self.now.count c.any.ensures.ran refl (λ x b q k. search rules)
