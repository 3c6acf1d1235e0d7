use Rattle.std.proofs.Common.{refl, rules}
use Rattle.catalogue.proofs.Below.{any_over}
use Rattle.catalogue.proofs.catalogues.Catalogue.tied_to.Goals as goal

pub returns : goal.returns
returns c = any_over _ _ _ _ _ c.args.self.now.count c.any.ensures.ran refl (λ x b q k. search rules)
