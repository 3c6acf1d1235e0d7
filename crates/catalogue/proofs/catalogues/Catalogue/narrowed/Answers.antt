use Rattle.std.proofs.Common.{◌+◌, rules}
use Rattle.catalogue.specs.Asked.{asked}
use Rattle.catalogue.proofs.From.{narrowed_over}
use Rattle.catalogue.proofs.catalogues.Catalogue.narrowed.Goals as goal

pub returns : goal.returns
returns c =
    let e = narrowed_over (asked c.args.self.now) c.args.table c.filter.result (c.args.table + 1) c.args.self.now.count c.args.tables.bits c.args.n c.fold.result c.fold.ensures.ran
    c.filter.ensures.source c.filter.ensures.closure (λ x b q k. search rules) (λ a x b f k. search rules) in
    record { value = e.0; bound = e.1 }
