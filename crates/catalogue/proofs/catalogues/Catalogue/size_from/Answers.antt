use Rattle.catalogue.specs.Asked.{asked}
use Rattle.catalogue.proofs.Agreeing.{size_from_rest, size_beyond}
use Rattle.catalogue.proofs.catalogues.Catalogue.size_from.Goals as goal

pub returns-then-lowest-self : goal.returns-then-lowest-self
returns-then-lowest-self c lowest known = size_beyond (asked c.args.self.now) c.args.tables.bits c.args.tests.bits c.args.lowest lowest c.if-lowest-self.true

pub returns : goal.returns
returns c lowest known =
    size_from_rest (asked c.args.self.now) c.args.tables.bits c.args.tests.bits c.args.lowest lowest c.args.rest _ c.if-lowest-self.false known c.size_above.ensures.value
