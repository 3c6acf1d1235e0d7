use Rattle.readoff.specs.Leads.{choice_in}
use Rattle.readoff.proofs.Emitting.{from_front}
use Rattle.readoff.proofs.read_off.Goals as goal

pub returns : goal.returns
returns c =
    let choice = choice_in c.args.choices.now c.args.tested.bits in
    from_front choice _ _ c.args.row.tests.few _ _ _ c.emit.ensures
