use Rattle.std.proofs.Common.{arith}
use Rattle.std.proofs.lemmas.Bool.{ne_eqb}
use Rattle.std.proofs.lemmas.Bool.Decides.{nat_tests}
use Rattle.checker.proofs.Reading.{no_step}
use Rattle.checker.proofs.named.is_named.Goals as goal

pub returns-in-Err : goal.returns-in-Err
returns-in-Err c =
    let none = no_step c.args.first c.args.second c.in-Err.ensures in
    rw (ne_eqb c.args.first 0x10 none.0, ne_eqb c.args.first 0x11 none.1) (let v = none.2 in grind (arith, nat_tests))
