use Rattle.std.proofs.Common.{arith}
use Rattle.readoff.proofs.Codes.{no_test_code}
use Rattle.readoff.proofs.choices.test_of.Goals as goal

pub returns-then-number-ge10 : goal.returns-then-number-ge10
returns-then-number-ge10 c = no_test_code _ _ _ c.args.row.tests.few (omega arith) (omega arith)
