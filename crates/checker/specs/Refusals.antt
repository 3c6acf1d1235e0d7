-- The numbers of the refusals of check.
use Rattle.std.specs.Prelude.{ℕ}
use Rattle.checker.specs.declared.refusals.CheckRefusal.{CheckRefusal}
use Rattle.checker.specs.declared.refusals.CheckRefusal.TheVariants.{ListTooShort, BadPair, NoValidPlan}

abbrev pub check_number : CheckRefusal → ℕ
check_number ListTooShort = 12
check_number BadPair = 18
check_number NoValidPlan = 19
