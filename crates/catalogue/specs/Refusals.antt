-- The numbers of the refusals of table, tie, test and correct.
use Rattle.std.specs.Prelude.{ℕ}
use Rattle.catalogue.specs.declared.refusals.ChangeRefusal.{ChangeRefusal}
use Rattle.catalogue.specs.declared.refusals.ChangeRefusal.TheVariants.{TenTables, TooManyRows, NoSuchTable, SameTable, BadSelectivity, AlreadyTied, NoSuchKind, AlreadyTested, NoTest, CostOutOfRange}

abbrev pub change_number : ChangeRefusal → ℕ
change_number TenTables = 1
change_number TooManyRows = 2
change_number NoSuchTable = 3
change_number SameTable = 4
change_number BadSelectivity = 5
change_number AlreadyTied = 6
change_number NoSuchKind = 7
change_number AlreadyTested = 8
change_number NoTest = 9
change_number CostOutOfRange = 10
