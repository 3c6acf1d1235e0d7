use Rattle.std.proofs.Common.{◌≡◌, ℕ, ◌<◌, length}
use Rattle.std.specs.List.{HoldsAt}
use Rattle.catalogue.specs.Asked.{asked}
use Rattle.catalogue.specs.Within.{IsCut}
use Rattle.catalogue.proofs.cuts.cuts_up_to.Given as goal

abbrev pub invariant-loop-bits : goal.invariant-loop-bits
invariant-loop-bits l = (length l.cuts ≡ 1024) × ((x : ℕ) → x < l.bits → HoldsAt (IsCut (asked l.catalogue) x) l.cuts x)
