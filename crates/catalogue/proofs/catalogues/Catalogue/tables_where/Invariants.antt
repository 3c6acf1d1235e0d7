use Rattle.std.proofs.Common.{◌≡◌, ℕ, ◌^◌, ◌<◌, Bool, cond}
use Rattle.sets.specs.Sets.{sum_below}
use Rattle.catalogue.proofs.catalogues.Catalogue.tables_where.Given as goal

abbrev pub invariant-loop-table : goal.invariant-loop-table
invariant-loop-table g l =
    (l.tables.bits < 2 ^ l.table)
    × ((f : ℕ → Bool) → ((i : ℕ) (b : Bool) → i < l.self.count → goal.F-post g l.holds i b → b ≡ f i) → l.tables.bits ≡ sum_below (λ i. cond (f i) (2 ^ i) 0) l.table)
