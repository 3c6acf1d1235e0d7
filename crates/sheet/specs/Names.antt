-- The tables by their names.
use Rattle.std.specs.Prelude.{ℕ, List, cond, ◌==◌, codes}

abbrev pub name_of : ℕ → List ℕ
name_of table = cond (table == 0) (codes "films") (cond (table == 1) (codes "reels") (cond (table == 2) (codes "cartridges") (codes "shelves")))
