-- What a question holds after a change of its catalogue.
use Rattle.std.specs.Prelude.{◌≡◌, None, Result, MatchResult}
use Rattle.catalogue.specs.declared.catalogues.Catalogue.{Catalogue}
use Rattle.catalogue.specs.declared.refusals.ChangeRefusal.{ChangeRefusal}
use Rattle.planner.specs.declared.held.Held.{Held}

-- Accepted, the changed catalogue stands and no plan does; refused, all is as it was.
abbrev pub ChangeLeaves : {T P : Type 0} → Result T ChangeRefusal → Catalogue → (before after : Held P) → Type 0
ChangeLeaves answer changed before after = MatchResult answer (λ _. (after.catalogue ≡ changed) × (after.standing ≡ None)) (λ _. after ≡ before)
