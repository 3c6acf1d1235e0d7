-- A plan is whole if it is the one part and has all tables and all tests.
use Rattle.std.proofs.Common.{◌≡◌, ℕ, Bool, List, [], ◌∷◌, get_or, Some, None, Decides, sym, refl, ap, ◌∙◌, subst, arith}
use Rattle.sets.specs.declared.rows.Row.{Row}
use Rattle.plans.specs.Plans.{Plan, WellFormed}
use Rattle.plans.specs.Questions.{Question, all_tables, all_tests}
use Rattle.checker.specs.declared.parts.Parts.{Parts}
use Rattle.checker.specs.Checks.{Spells, SpellsSome}
use Rattle.checker.specs.Steps.{steps, Sound}
use Rattle.checker.specs.Taken.{Shows, Stacked, Holds, Whole}
use Rattle.checker.proofs.Complete.{all_steps, steps_spell}
use Rattle.checker.proofs.Sound.{nothing}

module _ (Q : Question) (held : Parts) (d : Row) (b : Bool) where
  abbrev row : Row
  row = get_or held.rows 0 d

  lone_row : (p : Plan) → Holds Q held (p ∷ []) → Shows row p
  unfolding Stacked
  lone_row p h = h.stacked.0 d

  formed : (p : Plan) → Holds Q held (p ∷ []) → WellFormed Q p
  unfolding Sound
  formed p h = h.sound.0

  pub whole : (all : List Plan) → Holds Q held all → held.depth ≡ 1 → Decides b ((row.tables.bits ≡ all_tables Q) × (row.tests.bits ≡ all_tests Q))
      → Decides b (Whole Q all)
  whole all h one k = (
    λ e. found all h (k.0 e),
    λ w.
        let shown = lone_row w.0 (subst (Holds Q held) w.1 h) in
        k.1 (shown.0 ∙ w.2.just_tables, shown.1 ∙ w.2.just_tests),
  )
    where
      found : (all : List Plan) → Holds Q held all → (row.tables.bits ≡ all_tables Q) × (row.tests.bits ≡ all_tests Q) → Whole Q all
      found [] h e = absurd (omega (arith, h.depth))
      found (p ∷ []) h e = (p, refl, record { formed = formed p h; just_tables = sym (lone_row p h).0 ∙ e.0; just_tests = sym (lone_row p h).1 ∙ e.1 })
      found (p ∷ q ∷ all) h e = absurd (omega (arith, h.depth))

module _ (Q : Question) (bytes : List ℕ) where
  pub valid_steps : (p : Plan) → Spells Q bytes p → steps Q bytes [] ≡ Some (p ∷ [])
  valid_steps p s = ap (λ bs. steps Q bs []) (sym s.0) ∙ all_steps Q p s.1.formed

  pub valid : (all : List Plan) (b : Bool) → steps Q bytes [] ≡ Some all → Decides b (Whole Q all) → Decides b (SpellsSome Q bytes)
  valid all b e k = (
    λ t. let w = k.0 t in (w.0, (steps_spell Q bytes w.0 (e ∙ ap Some w.1), w.2)),
    λ w. let s = valid_steps w.0 w.1 in let same : all ≡ w.0 ∷ [] = cc in k.1 (w.0, same, w.1.1),
  )

  pub none_valid : steps Q bytes [] ≡ None → SpellsSome Q bytes → ⊥
  none_valid e w = nothing (w.0 ∷ []) (sym e ∙ valid_steps w.0 w.1)
