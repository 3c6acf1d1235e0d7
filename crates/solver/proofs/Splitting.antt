-- When a set is split.
use Rattle.std.proofs.Common.{◌≡◌, ℕ, ◌-◌, ◌<◌, Bool, false, ◌&&◌, ltb, sym, ap, ◌∙◌, arith}
use lib.Bits.{bit_and, and_comm}
use Rattle.std.proofs.lemmas.Bool.{and_left, and_right, le-ltb, lt-ltb, eq-eqb, ne_eqb}
use Rattle.sets.specs.Sets.{◌⊆◌, within}
use Rattle.plans.specs.Questions.{Question, linked}
use Rattle.plans.specs.Recurrence.{splits}

module _ (Q : Question) (R L : ℕ) where
  pub splits_none : L ≡ 0 → splits Q R L ≡ false
  unfolding splits
  splits_none e = and_left (ltb 0 L) _ (le-ltb 0 L (omega arith))

  pub splits_outside : (L ⊆ R → ⊥) → splits Q R L ≡ false
  unfolding splits
  splits_outside ne = and_right (ltb 0 L) _ (and_right (ltb L R) _ (and_left (within L R) _ (ne_eqb (bit_and L R) L ne)))

  pub splits_linked : 0 < L → L < R → L ⊆ R → splits Q R L ≡ linked Q L (R - L)
  unfolding splits
  splits_linked some proper part =
      ap (λ (b : Bool). b && (ltb L R && (within L R && linked Q L (R - L)))) (lt-ltb 0 L some) ∙ ap (λ (b : Bool). b && (within L R && linked Q L (R - L))) (lt-ltb L R proper)
      ∙ ap (λ (b : Bool). b && linked Q L (R - L)) (eq-eqb (bit_and L R) L part)

  -- by what the code has of the question and of the others
  pub splits_by : (G : Question) (B : ℕ) (b : Bool) → G ≡ Q → B ≡ R - L → 0 < L → L < R → L ⊆ R → b ≡ linked G L B → splits Q R L ≡ b
  splits_by G B b same others some proper part e =
      splits_linked some proper part ∙ ap (linked Q L) (sym others) ∙ ap (λ (q : Question). linked q L B) (sym same) ∙ sym e

-- What is left of R without a part of it.
pub others_are : (R L B : ℕ) → B ≡ R - bit_and R L → L ⊆ R → B ≡ R - L
others_are R L B e part = e ∙ ap (λ (n : ℕ). R - n) (and_comm R L ∙ part)
