-- What trying a candidate from each item comes to, where each candidate is that of a number.
use Rattle.std.proofs.Common.{◌≡◌, ℕ, ◌+◌, ◌-◌, ◌<◌, ◌≤◌, List, [], ◌∷◌, Some, Option, sym, refl, ap, ◌∙◌, subst, arith}
use Rattle.std.specs.Iterator.{Yields}
use Rattle.std.specs.List.{FoldsTo}
use Rattle.std.specs.declared.ops.Range.{Range}
use Rattle.std.proofs.iter.Yields.{nat_range_steps}
use Rattle.sets.specs.Sets.{◌⊆◌}
use Rattle.sets.specs.declared.small_sets.SmallSet.{SmallSet}
use Rattle.pricing.specs.Models.{Model}
use Rattle.plans.specs.Questions.{Question}
use Rattle.plans.specs.Entries.{joining_entry}
use Rattle.plans.specs.declared.entries.Entry.{Entry}
use Rattle.solver.specs.Tries.{TriesOne, TriesEach, left_steps}
use Rattle.solver.specs.declared.bests.Tried.{Tried}
use Rattle.solver.specs.declared.left_sides.LeftSides.{LeftSides}
use Rattle.solver.proofs.Sides.{no_joins, no_joins_before}
use Rattle.solver.proofs.TriesMade.{Tries, tries_none, tries_more, tries_skip, tries_end}

module _ {P : Type 0} (m : Model P) where
  -- From the numbers below n.
  module _ (f : ℕ → Option (Entry P)) (made : ℕ → Option (Entry P) → Type 0) (right : (x : ℕ) (c : Option (Entry P)) → made x c → c ≡ f x) where
    through : (a : Option (Entry P)) (k : ℕ) (xs : List ℕ) (s j : Range ℕ) (p q : Tried P) → s.start ≤ s.end → Tries m a k f s.start p.best p.tries
        → Yields nat_range_steps s xs j → FoldsTo (TriesOne m made) p xs q → Tries m a k f j.start q.best q.tries × (j.end ≡ s.end) × (j.start ≤ j.end)
    through a k [] s j p q l h y e =
        subst (λ (z : Range ℕ). Tries m a k f z.start q.best q.tries × (z.end ≡ s.end) × (z.start ≤ z.end)) y
        (subst (λ (z : Tried P). Tries m a k f s.start z.best z.tries) e h, refl, l)
    through a k (x ∷ xs) s j p q l h y e =
        let at = y.1.1.1 in
        let one = tries_more m a k f s.start p.best e.0.best p.tries e.0.tries e.1.0 h (right x e.1.0 e.1.1 ∙ ap f at) e.1.2 e.1.3 in
        let up : y.0.start ≡ s.start + 1 = y.1.1.2 in
        let rest = through a k xs y.0 j e.0 q (omega (arith, up, y.1.0, y.1.1.0)) (tries_end m a k f (s.start + 1) y.0.start e.0.best e.0.tries one (sym up)) y.2 e.2 in
        (rest.0, rest.1 ∙ y.1.0, rest.2)

    pub numbers_tried : (n : ℕ) (s : Range ℕ) (t u : Tried P) → s.start ≡ 0 → s.end ≡ n → TriesEach m made nat_range_steps s t u → Tries m t.best t.tries f n u.best u.tries
    numbers_tried n s t u z e r =
        let ends = r.1.1 in
        let w = through t.best t.tries r.0 s ends.0 t u (omega (arith, z)) (tries_none m t.best t.tries f s.start z) ends.1 r.2 in
        tries_end m t.best t.tries f ends.0.start n u.best u.tries w.0 (omega (arith, w.1, w.2, e, ends.2.1.0))

  -- From the left sides of R.
  module _ (Q : Question) (table : ℕ → ℕ → Option (Entry P)) (R S : ℕ) (made : SmallSet → Option (Entry P) → Type 0)
      (right : (x : SmallSet) (c : Option (Entry P)) → made x c → c ≡ joining_entry m Q table R S x.bits) where
    along : (a : Option (Entry P)) (k : ℕ) (xs : List SmallSet) (s j : LeftSides) (p q : Tried P) → s.tables.bits ≡ R → Tries m a k (joining_entry m Q table R S) s.next.bits p.best p.tries
        → Yields left_steps s xs j → FoldsTo (TriesOne m made) p xs q → Tries m a k (joining_entry m Q table R S) j.next.bits q.best q.tries × (j.tables.bits ≡ R)
    along a k [] s j p q o h y e =
        subst (λ (z : LeftSides). Tries m a k (joining_entry m Q table R S) z.next.bits q.best q.tries × (z.tables.bits ≡ R)) y
        (subst (λ (z : Tried P). Tries m a k (joining_entry m Q table R S) s.next.bits z.best z.tries) e h, o)
    along a k (x ∷ xs) s j p q o h y e =
        let f = joining_entry m Q table R S in
        let step = y.1 in
        let L : ℕ = s.next.bits in
        let at : x.bits ≡ L = ap (λ (z : SmallSet). z.bits) step.1.0 in
        let one = tries_more m a k f L p.best e.0.best p.tries e.0.tries e.1.0 h (right x e.1.0 e.1.1 ∙ ap f at) e.1.2 e.1.3 in
        let least = λ (t : ℕ) (part : t ⊆ R) (l : L < t). step.1.3 t (subst (λ (r : ℕ). t ⊆ r) (sym o) part) (omega (arith, at, l)) in
        let next : ℕ = y.0.next.bits in
        along a k xs y.0 j e.0 q (ap (λ (z : SmallSet). z.bits) step.0 ∙ o)
        (tries_skip m a k f (next - (L + 1)) (L + 1) next e.0.best e.0.tries (omega (arith, at, step.1.2)) (λ i l u. no_joins m Q table R S L next least i (omega arith) u) one)
        y.2 e.2

    pub lefts_tried : (s : LeftSides) (t u : Tried P) → s.tables.bits ≡ R → ((x : ℕ) → x ⊆ R → 0 < x → s.next.bits ≤ x) → TriesEach m made left_steps s t u
        → Tries m t.best t.tries (joining_entry m Q table R S) R u.best u.tries
    lefts_tried s t u o least r =
        let f = joining_entry m Q table R S in
        let none = tries_skip m t.best t.tries f s.next.bits 0 s.next.bits t.best t.tries (omega arith) (λ i l v. no_joins_before m Q table R S 0 s.next.bits refl (λ _. least) i v) (tries_none m t.best t.tries f 0 refl) in
        let ends = r.1.1 in
        let w = along t.best t.tries r.0 s ends.0 t u o none ends.1 r.2 in
        tries_end m t.best t.tries f ends.0.next.bits R u.best u.tries w.0 (ends.2.1 ∙ w.1)

-- Each left side is a part, and neither empty nor all the tables.
tables_kept : (xs : List SmallSet) (s j : LeftSides) → Yields left_steps s xs j → j.tables ≡ s.tables
tables_kept [] s j y = ap (λ (z : LeftSides). z.tables) (sym y)
tables_kept (x ∷ xs) s j y = tables_kept xs y.0 j y.2 ∙ y.1.0

pub left_proper : (tables x : SmallSet) (xs : List SmallSet) (s j u : LeftSides) → s.tables ≡ tables → Yields left_steps s xs j → left_steps j (Some x) u
    → (x.bits ⊆ tables.bits) × (0 < x.bits) × (x.bits < tables.bits)
left_proper tables x xs s j u e y step =
    let all : j.tables.bits ≡ tables.bits = ap (λ (z : SmallSet). z.bits) (tables_kept xs s j y ∙ e) in
    let at : x.bits ≡ j.next.bits = ap (λ (z : SmallSet). z.bits) step.1.0 in
    let less : x.bits < j.tables.bits = step.1.1 in
    (subst (λ (l : ℕ). l ⊆ tables.bits) (sym at) (subst (λ (r : ℕ). j.next.bits ⊆ r) all j.part), omega (arith, at, j.some (omega (arith, less))), omega (arith, less, all))
