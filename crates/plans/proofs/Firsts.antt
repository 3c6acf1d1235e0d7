-- The first cheapest of many: it is one of them, and none of them is cheaper.
use Rattle.std.proofs.Common.{◌≡◌, ℕ, zero, suc, ◌<◌, Bool, true, false, cond, ◌⊎◌, Some, None, Option, sym, refl, ◌∙◌, ap₂, inl, inr, arith}
use Rattle.std.proofs.lemmas.Bool.{both_ways, cases_eq, cases_Bool}
use Rattle.plans.specs.Questions.{Question}
use Rattle.plans.specs.Plans.{Plan}
use Rattle.pricing.specs.Models.{Model, Lawful}
use Rattle.plans.specs.Prices.{price}
use Rattle.plans.specs.Recurrence.{pick, first_best}

pub some_same : (a b : Plan) → ◌≡◌ {A = Option Plan} (Some a) (Some b) → a ≡ b
some_same a b e = cc

pub none_some : (b : Plan) → ◌≡◌ {A = Option Plan} None (Some b) → ⊥
none_some b e = let z : ◌≡◌ {A = ℕ} 0 1 = cc in omega arith

module _ {P : Type 0} (m : Model P) (Q : Question) where
  -- o is a plan, and p is not cheaper.
  abbrev pub NoDearer : Option Plan → Plan → Type 0
  NoDearer o p = (b : Plan) × (o ≡ Some b) × (m.at_most (price m Q b) (price m Q p) ≡ true)

  -- ---- it is one of them

  pub pick_one : (K : Option Plan → Type 0) (x y : Option Plan) → K x → K y → K (pick m Q x y)
  unfolding pick
  pick_one K None y h k = k
  pick_one K (Some a) None h k = h
  pick_one K (Some a) (Some b) h k = go (m.at_most (price m Q a) (price m Q b))
    where
      go : (t : Bool) → K (cond t (Some a) (Some b))
      go true = h
      go false = k

  pub first_one : (K : Option Plan → Type 0) (a : Option Plan) (f : ℕ → Option Plan) (n : ℕ) → K a → ((i : ℕ) → i < n → K (f i)) → K (first_best m Q a f n)
  unfolding first_best
  first_one K a f zero h k = h
  first_one K a f (suc n) h k = pick_one K (first_best m Q a f n) (f n) (first_one K a f n h (λ i l. k i (omega arith))) (k n (omega arith))

  -- ---- it goes by the candidates alone

  pub first_same : (a b : Option Plan) (f g : ℕ → Option Plan) (n : ℕ) → a ≡ b → ((i : ℕ) → i < n → f i ≡ g i) → first_best m Q a f n ≡ first_best m Q b g n
  unfolding first_best
  first_same a b f g zero e h = e
  first_same a b f g (suc n) e h = ap₂ (pick m Q) (first_same a b f g n e (λ i l. h i (omega arith))) (h n (omega arith))

  -- ---- none is cheaper

  module _ (laws : Lawful m) where
    cheaper : (a b : Plan) → m.at_most (price m Q a) (price m Q b) ≡ false → m.at_most (price m Q b) (price m Q a) ≡ true
    cheaper a b e = laws.total (price m Q a) (price m Q b) e

    chain : (a b c : Plan) → m.at_most (price m Q a) (price m Q b) ≡ true → m.at_most (price m Q b) (price m Q c) ≡ true → m.at_most (price m Q a) (price m Q c) ≡ true
    chain a b c h k = laws.transitive (price m Q a) (price m Q b) (price m Q c) h k

    picked : (a b p : Plan) (t : Bool) → m.at_most (price m Q a) (price m Q b) ≡ t → (m.at_most (price m Q a) (price m Q p) ≡ true) ⊎ (m.at_most (price m Q b) (price m Q p) ≡ true) → NoDearer (cond t (Some a) (Some b)) p
    picked a b p true e (inl h) = (a, refl, h)
    picked a b p true e (inr h) = (a, refl, chain a b p e h)
    picked a b p false e (inl h) = (b, refl, chain b a p (cheaper a b e) h)
    picked a b p false e (inr h) = (b, refl, h)

    pub pick_left : (x y : Option Plan) (p : Plan) → NoDearer x p → NoDearer (pick m Q x y) p
    unfolding pick
    pick_left None y p h = absurd (none_some h.0 h.1)
    pick_left (Some a) None p h = h
    pick_left (Some a) (Some b) p h = picked a b p _ refl (inl (rw (some_same a h.0 h.1) h.2))

    pub pick_right : (x y : Option Plan) (p : Plan) → NoDearer y p → NoDearer (pick m Q x y) p
    unfolding pick
    pick_right None y p h = h
    pick_right (Some a) None p h = absurd (none_some h.0 h.1)
    pick_right (Some a) (Some b) p h = picked a b p _ refl (inr (rw (some_same b h.0 h.1) h.2))

    pub first_start : (a : Option Plan) (f : ℕ → Option Plan) (n : ℕ) (p : Plan) → NoDearer a p → NoDearer (first_best m Q a f n) p
    unfolding first_best
    first_start a f zero p h = h
    first_start a f (suc n) p h = pick_left (first_best m Q a f n) (f n) p (first_start a f n p h)

    pub first_of : (a : Option Plan) (f : ℕ → Option Plan) (n i : ℕ) (p : Plan) → i < n → NoDearer (f i) p → NoDearer (first_best m Q a f n) p
    unfolding first_best
    first_of a f zero i p l h = absurd (omega arith)
    first_of a f (suc n) i p l h = go (cases_eq i n) (λ k. first_of a f n i p k h)
      where
        go : (i ≡ n) ⊎ (i ≡ n → ⊥) → (i < n → NoDearer (first_best m Q a f n) p) → NoDearer (pick m Q (first_best m Q a f n) (f n)) p
        go (inl e) ih = pick_right (first_best m Q a f n) (f n) p (rw e at h)
        go (inr e) ih = pick_left (first_best m Q a f n) (f n) p (ih (omega arith))

    -- ---- it is the first

    -- c, if it is a plan, is dearer than p
    abbrev pub Dearer : Option Plan → Plan → Type 0
    Dearer o p = (c : Plan) → o ≡ Some c → m.at_most (price m Q c) (price m Q p) ≡ false

    -- p is a, or one of f before which all are dearer.
    abbrev pub First : Option Plan → (ℕ → Option Plan) → ℕ → Plan → Type 0
    First a f n p = (a ≡ Some p) ⊎ ((i : ℕ) × (i < n) × (f i ≡ Some p) × Dearer a p × ((k : ℕ) → k < i → Dearer (f k) p))

    -- no plan so far, so none among them
    none_before : (o : Option Plan) (p : Plan) → o ≡ None → NoDearer o p → ⊥
    none_before o p e d = none_some d.0 (sym e ∙ d.1)

    -- x is at most c, and y is cheaper than x, so than c
    pub still_dearer : (x c y : Plan) → m.at_most (price m Q x) (price m Q c) ≡ true → m.at_most (price m Q x) (price m Q y) ≡ false → m.at_most (price m Q c) (price m Q y) ≡ false
    still_dearer x c y h k = go (cases_Bool (m.at_most (price m Q c) (price m Q y)))
      where
        go : (m.at_most (price m Q c) (price m Q y) ≡ true) ⊎ (m.at_most (price m Q c) (price m Q y) ≡ false) → m.at_most (price m Q c) (price m Q y) ≡ false
        go (inl t) = absurd (both_ways _ k (chain x c y h t))
        go (inr t) = t

    -- what the first cheapest so far is at most is dearer than what is cheaper than that one
    dearer_than : (o : Option Plan) (x c y : Plan) → o ≡ Some x → NoDearer o c → m.at_most (price m Q x) (price m Q y) ≡ false → m.at_most (price m Q c) (price m Q y) ≡ false
    dearer_than o x c y e d k = still_dearer x c y (rw (some_same x d.0 (sym e ∙ d.1)) d.2) k

    pub exactly : (o : Option Plan) (c : Plan) → o ≡ Some c → NoDearer o c
    exactly o c e = (c, e, laws.reflexive (price m Q c))

    pub first_is : (a : Option Plan) (f : ℕ → Option Plan) (n : ℕ) (p : Plan) → first_best m Q a f n ≡ Some p → First a f n p
    unfolding first_best pick
    first_is a f zero p e = inl e
    first_is a f (suc n) p e = go (first_best m Q a f n) refl (f n) refl e (first_is a f n)
      where
        later : First a f n p → First a f (suc n) p
        later (inl h) = inl h
        later (inr h) = inr (h.0, omega (arith, h.1), h.2, h.3, h.4)

        choose : (x y : Plan) → first_best m Q a f n ≡ Some x → f n ≡ Some y → (t : Bool) → m.at_most (price m Q x) (price m Q y) ≡ t → ◌≡◌ {A = Option Plan} (cond t (Some x) (Some y)) (Some p) → ((q : Plan) → first_best m Q a f n ≡ Some q → First a f n q) → First a f (suc n) p
        choose x y ex ey true t h ih = later (ih p (ex ∙ h))
        choose x y ex ey false t h ih =
            let k : m.at_most (price m Q x) (price m Q p) ≡ false = rw (← some_same y p h) t in
            inr (
              n,
              omega arith,
              ey ∙ h,
              (λ c ec. dearer_than _ x c p ex (first_start a f n c (exactly a c ec)) k),
              (λ j l c ec. dearer_than _ x c p ex (first_of a f n j c l (exactly (f j) c ec)) k),
            )

        go : (x : Option Plan) → first_best m Q a f n ≡ x → (y : Option Plan) → f n ≡ y → pick m Q x y ≡ Some p → ((q : Plan) → first_best m Q a f n ≡ Some q → First a f n q) → First a f (suc n) p
        go None ex y ey h ih =
            inr (
              n,
              omega arith,
              ey ∙ h,
              (λ c ec. absurd (none_before _ c ex (first_start a f n c (exactly a c ec)))),
              (λ j l c ec. absurd (none_before _ c ex (first_of a f n j c l (exactly (f j) c ec)))),
            )
        go (Some x) ex None ey h ih = later (ih p (ex ∙ h))
        go (Some x) ex (Some y) ey h ih = choose x y ex ey _ refl h ih
