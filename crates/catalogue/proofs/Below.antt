-- Sums and searches over the numbers below a bound.
use Rattle.std.proofs.Common.{◌≡◌, ℕ, zero, suc, ◌+◌, ◌*◌, ◌<◌, ◌≤◌, min, Bool, true, false, cond, ◌||◌, List, ◌∷◌, filter, length, map, get_or, Option, sym, refl, ap, ◌∙◌, ap₂, add-one, arith}
use denote.Param.Members.{Mut}
use denote.Ref.{Bor}
use Rattle.std.specs.Bool.{⊤, MatchBool}
use Rattle.std.specs.Fn.{Called, CalledAt}
use Rattle.std.specs.Iterator.{Drains, YieldsThen}
use Rattle.std.specs.Iterator.Adapters.{filter_callee, filter_source, filter_steps, map_callee, map_source}
use Rattle.std.specs.Iterator.Runs.{EachRunFrom}
use Rattle.std.specs.declared.iter.Filter.{Filter}
use Rattle.std.specs.declared.iter.Map.{Map}
use Rattle.std.specs.List.{range_with_len, fold, sum_by, AllWithin, FoldsTo, HoldsAt}
use Rattle.std.specs.Option.{MatchOption}
use Rattle.std.specs.declared.ops.Range.{Range}
use Rattle.std.proofs.iter.Yields.{nat_range_steps}
use Rattle.std.proofs.lemmas.Iterator.{cases_from_any, maps, YieldsList, YieldsList-from_map, YieldsList-from_range}
use Rattle.std.proofs.lemmas.Iterator.Consumers.{YieldsList-at, YieldsList-from_filter, fits_by_from_yields_list, sum_by_from_yields_List}
use Rattle.std.proofs.lemmas.List.FromFn.{length-range_with_len, get_or-range_with_len}
use Rattle.sets.specs.Sets.{any_below, sum_below}
use Rattle.plans.proofs.Links.{any_tells}

pub sum_none : (f : ℕ → ℕ) → sum_below f 0 ≡ 0
unfolding sum_below
sum_none f = refl

pub sum_more : (f : ℕ → ℕ) (n s r : ℕ) → s ≡ sum_below f n → r ≡ f n → s + r ≡ sum_below f (n + 1)
unfolding sum_below
sum_more f n s r e v = ap (λ (x : ℕ). x + r) e ∙ ap (λ (x : ℕ). sum_below f n + x) v ∙ ap (sum_below f) (sym (add-one n))

any_nothing : (f : ℕ → Bool) (n : ℕ) → ((k : ℕ) → k < n → f k ≡ false) → any_below f n ≡ false
unfolding any_below
any_nothing f zero h = refl
any_nothing f (suc n) h = ap₂ ◌||◌ (h n (omega arith)) (any_nothing f n (λ k l. h k (omega arith)))

read_range : (n k : ℕ) → k < n → get_or (range_with_len 0 n) k 0 ≡ k
read_range n k l = omega (arith, get_or-range_with_len 0 n k 0 l)

any_range : (f : ℕ → Bool) (n : ℕ) (r : Bool)
    → MatchBool r ((k : ℕ) × (k < length (range_with_len 0 n)) × HoldsAt (λ x. f x ≡ true) (range_with_len 0 n) k) (AllWithin (λ x. f x ≡ false) (range_with_len 0 n) 0 (length (range_with_len 0 n)))
    → r ≡ any_below f n
any_range f n true h =
    let l : h.0 < n = omega (arith, h.1, length-range_with_len 0 n) in
    sym ((any_tells f n).1 (h.0, l, ap f (sym (read_range n h.0 l)) ∙ h.2 0))
any_range f n false h = sym (any_nothing f n (λ k l. ap f (sym (read_range n k l)) ∙ h k 0 (omega arith) (omega (arith, length-range_with_len 0 n))))

-- what `any` says of the numbers below n, where the closure computes f
pub any_over : {F : Type 0} {g : Mut F (ℕ × Unit {0}) Bool} (s u : Range ℕ) (c : F) (r : Bool) (f : ℕ → Bool) (n : ℕ)
    → (xs : List ℕ) × (o : Option ℕ) × (j : F) × YieldsThen nat_range_steps s xs o u × FoldsTo (λ p x q. Called g p (x, tt) false q) c xs j
    × MatchOption o (r ≡ false) (λ x. (r ≡ true) × ((h : F) × Called g j (x, tt) true h))
    → s ≡ record { start = 0; end = n } → ((x : ℕ) (b : Bool) (q : F) → Called g c (x, tt) b q → (q ≡ c) × (b ≡ f x)) → r ≡ any_below f n
any_over s u c r f n ran e call =
    any_range f n r (cases_from_any u c r (λ x. f x ≡ true) (λ x. f x ≡ false) ran (YieldsList-from_range 0 n n e (omega arith))
    (λ x q k. sym (call x true q k).1) (λ x q k. let w = call x false q k in (w.0, sym w.1)))

sum_most : (f : ℕ → ℕ) (m n : ℕ) → ((i : ℕ) → i < n → f i ≤ m) → sum_below f n ≤ m * n
unfolding sum_below
sum_most f m zero h = omega arith
sum_most f m (suc n) h = let e : m * suc n ≡ m * n + m = omega arith in omega (arith, sum_most f m n (λ i l. h i (omega arith)), h n (omega arith))

module _ (p : ℕ → Bool) (h : ℕ → ℕ) where
  sum_on : (n a : ℕ) → fold (λ s x. s + h x) (sum_below (λ j. cond (p j) (h j) 0) a) (filter p (range_with_len a n)) ≡ sum_below (λ j. cond (p j) (h j) 0) (a + n)
  sum_on zero a = ap (sum_below _) (let e : a ≡ a + 0 = omega arith in e)
  sum_on (suc n) a =
      go (p a) (filter p (range_with_len (a + 1) n)) (sum_below _ a)
      ∙ ap (λ (x : ℕ). fold (λ s x. s + h x) x (filter p (range_with_len (a + 1) n))) (sum_more _ a (sum_below _ a) _ refl refl)
      ∙ sum_on n (a + 1) ∙ ap (sum_below _) (let e : a + 1 + n ≡ a + suc n = omega arith in e)
    where
      go : (b : Bool) (l : List ℕ) (s : ℕ) → fold (λ s x. s + h x) s (cond b (a ∷ l) l) ≡ fold (λ s x. s + h x) (s + cond b (h a) 0) l
      go true l s = refl
      go false l s = ap (λ (x : ℕ). fold (λ s x. s + h x) x l) (let e : s ≡ s + 0 = omega arith in e)

  sum_range : (n : ℕ) → sum_by h (filter p (range_with_len 0 n)) ≡ sum_below (λ j. cond (p j) (h j) 0) n
  sum_range n =
      ap (λ (x : ℕ). fold (λ s x. s + h x) x (filter p (range_with_len 0 n))) (sym (sum_none _)) ∙ sum_on n 0 ∙ ap (sum_below _) (let e : 0 + n ≡ n = omega arith in e)

-- What `filter`, `map` and `sum` give over the numbers below n, where the closures compute p and h, and h is at most m.
module _ {P F : Type 0} {test : Mut P (Bor ℕ × Unit {0}) Bool} {each : Mut F (ℕ × Unit {0}) ℕ} (s : Map (Filter (Range ℕ) P) F) {t : Filter (Range ℕ) P} {cp : P} {cf : F} (n m : ℕ) (p : ℕ → Bool) (h : ℕ → ℕ)
    (t_is : map_source s ≡ t) (f_is : map_callee s ≡ cf) (range_is : filter_source t ≡ record { start = 0; end = n }) (p_is : filter_callee t ≡ cp)
    (tests : (x : ℕ) (b : Bool) (q : P) → CalledAt test cp x b q → (q ≡ cp) × (b ≡ p x))
    (calls : (x r : ℕ) (q : F) → Called each cf (x, tt) r q → (q ≡ cf) × (r ≡ h x) × (r ≤ m)) where
  road : (f : ℕ → ℕ) → ((x r : ℕ) (q : F) → Called each cf (x, tt) r q → (q ≡ cf) × (r ≡ f x)) → YieldsList (maps (filter_steps nat_range_steps test) each) (λ r. r) s (map f (filter p (range_with_len 0 n)))
  road f c = YieldsList-from_map each f (YieldsList-at t_is (YieldsList-from_filter test p (YieldsList-from_range 0 n n range_is (omega arith)) p_is tests)) f_is c

  abbrev Ran : ℕ → Type 0
  Ran r = (xs : List ℕ) × (⊤ → Drains (maps (filter_steps nat_range_steps test) each) s xs) × (r ≡ fold (λ a x. a + x) 0 xs)

  low : ℕ → ℕ
  low j = min m (h j)

  low_road : YieldsList (maps (filter_steps nat_range_steps test) each) (λ r. r) s (map low (filter p (range_with_len 0 n)))
  unfolding low
  low_road = road low (λ x r q k. let c = calls x r q k in (c.0, omega (arith, c.1, c.2)))

  low_sum : sum_by low (filter p (range_with_len 0 n)) ≤ m * n
  unfolding low
  low_sum = omega (arith, sum_range p low n, sum_most (λ j. cond (p j) (low j) 0) m n (λ i l. go (p i) (h i)))
    where
      go : (b : Bool) (k : ℕ) → cond b (min m k) 0 ≤ m
      go true k = omega arith
      go false k = omega arith

  pub sum_over : (r : ℕ) → Ran r → (r ≡ sum_below (λ j. cond (p j) (h j) 0) n) × (r ≤ m * n)
  sum_over r ran = (
    sum_by_from_yields_List h _ s r ran (road h (λ x r q k. let c = calls x r q k in (c.0, c.1))) ∙ sum_range p h n,
    omega (arith, sum_by_from_yields_List low _ s r ran low_road, low_sum),
  )

  pub sum_over_fits : (top : ℕ) → m * n < top → EachRunFrom (maps (filter_steps nat_range_steps test) each) s (λ p. fold (λ a x. a + x) 0 p.items < top)
  sum_over_fits top l = fits_by_from_yields_list low _ s top low_road (omega (arith, low_sum))
