-- Prices of Fetches first: equal by their parts, and the laws of the model.
use Rattle.std.specs.Prelude.{◌≡◌, ℕ, ◌+◌, ◌<◌, ◌≤◌, Bool, true, false, ◌&&◌, ◌||◌, T, ◌⊎◌, ◌==◌, nat_le, nat_lt, refl}
use Rattle.std.proofs.Common.{inl, inr, ap, subst, arith}
use Rattle.std.proofs.Math.Dec.{T_prop}
use Rattle.std.proofs.lemmas.Bool.{leb-true}
use Rattle.std.proofs.lemmas.Bool.Decides.{nat_tests}
use Rattle.pricing.specs.Clocks.{limited, test_ms, join_ms, most_ms}
use Rattle.pricing.specs.Counts.{counts, most_fetches}
use Rattle.pricing.specs.Fetches.{counted, counted_fetches, counted_ms, test_fetches, fetches_first, uncounted, OnePast}
use Rattle.pricing.specs.Models.{Lawful}
use Rattle.pricing.specs.declared.fetch_prices.FetchPrice.{FetchPrice}

abbrev price_of : (fetches ms : ℕ) → T (counts fetches ms) → FetchPrice
price_of fetches ms whole = record { fetches = fetches; ms = ms; whole = whole }

same_parts : (f g t u : ℕ) → f ≡ g → t ≡ u → (w : T (counts f t)) (v : T (counts g u)) → price_of f t w ≡ price_of g u v
same_parts f g t u p q w =
    subst (λ (x : ℕ). (v : T (counts x u)) → price_of f t w ≡ price_of x u v) p
    (subst (λ (y : ℕ). (v : T (counts f y)) → price_of f t w ≡ price_of f y v) q (λ v. ap (price_of f t) (T_prop (counts f t) w v)))

-- Prices with the same fetches and the same milliseconds are the same.
pub same_price : (a b : FetchPrice) → a.fetches ≡ b.fetches → a.ms ≡ b.ms → a ≡ b
same_price a b p q = same_parts a.fetches b.fetches a.ms b.ms p q a.whole b.whole

-- Fewer fetches, or as many and no more milliseconds.
abbrev Ahead : (f t g u : ℕ) → Type 0
Ahead f t g u = (f < g) ⊎ ((f ≡ g) × (t ≤ u))

abbrev ahead : (f t g u : ℕ) → Bool
ahead f t g u = nat_lt f g || (f == g && nat_le t u)

ahead_true : (f t g u : ℕ) → ahead f t g u ≡ true → Ahead f t g u
ahead_true f t g u h = grind (arith, nat_tests)

true_ahead : (f t g u : ℕ) → Ahead f t g u → ahead f t g u ≡ true
true_ahead f t g u h = grind (arith, nat_tests)

ahead_total : (f t g u : ℕ) → ahead f t g u ≡ false → ahead g u f t ≡ true
ahead_total f t g u h = grind (arith, nat_tests)

ahead_through : (f t g u h v : ℕ) → Ahead f t g u → Ahead g u h v → Ahead f t h v
ahead_through f t g u h v (inl a) (inl b) = inl (omega arith)
ahead_through f t g u h v (inl a) (inr b) = inl (omega arith)
ahead_through f t g u h v (inr a) (inl b) = inl (omega arith)
ahead_through f t g u h v (inr a) (inr b) = inr (omega arith, omega arith)

-- The same fetches and milliseconds more on both sides keep the order.
ahead_more : (f t g u fetches ms : ℕ) → Ahead f t g u → (f' t' g' u' : ℕ) → f' ≡ f + fetches → t' ≡ t + ms → g' ≡ g + fetches → u' ≡ u + ms → Ahead f' t' g' u'
ahead_more f t g u fetches ms (inl a) f' t' g' u' p q r s = inl (omega arith)
ahead_more f t g u fetches ms (inr a) f' t' g' u' p q r s = inr (omega arith, omega arith)

limited_more : (t u : ℕ) → t ≤ u → limited t ≤ limited u
limited_more t u h = omega arith

-- The limits keep the order.
counted_ahead : (f t g u : ℕ) → Ahead f t g u → Ahead (counted_fetches f) (counted_ms f t) (counted_fetches g) (counted_ms g u)
counted_ahead f t g u h = let k = limited_more t u in grind (arith, nat_tests)

parts : (a b : FetchPrice) → fetches_first.at_most a b ≡ true → Ahead a.fetches a.ms b.fetches b.ms
parts a b = ahead_true a.fetches a.ms b.fetches b.ms

-- An operation that adds the same to two prices keeps their order.
dearer : (a b : FetchPrice) (fetches ms f t g u : ℕ) → fetches_first.at_most a b ≡ true
    → f ≡ a.fetches + fetches → t ≡ a.ms + ms → g ≡ b.fetches + fetches → u ≡ b.ms + ms
    → fetches_first.at_most (counted f t) (counted g u) ≡ true
dearer a b fetches ms f t g u h p q r s =
    true_ahead (counted_fetches f) (counted_ms f t) (counted_fetches g) (counted_ms g u)
    (counted_ahead f t g u (ahead_more a.fetches a.ms b.fetches b.ms fetches ms (parts a b h) f t g u p q r s))

pub fetches_first_lawful : Lawful fetches_first
fetches_first_lawful = record {
  reflexive = λ a. true_ahead a.fetches a.ms a.fetches a.ms (inr (omega arith, omega arith));
  total = λ a b. ahead_total a.fetches a.ms b.fetches b.ms;
  transitive = λ a b c h k.
      true_ahead a.fetches a.ms c.fetches c.ms
      (ahead_through a.fetches a.ms b.fetches b.ms c.fetches c.ms (parts a b h) (parts b c k));
  dearer_test = λ a b size cost kind h. dearer a b (test_fetches kind size) (test_ms size cost) _ _ _ _ h refl refl refl refl;
  dearer_left = λ a b right left_size right_size size costs h.
      let ms : ℕ = join_ms left_size right_size size costs in
      dearer a b right.fetches (right.ms + ms) (a.fetches + right.fetches) (a.ms + right.ms + ms) (b.fetches + right.fetches) (b.ms + right.ms + ms) h
      refl (omega arith) refl (omega arith);
  dearer_right = λ left a b left_size right_size size costs h.
      let ms : ℕ = join_ms left_size right_size size costs in
      dearer a b left.fetches (left.ms + ms) (left.fetches + a.fetches) (left.ms + a.ms + ms) (left.fetches + b.fetches) (left.ms + b.ms + ms) h
      (omega arith) (omega arith) (omega arith) (omega arith);
  dearer_past = λ a b h p. let k = parts a b h in grind (arith, nat_tests);
}

at_limit : (fetches ms : ℕ) → nat_le most_fetches fetches ≡ true → T (counts fetches ms) → (fetches ≡ most_fetches) × (ms ≡ most_ms)
at_limit fetches ms far whole = grind (arith, nat_tests)

-- No other price has as many fetches as the limit.
past_alone : (price : FetchPrice) → fetches_first.past price ≡ true → price ≡ uncounted
past_alone price far =
    let both : (price.fetches ≡ most_fetches) × (price.ms ≡ most_ms) = at_limit price.fetches price.ms far price.whole in
    same_price price uncounted both.0 both.1

pub one_past : OnePast
one_past = record { by_clock = λ price most far. omega (arith, leb-true most_ms price far); by_fetches = past_alone }
