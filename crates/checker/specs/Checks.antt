-- What check answers, and what the lent list then holds.
use Rattle.std.specs.Prelude.{◌≡◌, ℕ, ◌<◌, ◌≤◌, Bool, true, false, cond, ◌&&◌, List, [], ◌∷◌, length, is_some, Some, None, Ok, Err, Option, Result, ◌==◌, nat_lt, slice_index_or}
use Rattle.pricing.specs.Models.{Model}
use Rattle.plans.specs.Questions.{Question, table_of}
use Rattle.plans.specs.Plans.{Plan, Answers}
use Rattle.plans.specs.Prices.{price, last_above}
use Rattle.plans.specs.Spelling.{spelled}
use Rattle.checker.specs.declared.refusals.CheckRefusal.{CheckRefusal}
use Rattle.checker.specs.declared.refusals.CheckRefusal.TheVariants.{ListTooShort, BadPair, NoValidPlan}

-- A pair names a given table, the given test of a given table, or a join.
abbrev pub named : Question → (a b : ℕ) → Bool
named Q a b =
    cond (a == 0x10) (nat_lt b Q.count) (cond (a == 0x11) (nat_lt (table_of Q b) Q.count && is_some (Q.test b)) (a == 0x12 && b == 0))

-- The bytes are pairs, and each pair names something.
unfoldable pub named_pairs : Question → (bytes : List ℕ) → Bool
named_pairs Q [] = true
named_pairs Q (a ∷ []) = false
named_pairs Q (a ∷ b ∷ bytes) = named Q a b && named_pairs Q bytes

-- The bytes spell a valid plan of the question.
abbrev pub Spells : Question → (bytes : List ℕ) → Plan → Type 0
Spells Q bytes p = (spelled p ≡ bytes) × Answers Q p

-- Some valid plan is spelled.
abbrev pub SpellsSome : Question → (bytes : List ℕ) → Type 0
SpellsSome Q bytes = (p : Plan) × Spells Q bytes p

-- The operation's price, and where there is no operation what stood before.
abbrev pub price_or : {P : Type 0} → Model P → Question → Option Plan → P → P
price_or m Q None before = before
price_or m Q (Some o) before = price m Q o

-- Entry k holds the price of the last operation whose result lay above exactly k unjoined parts; all other entries are untouched.
pub record Held {P : Type 0} (m : Model P) (Q : Question) (p : Plan) (before after : List P) : Type 0 where
  pub same_length : length after ≡ length before
  pub entries : (k : ℕ) (d : P) → slice_index_or after k d ≡ price_or m Q (last_above k p) (slice_index_or before k d)

-- The price of the plan that the bytes spell, and the list with those of its operations.
abbrev pub Priced : {P : Type 0} → Model P → Question → (bytes : List ℕ) (before : List P) (v : P) (after : List P) → Type 0
Priced m Q bytes before v after = (p : Plan) × Spells Q bytes p × (v ≡ price m Q p) × Held m Q p before after

-- That price, or the first cause of refusal, which leaves the list as it was.
abbrev pub Checked : {P : Type 0} → Model P → Question → (bytes : List ℕ) (before : List P) → Result P CheckRefusal → (after : List P) → Type 0
Checked m Q bytes before (Ok v) after = (10 ≤ length before) × (named_pairs Q bytes ≡ true) × Priced m Q bytes before v after
Checked m Q bytes before (Err ListTooShort) after = (length before < 10) × (after ≡ before)
Checked m Q bytes before (Err BadPair) after = (10 ≤ length before) × (named_pairs Q bytes ≡ false) × (after ≡ before)
Checked m Q bytes before (Err NoValidPlan) after = (10 ≤ length before) × (named_pairs Q bytes ≡ true) × (SpellsSome Q bytes → ⊥) × (after ≡ before)
