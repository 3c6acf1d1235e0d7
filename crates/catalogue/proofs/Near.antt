-- The tables that a tie links to a set, and links by them.
use Rattle.std.proofs.Common.{◌≡◌, ℕ, zero, suc, ◌+◌, ◌^◌, ◌<◌, Bool, true, false, not, ◌&&◌, ◌||◌, eqb, ltb, is_some, sym, refl, ap, ◌∙◌, ap₂, ⊎_elim, pow-suc, arith}
use lib.Bits.{bit_and, bit_or}
use lib.Count.{count_trailing_zeros}
use Rattle.std.proofs.Math.Bool.{and-false, and-true}
use Rattle.std.proofs.lemmas.Bool.{cases_eq, and_parts, and_from, or_cases, or_left, or_right, eq-eqb, ne_eqb, eqb-true, lt-ltb, true≢false, false≢true}
use Rattle.sets.specs.Sets.{any_below, has}
use Rattle.sets.proofs.Bits.{has_and, has_or, has_sum, has_pow, has_pow_self, zero_bits, same_bits}
use Rattle.sets.proofs.Lowest.{lowest_in}
use Rattle.plans.specs.Questions.{Question, all_tables, tie_of, linked}
use Rattle.plans.proofs.Links.{any_tells, linked_by}
use Rattle.plans.proofs.Whole.{full_has, sum_has}
use Rattle.catalogue.specs.Within.{near}

both_ways : (x y : Bool) → (x ≡ true → y ≡ true) → (y ≡ true → x ≡ true) → x ≡ y
both_ways true y f g = sym (f refl)
both_ways false true f g = g refl
both_ways false false f g = refl

-- ---- what a link is

pub record Link (Q : Question) (A B : ℕ) : Type 0 where
  pub from : ℕ
  pub to : ℕ
  pub from_given : from < Q.count
  pub to_given : to < Q.count
  pub from_in : has A from ≡ true
  pub to_in : has B to ≡ true
  pub tied : is_some (tie_of Q from to) ≡ true

link : (Q : Question) (A B : ℕ) → linked Q A B ≡ true → Link Q A B
unfolding linked
link Q A B e =
    let x = (any_tells _ Q.count).0 e in
    let a = and_parts (has A x.0) _ x.2 in
    let y = (any_tells _ Q.count).0 a.1 in
    let b = and_parts (has B y.0) _ y.2 in
    record { from = x.0; to = y.0; from_given = x.1; to_given = y.1; from_in = a.0; to_in = b.0; tied = b.1 }

links : (Q : Question) (A B : ℕ) → Link Q A B → linked Q A B ≡ true
links Q A B l = linked_by Q A B l.from l.to l.from_given l.to_given l.from_in l.to_in l.tied

-- the same ends in other sets
moved : (Q : Question) (A B C D : ℕ) (l : Link Q A B) → has C l.from ≡ true → has D l.to ≡ true → linked Q C D ≡ true
moved Q A B C D l c d = linked_by Q C D l.from l.to l.from_given l.to_given c d l.tied

-- ---- sets put together

pub linked_sum : (Q : Question) (A B C : ℕ) → bit_and A B ≡ 0 → linked Q (A + B) C ≡ (linked Q A C || linked Q B C)
linked_sum Q A B C apart = both_ways (linked Q (A + B) C) (linked Q A C || linked Q B C)
    (λ e.
    let l = link Q (A + B) C e in
    ⊎_elim (λ a. or_left _ (linked Q B C) (moved Q (A + B) C A C l a l.to_in)) (λ b. or_right (linked Q A C) _ (moved Q (A + B) C B C l b l.to_in))
    (or_cases (has A l.from) (has B l.from) (sym (has_sum A B l.from apart) ∙ l.from_in)))
    (λ e. ⊎_elim
    (λ a. let l = link Q A C a in moved Q A C (A + B) C l (has_sum A B l.from apart ∙ or_left _ (has B l.from) l.from_in) l.to_in)
    (λ b. let l = link Q B C b in moved Q B C (A + B) C l (has_sum A B l.from apart ∙ or_right (has A l.from) _ l.from_in) l.to_in)
    (or_cases (linked Q A C) (linked Q B C) e))

pub linked_none : (Q : Question) (C : ℕ) → linked Q 0 C ≡ false
linked_none Q C = both_ways (linked Q 0 C) false (λ e. let l = link Q 0 C e in sym (zero_bits l.from) ∙ l.from_in) (λ e. absurd (false≢true e))

-- ---- the tables near a set

pub near_has : (Q : Question) (A j : ℕ) → has (near Q A) j ≡ (ltb j Q.count && linked Q A (2 ^ j))
unfolding near
near_has Q A j = sum_has (λ k. linked Q A (2 ^ k)) Q.count j

with_ltb : (x a b : Bool) → (x && (a || b)) ≡ ((x && a) || (x && b))
with_ltb true a b = refl
with_ltb false a b = refl

pub near_sum : (Q : Question) (A B : ℕ) → bit_and A B ≡ 0 → near Q (A + B) ≡ bit_or (near Q A) (near Q B)
near_sum Q A B apart = same_bits (near Q (A + B)) (bit_or (near Q A) (near Q B)) (λ j.
    near_has Q (A + B) j ∙ ap (λ (b : Bool). ltb j Q.count && b) (linked_sum Q A B (2 ^ j) apart)
    ∙ with_ltb (ltb j Q.count) (linked Q A (2 ^ j)) (linked Q B (2 ^ j))
    ∙ sym (has_or (near Q A) (near Q B) j ∙ ap₂ ◌||◌ (near_has Q A j) (near_has Q B j)))

pub near_none : (Q : Question) → near Q 0 ≡ 0
near_none Q = same_bits (near Q 0) 0 (λ j.
    near_has Q 0 j ∙ ap (λ (b : Bool). ltb j Q.count && b) (linked_none Q (2 ^ j)) ∙ sym (zero_bits j ∙ sym (and-false (ltb j Q.count))))

-- ---- a link is a table near the one side that is on the other

below_power : (k : ℕ) → k < 2 ^ k
below_power zero = omega arith
below_power (suc k) = omega (arith, below_power k, pow-suc 2 k)

some_bit : (n : ℕ) → (n ≡ 0 → ⊥) → has n (count_trailing_zeros n n) ≡ true
some_bit n ne = lowest_in n n (omega (arith, ne)) (below_power n)

pub linked_near : (Q : Question) (A B : ℕ) → linked Q A B ≡ not (eqb (bit_and (near Q A) B) 0)
linked_near Q A B = both_ways (linked Q A B) (not (eqb m 0))
    (λ e.
    let l = link Q A B e in
    let one = moved Q A B A (2 ^ l.to) l l.from_in (has_pow_self l.to) in
    let here = near_has Q A l.to ∙ and_from (ltb l.to Q.count) _ (lt-ltb l.to Q.count l.to_given) one in
    let in_both = has_and (near Q A) B l.to ∙ and_from (has (near Q A) l.to) _ here l.to_in in
    ap not (ne_eqb m 0 (λ z. true≢false (sym in_both ∙ ap (λ (n : ℕ). has n l.to) z ∙ zero_bits l.to))))
    (λ e. ⊎_elim
    (λ z. absurd (true≢false (sym e ∙ ap not (eq-eqb m 0 z))))
    (λ ne.
    let j : ℕ = count_trailing_zeros m m in
    let both = and_parts (has (near Q A) j) (has B j) (sym (has_and (near Q A) B j) ∙ some_bit m ne) in
    let l = link Q A (2 ^ j) (and_parts (ltb j Q.count) _ (sym (near_has Q A j) ∙ both.0)).1 in
    let same = eqb-true j l.to (sym (has_pow j l.to) ∙ l.to_in) in
    moved Q A (2 ^ j) A B l l.from_in (ap (has B) (sym same) ∙ both.1))
    (cases_eq m 0))
  where
    m : ℕ
    m = bit_and (near Q A) B

-- ---- only given tables count

pub all_given : (Q : Question) (A i : ℕ) → i < Q.count → has (bit_and A (all_tables Q)) i ≡ has A i
all_given Q A i l = has_and A (all_tables Q) i ∙ ap (λ (b : Bool). has A i && b) (full_has Q.count i ∙ lt-ltb i Q.count l) ∙ and-true (has A i)

pub linked_given : (Q : Question) (A B : ℕ) → linked Q (bit_and A (all_tables Q)) B ≡ linked Q A B
linked_given Q A B = both_ways (linked Q G B) (linked Q A B)
    (λ e. let l = link Q G B e in moved Q G B A B l (sym (all_given Q A l.from l.from_given) ∙ l.from_in) l.to_in)
    (λ e. let l = link Q A B e in moved Q A B G B l (all_given Q A l.from l.from_given ∙ l.from_in) l.to_in)
  where
    G : ℕ
    G = bit_and A (all_tables Q)

-- a table near a set is one that is tied to one of it, since a tie is found whichever way its tables are named
pub linked_to : (Q : Question) → ((i j : ℕ) → tie_of Q i j ≡ tie_of Q j i) → (R j : ℕ) → j < Q.count → any_below (λ i. has R i && is_some (tie_of Q j i)) Q.count ≡ linked Q R (2 ^ j)
linked_to Q turned R j l = both_ways _ _
    (λ e.
    let x = (any_tells _ Q.count).0 e in
    let a = and_parts (has R x.0) _ x.2 in
    linked_by Q R (2 ^ j) x.0 j x.1 l a.0 (has_pow_self j) (ap is_some (turned x.0 j) ∙ a.1))
    (λ e.
    let k = link Q R (2 ^ j) e in
    let same : j ≡ k.to = eqb-true j k.to (sym (has_pow j k.to) ∙ k.to_in) in
    (any_tells _ Q.count).1 (k.from, k.from_given, and_from (has R k.from) _ k.from_in (ap is_some (ap (λ (i : ℕ). tie_of Q i k.from) same ∙ turned k.to k.from) ∙ k.tied)))
