-- The sets of tables and tests of a join's two sides, and of what a test is made on.
use Rattle.std.proofs.Common.{◌≡◌, ℕ, ◌+◌, ◌-◌, ◌^◌, ◌≤◌, Bool, true, false, not, ◌&&◌, ◌||◌, ◌⊎◌, sym, refl, ap, ◌∙◌, ap₂, inl, inr, add_comm, arith}
use lib.Bits.{bit_and, bit_or, or_disjoint, and_comm, and_self}
use Rattle.std.proofs.lemmas.Bool.{false≢true, eqb-true, and_parts, and_from, or_cases, or_left, or_right}
use Rattle.sets.specs.Sets.{has, ◌⊆◌}
use Rattle.sets.proofs.Bits.{has_and, has_or, has_sum, has_rest, has_pow, has_pow_self, same_bits, part_has, has_part, apart_has, has_apart, part_le}

-- ---- cutting R into L and the rest

pub rest_sum : (L R : ℕ) → L ⊆ R → L + (R - L) ≡ R
rest_sum L R e = omega (arith, part_le L R e)

cut : (l r : Bool) → l ≡ true → (r && not l) ≡ false
cut true true h = refl
cut true false h = refl
cut false r h = absurd (false≢true h)

pub rest_apart : (L R : ℕ) → L ⊆ R → bit_and L (R - L) ≡ 0
rest_apart L R e = has_apart L (R - L) (λ i h. has_rest L R i e ∙ cut (has L i) (has R i) h)

pub meet_part : (S L : ℕ) → bit_and S L ⊆ L
meet_part S L = has_part (bit_and S L) L (λ i h. (and_parts (has S i) (has L i) (sym (has_and S L i) ∙ h)).1)

pub part_self : (A : ℕ) → A ⊆ A
part_self A = and_self A

pub part_chain : (A B C : ℕ) → A ⊆ B → B ⊆ C → A ⊆ C
part_chain A B C d e = has_part A C (λ i h. part_has B C i e (part_has A B i d h))

pub meet_part_left : (S L : ℕ) → bit_and S L ⊆ S
meet_part_left S L = has_part (bit_and S L) S (λ i h. (and_parts (has S i) (has L i) (sym (has_and S L i) ∙ h)).0)

pub rest_part : (L R : ℕ) → L ⊆ R → R - L ⊆ R
rest_part L R e = has_part (R - L) R (λ i h. (and_parts (has R i) (not (has L i)) (sym (has_rest L R i e) ∙ h)).0)

-- parts of disjoint sets are disjoint
pub parts_apart : (a b A B : ℕ) → a ⊆ A → b ⊆ B → bit_and A B ≡ 0 → bit_and a b ≡ 0
parts_apart a b A B p q e = has_apart a b (λ i h. out (has b i) (has B i) (part_has b B i q) (apart_has A B i e (part_has a A i p h)))
  where
    out : (x y : Bool) → (x ≡ true → y ≡ true) → y ≡ false → x ≡ false
    out true y f h = sym (f refl) ∙ h
    out false y f h = refl

shared : (s l r : Bool) → (s ≡ true → r ≡ true) → ((s && l) || (s && (r && not l))) ≡ s
shared true true r h = refl
shared true false true h = refl
shared true false false h = h refl
shared false l r h = refl

-- the tests of S, shared out to the two sides
pub tests_shared : (S L R : ℕ) → L ⊆ R → S ⊆ R → bit_and S L + bit_and S (R - L) ≡ S
tests_shared S L R e d =
    sym (or_disjoint a b (parts_apart a b L (R - L) (meet_part S L) (meet_part S (R - L)) (rest_apart L R e))) ∙ same_bits (bit_or a b) S bits
  where
    a : ℕ
    a = bit_and S L

    b : ℕ
    b = bit_and S (R - L)

    bits : (i : ℕ) → has (bit_or a b) i ≡ has S i
    bits i =
        has_or a b i ∙ ap₂ ◌||◌ (has_and S L i) (has_and S (R - L) i ∙ ap (λ (x : Bool). has S i && x) (has_rest L R i e))
        ∙ shared (has S i) (has L i) (has R i) (part_has S R i d)

-- ---- two disjoint sets put together

pub sum_part : (A B : ℕ) → bit_and A B ≡ 0 → A ⊆ A + B
sum_part A B e = has_part A (A + B) (λ i h. has_sum A B i e ∙ or_left (has A i) (has B i) h)

kept : (a b x y : Bool) → (a ≡ true → x ≡ true) → (b ≡ true → y ≡ true) → (x ≡ true → y ≡ false) → ((a || b) && x) ≡ a
kept true b x y f g h = f refl
kept false true true y f g h = sym (g refl) ∙ h refl
kept false true false y f g h = refl
kept false false x y f g h = refl

-- of the tests of both sides, those on the tables of one side are that side's
pub side_tests : (a b A B : ℕ) → a ⊆ A → b ⊆ B → bit_and A B ≡ 0 → bit_and (a + b) A ≡ a
side_tests a b A B p q e =
    same_bits (bit_and (a + b) A) a (λ i. has_and (a + b) A i ∙ ap (λ (x : Bool). x && has A i) (has_sum a b i (parts_apart a b A B p q e))
    ∙ kept (has a i) (has b i) (has A i) (has B i) (part_has a A i p) (part_has b B i q) (apart_has A B i e))

pub other_tests : (a b A B : ℕ) → a ⊆ A → b ⊆ B → bit_and A B ≡ 0 → bit_and (a + b) B ≡ b
other_tests a b A B p q e =
    ap (λ (n : ℕ). bit_and n B) (add_comm a b) ∙ side_tests b a B A q p (and_comm B A ∙ e)

-- a part of each of two disjoint sets
pub sum_parts : (a b A B : ℕ) → a ⊆ A → b ⊆ B → bit_and A B ≡ 0 → a + b ⊆ A + B
sum_parts a b A B p q e =
    has_part (a + b) (A + B) (λ i h. has_sum A B i e ∙ up i (or_cases (has a i) (has b i) (sym (has_sum a b i (parts_apart a b A B p q e)) ∙ h)))
  where
    up : (i : ℕ) → (has a i ≡ true) ⊎ (has b i ≡ true) → (has A i || has B i) ≡ true
    up i (inl h) = or_left (has A i) (has B i) (part_has a A i p h)
    up i (inr h) = or_right (has A i) (has B i) (part_has b B i q h)

-- ---- one more, one less

pub one_part : (S i : ℕ) → has S i ≡ true → 2 ^ i ⊆ S
one_part S i h = has_part (2 ^ i) S (λ j k. ap (has S) (sym (eqb-true i j (sym (has_pow i j) ∙ k))) ∙ h)

pub one_le : (S i : ℕ) → has S i ≡ true → 2 ^ i ≤ S
one_le S i h = part_le (2 ^ i) S (one_part S i h)

pub one_apart : (S i : ℕ) → has S i ≡ false → bit_and S (2 ^ i) ≡ 0
one_apart S i h = and_comm S (2 ^ i) ∙ has_apart (2 ^ i) S (λ j k. ap (has S) (sym (eqb-true i j (sym (has_pow i j) ∙ k))) ∙ h)

pub without : (S i : ℕ) → has S i ≡ true → has (S - 2 ^ i) i ≡ false
without S i h = has_rest (2 ^ i) S i (one_part S i h) ∙ cut (has (2 ^ i) i) (has S i) (has_pow_self i)

pub without_part : (S i : ℕ) → has S i ≡ true → S - 2 ^ i ⊆ S
without_part S i h = rest_part (2 ^ i) S (one_part S i h)

pub without_with : (S i : ℕ) → has S i ≡ true → (S - 2 ^ i) + 2 ^ i ≡ S
without_with S i h = omega (arith, one_le S i h)

pub one_more : (S i : ℕ) → has S i ≡ false → has (S + 2 ^ i) i ≡ true
one_more S i h = has_sum S (2 ^ i) i (one_apart S i h) ∙ or_right (has S i) (has (2 ^ i) i) (has_pow_self i)

pub one_more_part : (S R i : ℕ) → S ⊆ R → has R i ≡ true → has S i ≡ false → S + 2 ^ i ⊆ R
one_more_part S R i e h k =
    has_part (S + 2 ^ i) R (λ j q. pick j (or_cases (has S j) (has (2 ^ i) j) (sym (has_sum S (2 ^ i) j (one_apart S i k)) ∙ q)))
  where
    pick : (j : ℕ) → (has S j ≡ true) ⊎ (has (2 ^ i) j ≡ true) → has R j ≡ true
    pick j (inl g) = part_has S R j e g
    pick j (inr g) = part_has (2 ^ i) R j (one_part R i h) g

-- ---- the tests S on tables R, of which T have a test, where R is split into L and the others

below : (l r s t : Bool) → (s && not (s && l)) ≡ true → (s ≡ true → (r && t) ≡ true) → ((r && not l) && t) ≡ true
below true r true t h f = absurd (false≢true h)
below false true true t h f = f refl
below false false true t h f = f refl
below l r false t h f = absurd (false≢true h)

module _ (T R S L : ℕ) where
  -- those of the one side
  pub tests_part : S ⊆ bit_and R T → bit_and S L ⊆ bit_and L T
  tests_part w = has_part (bit_and S L) (bit_and L T) (λ i h.
      let both = and_parts (has S i) (has L i) (sym (has_and S L i) ∙ h) in
      has_and L T i ∙ and_from (has L i) (has T i) both.1 (and_parts (has R i) (has T i) (sym (has_and R T i) ∙ part_has S (bit_and R T) i w both.0)).1)

  -- and those of the other
  pub tests_rest : L ⊆ R → S ⊆ bit_and R T → S - bit_and S L ⊆ bit_and (R - L) T
  tests_rest p w = has_part (S - bit_and S L) (bit_and (R - L) T) (λ i h.
      has_and (R - L) T i ∙ ap (λ (b : Bool). b && has T i) (has_rest L R i p)
      ∙ below (has L i) (has R i) (has S i) (has T i)
      (ap (λ (b : Bool). has S i && not b) (sym (has_and S L i)) ∙ sym (has_rest (bit_and S L) S i (meet_part_left S L)) ∙ h)
      (λ s. sym (has_and R T i) ∙ part_has S (bit_and R T) i w s))
