-- Reading and writing undo each other.
use Rattle.std.proofs.Common.{◌≡◌, ℕ, zero, suc, ◌≤◌, Bool, true, false, eqb, List, [], ◌∷◌, ◌++◌, length, get_or, ℤ, pos, negsuc, neg_ℤ, Ok, Err, Result, sym, refl, ap, ◌∙◌, inl, inr, ⊎_elim, arith}
use Rattle.std.specs.List.{AllByRecursion}
use Rattle.std.proofs.lemmas.Int.{ints}
use Rattle.std.proofs.lemmas.Bool.{false≢true, cases_Bool, eqb-true, eqb-false, ne_eqb}
use Rattle.reading.specs.declared.ReadingFault.{ReadingFault}
use Rattle.reading.specs.declared.ReadingFault.TheVariants.{WrongForm}
use Rattle.reading.specs.Forms.{Digit, Reads, InRange, sign, signed, point, value}
use Rattle.reading.specs.Texts.{five_digits, laid, text}
use Rattle.reading.specs.Outcomes.{unsigned_reading, plain, negative, reading, Meant}
use Rattle.reading.specs.Undo.{Undo}
use Rattle.reading.proofs.Lists.{by_elements}
use Rattle.reading.proofs.Unsigned.{Unsigned, one, two, err_is_no_ok, unsigned_sound, unsigned_complete, unsigned_first, unsigned_length, unsigned_bound, unsigned_is_text, unsigned_has_text}

-- a reading is a sign before a reading without one
reads_from : (minus : Bool) {u : List ℕ} {m : ℕ} (n : ℤ) → Unsigned u m → n ≡ signed minus m → (minus ≡ true → n ≡ pos 0 → ⊥) → Reads (sign minus ++ u) n
reads_from minus n (one {a} {x} {y} {z} h e) f k =
    record {
      minus = minus;
      whole = a ∷ [];
      fraction = x ∷ y ∷ z ∷ [];
      parts = refl;
      whole_digits = (h.0, tt);
      one_or_two = inl refl;
      no_needless_zero = λ l. absurd (omega arith);
      fraction_digits = h.1;
      three = refl;
      number = f ∙ ap (signed minus) e;
      no_minus_on_zero = k;
    }
reads_from minus n (two {a} {b} {x} {y} {z} h w e) f k =
    record {
      minus = minus;
      whole = a ∷ b ∷ [];
      fraction = x ∷ y ∷ z ∷ [];
      parts = refl;
      whole_digits = (h.0, (h.1.0, tt));
      one_or_two = inr refl;
      no_needless_zero = λ _. w;
      fraction_digits = h.1.1;
      three = refl;
      number = f ∙ ap (signed minus) e;
      no_minus_on_zero = k;
    }

one_whole : (whole : List ℕ) (x y z : ℕ) → length whole ≡ 1 → AllByRecursion Digit whole → AllByRecursion Digit (x ∷ y ∷ z ∷ []) → Unsigned (whole ++ (46 ∷ x ∷ y ∷ z ∷ [])) (value (whole ++ (x ∷ y ∷ z ∷ [])))
one_whole whole x y z l h k =
    by_elements (λ w. AllByRecursion Digit w → Unsigned (w ++ (46 ∷ x ∷ y ∷ z ∷ [])) (value (w ++ (x ∷ y ∷ z ∷ [])))) 1 whole l (λ d. one (d.0, k) refl) h

two_whole : (whole : List ℕ) (x y z : ℕ) → length whole ≡ 2 → AllByRecursion Digit whole → (get_or whole 0 0 ≡ 48 → ⊥) → AllByRecursion Digit (x ∷ y ∷ z ∷ []) → Unsigned (whole ++ (46 ∷ x ∷ y ∷ z ∷ [])) (value (whole ++ (x ∷ y ∷ z ∷ [])))
two_whole whole x y z l h n k =
    by_elements (λ w. AllByRecursion Digit w → (get_or w 0 0 ≡ 48 → ⊥) → Unsigned (w ++ (46 ∷ x ∷ y ∷ z ∷ [])) (value (w ++ (x ∷ y ∷ z ∷ [])))) 2 whole l
    (λ d f. two (d.0, (d.1.0, k)) f refl) h n

unsigned_from : {t : List ℕ} {n : ℤ} (r : Reads t n) → Unsigned (r.whole ++ (point ++ r.fraction)) (value (r.whole ++ r.fraction))
unsigned_from r =
    by_elements (λ f. AllByRecursion Digit f → Unsigned (r.whole ++ (point ++ f)) (value (r.whole ++ f))) 3 r.fraction r.three
    (λ k. ⊎_elim
    (λ l. one_whole r.whole _ _ _ l r.whole_digits k)
    (λ l. two_whole r.whole _ _ _ l r.whole_digits (r.no_needless_zero l) k)
    r.one_or_two)
    r.fraction_digits

-- what `reading` answers, by the sign
plain_from : (r : Result ℕ ReadingFault) (n : ℤ) → plain r ≡ Ok n → (m : ℕ) × (r ≡ Ok m) × (n ≡ pos m)
plain_from (Ok m) n e = (m, refl, (cc))
plain_from (Err x) n e = absurd (err_is_no_ok x n e)

negative_from : (r : Result ℕ ReadingFault) (n : ℤ) → negative r ≡ Ok n → (m : ℕ) × (r ≡ Ok m) × (n ≡ neg_ℤ (pos m)) × (m ≡ 0 → ⊥)
negative_from (Ok m) n e =
    ⊎_elim
    (λ (z : eqb m 0 ≡ true). absurd (err_is_no_ok WrongForm n (rw z at e)))
    (λ (z : eqb m 0 ≡ false). let f = rw z at e in (m, refl, (cc), eqb-false m 0 z))
    (cases_Bool (eqb m 0))
negative_from (Err x) n e = absurd (err_is_no_ok x n e)

-- a negative of what is not zero is not zero
not_zero : (m : ℕ) (n : ℤ) → (m ≡ 0 → ⊥) → n ≡ neg_ℤ (pos m) → n ≡ pos 0 → ⊥
not_zero m n h e z = omega (arith, ints)

sound : (t : List ℕ) (n : ℤ) → reading t ≡ Ok n → Reads t n
sound [] n e = absurd (err_is_no_ok WrongForm n e)
sound (c ∷ cs) n e =
    ⊎_elim
    (λ (k : eqb c 45 ≡ true).
    let p = negative_from (unsigned_reading cs) n (rw k at e) in
    rw (eqb-true c 45 k) (reads_from true n (unsigned_sound cs p.0 p.1) p.2 (λ _. not_zero p.0 n p.3 p.2)))
    (λ (k : eqb c 45 ≡ false).
    let p = plain_from (unsigned_reading (c ∷ cs)) n (rw k at e) in
    reads_from false n (unsigned_sound (c ∷ cs) p.0 p.1) p.2 (λ f. absurd (false≢true f)))
    (cases_Bool (eqb c 45))

nonzero : (m : ℕ) (n : ℤ) → n ≡ neg_ℤ (pos m) → (n ≡ pos 0 → ⊥) → m ≡ 0 → ⊥
nonzero m n e k z = omega (arith, ints)

complete_at : (minus : Bool) {u : List ℕ} {m : ℕ} (n : ℤ) → Unsigned u m → n ≡ signed minus m → (minus ≡ true → n ≡ pos 0 → ⊥) → reading (sign minus ++ u) ≡ Ok n
complete_at true {u} {m} n h e k = rw (unsigned_complete h, ne_eqb m 0 (nonzero m n e (k refl))) (ap Ok (sym e))
complete_at false {u} {m} n h e k =
    let first : get_or u 0 0 ≡ 45 → ⊥ = λ f. omega (arith, unsigned_first h) in
    rw (ne_eqb (get_or u 0 0) 45 first, unsigned_complete h) (ap Ok (sym e))

complete : (t : List ℕ) (n : ℤ) → Reads t n → reading t ≡ Ok n
complete t n r = ap reading r.parts ∙ complete_at r.minus n (unsigned_from r) r.number r.no_minus_on_zero

range_at : (minus : Bool) (m : ℕ) (n : ℤ) → m ≤ 99_999 → n ≡ signed minus m → InRange n
range_at true m n h e = omega (arith, ints)
range_at false m n h e = omega (arith, ints)

in_range : (t : List ℕ) (n : ℤ) → Reads t n → InRange n
in_range t n r = range_at r.minus (value (r.whole ++ r.fraction)) n (unsigned_bound (unsigned_from r)) r.number

text_at : (minus : Bool) (m : ℕ) (n : ℤ) → n ≡ signed minus m → (minus ≡ true → n ≡ pos 0 → ⊥) → sign minus ++ laid false (five_digits m) ≡ text n
text_at true zero n e k = absurd (k refl e)
text_at true (suc m) n e k = ap text (sym e)
text_at false m n e k = ap text (sym e)

is_text : (t : List ℕ) (n : ℤ) → Reads t n → t ≡ text n
is_text t n r =
    r.parts ∙ ap (λ u. sign r.minus ++ u) (unsigned_is_text (unsigned_from r)) ∙ text_at r.minus (value (r.whole ++ r.fraction)) n r.number r.no_minus_on_zero

has_text : (n : ℤ) → InRange n → Reads (text n) n
has_text (pos m) h = reads_from false (pos m) (unsigned_has_text m (omega (arith, ints))) refl (λ f. absurd (false≢true f))
has_text (negsuc m) h = reads_from true (negsuc m) (unsigned_has_text (suc m) (omega (arith, ints))) refl (λ _ f. omega (arith, ints))

length_at : (minus : Bool) (u : List ℕ) → (5 ≤ length u) × (length u ≤ 6) → (5 ≤ length (sign minus ++ u)) × (length (sign minus ++ u) ≤ 7)
length_at true u h = omega arith
length_at false u h = omega arith

five_to_seven : (t : List ℕ) (n : ℤ) → Reads t n → (5 ≤ length t) × (length t ≤ 7)
five_to_seven t n r = rw r.parts (length_at r.minus (r.whole ++ (point ++ r.fraction)) (unsigned_length (unsigned_from r)))

same_number : (t : List ℕ) (m n : ℤ) → Reads t m → Reads t n → m ≡ n
same_number t m n a b = let p = complete t m a in let q = complete t n b in cc

pub undo : Undo
undo =
    record {
      sound = sound;
      complete = complete;
      in_range = in_range;
      is_text = is_text;
      has_text = has_text;
      read_back = λ n h. complete (text n) n (has_text n h);
      five_to_seven = five_to_seven;
      same_number = same_number;
      same_text = λ t u n a b. is_text t n a ∙ sym (is_text u n b);
    }

-- what an answer of `reading` means
pub meant : (t : List ℕ) (r : Result ℤ ReadingFault) → r ≡ reading t → Meant t r
meant t (Ok n) e = sound t n (sym e)
meant t (Err x) e = λ n h. err_is_no_ok x n (e ∙ complete t n h)
