-- Readings without their sign, as characters that are written out.
use Rattle.std.proofs.Common.{◌≡◌, ℕ, ◌+◌, ◌*◌, ◌/◌, ◌%◌, ◌≤◌, Bool, true, false, cond, not, ◌&&◌, eqb, leb, List, [], ◌∷◌, length, get_or, Ok, Err, Result, sym, refl, ap, ◌∙◌, ⊎_elim, arith}
use Rattle.std.specs.List.{AllByRecursion}
use Rattle.std.proofs.lemmas.Bool.{cases_Bool, cases_eq, eqb-true, eqb-false, eq-eqb, ne_eqb, leb-true, le-leb, and_parts, and_from, not-true}
use Rattle.reading.specs.declared.ReadingFault.{ReadingFault}
use Rattle.reading.specs.declared.ReadingFault.TheVariants.{WrongForm}
use Rattle.reading.specs.Forms.{Digit, value}
use Rattle.reading.specs.Texts.{last_digit, five_digits, laid}
use Rattle.reading.specs.Outcomes.{are_digits, digits_value, five_characters, six_characters, unsigned_reading}
use Rattle.reading.proofs.Lists.{by_elements}

-- the text u is a reading without a sign, of m thousandths
pub data Unsigned : List ℕ → ℕ → Type 0 where
  one : {a x y z m : ℕ} → AllByRecursion Digit (a ∷ x ∷ y ∷ z ∷ []) → m ≡ value (a ∷ x ∷ y ∷ z ∷ []) → Unsigned (a ∷ 46 ∷ x ∷ y ∷ z ∷ []) m
  two : {a b x y z m : ℕ} → AllByRecursion Digit (a ∷ b ∷ x ∷ y ∷ z ∷ []) → (a ≡ 48 → ⊥) → m ≡ value (a ∷ b ∷ x ∷ y ∷ z ∷ []) → Unsigned (a ∷ b ∷ 46 ∷ x ∷ y ∷ z ∷ []) m

digits_from : (cs : List ℕ) → are_digits cs ≡ true → AllByRecursion Digit cs
digits_from [] e = tt
digits_from (c ∷ cs) e =
    let p = and_parts (leb 48 c && leb c 57) (are_digits cs) e in
    let q = and_parts (leb 48 c) (leb c 57) p.0 in
    ((leb-true 48 c q.0, leb-true c 57 q.1), digits_from cs p.1)

are_digits_from : (cs : List ℕ) → AllByRecursion Digit cs → are_digits cs ≡ true
are_digits_from [] h = refl
are_digits_from (c ∷ cs) h =
    and_from (leb 48 c && leb c 57) (are_digits cs)
    (and_from (leb 48 c) (leb c 57) (le-leb 48 c h.0.0) (le-leb c 57 h.0.1))
    (are_digits_from cs h.1)

pub err_is_no_ok : {X : Type 0} (f : ReadingFault) (x : X) → Err f ≡ Ok x → ⊥
err_is_no_ok f x e = let z : ◌≡◌ {A = ℕ} 0 1 = cc in omega arith

-- a test that was passed
passed : (b : Bool) (r : Result ℕ ReadingFault) (m : ℕ) → cond b r (Err WrongForm) ≡ Ok m → (b ≡ true) × (r ≡ Ok m)
passed true r m e = (refl, e)
passed false r m e = absurd (err_is_no_ok WrongForm m e)

counted : (cs : List ℕ) (m : ℕ) → digits_value cs ≡ Ok m → AllByRecursion Digit cs × (m ≡ value cs)
counted cs m e = let p = passed (are_digits cs) (Ok (value cs)) m e in (digits_from cs p.0, let q = p.1 in cc)

-- `unsigned-reading` answers Ok m just where the text is a reading of m
one_from : (a p x y z m : ℕ) → five_characters a p x y z ≡ Ok m → Unsigned (a ∷ p ∷ x ∷ y ∷ z ∷ []) m
one_from a p x y z m e =
    let q = passed (eqb p 46) (digits_value (a ∷ x ∷ y ∷ z ∷ [])) m e in
    let v = counted (a ∷ x ∷ y ∷ z ∷ []) m q.1 in
    rw (eqb-true p 46 q.0) (one v.0 v.1)

two_from : (a b p x y z m : ℕ) → six_characters a b p x y z ≡ Ok m → Unsigned (a ∷ b ∷ p ∷ x ∷ y ∷ z ∷ []) m
two_from a b p x y z m e =
    let q = passed (not (eqb a 48) && eqb p 46) (digits_value (a ∷ b ∷ x ∷ y ∷ z ∷ [])) m e in
    let k = and_parts (not (eqb a 48)) (eqb p 46) q.0 in
    let v = counted (a ∷ b ∷ x ∷ y ∷ z ∷ []) m q.1 in
    rw (eqb-true p 46 k.1) (two v.0 (eqb-false a 48 (not-true (eqb a 48) k.0)) v.1)

pub unsigned_sound : (t : List ℕ) (m : ℕ) → unsigned_reading t ≡ Ok m → Unsigned t m
unsigned_sound t m e =
    ⊎_elim
    (λ (five : eqb (length t) 5 ≡ true).
    by_elements (λ u. Unsigned u m) 5 t (eqb-true (length t) 5 five) (one_from _ _ _ _ _ m (rw five at e)))
    (λ (other : eqb (length t) 5 ≡ false).
    let p = passed (eqb (length t) 6) (six_characters (get_or t 0 0) (get_or t 1 0) (get_or t 2 0) (get_or t 3 0) (get_or t 4 0) (get_or t 5 0)) m (rw other at e) in
    by_elements (λ u. Unsigned u m) 6 t (eqb-true (length t) 6 p.0) (two_from _ _ _ _ _ _ m p.1))
    (cases_Bool (eqb (length t) 5))

pub unsigned_complete : {t : List ℕ} {m : ℕ} → Unsigned t m → unsigned_reading t ≡ Ok m
unsigned_complete (one {a} {x} {y} {z} h e) = rw (are_digits_from (a ∷ x ∷ y ∷ z ∷ []) h) (ap Ok (sym e))
unsigned_complete (two {a} {b} {x} {y} {z} h n e) = rw (ne_eqb a 48 n, are_digits_from (a ∷ b ∷ x ∷ y ∷ z ∷ []) h) (ap Ok (sym e))

pub unsigned_first : {t : List ℕ} {m : ℕ} → Unsigned t m → 48 ≤ get_or t 0 0
unsigned_first (one h e) = h.0.0
unsigned_first (two h n e) = h.0.0

pub unsigned_length : {t : List ℕ} {m : ℕ} → Unsigned t m → (5 ≤ length t) × (length t ≤ 6)
unsigned_length (one h e) = omega arith
unsigned_length (two h n e) = omega arith

pub unsigned_bound : {t : List ℕ} {m : ℕ} → Unsigned t m → m ≤ 99_999
unsigned_bound (one h e) = omega arith
unsigned_bound (two h n e) = omega arith

-- the digits of a number are those that it was made of
places : (a b x y z m : ℕ) → AllByRecursion Digit (a ∷ b ∷ x ∷ y ∷ z ∷ []) → m ≡ value (a ∷ b ∷ x ∷ y ∷ z ∷ []) → five_digits m ≡ a ∷ b ∷ x ∷ y ∷ z ∷ []
places a b x y z m h e =
    let ea : 48 + m / 10_000 % 10 ≡ a = omega arith in
    let eb : 48 + m / 1_000 % 10 ≡ b = omega arith in
    let ex : 48 + m / 100 % 10 ≡ x = omega arith in
    let ey : 48 + m / 10 % 10 ≡ y = omega arith in
    let ez : 48 + m % 10 ≡ z = omega arith in
    cc

pub unsigned_is_text : {t : List ℕ} {m : ℕ} → Unsigned t m → t ≡ laid false (five_digits m)
unsigned_is_text (one {a} {x} {y} {z} {m} h e) = sym (ap (laid false) (places 48 a x y z m (omega arith) e))
unsigned_is_text (two {a} {b} {x} {y} {z} {m} h n e) = sym (ap (laid false) (places a b x y z m h e) ∙ rw (ne_eqb a 48 n))

-- and a number is made of its digits
remade : (m : ℕ) → m ≤ 99_999 → m ≡ value (five_digits m)
remade m h =
    let a : m % 10 + 10 * (m / 10) ≡ m = omega arith in
    let b : m / 10 % 10 + 10 * (m / 100) ≡ m / 10 = omega arith in
    let c : m / 100 % 10 + 10 * (m / 1_000) ≡ m / 100 = omega arith in
    let d : m / 1_000 % 10 + 10 * (m / 10_000) ≡ m / 1_000 = omega arith in
    let e : m / 10_000 % 10 ≡ m / 10_000 = omega arith in
    omega arith

pub unsigned_has_text : (m : ℕ) → m ≤ 99_999 → Unsigned (laid false (five_digits m)) m
unsigned_has_text m h =
    let digits : AllByRecursion Digit (five_digits m) = omega arith in
    ⊎_elim
    (λ (w : last_digit (m / 10_000) ≡ 48).
    rw (eq-eqb (last_digit (m / 10_000)) 48 w) (one {m = m} digits.1 (rw w at (remade m h))))
    (λ (w : last_digit (m / 10_000) ≡ 48 → ⊥).
    rw (ne_eqb (last_digit (m / 10_000)) 48 w) (two {m = m} digits w (remade m h)))
    (cases_eq (last_digit (m / 10_000)) 48)
