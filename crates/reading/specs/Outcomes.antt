-- What `read` answers for each text, and what `write` answers and leaves in the buffer.
use Rattle.std.specs.Prelude.{◌≡◌, ℕ, ◌-◌, ◌<◌, ◌≤◌, Bool, true, cond, not, ◌&&◌, List, [], ◌∷◌, ◌++◌, length, take, drop, ℤ, pos, neg_ℤ, Ok, Err, Result, ◌==◌, nat_le, slice_index}
use Rattle.reading.specs.declared.ReadingFault.{ReadingFault}
use Rattle.reading.specs.declared.ReadingFault.TheVariants.{WrongForm}
use Rattle.reading.specs.declared.WriteRefusal.{WriteRefusal}
use Rattle.reading.specs.declared.WriteRefusal.TheVariants.{BeyondRange, BufferTooShort}
use Rattle.reading.specs.Forms.{value, Reads, InRange}
use Rattle.reading.specs.Texts.{text}

abbrev pub is_digit : ℕ → Bool
is_digit c = nat_le 48 c && nat_le c 57

abbrev pub are_digits : List ℕ → Bool
are_digits [] = true
are_digits (c ∷ cs) = is_digit c && are_digits cs

-- the value of one digit
abbrev pub digit_value : ℕ → Result ℕ ReadingFault
digit_value c = cond (is_digit c) (Ok (c - 48)) (Err WrongForm)

-- the value of characters that are all digits
abbrev pub digits_value : List ℕ → Result ℕ ReadingFault
digits_value cs = cond (are_digits cs) (Ok (value cs)) (Err WrongForm)

-- a digit, a point (46) and three digits
abbrev pub five_characters : (a p x y z : ℕ) → Result ℕ ReadingFault
five_characters a p x y z = cond (p == 46) (digits_value (a ∷ x ∷ y ∷ z ∷ [])) (Err WrongForm)

-- two digits, of which the first is not '0' (48), a point and three digits
abbrev pub six_characters : (a b p x y z : ℕ) → Result ℕ ReadingFault
six_characters a b p x y z = cond (not (a == 48) && p == 46) (digits_value (a ∷ b ∷ x ∷ y ∷ z ∷ [])) (Err WrongForm)

-- a reading without its sign
abbrev pub unsigned_reading : List ℕ → Result ℕ ReadingFault
unsigned_reading t =
    cond (length t == 5) (five_characters (slice_index t 0) (slice_index t 1) (slice_index t 2) (slice_index t 3) (slice_index t 4))
    (cond (length t == 6) (six_characters (slice_index t 0) (slice_index t 1) (slice_index t 2) (slice_index t 3) (slice_index t 4) (slice_index t 5))
    (Err WrongForm))

abbrev pub plain : Result ℕ ReadingFault → Result ℤ ReadingFault
plain (Ok m) = Ok (pos m)
plain (Err e) = Err e

-- zero has no minus
abbrev pub negative : Result ℕ ReadingFault → Result ℤ ReadingFault
negative (Ok m) = cond (m == 0) (Err WrongForm) (Ok (neg_ℤ (pos m)))
negative (Err e) = Err e

-- a minus is 45
abbrev pub reading : List ℕ → Result ℤ ReadingFault
reading t = cond (slice_index t 0 == 45) (negative (unsigned_reading (drop 1 t))) (plain (unsigned_reading t))

-- an answer means that the text is a reading of that number, and a fault that it is a reading of no number
abbrev pub Meant : List ℕ → Result ℤ ReadingFault → Type 0
Meant t (Ok n) = Reads t n
Meant t (Err e) = (n : ℤ) → Reads t n → ⊥

-- a text was to be put at the front of a buffer: the answers, each with when it comes and what the buffer holds after
abbrev pub Placed : (t before after : List ℕ) → Result ℕ WriteRefusal → Type 0
Placed t before after (Ok k) = (k ≡ length t) × (k ≤ length before) × (after ≡ t ++ drop k before)
Placed t before after (Err BufferTooShort) = (length before < length t) × (after ≡ before)
Placed t before after (Err BeyondRange) = ⊥

-- the same of the text of n, which only a number in range has
abbrev pub Written : ℤ → (before after : List ℕ) → Result ℕ WriteRefusal → Type 0
Written n before after (Ok k) = InRange n × Placed (text n) before after (Ok k)
Written n before after (Err BufferTooShort) = InRange n × Placed (text n) before after (Err BufferTooShort)
Written n before after (Err BeyondRange) = (InRange n → ⊥) × (after ≡ before)

-- what was written at the front of the buffer is a reading of n
abbrev pub ReadsBack : ℤ → (after : List ℕ) → Result ℕ WriteRefusal → Type 0
ReadsBack n after (Ok k) = Reads (take k after) n
ReadsBack n after (Err e) = Unit {0}
