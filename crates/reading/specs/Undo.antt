-- The law that reading and writing undo each other, and samples of both.
use Rattle.std.specs.Prelude.{◌≡◌, ℕ, ◌≤◌, List, length, ℤ, pos, negsuc, Ok, Err, codes}
use Rattle.reading.specs.declared.ReadingFault.TheVariants.{WrongForm}
use Rattle.reading.specs.Forms.{Reads, InRange}
use Rattle.reading.specs.Texts.{text}
use Rattle.reading.specs.Outcomes.{reading}

pub record Undo : Type 0 where
  -- `reading` answers Ok n just where the text is a reading of n
  pub sound : (t : List ℕ) (n : ℤ) → reading t ≡ Ok n → Reads t n
  pub complete : (t : List ℕ) (n : ℤ) → Reads t n → reading t ≡ Ok n
  -- the readings are the texts of the numbers in range
  pub in_range : (t : List ℕ) (n : ℤ) → Reads t n → InRange n
  pub is_text : (t : List ℕ) (n : ℤ) → Reads t n → t ≡ text n
  pub has_text : (n : ℤ) → InRange n → Reads (text n) n
  pub read_back : (n : ℤ) → InRange n → reading (text n) ≡ Ok n
  pub five_to_seven : (t : List ℕ) (n : ℤ) → Reads t n → (5 ≤ length t) × (length t ≤ 7)
  -- each text has one number, and each number one text
  pub same_number : (t : List ℕ) (m n : ℤ) → Reads t m → Reads t n → m ≡ n
  pub same_text : (t u : List ℕ) (n : ℤ) → Reads t n → Reads u n → t ≡ u

-- -0.250 keeps its minus, and zero has none
pub record Samples : Type 0 where
  pub zero : reading (codes "0.000") ≡ Ok (pos 0)
  pub minus_quarter : reading (codes "-0.250") ≡ Ok (negsuc 249)
  pub greatest : reading (codes "99.999") ≡ Ok (pos 99_999)
  pub least : reading (codes "-99.999") ≡ Ok (negsuc 99_998)
  pub minus_zero : reading (codes "-0.000") ≡ Err WrongForm
  pub needless_zero : reading (codes "05.000") ≡ Err WrongForm
  pub quarter_text : text (negsuc 249) ≡ codes "-0.250"
