-- The lines of an input, and the bytes of a line.
use Rattle.std.specs.Prelude.{ℕ, ◌+◌, ◌-◌, ◌*◌, Bool, true, false, cond, ◌&&◌, List, [], ◌∷◌, length, Some, None, Option, ◌==◌, nat_le}

-- the characters of a line before its 0A, and whether a 0A ended it
pub record PlainLine : Type 0 where
  pub characters : List ℕ
  pub ended : Bool

abbrev pub line : List ℕ → Bool → PlainLine
line characters ended = record { characters = characters; ended = ended }

-- a character in front of the first line; alone it is a line that is not ended
abbrev pub longer : ℕ → List PlainLine → List PlainLine
longer c [] = line (c ∷ []) false ∷ []
longer c (l ∷ ls) = line (c ∷ l.characters) l.ended ∷ ls

-- a character before the lines that follow it: 0A ends a line, any other belongs to the first of them
abbrev pub before : ℕ → List PlainLine → List PlainLine
before c ls = cond (c == 10) (line [] true ∷ ls) (longer c ls)

-- the lines of an input: what follows the last 0A is a line that is not ended
unfoldable pub lines_of : List ℕ → List PlainLine
lines_of [] = []
lines_of (c ∷ cs) = before c (lines_of cs)

-- the value of a character: 0-9 are 48 to 57, A-F are 65 to 70
abbrev pub digit_value : ℕ → Option ℕ
digit_value c =
    cond (nat_le 48 c && nat_le c 57) (Some (c - 48))
    (cond (nat_le 65 c && nat_le c 70) (Some (c - 65 + 10))
    None)

abbrev pub pair_value : Option ℕ → Option ℕ → Option ℕ
pair_value (Some h) (Some l) = Some (h * 16 + l)
pair_value (Some h) None = None
pair_value None (Some l) = None
pair_value None None = None

-- the byte that a pair of characters is
abbrev pub byte_value : ℕ → ℕ → Option ℕ
byte_value h l = pair_value (digit_value h) (digit_value l)

-- a byte before those that follow, if all are bytes
abbrev pub byte_before : Option ℕ → Option (List ℕ) → Option (List ℕ)
byte_before (Some b) (Some bs) = Some (b ∷ bs)
byte_before (Some b) None = None
byte_before None (Some bs) = None
byte_before None None = None

-- the bytes of characters that are pairs to the last
unfoldable pub pairs : List ℕ → Option (List ℕ)
pairs [] = Some []
pairs (c ∷ []) = None
pairs (h ∷ l ∷ cs) = byte_before (byte_value h l) (pairs cs)

-- the bytes of a line: at least one pair, and 0A at the end
abbrev pub frame_bytes : PlainLine → Option (List ℕ)
frame_bytes l = cond (l.ended && nat_le 1 (length l.characters)) (pairs l.characters) None
