-- What writing leaves in a buffer.
use Rattle.std.specs.Prelude.{◌≡◌, ℕ, ◌+◌, ◌<◌, ◌≤◌, List, ◌++◌, length, take, drop, Option, MatchOption}

-- The bytes stand from `at` to `end`, and the rest is as it was.
pub record Put (before after : List ℕ) (at end : ℕ) (bytes : List ℕ) : Type 0 where
  pub ends : end ≡ at + length bytes
  pub room : end ≤ length before
  pub holds : after ≡ (take at before ++ bytes) ++ drop end before

-- There is no room for the bytes from `at` on, and nothing is written.
pub record NoRoom (before after : List ℕ) (at : ℕ) (bytes : List ℕ) : Type 0 where
  pub short : length before < at + length bytes
  pub same : after ≡ before

abbrev pub PutOrNot : (before after : List ℕ) (at : ℕ) (bytes : List ℕ) → Option ℕ → Type 0
PutOrNot before after at bytes answer = MatchOption answer (NoRoom before after at bytes) (λ end. Put before after at end bytes)
