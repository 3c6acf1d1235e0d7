-- The two kinds of test, by number.
use Rattle.std.specs.Prelude.{◌≡◌, ℕ, zero, suc, Some, None, Option, Result, MatchResult}
use Rattle.pricing.specs.declared.kinds.Kind.{Kind}
use Rattle.pricing.specs.declared.kinds.NoSuchKind.{NoSuchKind}
use Rattle.pricing.specs.declared.kinds.Kind.TheVariants.{Look, Fetch}

abbrev pub kind_number : Kind → ℕ
kind_number Look = 0
kind_number Fetch = 1

-- The kind that has this number, if one has.
abbrev pub kind_of : ℕ → Option Kind
kind_of zero = Some Look
kind_of (suc zero) = Some Fetch
kind_of (suc (suc n)) = None

-- What reading a number as a kind answers: the kind that has it, or the number itself if none has.
abbrev pub NumberOf : ℕ → Result Kind NoSuchKind → Type 0
NumberOf number answer = MatchResult answer (λ kind. kind_of number ≡ Some kind) (λ fault. (kind_of number ≡ None) × (fault.0 ≡ number))
