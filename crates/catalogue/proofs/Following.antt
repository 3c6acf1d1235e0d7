-- A change that is not refused.
use Rattle.std.proofs.Common.{◌≡◌, ℕ, ◌<◌, ◌≤◌, ◌≢◌, false, is_some, Some, Ok, ℤ, pos, ◌+ℤ◌, arith}
use Rattle.std.proofs.lemmas.Bool.{ne_eqb}
use Rattle.std.proofs.lemmas.Bool.Decides.{nat_tests}
use Rattle.pricing.specs.Kinds.{kind_of}
use Rattle.pricing.specs.declared.kinds.Kind.{Kind}
use Rattle.plans.specs.Questions.{Question, tie_of}
use Rattle.plans.specs.declared.predicates.Test.{Test}
use Rattle.catalogue.specs.Changes.{Follows, as_cost, bad_selectivity, corrected, missing, tested, tied, with_test, with_tie}

given : (Q : Question) (a : ℕ) → a < Q.count → missing Q a ≡ false
given Q a l = grind (arith, nat_tests)

good : (p q : ℕ) → q ≢ 0 → p ≤ q → bad_selectivity p q ≡ false
good p q some part = grind (arith, nat_tests)

pub tested_follows : (Q W : Question) (a p q cost kind : ℕ) (k : Kind) → a < Q.count → q ≢ 0 → p ≤ q → kind_of kind ≡ Some k → is_some (Q.test a) ≡ false
    → W ≡ with_test Q a (record { p = p; q = q; cost = cost; kind = k }) → Follows (tested Q a p q cost kind) Q (Ok (tt {0})) W
tested_follows Q W a p q cost kind k l some part is none e = rw (given Q a l, good p q some part, is, none) e

pub tied_follows : (Q W : Question) (a b p q cost : ℕ) → a < Q.count → b < Q.count → a ≢ b → q ≢ 0 → p ≤ q → is_some (tie_of Q a b) ≡ false
    → W ≡ with_tie Q a b (record { p = p; q = q; cost = cost }) → Follows (tied Q a b p q cost) Q (Ok (tt {0})) W
tied_follows Q W a b p q cost l m apart some part none e = rw (given Q a l, given Q b m, ne_eqb a b apart, good p q some part, none) e

pub corrected_follows : (Q W : Question) (a : ℕ) (by : ℤ) (t : Test) (cost : ℕ) → a < Q.count → Q.test a ≡ Some t → as_cost (pos t.cost +ℤ by) ≡ Some cost
    → W ≡ with_test Q a (record { p = t.p; q = t.q; cost = cost; kind = t.kind }) → Follows (corrected Q a by) Q (Ok (tt {0})) W
corrected_follows Q W a by t cost l some is e = rw (given Q a l, some, is) e
