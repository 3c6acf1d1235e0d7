-- Codes that are no choice of a row.
use Rattle.std.proofs.Common.{◌≡◌, ℕ, ◌+◌, ◌<◌, ◌≤◌, arith}
use Rattle.readoff.specs.Leads.{Joined}
use Rattle.readoff.specs.Choices.{Nothing}
use Rattle.readoff.proofs.Leading.{small_member}

pub zero_nothing : (code R S : ℕ) → code ≡ 0 → Nothing code R S
zero_nothing code R S e = record {
  no_table = λ i b. omega (arith, b.chosen);
  no_test = λ i t. omega (arith, t.chosen);
  no_join = λ L j. omega (arith, j.chosen);
}

pub no_test_code : (code R S : ℕ) → S < 1024 → 266 ≤ code → code < 4096 → Nothing code R S
no_test_code code R S few low high = record {
  no_table = λ i b. omega (arith, b.chosen);
  no_test = λ i t. omega (arith, t.chosen, small_member S i few t.there);
  no_join = λ L j. omega (arith, j.chosen);
}

pub no_join_code : (code R S L : ℕ) → S < 1024 → code ≡ 4096 + L → (Joined code R L → ⊥) → Nothing code R S
no_join_code code R S L few e n = record {
  no_table = λ i b. omega (arith, b.chosen);
  no_test = λ i t. omega (arith, t.chosen, small_member S i few t.there);
  no_join = λ M j. let same : M ≡ L = omega (arith, j.chosen) in n (rw same at j);
}
