-- The recurrence gives what it should.
use Rattle.plans.specs.Questions.{Question}
use Rattle.pricing.specs.Models.{Model, Lawful}
use Rattle.plans.specs.Statement.{Planned}
use Rattle.plans.proofs.Optimal
use Rattle.plans.proofs.Ties

pub planned : {P : Type 0} (m : Model P) → Lawful m → (Q : Question) → Planned m Q
planned m laws Q = record {
  sound = Optimal.sound m Q;
  complete = Optimal.complete m Q laws;
  cheapest = Optimal.cheapest m Q laws;
  past_all = Optimal.past_all m Q laws;
  left_part = Optimal.left_part m Q;
  right_part = Optimal.right_part m Q;
  tested_part = Optimal.tested_part m Q;
  first_join = Ties.first_join m Q laws;
  joins_dearer = Ties.joins_dearer m Q laws;
  first_test = Ties.first_test m Q laws;
}
