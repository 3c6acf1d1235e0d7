-- The question that a list of calls gives.
use Rattle.std.specs.Prelude.{List, [], ◌∷◌, Ok, Err, Result}
use Rattle.plans.specs.Questions.{Question}
use Rattle.catalogue.specs.Changes.{tabled, tied, tested, corrected}
use Rattle.catalogue.specs.declared.refusals.ChangeRefusal.{ChangeRefusal}
use Rattle.planner.specs.Calls.{Call, add_table, set_tie, set_test, correct_test, solve_with, tell_into, check_plan}

-- A change that is refused changes nothing.
abbrev pub taken : Question → Result Question ChangeRefusal → Question
taken Q (Ok changed) = changed
taken Q (Err e) = Q

-- Only the first four calls change a question.
abbrev pub after_call : Question → Call → Question
after_call Q (add_table rows) = taken Q (tabled Q rows)
after_call Q (set_tie i j p q cost) = taken Q (tied Q i j p q cost)
after_call Q (set_test i p q cost kind) = taken Q (tested Q i p q cost kind)
after_call Q (correct_test i by) = taken Q (corrected Q i by)
after_call Q (solve_with prices sizes choices) = Q
after_call Q (tell_into buffer) = Q
after_call Q (check_plan bytes prices) = Q

-- What the accepted calls gave, one after another.
abbrev pub given_by : Question → List Call → Question
given_by Q [] = Q
given_by Q (c ∷ calls) = given_by (after_call Q c) calls
