use Rattle.std.proofs.Common.{◌<◌, ◌≤◌, [], ◌∷◌, ◌++◌, length, get_or, take, sym, ap, ◌∙◌, append_assoc, append-nil, arith, rules}
use Rattle.checker.proofs.Pairs.{rest_of, two_first}
use Rattle.frames.specs.Hexadecimal.{hex_line}
use Rattle.program.specs.Outputs.{pair_lines}
use Rattle.program.proofs.LinesPut.{pairs_end, pairs_two}
use Rattle.program.proofs.writing.put_pairs.Goals as goal

pub loop-left-preserved : goal.loop-left-preserved
loop-left-preserved c =
    let left = c.loop-left.left.now in
    let q = c.loop-left.output in
    let two : 2 ≤ length left = search rules in (
      omega (arith, c.line.ensures.length, c.loop-left.invariant.0, ap length (two_first left two)),
      ap (λ bs. bs ++ pair_lines (rest_of left)) c.line.ensures.text ∙ append_assoc (take q.len q.bytes) (hex_line (get_or left 0 0 ∷ get_or left 1 0 ∷ [])) (pair_lines (rest_of left))
          ∙ ap (λ bs. take q.len q.bytes ++ bs) (sym (pairs_two left two)) ∙ c.loop-left.invariant.1,
    )

pub returns : goal.returns
returns c =
    let left = c.loop-left.left.now in
    let q = c.loop-left.output in
    let few : length left < 2 = search rules in
    record {
      text = sym (append-nil (take q.len q.bytes)) ∙ ap (λ bs. take q.len q.bytes ++ bs) (sym (pairs_end left few)) ∙ c.loop-left.invariant.1;
      room = omega (arith, c.loop-left.invariant.0);
    }
