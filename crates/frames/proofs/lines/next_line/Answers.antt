use Rattle.std.proofs.Common.{sym, ◌∙◌, arith}
use Rattle.std.proofs.lemmas.Bool.{eqb-false}
use Rattle.frames.proofs.FirstLine.{first_ended, first_not_ended, found_below, none_found}
use Rattle.frames.proofs.lines.next_line.Goals as goal

pub returns-in-Some : goal.returns-in-Some
returns-in-Some c =
    let xs = c.args.input.now in
    let found = found_below xs c.in-Some.end (sym c.line_end.ensures ∙ c.in-Some.is) in
    first_ended xs c.in-Some.end found.2 found.0 found.1

pub returns-in-None : goal.returns-in-None
returns-in-None c =
    let xs = c.args.input.now in
    let some = eqb-false _ _ (sym c.if-is_empty.ensures) in
    first_not_ended xs (none_found xs (sym c.line_end.ensures ∙ c.in-None.is)) (omega arith)
