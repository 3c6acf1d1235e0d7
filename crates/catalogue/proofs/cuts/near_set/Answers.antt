use Rattle.std.proofs.Common.{sym, ap, ◌∙◌, arith}
use Rattle.std.proofs.lemmas.Bool.{eqb-false}
use Rattle.catalogue.specs.Asked.{asked}
use Rattle.catalogue.specs.Within.{near}
use Rattle.catalogue.proofs.Near.{near_none}
use Rattle.catalogue.proofs.Cutting.{no_cut, near_from, one_alone, one_below, rest_below}
use Rattle.catalogue.proofs.cuts.near_set.Goals as goal

pub returns-in_default : goal.returns-in_default
returns-in_default c = let Q = asked c.args.catalogue.now in sym (ap (near Q) c.in_default.ensures ∙ near_none Q)

pub returns : goal.returns
returns c =
    let Q = asked c.args.catalogue.now in
    let R = c.args.tables.bits in
    let t = c.in-Some.ensures in
    let i = c.in-Some.table in
    let r = c.without_member-rest.result.bits in
    let rest = c.without_member-rest.ensures.inside t.0 in
    let less = rest_below Q R i r t.0 rest in
    let alone = c.bits-3.ensures ∙ one_alone Q R i r t.0 rest c.without.result.bits c.without.ensures in
    let single = one_below Q R i r t.0 rest (eqb-false r 0 (sym c.if-is_empty.ensures)) in
    near_from Q R i r t.0 rest _ _ ((c.requires.below c.bits-2.result (omega (arith, less, c.bits-2.ensures)) no_cut).0 ∙ ap (near Q) c.bits-2.ensures)
    ((c.requires.below c.bits-3.result (omega (arith, single, alone)) no_cut).0 ∙ ap (near Q) alone)
