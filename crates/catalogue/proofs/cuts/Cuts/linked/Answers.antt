use Rattle.std.proofs.Common.{◌≡◌, ℕ, not, eqb, sym, ap, ◌∙◌, ap₂, arith}
use lib.Bits.{bit_and, and_le_r}
use Rattle.plans.specs.Questions.{linked}
use Rattle.catalogue.specs.Asked.{asked}
use Rattle.catalogue.proofs.Near.{linked_given, linked_near}
use Rattle.catalogue.proofs.Cutting.{no_cut}
use Rattle.catalogue.proofs.cuts.Cuts.linked.Goals as goal

pub returns : goal.returns
returns c =
    let s = c.args.self.now in
    let Q = asked s.catalogue.now in
    let L = c.args.left.bits in
    let one = c.bits.result in
    let other = c.bits-2.result in
    let given : one ≡ bit_and L s.all.bits = c.bits.ensures ∙ c.intersection-given.ensures in
    ap (λ (x : ℕ). not (eqb (bit_and x other) 0)) (s.listed one (omega (arith, and_le_r L s.all.bits)) no_cut).0
    ∙ sym (linked_near Q one other) ∙ ap₂ (linked Q) (given ∙ ap (bit_and L) s.given) c.bits-2.ensures ∙ linked_given Q L c.args.right.bits
