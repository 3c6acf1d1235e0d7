use Rattle.std.proofs.Common.{◌≡◌, ℕ, ◌+◌, ◌*◌, ◌/◌, ◌%◌, ◌^◌, get_or, refl, ◌∙◌, ap₂, arith}
use Rattle.std.proofs.lemmas.Bool.Decides.{Decides-eqb, Decides-below_and}
use Rattle.sets.specs.Products.{right_at, all_right}
use Rattle.sets.proofs.products.product_in.Goals as goal

pub returns : goal.returns
returns c =
    let xs = c.args.products.now in
    let a = c.args.a in
    let b = c.args.b in
    let value : ℕ → ℕ = λ k. 2 ^ (k / 11) * 3 ^ (k % 11) in
    let each = Decides-below_and (right_at xs) (λ k. get_or xs k 0 ≡ value k) (all_right xs) (λ k. Decides-eqb (get_or xs k 0) (value k)) refl (λ k. refl) 121 in
    each.0 c.requires.right (a * 11 + b) (omega arith) ∙ ap₂ (λ (x y : ℕ). 2 ^ x * 3 ^ y) (omega arith) (omega arith)
