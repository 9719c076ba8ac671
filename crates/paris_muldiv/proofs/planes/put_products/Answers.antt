use Rattle.std.proofs.Common.{◌≡◌, ◌≤◌, ℕ, ◌+◌, ◌*◌, ◌%◌, ◌^◌, ◌<◌, ◌∙◌, sym, ap, length, take, arith, List, Bool, [], refl}
use Rattle.std.proofs.lemmas.List.{get_or_read, take_all}
use Rattle.std.proofs.Math.Nat.{zero-mod}
use Rattle.paris_field.specs.Numbers.{bit_in, number_at, plane_at}
use Rattle.paris_field.proofs.Numbers.{one_more, number_at_low}
use Rattle.paris_muldiv.proofs.Rows.{row_more}
use Rattle.paris_muldiv.proofs.planes.put_products.Goals as goal

none_low : (ps : List (List Bool)) (m v : ℕ) → m ≤ length ps → number_at ps v ≡ 0 → number_at (take m ps) v ≡ 0
none_low ps m v room none = number_at_low ps m v room ∙ ap (λ t. t % 2 ^ m) none ∙ zero-mod (2 ^ m)

pub loop-k-init : goal.loop-k-init
unfolding number_at
loop-k-init c =
    let m : ℕ = length c.args.y.now in
    record {
      product = c.requires.product;
      carry = refl;
      masked = c.requires.masked;
      exact = λ v h. ap (λ j. number_at (take j c.args.product.now) v) (omega arith) ∙ none_low c.args.product.now m v (omega arith) (c.requires.zeros v) ∙ omega arith;
    }

pub loop-k-preserved : goal.loop-k-preserved
loop-k-preserved c =
    let k : ℕ = c.loop-k.k in
    let m : ℕ = length c.args.y.now in
    let x : List Bool = c.plane.result.now in
    let inx : k < length c.args.x.now = omega arith in
    let ex : x ≡ plane_at c.args.x.now k = c.plane.ensures ∙ get_or_read c.args.x.now k c.index-x-k.result inx c.index-x-k.is [] in
    let lx : length x ≡ length c.args.carry.now = ap length ex ∙ c.requires.x k inx in
    record {
      product = λ j h. c.add_row.ensures.product j h ∙ lx;
      carry = c.add_row.ensures.carry ∙ lx;
      masked = c.add_row.ensures.masked ∙ lx;
      exact = λ v h.
          ap (λ j. number_at (take j c.add_row.new.product) v) (omega arith)
          ∙ c.add_row.ensures.row v (omega (arith, h, lx))
          ∙ ap (λ t. t + 2 ^ k * (bit_in x v * number_at c.args.y.now v)) (c.loop-k.invariant.exact v h)
          ∙ row_more (2 ^ k) (number_at (take k c.args.x.now) v) (bit_in x v) (number_at c.args.y.now v)
          ∙ ap (λ t. t * number_at c.args.y.now v) (sym (one_more c.args.x.now k v x inx ex));
    }

pub returns-clause-exact : goal.returns-clause-exact
returns-clause-exact c =
    λ v h.
    ap (λ ps. number_at ps v) (sym (take_all (c.loop-k.k + length c.args.y.now) c.loop-k.product (omega arith)))
    ∙ c.loop-k.invariant.exact v h
    ∙ ap (λ ps. number_at ps v * number_at c.args.y.now v) (take_all c.loop-k.k c.args.x.now (omega arith))
