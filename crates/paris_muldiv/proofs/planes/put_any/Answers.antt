use Rattle.std.proofs.Common.{◌≡◌, ℕ, ◌^◌, ◌∙◌, sym, ap, length, take, get_or, arith, List, Bool, [], ◌||◌, false, ltb}
use Rattle.std.proofs.lemmas.List.{get_or_read, length-replicate, get_or-replicate}
use Rattle.std.proofs.lemmas.Simd.{get_or-zip2, length-zip2}
use Rattle.std.proofs.lemmas.Nat.{pow_pos}
use Rattle.paris_field.specs.Numbers.{number_at, plane_at}
use Rattle.paris_field.proofs.Numbers.{one_more}
use Rattle.paris_field.proofs.Places.{read_long}
use Rattle.paris_muldiv.proofs.Rows.{any_more}
use Rattle.paris_muldiv.proofs.planes.put_any.Goals as goal

pub loop-k-init : goal.loop-k-init
unfolding number_at
loop-k-init c =
    record {
      long = ap length c.fill.ensures ∙ length-replicate (length c.args.any.now) false;
      bits = λ v h. ap (λ l. get_or l v false) c.fill.ensures ∙ get_or-replicate (length c.args.any.now) v false false h;
    }

pub or_in-requires : goal.or_in-requires
or_in-requires c = c.loop-k.invariant.long ∙ sym (read_long c.args.planes.now c.loop-k.k c.index-planes-k.result c.requires c.loop-k-test.true c.index-planes-k.is)

pub loop-k-preserved : goal.loop-k-preserved
loop-k-preserved c =
    let k : ℕ = c.loop-k.k in
    let p : List Bool = c.index-planes-k.result in
    let ep : p ≡ plane_at c.args.planes.now k = get_or_read c.args.planes.now k p c.loop-k-test.true c.index-planes-k.is [] in
    let lp : length p ≡ length c.args.any.now = read_long c.args.planes.now k p c.requires c.loop-k-test.true c.index-planes-k.is in
    let either : Bool → Bool → Bool = λ a b. a || b in
    let same : length c.loop-k.any ≡ length p = c.loop-k.invariant.long ∙ sym lp in
    record {
      long = ap length c.or_in.ensures ∙ length-zip2 either c.loop-k.any p same ∙ c.loop-k.invariant.long;
      bits = λ v h.
          ap (λ l. get_or l v false) c.or_in.ensures
          ∙ get_or-zip2 either c.loop-k.any p v false false false (omega (arith, h, c.loop-k.invariant.long)) (omega (arith, h, lp))
          ∙ ap (λ b. b || get_or p v false) (c.loop-k.invariant.bits v h)
          ∙ any_more (2 ^ k) (number_at (take k c.args.planes.now) v) (get_or p v false) (pow_pos k)
          ∙ ap (ltb 0) (sym (one_more c.args.planes.now k v p c.loop-k-test.true ep));
    }
