use Rattle.std.proofs.Common.{◌≡◌, ℕ, ◌+◌, ◌*◌, ◌^◌, ◌<◌, ◌∙◌, sym, ap, cond, length, take, get_or, arith, List, Bool, [], false}
use Rattle.std.proofs.lemmas.List.{get_or_read}
use Rattle.paris_plane.proofs.Bits.{length-zip3, get_or-zip3}
use Rattle.paris_model.specs.Store.{bit}
use Rattle.paris_field.specs.Numbers.{bit_in, number_at, plane_at}
use Rattle.paris_field.proofs.Numbers.{one_more, one_written, all_written, plane_of_drop, dropped_more, chosen_more, chosen_digit}
use Rattle.paris_field.proofs.planes.merge_layers.Goals as goal

pub loop-k-preserved : goal.loop-k-preserved
loop-k-preserved c =
    let k : ℕ = c.loop-k.k in
    let x : List Bool = get_or c.loop-k.layers k c.index-layers-k.result in
    let y : List Bool = c.index-other-k.result in
    let m : List Bool = c.args.mask.now in
    let s : List Bool = c.select_in.new.self in
    let pick : Bool → Bool → Bool → Bool = λ x y m. cond m y x in
    let inp : k < length c.loop-k.layers = omega arith in
    let ino : k < length c.args.layers.now = omega arith in
    let iny : k < length c.args.other.now = omega arith in
    let ex : x ≡ plane_at c.loop-k.layers k = sym c.index-layers-k.is ∙ get_or_read c.loop-k.layers k c.index-layers-k.result inp c.index-layers-k.is [] in
    let ey : y ≡ plane_at c.args.other.now k = get_or_read c.args.other.now k y iny c.index-other-k.is [] in
    let eo : x ≡ plane_at c.args.layers.now k = ex ∙ plane_of_drop k c.loop-k.layers c.args.layers.now c.loop-k.invariant.high in
    let lx : length x ≡ length m = ap length ex ∙ c.loop-k.invariant.layers k inp in
    let ly : length y ≡ length m = ap length ey ∙ c.requires.others k iny in
    let ls : length s ≡ length x = ap length c.in_ok-select_in.ensures.ok ∙ length-zip3 pick x y m (lx ∙ sym ly) lx in
    record {
      layers = all_written (length m) c.loop-k.layers k s inp (ls ∙ lx) c.loop-k.invariant.layers;
      low = λ v h.
          let b : Bool = get_or m v false in
          let picked : bit_in s v ≡ cond b (bit_in y v) (bit_in x v) =
          ap (λ l. bit_in l v) c.in_ok-select_in.ensures.ok ∙ ap bit (get_or-zip3 pick x y m v false false false false (lx ∙ sym ly) lx (omega arith)) ∙ chosen_digit b (get_or x v false) (get_or y v false) in
          one_written c.loop-k.layers k v s inp
          ∙ chosen_more b _ _ _ (2 ^ k) (bit_in s v) (bit_in y v) (bit_in x v) (c.loop-k.invariant.low v h) picked
          ∙ sym (ap (λ t. cond b t (number_at (take (k + 1) c.args.layers.now) v)) (one_more c.args.other.now k v y iny ey)
          ∙ ap (λ t. cond b (number_at (take k c.args.other.now) v + 2 ^ k * bit_in y v) t) (one_more c.args.layers.now k v x ino eo));
      high = dropped_more k c.loop-k.layers c.args.layers.now s c.loop-k.invariant.high;
    }
