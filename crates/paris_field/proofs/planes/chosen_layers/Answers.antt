use Rattle.std.proofs.Common.{◌≡◌, ℕ, ◌+◌, ◌*◌, ◌^◌, ◌<◌, ◌∙◌, sym, ap, cond, length, take, get_or, arith, List, Bool, [], true, false, refl, subst}
use Rattle.std.proofs.lemmas.List.{get_or_read, length_push}
use Rattle.paris_plane.proofs.Bits.{get_or-zip3}
use Rattle.paris_model.specs.Store.{bit}
use Rattle.paris_field.specs.Numbers.{AllOf, bit_in, number_at, plane_at}
use Rattle.paris_field.proofs.Numbers.{one_more, chosen_more, chosen_digit}
use Rattle.paris_field.proofs.Places.{all_none, all_pushed, length_triple, number_pushed}
use Rattle.paris_field.proofs.planes.chosen_layers.Goals as goal

same : (x : ℕ) (b : Bool) → x ≡ cond b x x
same x true = refl
same x false = refl

pub loop-k-init : goal.loop-k-init
unfolding number_at
loop-k-init c =
    let e : c.in_ok-layers.layers.items ≡ [] = c.in_ok-layers.ensures.items in
    record {
      count = ap length e;
      long = subst (λ (ps : List (List Bool)). AllOf (length c.args.mask.now) ps) (sym e) (all_none (length c.args.mask.now));
      numbers = λ v h. ap (λ (ps : List (List Bool)). number_at ps v) e ∙ same 0 (get_or c.args.mask.now v false);
    }

pub loop-k-preserved : goal.loop-k-preserved
loop-k-preserved c =
    let k : ℕ = c.loop-k.k in
    let n : ℕ = length c.args.mask.now in
    let m : List Bool = c.args.mask.now in
    let x : List Bool = c.index-others-k.result in
    let y : List Bool = c.index-chosen-k.result in
    let p : List Bool = c.in_ok-layer.layer in
    let ps : List (List Bool) = c.loop-k.layers.items in
    let pick : Bool → Bool → Bool → Bool = λ x y m. cond m y x in
    let iny : k < length c.args.chosen.now = omega arith in
    let ex : x ≡ plane_at c.args.others.now k = get_or_read c.args.others.now k x c.loop-k-test.true c.index-others-k.is [] in
    let ey : y ≡ plane_at c.args.chosen.now k = get_or_read c.args.chosen.now k y iny c.index-chosen-k.is [] in
    let nx : length x ≡ n = ap length ex ∙ c.requires.others k c.loop-k-test.true in
    let ny : length y ≡ n = ap length ey ∙ c.requires.chosen k iny in
    let np : length p ≡ n = ap length c.in_ok-layer.ensures ∙ length_triple pick x y m nx ny refl in
    record {
      count = ap length c.in_ok-push.ensures.items ∙ length_push ps p ∙ ap (λ j. j + 1) c.loop-k.invariant.count;
      long = subst (λ (qs : List (List Bool)). AllOf n qs) (sym c.in_ok-push.ensures.items) (all_pushed n ps p c.loop-k.invariant.long np);
      numbers = λ v h.
          let b : Bool = get_or m v false in
          let picked : bit_in p v ≡ cond b (bit_in y v) (bit_in x v) =
          ap (λ l. bit_in l v) c.in_ok-layer.ensures ∙ ap bit (get_or-zip3 pick x y m v false false false false (nx ∙ sym ny) nx (omega arith)) ∙ chosen_digit b (get_or x v false) (get_or y v false) in
          ap (λ qs. number_at qs v) c.in_ok-push.ensures.items ∙ number_pushed ps p v ∙ ap (λ j. number_at ps v + 2 ^ j * bit_in p v) c.loop-k.invariant.count
          ∙ chosen_more b _ _ _ (2 ^ k) (bit_in p v) (bit_in y v) (bit_in x v) (c.loop-k.invariant.numbers v h) picked
          ∙ sym (ap (λ t. cond b t (number_at (take (k + 1) c.args.others.now) v)) (one_more c.args.chosen.now k v y iny ey)
          ∙ ap (λ t. cond b (number_at (take k c.args.chosen.now) v + 2 ^ k * bit_in y v) t) (one_more c.args.others.now k v x c.loop-k-test.true ex));
    }
