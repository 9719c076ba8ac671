use Rattle.std.proofs.Common.{◌≡◌, ℕ, ◌+◌, ◌-◌, ◌<◌, ◌∙◌, ap, sym, arith, length, [], drop, get_or, false, List, Bool, add-zero}
use borrow.Rule.Slice.PartMut.{put_mid, same_len_mid}
use Rattle.std.proofs.lemmas.Slice.{take-put_mid, drop-put_mid}
use Rattle.std.proofs.lemmas.List.{length-take, length-drop, get_or_read}
use Rattle.paris_model.specs.Store.{bit}
use Rattle.paris_field.specs.Numbers.{bit_in, plane_at}
use Rattle.paris_field.proofs.Numbers.{zero_bit_in, plane_of_drop}
use Rattle.paris_muldiv.proofs.Rows.{row_put}
use Rattle.paris_muldiv.proofs.planes.add_mixed_row.Goals as goal

pub returns-clause-row : goal.returns-clause-row
returns-clause-row c =
    λ v h.
    let k : ℕ = c.args.k in
    let m : ℕ = length c.args.y.now in
    let p : List (List Bool) = c.args.product.now in
    let mid : List (List Bool) = c.add_where.new.sum in
    let q : List (List Bool) = put_mid k ((k + m) - k) p mid in
    let part = length-take ((k + m) - k) (drop k p) in
    let above = length-drop k p in
    let whole : length q ≡ length p = same_len_mid k ((k + m) - k) p mid c.add_where.auto.sum in
    let inq : k + m < length q = omega (arith, whole, c.requires.room) in
    let there : plane_at q (k + m) ≡ plane_at p (k + m) = plane_of_drop (k + m) q p (drop-put_mid k ((k + m) - k) p mid (k + m) (omega arith) (omega (arith, c.requires.room)) (omega (arith, c.add_where.auto.sum, part, above, c.requires.room))) in
    let old : length (get_or q (k + m) c.index-product-k.result) ≡ length c.args.bit.now =
    ap length (sym c.index-product-k.is ∙ get_or_read q (k + m) c.index-product-k.result inq c.index-product-k.is [] ∙ there) ∙ c.requires.product (k + m) c.requires.room in
    row_put k m v p q mid c.args.y.now c.raise_from.new.self c.add_where.new.carry c.fill.new.self c.args.bit.now
    inq
    (omega (arith, c.requires.room))
    (take-put_mid k ((k + m) - k) p mid (k + m) (omega (arith, c.add_where.auto.sum, part, above, c.requires.room)) (omega (arith, c.requires.room)))
    (ap bit (ap (λ u. get_or c.raise_from.new.self u false) (sym (add-zero v)) ∙ c.raise_from.ensures.raised v (omega (arith, h, old))))
    (ap (λ l. bit_in l v) c.fill.ensures ∙ zero_bit_in (length c.args.carry.now) v)
    (c.add_where.ensures.exact v h)
