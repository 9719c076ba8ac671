use Rattle.std.proofs.Common.{◌≡◌, Bool, ◌&&◌, length, not, ◌∙◌, ap, sym}
use Rattle.std.proofs.lemmas.List.{length-map}
use Rattle.std.proofs.lemmas.Simd.{length-zip2}
use Rattle.paris_muldiv.proofs.Turned.{put_where}
use Rattle.paris_muldiv.proofs.signed_planes.put_overflow.Goals as goal

pub put-requires-2 : goal.put-requires-2
put-requires-2 c =
    let and : Bool → Bool → Bool = λ a b. a && b in
    let kept : length c.not_in.new.self ≡ length c.args.overflow.now = ap length c.not_in.ensures ∙ length-map c.args.overflow.now not in
    ap length c.in_ok-put.ensures.ok ∙ length-zip2 and c.not_in.new.self c.args.top.now (kept ∙ sym c.requires.top) ∙ kept ∙ sym c.requires.wide

pub returns : goal.returns
returns c = put_where c.args.wide.now c.args.top.now c.args.overflow.now c.not_in.new.self c.put.new.self c.put-2.new.self c.requires.wide c.requires.top c.not_in.ensures c.in_ok-put.ensures.ok c.in_ok-put-2.ensures.ok
