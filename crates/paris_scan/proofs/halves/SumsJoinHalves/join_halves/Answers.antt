use Rattle.std.proofs.Common.{◌≡◌, ◌∙◌, ◌+◌, ◌-◌, ◌*◌, ◌^◌, ◌<◌, ◌||◌, ap, sym, arith, length, get_or, set, take, false, Bool, List, [], ℕ, subst, refl}
use Rattle.std.proofs.lemmas.List.{get_or_read, length-set}
use Rattle.std.proofs.lemmas.Grind.{get_or-set_at}
use Rattle.std.proofs.lemmas.Simd.{length-replicate}
use Rattle.paris_field.specs.Numbers.{bit_in, has, number_at, plane_at}
use Rattle.paris_field.proofs.Numbers.{plane_of_drop, zero_bit_in}
use Rattle.paris_scan.proofs.Added.{sums_joined, take_set}
use Rattle.paris_scan.proofs.Tops.{low_lt, split_at}
use Rattle.paris_scan.proofs.halves.SumsJoinHalves.join_halves.Goals as goal

pub returns-clause-joined : goal.returns-clause-joined
returns-clause-joined c =
    λ L v xs ys count below fx fy ex ey.
    let n : ℕ = length c.args.spare.now in
    let old : List (List Bool) = c.args.lower.now in
    let other : List (List Bool) = c.args.upper.now in
    let t : ℕ = length other - 1 in
    let at : t ≡ L = omega (arith, count) in
    let nf : length c.fill.new.self ≡ n = ap length c.fill.ensures ∙ length-replicate n false in
    let sum : List (List Bool) = c.add_planes.new.sum in
    let carry : List Bool = c.add_planes.new.carry in
    let top : List Bool = c.or_both.new.out in
    let all : length old ≡ L + 1 = omega (arith, count, c.requires.same) in
    let hx : t < length other = omega (arith, count) in
    let ho : t < length old = omega (arith, hx, c.requires.same) in
    let hn : t < length sum = omega (arith, ho, c.add_planes.auto.sum) in
    let x : List Bool = c.index-upper-top.result in
    let is : x ≡ plane_at other t = get_or_read other t x hx c.index-upper-top.is [] in
    let there : List Bool = get_or sum t c.index-lower-top.result in
    let et : there ≡ plane_at old t = sym c.index-lower-top.is ∙ get_or_read sum t c.index-lower-top.result hn c.index-lower-top.is [] ∙ plane_of_drop t sum old c.add_planes.ensures.high in
    let no_carry : bit_in c.fill.new.self v ≡ 0 = ap (λ (l : List Bool). bit_in l v) c.fill.ensures ∙ zero_bit_in n v in
    let new : List (List Bool) = set sum t top in
    let sums : number_at (take t new) v + 2 ^ t * bit_in carry v ≡ number_at (take t other) v + number_at (take t old) v =
    ap (λ (ps : List (List Bool)). number_at ps v + 2 ^ t * bit_in carry v) (take_set t top sum) ∙ c.add_planes.ensures.exact v (omega (arith, below, nf)) no_carry in
    let over : get_or (plane_at new t) v false ≡ ((get_or (plane_at old t) v false || get_or (plane_at other t) v false) || get_or carry v false) =
    ap (λ (l : List Bool). get_or l v false) (get_or-set_at sum t t top [] refl hn)
    ∙ c.or_both.ensures.at v (omega (arith, below, ap length et ∙ c.requires.lower t ho))
    ∙ ap (λ (l : List Bool). (get_or l v false || get_or x v false) || get_or carry v false) et
    ∙ ap (λ (l : List Bool). (get_or (plane_at old t) v false || get_or l v false) || get_or carry v false) is in
    sums_joined L v (number_at (take L other) v) (has (plane_at other L) v) xs ys old new (get_or carry v false) all (length-set sum t top ∙ c.add_planes.auto.sum ∙ all)
    (low_lt other L v (omega (arith, count)))
    (sym (split_at L v other count) ∙ ex)
    ey
    (subst (λ (k : ℕ). number_at (take k new) v + 2 ^ k * bit_in carry v ≡ number_at (take k other) v + number_at (take k old) v) at sums)
    (subst (λ (k : ℕ). get_or (plane_at new k) v false ≡ ((get_or (plane_at old k) v false || get_or (plane_at other k) v false) || get_or carry v false)) at over)
