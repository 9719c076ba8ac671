use Rattle.std.proofs.Common.{◌≡◌, ◌∙◌, ◌+◌, ◌-◌, ◌*◌, ◌^◌, ◌<◌, ◌||◌, ap, sym, arith, length, get_or, set, take, false, Bool, List, [], ℕ, subst, refl}
use Rattle.std.proofs.lemmas.List.{get_or_read, length-set, take_all}
use Rattle.std.proofs.lemmas.Grind.{get_or-set_at}
use Rattle.std.proofs.lemmas.Simd.{length-replicate}
use Rattle.paris_field.specs.Numbers.{AllOf, bit_in, has, number_at, plane_at}
use Rattle.paris_field.proofs.Numbers.{plane_of_drop, zero_bit_in}
use Rattle.paris_scan.specs.Brings.{Brings, SumBrought}
use Rattle.paris_scan.specs.Sums.{sum_shown}
use Rattle.paris_scan.proofs.Brought.{brought_more}
use Rattle.paris_scan.proofs.Added.{sums_joined, take_set}
use Rattle.paris_scan.proofs.sums.SumsCombine.join.Goals as goal

pub returns-clause-joined : goal.returns-clause-joined
returns-clause-joined c =
    λ L v xs ys count below fx fy ex ey.
    let n : ℕ = length c.args.spare.now in
    let old : List (List Bool) = c.args.state.now in
    let t : ℕ = length old - 1 in
    let at : t ≡ L = omega (arith, count) in
    let nf : length c.fill.new.self ≡ n = ap length c.fill.ensures ∙ length-replicate n false in
    let sum : List (List Bool) = c.add_brought.new.state in
    let carry : List Bool = c.add_brought.new.carry in
    let top : List Bool = c.or_both.new.out in
    let int : t < length sum = omega (arith, c.requires.some, count) in
    let ino : t < length old = omega (arith, count) in
    let all : AllOf n sum = λ k h. c.add_brought.ensures.planes k h ∙ nf in
    let source : List Bool = get_or sum t c.index-state-top.result in
    let es : source ≡ plane_at old t = sym c.index-state-top.is ∙ get_or_read sum t c.index-state-top.result int c.index-state-top.is [] ∙ plane_of_drop t sum old c.add_brought.ensures.high in
    let ls : length source ≡ n = ap length es ∙ c.requires.state t ino in
    let there : List Bool = get_or sum t c.index-state-top-2.result in
    let et : there ≡ plane_at old t = sym c.index-state-top-2.is ∙ get_or_read sum t c.index-state-top-2.result int c.index-state-top-2.is [] ∙ plane_of_drop t sum old c.add_brought.ensures.high in
    let b : Bool = get_or c.bring.new.out v false in
    let no_carry : bit_in c.fill.new.self v ≡ 0 = ap (λ (l : List Bool). bit_in l v) c.fill.ensures ∙ zero_bit_in n v in
    let added : SumBrought c.args.partner.now n (take t old) t v (number_at (take t sum) v + 2 ^ t * bit_in carry v) = subst (λ m. SumBrought c.args.partner.now m (take t old) t v (number_at (take t sum) v + 2 ^ t * bit_in carry v)) nf (c.add_brought.ensures.exact v (omega (arith, below, nf)) no_carry) in
    let x : ℕ = added.0 in
    let comes : Brings false c.args.partner.now n (has source) v b = subst (λ m. Brings false c.args.partner.now m (has source) v b) ls (c.bring.ensures.brought v (omega (arith, below, ls))) in
    let all_comes : Brings 0 c.args.partner.now n (number_at (take (t + 1) old)) v (x + 2 ^ t * bit_in c.bring.new.out v) = brought_more c.args.partner.now n v t x old source b ino es added.1.0 comes in
    let whole_comes : Brings 0 c.args.partner.now n (number_at old) v (x + 2 ^ t * bit_in c.bring.new.out v) = subst (λ (ps : List (List Bool)). Brings 0 c.args.partner.now n (number_at ps) v (x + 2 ^ t * bit_in c.bring.new.out v)) (take_all (t + 1) old (omega (arith, count))) all_comes in
    let shown : x + 2 ^ t * bit_in c.bring.new.out v ≡ sum_shown L xs = ex _ whole_comes in
    let new : List (List Bool) = set sum t top in
    let sums : number_at (take t new) v + 2 ^ t * bit_in carry v ≡ x + number_at (take t old) v = ap (λ (ps : List (List Bool)). number_at ps v + 2 ^ t * bit_in carry v) (take_set t top sum) ∙ added.1.1.1 in
    let over : get_or (plane_at new t) v false ≡ ((get_or (plane_at old t) v false || b) || get_or carry v false) =
    ap (λ (l : List Bool). get_or l v false) (get_or-set_at sum t t top [] refl int)
    ∙ c.or_both.ensures.at v (omega (arith, below, ap length et ∙ c.requires.state t ino))
    ∙ ap (λ (l : List Bool). (get_or l v false || b) || get_or carry v false) et in
    sums_joined L v x b xs ys old new (get_or carry v false) count (length-set sum t top ∙ c.add_brought.auto.state ∙ count)
    (subst (λ k. x < 2 ^ k) at added.1.1.0)
    (subst (λ k. x + 2 ^ k * bit_in c.bring.new.out v ≡ sum_shown L xs) at shown)
    ey
    (subst (λ (k : ℕ). number_at (take k new) v + 2 ^ k * bit_in carry v ≡ x + number_at (take k old) v) at sums)
    (subst (λ (k : ℕ). get_or (plane_at new k) v false ≡ ((get_or (plane_at old k) v false || b) || get_or carry v false)) at over)
