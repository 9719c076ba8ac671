-- Two lists that are the same from one place to another.
use Rattle.std.proofs.Common.{◌≡◌, ℕ, ◌+◌, ◌-◌, ◌<◌, ◌≤◌, List, Bool, true, get_or, length, map, take, drop, arith, ◌∙◌, sym, ap, refl}
use Rattle.std.specs.Prelude.{nat_eq}
use Rattle.std.specs.Bool.{Decides}
use Rattle.std.specs.Cmp.Lexicographic.{pointwise}
use Rattle.std.specs.List.{slice_range}
use Rattle.std.proofs.lemmas.Bool.Decides.{Decides-eqb, Decides-like, same_from_decides}
use Rattle.std.proofs.lemmas.Slice.Eq.{slice_eq-Decides}
use Rattle.std.proofs.lemmas.List.{get_or-take, get_or-drop}
use Rattle.paris_stretches.proofs.Spans.{part_is}

read_part : (xs : List ℕ) (from to v : ℕ) → from ≤ v → v < to → get_or (slice_range xs from to) (v - from) 0 ≡ get_or xs v 0
read_part xs from to v l u =
    get_or-take (to - from) (drop from xs) (v - from) 0 (omega (arith, l, u)) ∙ get_or-drop from xs (v - from) 0 ∙ ap (λ t. get_or xs t 0) (let e : from + (v - from) ≡ v = omega (arith, l) in e)

pub agreement : (r : Bool) (f g : ℕ → ℕ) (xs ys : List ℕ) (from to : ℕ) → from ≤ to → to ≤ length xs → length xs ≡ length ys
    → ((v : ℕ) → v < length xs → f v ≡ get_or xs v 0) → ((v : ℕ) → v < length ys → g v ≡ get_or ys v 0)
    → Decides r ((v : ℕ) → from ≤ v → v < to → f v ≡ g v)
    → r ≡ pointwise nat_eq (slice_range xs from to) (slice_range ys from to)
agreement r f g xs ys from to order room same is_f is_g told =
    same_from_decides r _
    (Decides-like r
    (λ each. part_is f xs from to from order room (λ i h. sym (is_f (from + i) (omega (arith, h, room))))
    ∙ sym (part_is f ys from to from order (omega (arith, room, same)) (λ i h. sym (is_g (from + i) (omega (arith, h, room, same))) ∙ sym (each (from + i) (omega arith) h))))
    (λ e v l u. is_f v (omega (arith, u, room)) ∙ sym (read_part xs from to v l u) ∙ ap (λ zs. get_or zs (v - from) 0) e ∙ read_part ys from to v l u ∙ sym (is_g v (omega (arith, u, room, same))))
    told)
    (slice_eq-Decides Decides-eqb (slice_range xs from to) (slice_range ys from to) _ refl)

pub equal_told : (xs ys : List ℕ) → xs ≡ ys → true ≡ pointwise nat_eq xs ys
equal_told xs ys e = same_from_decides true _ (Decides-like true (λ t. e) (λ t. refl) (Decides-eqb 0 0)) (slice_eq-Decides Decides-eqb xs ys _ refl)
