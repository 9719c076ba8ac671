use Rattle.std.proofs.Common.{◌≡◌, refl, ℕ, ◌+◌, [], ◌∷◌, ◌++◌, List, ap, ◌∙◌, add-one, arith}
use Rattle.paris_desk.specs.Seats.{fresh, sitting, SeatState}
use Rattle.paris_desk.proofs.Pasts.{admits}
use Rattle.paris_desk.proofs.desk.seated.Goals as goal

one_more : (n : ℕ) (xs ys : List SeatState) (s : SeatState) → xs ≡ fresh n → s ≡ sitting n [] 0 [] → ys ≡ xs ++ s ∷ [] → ys ≡ fresh (n + 1)
one_more n xs ys s is seat more = more ∙ ap (λ z. xs ++ z ∷ []) seat ∙ ap (λ zs. zs ++ sitting n [] 0 [] ∷ []) is ∙ rw add-one refl

pub reader-requires : goal.reader-requires
reader-requires g c = admits g.L.Office.profile g.L.Office.log

pub loop-number-preserved : goal.loop-number-preserved
loop-number-preserved g c =
    (omega arith, omega arith, one_more c.loop-number.number c.loop-number.all.items c.push.new.self.items c.new.result c.loop-number.invariant.2 c.new.ensures c.in_ok-push.ensures.items)
