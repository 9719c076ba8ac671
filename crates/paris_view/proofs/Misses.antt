-- Why a look is refused.
use Rattle.std.proofs.Common.{◌≡◌, ◌<◌, ℕ, List, length, arith, sym, ap, ◌∙◌, subst}
use mathlib.Core.List.{IsPrefix}
use Rattle.paris_names.specs.declared.profiles.Profile.{Profile}
use Rattle.paris_records.specs.declared.records.Entry.{Entry}
use Rattle.paris_records.specs.History.{Legal}
use Rattle.paris_desk.specs.Pasts.{Joined}
use Rattle.paris_desk.specs.Seats.{SeatState}
use Rattle.paris_view.specs.Looks.{FallsShort}

-- the history is too short
pub is_short : (p : Profile) (f l : ℕ) (s s' rest : SeatState) (past : List Entry) → rest ≡ s → IsPrefix s.past past → Legal p past → f ≡ s.front → l < s.front → l ≡ length past → Joined past rest s' → FallsShort p f l s s'
is_short p f l s s' rest past is begins legal told less len joined =
    let same : s'.past ≡ past = joined.keeps (subst (λ (z : SeatState). IsPrefix z.past past) (sym is) begins) in
    let front : s'.front ≡ s.front = (let e = joined.front in let r = ap (λ (z : SeatState). z.front) is in let long = ap length same in omega (arith, e, r, long, len, less)) in
    record {
      told = (told, less);
      begins = subst (λ (z : List Entry). IsPrefix s.past z) (sym same) begins;
      legal = subst (Legal p) (sym same) legal;
      len = len ∙ ap length (sym same);
      same = (joined.same.0 ∙ ap (λ (z : SeatState). z.number) is, joined.same.1 ∙ ap (λ (z : SeatState). z.receipts) is, front);
    }
