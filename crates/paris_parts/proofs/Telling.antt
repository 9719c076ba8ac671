-- What parts told, and how many commands they have, one part after another.
use Rattle.std.proofs.Common.{◌≡◌, ℕ, suc, ◌+◌, ◌<◌, List, [], ◌++◌, length, get_or, Some, sym, ap, ◌∙◌, arith, append_assoc}
use Rattle.std.proofs.lemmas.Option.{slice_get-get_or}
use Rattle.paris_desk.specs.Seats.{sitting}
use Rattle.paris_parts.specs.Jobs.{Doing, begun_at}
use Rattle.paris_parts.specs.Texts.{at_seat, commands_in, head_line, parts_text, refusals_in}

-- what stands at a place is what is done at the seat of this number
pub at_is : (ds : List Doing) (n : ℕ) (d : Doing) → n < length ds → d ≡ get_or ds n d → d ≡ at_seat ds n
at_is ds n d within is =
    let one : Some (get_or ds n d) ≡ Some (at_seat ds n) = sym (slice_get-get_or ds n d within) ∙ slice_get-get_or ds n (begun_at (sitting n [] 0 [])) within in
    let same : get_or ds n d ≡ at_seat ds n = cc in
    is ∙ same

pub text_next : (ds : List Doing) (n : ℕ) (d : Doing) (text more : List ℕ) → n < length ds → d ≡ get_or ds n d → more ≡ (text ++ head_line n) ++ d.text
    → text ≡ parts_text ds n → more ≡ parts_text ds (n + 1)
text_next ds n d text more within is added before =
    let on : suc n ≡ n + 1 = omega arith in
    added ∙ append_assoc text (head_line n) d.text
    ∙ ap (λ (l : List ℕ). l ++ (head_line n ++ d.text)) before
    ∙ ap (λ (x : Doing). parts_text ds n ++ (head_line n ++ x.text)) (at_is ds n d within is)
    ∙ ap (parts_text ds) on

pub commands_next : (ds : List Doing) (n sum more : ℕ) (d : Doing) → n < length ds → d ≡ get_or ds n d → more ≡ d.hand.commands → sum ≡ commands_in ds n → sum + more ≡ commands_in ds (n + 1)
commands_next ds n sum more d within is own before =
    let on : suc n ≡ n + 1 = omega arith in
    ap (λ (k : ℕ). k + more) before ∙ ap (λ (k : ℕ). commands_in ds n + k) (own ∙ ap (λ (x : Doing). x.hand.commands) (at_is ds n d within is)) ∙ ap (commands_in ds) on

pub refusals_next : (ds : List Doing) (n sum more : ℕ) (d : Doing) → n < length ds → d ≡ get_or ds n d → more ≡ d.hand.refusals → sum ≡ refusals_in ds n → sum + more ≡ refusals_in ds (n + 1)
refusals_next ds n sum more d within is own before =
    let on : suc n ≡ n + 1 = omega arith in
    ap (λ (k : ℕ). k + more) before ∙ ap (λ (k : ℕ). refusals_in ds n + k) (own ∙ ap (λ (x : Doing). x.hand.refusals) (at_is ds n d within is)) ∙ ap (refusals_in ds) on
