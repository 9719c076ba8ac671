-- Numbers that are combined with what arrives, message by message.
use Rattle.std.proofs.Common.{◌≡◌, ℕ, suc, ◌-◌, ◌<◌, ◌≤◌, ◌^◌, ◌∙◌, All, Bool, List, [], ◌∷◌, ◌++◌, ap, arith, false, get_or, length, refl, replicate, set, sym, true}
use Rattle.std.proofs.lemmas.List.FromFn.{fill_by_all}
use Rattle.std.proofs.lemmas.List.Sums.{fold-append}
use Rattle.std.proofs.lemmas.Nat.{mod_below}
use lib.Pow.{pow_pos}
use Rattle.paris_model.proofs.Combining.{combined_fit}
use Rattle.paris_model.specs.declared.operators.Combiner.{Combiner}
use Rattle.paris_model.specs.Combine.{combine, combined}
use Rattle.paris_model.specs.Mail.{arrivals}
use Rattle.paris_model.specs.Store.{everywhere}
use Rattle.paris_field.proofs.Places.{everywhere_same}
use Rattle.paris_field.specs.Fields.{FieldNumbers, operand}
use Rattle.paris_field.specs.Numbers.{has}
use Rattle.paris_router.proofs.Fetched.{everywhere_all, get_or-everywhere, length-everywhere}
use Rattle.paris_router.proofs.Posted.{get_or-seen, none_seen, seen_sent, some, some_more}
use Rattle.paris_router.proofs.Sent.{arrivals_fit, messages_all}
use Rattle.paris_router.specs.Mail.{mail_in}
use Rattle.paris_combine.specs.Combined.{HasJoined}

-- before any message
pub none_joined : (op : Combiner) (mask n : ℕ) (words : List ℕ) (receivers : List Bool) → n ≡ length words → receivers ≡ replicate n false → HasJoined op mask words [] mask words receivers
none_joined op mask n words receivers long none =
    (refl, (λ L narrow is. fill_by_all (λ r. get_or words r 0) words (length words) 0 refl (λ v h. refl), none ∙ ap (λ k. replicate k false) long ∙ none_seen some (length words) false (λ r. refl)))

-- one message more
pub one_more_joins : (op : Combiner) (mask : ℕ) (start : List ℕ) (mail : List (ℕ × ℕ)) (kept : ℕ) (words : List ℕ) (receivers : List Bool) (r word made : ℕ) → r < length start → ((L : ℕ) → L ≤ 64 → kept ≡ 2 ^ L - 1 → made ≡ combine op L (get_or words r 0) word) → HasJoined op mask start mail kept words receivers
    → HasJoined op mask start (mail ++ (r, word) ∷ []) kept (set words r made) (set receivers r true)
one_more_joins op mask start mail kept words receivers r word made inside joins h =
    let n : ℕ = length start in
    let before : List ℕ = arrivals mail r in (
      h.0,
      (
        λ L narrow is.
            let total = λ (r : ℕ) (xs : List ℕ). combined op L (get_or start r 0) xs in
            let was = h.1.0 L narrow is in
            let held : get_or words r 0 ≡ total r before = ap (λ l. get_or l r 0) was ∙ get_or-seen total n mail r 0 inside in
            ap (λ l. set l r made) was
            ∙ seen_sent total n mail (r, word) made inside
            (fold-append (combine op L) (get_or start r 0) before (word ∷ []) ∙ ap (λ v. combine op L v word) (sym held) ∙ sym (joins L narrow (h.0 ∙ is))),
        ap (λ l. set l r true) h.1.1 ∙ seen_sent some n mail (r, word) true inside (some_more before word),
      ),
    )

-- what processors have that began with numbers of a field
pub joined_from : (op : Combiner) (L n : ℕ) (own : ℕ → ℕ) (start words : List ℕ) (mail : List (ℕ × ℕ)) → start ≡ everywhere n own → words ≡ everywhere (length start) (λ r. combined op L (get_or start r 0) (arrivals mail r)) → words ≡ everywhere n (λ r. combined op L (own r) (arrivals mail r))
joined_from op L n own start words mail held is =
    is
    ∙ ap (λ l. everywhere (length l) (λ r. combined op L (get_or l r 0) (arrivals mail r))) held
    ∙ ap (λ k. everywhere k (λ r. combined op L (get_or (everywhere n own) r 0) (arrivals mail r))) (length-everywhere n own)
    ∙ everywhere_same n (λ r. combined op L (get_or (everywhere n own) r 0) (arrivals mail r)) (λ r. combined op L (own r) (arrivals mail r)) (λ r h.
    ap (λ v. combined op L v (arrivals mail r)) (get_or-everywhere n own r h))

-- what they come to fits
combined_below : (op : Combiner) (L x : ℕ) (xs : List ℕ) → x < 2 ^ L → All (λ y. y < 2 ^ L) xs → combined op L x xs < 2 ^ L
combined_below op L x [] small fit = small
combined_below op L x (y ∷ ys) small fit = combined_below op L (combine op L x y) ys (combined_fit op L x y small (fit 0 0 (omega arith))) (λ i d h. fit (suc i) d (omega (arith, h)))

pub joined_fit : (op : Combiner) (L n : ℕ) (addresses x old : FieldNumbers) (selected : List Bool) → All (λ y. y < 2 ^ L) (everywhere n (λ r. combined op L (operand L old r) (arrivals (mail_in L addresses x selected) r)))
joined_fit op L n addresses x old selected =
    let mail : List (ℕ × ℕ) = mail_in L addresses x selected in
    let fit : All (λ (m : ℕ × ℕ). m.1 < 2 ^ L) mail = messages_all (λ (m : ℕ × ℕ). m.1 < 2 ^ L) (length x.numbers) (has selected) (λ p. get_or addresses.numbers p 0) (operand L x) (λ p h. mod_below (get_or x.numbers p 0) (2 ^ L) (pow_pos L)) in
    everywhere_all (λ y. y < 2 ^ L) n (λ r. combined op L (operand L old r) (arrivals mail r)) (λ r h.
    combined_below op L (operand L old r) (arrivals mail r) (mod_below (get_or old.numbers r 0) (2 ^ L) (pow_pos L)) (arrivals_fit L mail r fit))
