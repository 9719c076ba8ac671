use Rattle.std.proofs.Common.{◌≡◌, ◌<◌, ◌^◌, ◌∙◌, ◌∷◌, [], ℕ, List, ap, arith, get_or, length, refl, set, sym, take}
use Rattle.std.proofs.lemmas.List.Elements.{All-set}
use Rattle.std.proofs.lemmas.List.FromFn.{fill_by_all}
use Rattle.std.proofs.lemmas.List.Sums.{fold-append}
use Rattle.paris_model.specs.Combine.{combine, combined}
use Rattle.paris_model.specs.Mail.{arrivals}
use Rattle.paris_router.proofs.Posted.{get_or-seen, seen_more}
use Rattle.paris_combine.proofs.sends.combine_in.Goals as goal

pub loop-message-init : goal.loop-message-init
loop-message-init c =
    record {
      value = fill_by_all (λ r. get_or c.args.values.now r 0) c.args.values.now (length c.args.values.now) 0 refl (λ v h. refl);
      fit = c.requires.held;
    }

pub loop-message-preserved : goal.loop-message-preserved
loop-message-preserved c =
    let mail = c.args.mail.now in
    let n : ℕ = length c.args.values.now in
    let i : ℕ = c.loop-message.message-index in
    let at : i < length mail = omega arith in
    let r : ℕ = (get_or mail i (0, 0)).0 in
    let x : ℕ = (get_or mail i (0, 0)).1 in
    let inside : r < n = c.requires.within i (0, 0) at in
    let total = λ (r : ℕ) (xs : List ℕ). combined c.args.operator c.args.bits (get_or c.args.values.now r 0) xs in
    let both = combine c.args.operator c.args.bits in
    let before : List ℕ = arrivals (take i mail) r in
    let held : get_or c.loop-message.values r 0 ≡ total r before = ap (λ l. get_or l r 0) c.loop-message.invariant.value ∙ get_or-seen total n (take i mail) r 0 inside in
    record {
      value =
          ap (λ l. set l r c.apply.result) c.loop-message.invariant.value
          ∙ seen_more total n mail i (0, 0) c.apply.result at inside
          (fold-append both (get_or c.args.values.now r 0) before (x ∷ []) ∙ ap (λ v. both v x) (sym held) ∙ sym c.apply.ensures.value);
      fit = All-set (λ value. value < 2 ^ c.args.bits) c.loop-message.values r c.apply.result c.apply.ensures.fits c.loop-message.invariant.fit;
    }
