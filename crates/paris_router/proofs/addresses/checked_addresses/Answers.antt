use Rattle.std.proofs.Common.{◌≡◌, ◌<◌, ◌≤◌, ◌-◌, ◌^◌, ◌∙◌, ◌++◌, ◌∷◌, [], ℕ, All, ap, sym, subst, arith, get_or, length, map, min, cond, None, true, false}
use Rattle.std.specs.Prelude.{◌&&◌, nat_le}
use Rattle.std.proofs.lemmas.List.{get_or-map, length-map}
use Rattle.std.proofs.lemmas.List.Elements.{All-push}
use Rattle.std.proofs.lemmas.List.FromFn.{map-range_with_len_more}
use Rattle.paris_geometry.specs.Geometry.{numbers_below}
use Rattle.paris_model.specs.Mail.{first_cause}
use Rattle.paris_field.specs.Numbers.{has}
use Rattle.paris_router.specs.Mail.{clipped}
use Rattle.paris_router.proofs.Least.{is_bad, is_good, is_whole, least_above, least_here}
use Rattle.paris_router.proofs.addresses.checked_addresses.Goals as goal

pub returns-then-address-count-clause-refused : goal.returns-then-address-count-clause-refused
returns-then-address-count-clause-refused c =
    let v : ℕ = c.loop-v.v in
    let n : ℕ = c.len-count.result in
    let xs = c.args.addresses.now.numbers in
    let many : n ≡ length xs = omega (arith, c.len-count.ensures, c.in_ok-words.words.ok, ap length c.in_ok-words.ensures, length-map xs clipped) in
    let at = λ (u : ℕ). get_or xs u 0 in
    let test = λ (u : ℕ). has c.args.selected.now u && nat_le n (at u) in
    let held : c.selected_word-address.result ≡ cond (has c.args.selected.now v) (min (at v) (2 ^ 64 - 1)) 0 =
    c.selected_word-address.ensures
    ∙ ap (λ l. cond (has c.args.selected.now v) (get_or l v 0) 0) (c.deref.ensures.value ∙ c.in_ok-words.ensures)
    ∙ ap (λ y. cond (has c.args.selected.now v) y 0) (get_or-map clipped xs v 0 0 (omega (arith, many, c.loop-v-test.true))) in
    let bad : test v ≡ true = is_bad (has c.args.selected.now v) (at v) n (2 ^ 64 - 1) c.selected_word-address.result held c.if-address-count.true (omega arith) in
    ap (λ o. first_cause o None) (sym (c.loop-v.invariant.least ∙ least_here test v n (omega arith) bad))

pub loop-v-preserved : goal.loop-v-preserved
loop-v-preserved c =
    let v : ℕ = c.loop-v.v in
    let n : ℕ = c.len-count.result in
    let xs = c.args.addresses.now.numbers in
    let many : n ≡ length xs = omega (arith, c.len-count.ensures, c.in_ok-words.words.ok, ap length c.in_ok-words.ensures, length-map xs clipped) in
    let number : ℕ = c.selected_word-address.result in
    let below : number < n = omega arith in
    let room : n ≤ 2 ^ 64 - 1 = omega (arith, many, c.requires.few) in
    let at = λ (u : ℕ). get_or xs u 0 in
    let test = λ (u : ℕ). has c.args.selected.now u && nat_le n (at u) in
    let f = λ (u : ℕ). cond (has c.args.selected.now u) (at u) 0 in
    let held : number ≡ cond (has c.args.selected.now v) (min (at v) (2 ^ 64 - 1)) 0 =
    c.selected_word-address.ensures
    ∙ ap (λ l. cond (has c.args.selected.now v) (get_or l v 0) 0) (c.deref.ensures.value ∙ c.in_ok-words.ensures)
    ∙ ap (λ y. cond (has c.args.selected.now v) y 0) (get_or-map clipped xs v 0 0 (omega (arith, many, c.loop-v-test.true))) in
    let whole : number ≡ f v = is_whole (has c.args.selected.now v) (at v) n (2 ^ 64 - 1) number held below room in
    let good : test v ≡ false = is_good (has c.args.selected.now v) (at v) n (2 ^ 64 - 1) number held below room in
    let pushed = c.push_reserved.ensures.items in
    record {
      long = omega (arith, c.push_reserved.ensures.len, c.loop-v.invariant.long);
      room = omega (arith, c.push_reserved.ensures.capacity, c.loop-v.invariant.room);
      value =
          pushed ∙ ap (λ l. l ++ number ∷ []) c.loop-v.invariant.value ∙ ap (λ x. map f (numbers_below v) ++ x ∷ []) whole
          ∙ sym (map-range_with_len_more f 0 v v (omega arith));
      within = subst (λ l. All (λ r. r < n) l) (sym pushed) (All-push (λ r. r < n) c.loop-v.list.items number c.loop-v.invariant.within below);
      least = c.loop-v.invariant.least ∙ least_above test v n (omega arith) good;
    }
