-- What stands at an origin is the present value.
use Rattle.std.proofs.Common.{◌≡◌, ℕ, List, [], ◌∷◌, Bool, true, false, cond, Option, Some, None, refl, sym, ◌∙◌, map, take, zero, suc}
use Rattle.std.specs.Option.{option_or, option_map}
use Rattle.paris_names.specs.declared.keys.Key.{Key}
use Rattle.paris_names.specs.Keys.{has_key}
use Rattle.paris_model.specs.Frame.{World}
use Rattle.paris_model.specs.Instructions.{Plan, reads, writes, one, given}
use Rattle.paris_model.specs.Run.{run}
use Rattle.paris_model.specs.Recipe.{origin}
use Rattle.paris_model.proofs.Worlds.{one_is}
use Rattle.paris_edits.specs.Rows.{is_settled}
use Rattle.paris_book.specs.Kept.{last_kept, ripen, Sound}
use Rattle.paris_book.specs.Entries.{Entry, entry_plan}

pub origin-map : {X Y : Type 0} (work : Y → Plan) (g : X → Y) (f : Key) (xs : List X) → origin work f (map g xs) ≡ option_map g (origin (λ x. work (g x)) f xs)
origin-map work g f [] = refl
origin-map {X} {Y} work g f (x ∷ xs) = rw (origin-map work g f xs) (by_both (origin (λ y. work (g y)) f xs) (has_key (writes (work (g x))) f))
  where
    by_both : (o : Option X) (b : Bool) → option_or (option_map g o) (cond b (Some (g x)) None) ≡ option_map g (option_or o (cond b (Some x) None))
    by_both None true = refl
    by_both None false = refl
    by_both (Some y) b = refl

pub sound-take : (w : World) (h : Key → Bool) (es : List Entry) (k : ℕ) → Sound w h es → Sound w h (take k es)
sound-take w h [] zero s = tt
sound-take w h [] (suc k) s = tt
sound-take w h (e ∷ es) zero s = tt
sound-take w h (e ∷ es) (suc k) s = (s.0, sound-take (one e.1.plan w) (ripen h e) es k s.1)

-- what an origin tells of a key's value: the value at the start, or what the row's result holds, once it is settled
abbrev pub Tells : World → List Entry → Key → Option Entry → Type 0
Tells w es f None = run w (map entry_plan es) f ≡ w f
Tells w es f (Some e) = (has_key (writes e.1.plan) f ≡ true) × (is_settled e.1.status ≡ true → (xs : List (List ℕ)) × (last_kept e.1.done ≡ Some (e.1.plan, xs)) × (given e.1.plan xs f ≡ run w (map entry_plan es) f))

pub origin_tells : (w : World) (h : Key → Bool) (f : Key) (es : List Entry) → Sound w h es → Tells w es f (origin entry_plan f es)
origin_tells w h f [] s = refl
origin_tells w h f (e ∷ es) s = by_rest (origin entry_plan f es) (origin_tells (one e.1.plan w) (ripen h e) f es s.1)
  where
    by_rest : (o : Option Entry) → Tells (one e.1.plan w) es f o → Tells w (e ∷ es) f (option_or o (cond (has_key (writes e.1.plan) f) (Some e) None))
    by_rest (Some x) t = t
    by_rest None t = by_has (has_key (writes e.1.plan) f) refl
      where
        by_has : (b : Bool) → has_key (writes e.1.plan) f ≡ b → Tells w (e ∷ es) f (option_or None (cond b (Some e) None))
        by_has true x = (x, λ settled. (map w (reads e.1.plan), s.0.kept settled, sym (t ∙ one_is e.1.plan w f ∙ rw x refl)))
        by_has false x = t ∙ one_is e.1.plan w f ∙ rw x refl

-- whether a key's origin is settled or the start, after rows
abbrev pub ripe : (Key → Bool) → List Entry → Key → Bool
ripe h [] = h
ripe h (e ∷ es) = ripe (ripen h e) es

abbrev pub is_firm_or : Bool → Option Entry → Bool
is_firm_or b None = b
is_firm_or b (Some e) = is_settled e.1.status

pub ripe_is : (h : Key → Bool) (f : Key) (es : List Entry) → ripe h es f ≡ is_firm_or (h f) (origin entry_plan f es)
unfolding ripen
ripe_is h f [] = refl
ripe_is h f (e ∷ es) = ripe_is (ripen h e) f es ∙ by_both (origin entry_plan f es) (has_key (writes e.1.plan) f) refl
  where
    by_both : (o : Option Entry) (b : Bool) → has_key (writes e.1.plan) f ≡ b → is_firm_or (ripen h e f) o ≡ is_firm_or (h f) (option_or o (cond b (Some e) None))
    by_both (Some x) b t = refl
    by_both None true t = rw t refl
    by_both None false t = rw t refl
