-- What a sweep does not mark stays right.
use Rattle.std.proofs.Common.{◌≡◌, ℕ, List, [], ◌∷◌, Bool, true, false, cond, refl, sym, ap, ◌∙◌, map}
use Rattle.std.specs.Prelude.{◌&&◌, ◌||◌}
use Rattle.std.specs.List.{list_any, list_all}
use Rattle.paris_names.specs.declared.keys.Key.{Key}
use Rattle.paris_names.specs.Keys.{has_key}
use Rattle.paris_model.specs.Frame.{World}
use Rattle.paris_model.specs.Instructions.{Plan, reads, writes, one, given}
use Rattle.paris_model.proofs.Worlds.{one_is}
use Rattle.paris_edits.specs.Rows.{is_settled}
use Rattle.paris_events.specs.Edits.{unsettled}
use Rattle.paris_book.specs.Marks.{stale_data}
use Rattle.paris_book.specs.Kept.{ripen, Right, Sound}
use Rattle.paris_depends.specs.Sweeps.{touches, spread}
use Rattle.paris_book.proofs.Swept.{swept, swept_entries}
use Rattle.paris_book.specs.Entries.{Entry, machine_row, with_data}

-- two functions of keys that agree on the keys that did not change
abbrev pub Agree : {X : Type 0} → (Key → Bool) → (Key → X) → (Key → X) → Type 0
Agree d u v = (f : Key) → d f ≡ false → u f ≡ v f

pub map_agree : {X : Type 0} (d : Key → Bool) (u v : Key → X) → Agree d u v → (fs : List Key) → list_any d fs ≡ false → map u fs ≡ map v fs
map_agree d u v h [] t = refl
map_agree d u v h (f ∷ fs) t = by_first (map_agree d u v h fs) (d f) refl t
  where
    by_first : (list_any d fs ≡ false → map u fs ≡ map v fs) → (b : Bool) → d f ≡ b → (b || list_any d fs) ≡ false → (u f ∷ map u fs) ≡ (v f ∷ map v fs)
    by_first rest true e s = absurd (let e : true ≡ false = s in cc)
    by_first rest false e s = rw (h f e, rest s) refl

pub all_agree : (d u v : Key → Bool) → Agree d u v → (fs : List Key) → list_any d fs ≡ false → list_all u fs ≡ list_all v fs
all_agree d u v h [] t = refl
all_agree d u v h (f ∷ fs) t = by_first (all_agree d u v h fs) (d f) refl t
  where
    by_first : (list_any d fs ≡ false → list_all u fs ≡ list_all v fs) → (b : Bool) → d f ≡ b → (b || list_any d fs) ≡ false → (u f && list_all u fs) ≡ (v f && list_all v fs)
    by_first rest true e s = absurd (let e : true ≡ false = s in cc)
    by_first rest false e s = rw (h f e, rest s) refl

pub one_agree : (d : Key → Bool) (w w' : World) → Agree d w w' → (p : Plan) → Agree (spread d p) (one p w) (one p w')
unfolding spread
one_agree d w w' h p f t = one_is p w f ∙ by_has (has_key (writes p) f) (touches d p) refl t ∙ sym (one_is p w' f)
  where
    by_has : (b c : Bool) → touches d p ≡ c → cond b c (d f) ≡ false → cond b (given p (map w (reads p)) f) (w f) ≡ cond b (given p (map w' (reads p)) f) (w' f)
    by_has true true e s = absurd (let e : true ≡ false = s in cc)
    by_has true false e s = ap (λ xs. given p xs f) (map_agree d w w' h (reads p) e)
    by_has false c e s = h f s

pub swept_rows : (n : ℕ) (d : Key → Bool) (es : List Entry) → map machine_row (swept_entries n d es) ≡ swept n d (map machine_row es)
swept_rows n d [] = refl
swept_rows n d (e ∷ es) = rw (swept_rows n (spread d e.1.plan) es) (by_touch (touches d e.1.plan))
  where
    by_touch : (b : Bool) → (machine_row (cond b (with_data (stale_data n) e) e) ∷ swept n (spread d e.1.plan) (map machine_row es)) ≡ (cond b (unsettled n (machine_row e)) (machine_row e) ∷ swept n (spread d e.1.plan) (map machine_row es))
    by_touch true = refl
    by_touch false = refl

pub right_swept : (n : ℕ) (d : Key → Bool) (w w' : World) (h h' : Key → Bool) → Agree d w w' → Agree d h h' → (e : Entry) → Right w h e → Right w' h' (cond (touches d e.1.plan) (with_data (stale_data n) e) e)
right_swept n d w w' h h' a b e r = by_touch (touches d e.1.plan) refl
  where
    by_touch : (t : Bool) → touches d e.1.plan ≡ t → Right w' h' (cond t (with_data (stale_data n) e) e)
    by_touch true t = record { kept = λ s. absurd (let x : false ≡ true = s in cc); origins = λ s. absurd (let x : false ≡ true = s in cc) }
    by_touch false t = record {
      kept = λ s. rw (← map_agree d w w' a (reads e.1.plan) t) (r.kept s);
      origins = λ s. rw (← all_agree d h h' b (reads e.1.plan) t) (r.origins s);
    }

pub ripen_agree : (n : ℕ) (d : Key → Bool) (h h' : Key → Bool) → Agree d h h' → (e : Entry) → Agree (spread d e.1.plan) (ripen h e) (ripen h' (cond (touches d e.1.plan) (with_data (stale_data n) e) e))
unfolding spread ripen
ripen_agree n d h h' a e f t = by_both (has_key (writes e.1.plan) f) refl (touches d e.1.plan) t
  where
    by_both : (b : Bool) → has_key (writes e.1.plan) f ≡ b → (c : Bool) → cond b c (d f) ≡ false → cond b (is_settled e.1.status) (h f) ≡ ripen h' (cond c (with_data (stale_data n) e) e) f
    by_both true x true s = absurd (let x : true ≡ false = s in cc)
    by_both true x false s = rw x refl
    by_both false x true s = rw x (a f s)
    by_both false x false s = rw x (a f s)

pub plan_swept : (n : ℕ) (b : Bool) (e : Entry) → (cond b (with_data (stale_data n) e) e).1.plan ≡ e.1.plan
plan_swept n true e = refl
plan_swept n false e = refl

-- what a sweep does not mark stays right
pub sound_swept : (n : ℕ) (d : Key → Bool) (w w' : World) (h h' : Key → Bool) → Agree d w w' → Agree d h h' → (es : List Entry) → Sound w h es → Sound w' h' (swept_entries n d es)
sound_swept n d w w' h h' a b [] s = tt
sound_swept n d w w' h h' a b (e ∷ es) s = (right_swept n d w w' h h' a b e s.0, rw (plan_swept n (touches d e.1.plan) e) (sound_swept n (spread d e.1.plan) (one e.1.plan w) (one e.1.plan w') (ripen h e) (ripen h' (cond (touches d e.1.plan) (with_data (stale_data n) e) e)) (one_agree d w w' a e.1.plan) (ripen_agree n d h h' b e) es s.1))
