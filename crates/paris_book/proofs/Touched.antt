-- Behind an edit it is enough to look at the rows that it touched: no other row can be cut off.
use Rattle.std.proofs.Common.{◌≡◌, ℕ, ◌+◌, List, [], ◌∷◌, ◌++◌, Bool, true, false, cond, Option, Some, None, refl, sym, ap, ◌∙◌, subst, map, zero, suc, set, slice_get, take, drop, length, append_assoc, eqb, arith}
use Rattle.std.proofs.Math.Path.{ap₂}
use Rattle.std.proofs.lemmas.List.{map-append}
use Rattle.std.specs.Prelude.{◌&&◌, not}
use Rattle.std.specs.List.{list_any, find, enumerate_from}
use Rattle.paris_names.specs.declared.keys.Key.{Key}
use Rattle.paris_names.specs.Keys.{has_key}
use Rattle.paris_model.specs.Frame.{World}
use Rattle.paris_model.specs.Instructions.{Plan, reads, writes, one}
use Rattle.paris_model.specs.Run.{run}
use Rattle.paris_field.specs.Fields.{FieldNumbers}
use Rattle.paris_exec.specs.Tasks.{field_of}
use Rattle.paris_edits.specs.Rows.{is_settled}
use Rattle.paris_edits.specs.declared.rows.Status.TheVariants.{Settled}
use Rattle.paris_depends.specs.Sweeps.{touches, spread, touched}
use Rattle.paris_depends.proofs.Recipes.{eqb_self}
use Rattle.paris_events.specs.State.{Row, State, IdsApart, row_plan, row_ids, find_id, start_world, with_status}
use Rattle.paris_events.specs.CutOff.{cut_found}
use Rattle.paris_events.specs.Edits.{unsettled}
use Rattle.paris_events.specs.Settling.{is_last, settled_row}
use Rattle.paris_events.proofs.Passes.{is_cut_in, cut_row, cut, firm_after, from_start, Rests}
use Rattle.paris_events.proofs.Passing.{firm_behind, firm_more, run_more, is_cut_behind, put_cut, test_is, cut_off_is}
use Rattle.paris_events.proofs.AtRests.{plan_stays}
use Rattle.paris_events.proofs.Tests.{or_first, or_second}
use Rattle.paris_book.specs.Entries.{Entry, machine_row}
use Rattle.paris_book.specs.Marks.{data_plan}
use Rattle.paris_book.specs.Touched.{cut_one, cut_listed, AreEnough}
use Rattle.paris_book.proofs.EditLemmas.{eqb_flip}
use Rattle.paris_book.proofs.Swept.{swept}
use Rattle.paris_book.proofs.Values.{Agree, map_agree, all_agree, one_agree}

-- ---- looking at rows by their ids, of rows

put_same : (rs : List Row) (n : ℕ) (r : Row) → slice_get rs n ≡ Some r → set rs n r ≡ rs
put_same [] n r at = absurd (cc)
put_same (y ∷ rs) zero r at = let same : y ≡ r = cc in ap (λ z. z ∷ rs) (sym same)
put_same (y ∷ rs) (suc n) r at = ap (λ ys. y ∷ ys) (put_same rs n r at)

at_is : (s : State) (n : ℕ) (o : Option Row) → slice_get s.rows n ≡ o → cut_found s n o ≡ record s { rows = put_cut (start_world s.inputs) s.rows n o }
at_is s n None at = refl
at_is s n (Some r) at = ap (λ b. cond b (with_status s (n, r) Settled) s) (test_is s n r) ∙ by_test (is_cut_behind (start_world s.inputs) (take n s.rows) r)
  where
    by_test : (b : Bool) → cond b (with_status s (n, r) Settled) s ≡ record s { rows = set s.rows n (cond b (settled_row r) r) }
    by_test true = refl
    by_test false = ap (λ (xs : List Row). record s { rows = xs }) (sym (put_same s.rows n r at))

abbrev look_found : World → List Row → Option (ℕ × Row) → List Row
look_found w rs None = rs
look_found w rs (Some e) = put_cut w rs e.0 (slice_get rs e.0)

abbrev look_at : World → List ℕ → List Row → List Row
look_at w [] rs = rs
look_at w (i ∷ is) rs = look_at w is (look_found w rs (find_id i rs))

one_is_found : (s : State) (o : Option (ℕ × Row)) → cut_one s o ≡ record s { rows = look_found (start_world s.inputs) s.rows o }
one_is_found s None = refl
one_is_found s (Some e) = at_is s e.0 (slice_get s.rows e.0) refl

listed_is : (ids : List ℕ) (s : State) → cut_listed ids s ≡ record s { rows = look_at (start_world s.inputs) ids s.rows }
listed_is [] s = refl
listed_is (i ∷ is) s =
    ap (cut_listed is) (one_is_found s (find_id i s.rows))
    ∙ listed_is is (record s { rows = look_found (start_world s.inputs) s.rows (find_id i s.rows) })

-- ---- a row behind others

find_mid : (i : ℕ) (front rs : List Row) (x : Row) (n : ℕ) → list_any (λ j. eqb j i) (row_ids front) ≡ false → eqb x.id.0 i ≡ true → find (λ (e : ℕ × Row). eqb e.1.id.0 i) (enumerate_from n (front ++ x ∷ rs)) ≡ Some (n + length front, x)
find_mid i [] rs x n other same = rw same (let here : n ≡ n + 0 = omega arith in ap (λ k. Some (k, x)) here)
find_mid i (y ∷ front) rs x n other same =
    rw (or_first (eqb y.id.0 i) (list_any (λ j. eqb j i) (row_ids front)) other)
    (find_mid i front rs x (n + 1) (or_second (eqb y.id.0 i) (list_any (λ j. eqb j i) (row_ids front)) other) same
    ∙ (let there : n + 1 + length front ≡ n + suc (length front) = omega arith in ap (λ k. Some (k, x)) there))

get_mid : (front rs : List Row) (r : Row) → slice_get (front ++ r ∷ rs) (length front) ≡ Some r
get_mid [] rs r = refl
get_mid (x ∷ front) rs r = get_mid front rs r

take_mid : (front rs : List Row) → take (length front) (front ++ rs) ≡ front
take_mid [] [] = refl
take_mid [] (r ∷ rs) = refl
take_mid (x ∷ front) rs = ap (λ xs. x ∷ xs) (take_mid front rs)

set_mid : (front rs : List Row) (r x : Row) → set (front ++ r ∷ rs) (length front) x ≡ front ++ x ∷ rs
set_mid [] rs r x = refl
set_mid (y ∷ front) rs r x = ap (λ xs. y ∷ xs) (set_mid front rs r x)

-- to look at it by its id
look_mid : (w : World) (front rs : List Row) (r : Row) → list_any (λ j. eqb j r.id.0) (row_ids front) ≡ false
    → look_found w (front ++ r ∷ rs) (find_id r.id.0 (front ++ r ∷ rs)) ≡ front ++ cut_row (run w (map row_plan front)) (firm_behind from_start front) r ∷ rs
look_mid w front rs r other =
    let all : List Row = front ++ r ∷ rs in
    let x : List Row → Row = λ ys. cut_row (run w (map row_plan ys)) (firm_behind from_start ys) r in
    ap (look_found w all) (find_mid r.id.0 front rs r 0 other (eqb_self r.id.0))
    ∙ ap (λ k. put_cut w all k (slice_get all k)) (let same : 0 + length front ≡ length front = omega arith in same)
    ∙ ap (put_cut w all (length front)) (get_mid front rs r)
    ∙ ap (λ (ys : List Row). set all (length front) (x ys)) (take_mid front (r ∷ rs))
    ∙ set_mid front rs r (x front)

-- ids of rows, none of which stands before
abbrev pub Fresh : List ℕ → List Row → Type 0
Fresh before [] = Unit {0}
Fresh before (r ∷ rs) = (list_any (λ j. eqb j r.id.0) before ≡ false) × Fresh (before ++ r.id.0 ∷ []) rs

not_before : (before : List ℕ) (i : ℕ) (behind : List ℕ) → IdsApart (before ++ i ∷ behind) → list_any (λ j. eqb j i) before ≡ false
not_before [] i behind apart = refl
not_before (j ∷ before) i behind apart = rw (eqb_flip j i (in_mid before apart.0), not_before before i behind apart.1) refl
  where
    in_mid : (xs : List ℕ) → list_any (λ k. eqb k j) (xs ++ i ∷ behind) ≡ false → eqb i j ≡ false
    in_mid [] t = or_first (eqb i j) (list_any (λ k. eqb k j) behind) t
    in_mid (x ∷ xs) t = in_mid xs (or_second (eqb x j) (list_any (λ k. eqb k j) (xs ++ i ∷ behind)) t)

fresh_of : (before : List ℕ) (rs : List Row) → IdsApart (before ++ row_ids rs) → Fresh before rs
fresh_of before [] apart = tt
fresh_of before (r ∷ rs) apart = (
  not_before before r.id.0 (row_ids rs) apart,
  fresh_of (before ++ r.id.0 ∷ []) rs (subst IdsApart (sym (append_assoc before (r.id.0 ∷ []) (row_ids rs))) apart),
)

-- ---- the rows that read changed keys

-- their ids
abbrev pub touched_ids : (Key → Bool) → List Row → List ℕ
touched_ids d [] = []
touched_ids d (r ∷ rs) = let later = touched_ids (spread d r.plan) rs in cond (touches d r.plan) (r.id.0 ∷ later) later

pub touched_is : (d : Key → Bool) (es : List Entry) → touched data_plan d es ≡ touched_ids d (map machine_row es)
touched_is d [] = refl
touched_is d (e ∷ es) = ap (λ later. cond (touches d e.1.plan) (e.0 ∷ later) later) (touched_is (spread d e.1.plan) es)

ids_swept : (n : ℕ) (d : Key → Bool) (rs : List Row) → row_ids (swept n d rs) ≡ row_ids rs
ids_swept n d [] = refl
ids_swept n d (r ∷ rs) = rw (ids_swept n (spread d r.plan) rs) (by_touch (touches d r.plan))
  where
    by_touch : (b : Bool) → ((cond b (unsettled n r) r).id.0 ∷ row_ids rs) ≡ (r.id.0 ∷ row_ids rs)
    by_touch true = refl
    by_touch false = refl

-- a row that reads none of them is cut off where it was
cut_same : (d : Key → Bool) (w v : World) (h g : Key → Bool) → Agree d w v → Agree d h g → (r : Row) → touches d r.plan ≡ false → is_cut_in w h r ≡ is_cut_in v g r
cut_same d w v h g a b r t =
    ap₂ (λ c (xs : List FieldNumbers). not (is_settled r.status) && (c && is_last r.last (record { plan = r.plan; inputs = xs })))
    (all_agree d h g b (reads r.plan) t)
    (map_agree d (λ k. field_of r.plan k (w k)) (λ k. field_of r.plan k (v k)) (λ k u. ap (field_of r.plan k) (a k u)) (reads r.plan) t)

-- which keys are firm just behind a row, where one that reads none of them stays as it was
firm_agree : (d h g : Key → Bool) → Agree d h g → (r x : Row) → x.plan ≡ r.plan → (touches d r.plan ≡ false → x.status ≡ r.status) → Agree (spread d r.plan) (firm_after h r) (firm_after g x)
unfolding spread firm_after
firm_agree d h g a r x p stays k t =
    by_both (has_key (writes r.plan) k) (touches d r.plan) refl t
    ∙ ap (λ (y : Plan). cond (has_key (writes y) k) (is_settled x.status) (g k)) (sym p)
  where
    by_both : (b c : Bool) → touches d r.plan ≡ c → cond b c (d k) ≡ false → cond b (is_settled r.status) (h k) ≡ cond b (is_settled x.status) (g k)
    by_both true true e s = absurd (let wrong : true ≡ false = s in cc)
    by_both true false e s = ap is_settled (sym (stays e))
    by_both false c e s = a k s

-- to look at them in order is the pass over the rows behind others
abbrev LooksBehind : ℕ → World → (Key → Bool) → World → (Key → Bool) → List Row → List Row → Type 0
LooksBehind n w0 d w h rs front = Agree d w (run w0 (map row_plan front)) → Agree d h (firm_behind from_start front) → Rests w h rs → Fresh (row_ids front) rs
    → look_at w0 (touched_ids d rs) (front ++ swept n d rs) ≡ front ++ cut (run w0 (map row_plan front)) (firm_behind from_start front) (swept n d rs)

look_touched : (n : ℕ) (w0 : World) (front rs : List Row) (d : Key → Bool) (w : World) (h : Key → Bool) → LooksBehind n w0 d w h rs front
look_touched n w0 front [] d w h a b rests fresh = refl
look_touched n w0 front (r ∷ rs) d w h a b rests fresh = by_touch (λ x. look_touched n w0 (front ++ x ∷ []) rs (spread d r.plan) (one r.plan w) (firm_after h r)) (touches d r.plan) refl
  where
    now : World
    now = run w0 (map row_plan front)

    g : Key → Bool
    g = firm_behind from_start front

    e : Key → Bool
    e = spread d r.plan

    later : List ℕ
    later = touched_ids e rs

    behind : List Row
    behind = swept n e rs

    ids_more : (x : Row) → x.id.0 ≡ r.id.0 → row_ids (front ++ x ∷ []) ≡ row_ids front ++ r.id.0 ∷ []
    ids_more x same = map-append (λ (y : Row). y.id.0) front (x ∷ []) ∙ ap (λ i. row_ids front ++ i ∷ []) same

    onward : ((x : Row) → LooksBehind n w0 (spread d r.plan) (one r.plan w) (firm_after h r) rs (front ++ x ∷ [])) → (x : Row) → x.plan ≡ r.plan → x.id.0 ≡ r.id.0 → (touches d r.plan ≡ false → x.status ≡ r.status) → look_at w0 later (front ++ x ∷ behind) ≡ front ++ x ∷ cut (one r.plan now) (firm_after g x) behind
    onward next x p i stays =
        let world : run w0 (map row_plan (front ++ x ∷ [])) ≡ one r.plan now = run_more w0 front x ∙ ap (λ (q : Plan). one q now) p in
        let firm : firm_behind from_start (front ++ x ∷ []) ≡ firm_after g x = firm_more from_start front x in
        ap (look_at w0 later) (sym (append_assoc front (x ∷ []) behind))
        ∙ next x
        (subst (λ (v : World). Agree e (one r.plan w) v) (sym world) (one_agree d w now a r.plan))
        (subst (λ (f : Key → Bool). Agree e (firm_after h r) f) (sym firm) (firm_agree d h g b r x p stays))
        rests.1
        (subst (λ is. Fresh is rs) (sym (ids_more x i)) fresh.1)
        ∙ ap₂ (λ (v : World) (f : Key → Bool). (front ++ x ∷ []) ++ cut v f behind) world firm
        ∙ append_assoc front (x ∷ []) (cut (one r.plan now) (firm_after g x) behind)

    id_stays : (y : Row) (c : Bool) → (cond c (settled_row y) y).id.0 ≡ y.id.0
    id_stays y true = refl
    id_stays y false = refl

    by_touch : ((x : Row) → LooksBehind n w0 (spread d r.plan) (one r.plan w) (firm_after h r) rs (front ++ x ∷ [])) → (c : Bool) → touches d r.plan ≡ c → look_at w0 (cond c (r.id.0 ∷ later) later) (front ++ cond c (unsettled n r) r ∷ behind) ≡ front ++ cut now g (cond c (unsettled n r) r ∷ behind)
    by_touch next true t =
        let y : Row = unsettled n r in
        ap (look_at w0 later) (look_mid w0 front behind y fresh.0)
        ∙ onward next (cut_row now g y) (plan_stays now g y) (id_stays y (is_cut_in now g y)) (λ f. absurd (let wrong : true ≡ false = sym t ∙ f in cc))
    by_touch next false t =
        let uncut : is_cut_in now g r ≡ false = sym (cut_same d w now h g a b r t) ∙ rests.0 in
        let stays : cut_row now g r ≡ r = ap (λ c. cond c (settled_row r) r) uncut in
        onward next r refl refl (λ f. refl)
        ∙ ap (λ (x : Row). front ++ x ∷ cut (one r.plan now) (firm_after g x) behind) (sym stays)

-- ---- rows in front, of which none can be cut off

cut_front : (w : World) (h : Key → Bool) (front rs : List Row) → Rests w h front → cut w h (front ++ rs) ≡ front ++ cut (run w (map row_plan front)) (firm_behind h front) rs
cut_front w h [] rs rests = refl
cut_front w h (r ∷ front) rs rests =
    let stays : cut_row w h r ≡ r = ap (λ c. cond c (settled_row r) r) rests.0 in
    ap (λ (x : Row). x ∷ cut (one r.plan w) (firm_after h x) (front ++ rs)) stays
    ∙ ap (λ xs. r ∷ xs) (cut_front (one r.plan w) (firm_after h r) front rs rests.1)

pub rests_take : (w : World) (h : Key → Bool) (rs : List Row) (p : ℕ) → Rests w h rs → Rests w h (take p rs)
rests_take w h [] zero rests = tt
rests_take w h [] (suc p) rests = tt
rests_take w h (r ∷ rs) zero rests = tt
rests_take w h (r ∷ rs) (suc p) rests = (rests.0, rests_take (one r.plan w) (firm_after h r) rs p rests.1)

pub rests_drop : (w : World) (h : Key → Bool) (rs : List Row) (p : ℕ) → Rests w h rs → Rests (run w (map row_plan (take p rs))) (firm_behind h (take p rs)) (drop p rs)
rests_drop w h [] zero rests = tt
rests_drop w h [] (suc p) rests = tt
rests_drop w h (r ∷ rs) zero rests = rests
rests_drop w h (r ∷ rs) (suc p) rests = rests_drop (one r.plan w) (firm_after h r) rs p rests.1

pub rests_more : (w : World) (h : Key → Bool) (front : List Row) (x : Row) → Rests w h front → is_cut_in (run w (map row_plan front)) (firm_behind h front) x ≡ false → Rests w h (front ++ x ∷ [])
rests_more w h [] x rests t = (t, tt)
rests_more w h (r ∷ front) x rests t = (rests.0, rests_more (one r.plan w) (firm_after h r) front x rests.1 t)

-- of a state, where a sweep came past the rows behind them
pub enough_behind : (t : State) (n : ℕ) (front rs : List Row) (d : Key → Bool) (w : World) (h : Key → Bool) → t.rows ≡ front ++ swept n d rs → Rests (start_world t.inputs) from_start front
    → Agree d w (run (start_world t.inputs) (map row_plan front)) → Agree d h (firm_behind from_start front) → Rests w h rs → IdsApart (row_ids t.rows) → AreEnough (touched_ids d rs) t
enough_behind t n front rs d w h is before a b rests apart =
    let w0 : World = start_world t.inputs in
    let ids : row_ids t.rows ≡ row_ids front ++ row_ids rs = ap row_ids is ∙ map-append (λ (y : Row). y.id.0) front (swept n d rs) ∙ ap (λ is. row_ids front ++ is) (ids_swept n d rs) in
    listed_is (touched_ids d rs) t
    ∙ ap (λ (xs : List Row). record t { rows = look_at w0 (touched_ids d rs) xs }) is
    ∙ ap (λ (xs : List Row). record t { rows = xs }) (look_touched n w0 front rs d w h a b rests (fresh_of (row_ids front) rs (subst IdsApart ids apart)) ∙ sym (cut_front w0 from_start front (swept n d rs) before))
    ∙ ap (λ (xs : List Row). record t { rows = cut w0 from_start xs }) (sym is)
    ∙ sym (cut_off_is t)

-- the same where the row just before these is looked at first
pub enough_with : (t : State) (n : ℕ) (front rs : List Row) (x : Row) (d : Key → Bool) (w : World) (h : Key → Bool) → t.rows ≡ front ++ x ∷ swept n d rs → Rests (start_world t.inputs) from_start front
    → let v = run (start_world t.inputs) (map row_plan front) in let g = firm_behind from_start front in
    Agree d w (one x.plan v) → Agree d h (firm_after g (cut_row v g x)) → Rests w h rs → IdsApart (row_ids t.rows) → AreEnough (x.id.0 ∷ touched_ids d rs) t
enough_with t n front rs x d w h is before a b rests apart =
    listed_is (x.id.0 ∷ touched_ids d rs) t
    ∙ ap (λ (xs : List Row). record t { rows = look_at w0 (x.id.0 ∷ touched_ids d rs) xs }) is
    ∙ ap (λ (xs : List Row). record t { rows = xs }) (
    ap (look_at w0 (touched_ids d rs)) (look_mid w0 front behind x fresh.0 ∙ sym (append_assoc front (y ∷ []) behind))
    ∙ look_touched n w0 (front ++ y ∷ []) rs d w h (subst (λ (u : World). Agree d w u) (sym world) a) (subst (λ (f : Key → Bool). Agree d h f) (sym firm) b) rests (subst (λ is. Fresh is rs) (sym ids_more) fresh.1)
    ∙ ap₂ (λ (u : World) (f : Key → Bool). (front ++ y ∷ []) ++ cut u f behind) world firm
    ∙ append_assoc front (y ∷ []) (cut (one x.plan v) (firm_after g y) behind)
    ∙ sym (cut_front w0 from_start front (x ∷ behind) before))
    ∙ ap (λ (xs : List Row). record t { rows = cut w0 from_start xs }) (sym is)
    ∙ sym (cut_off_is t)
  where
    w0 : World
    w0 = start_world t.inputs

    v : World
    v = run w0 (map row_plan front)

    g : Key → Bool
    g = firm_behind from_start front

    y : Row
    y = cut_row v g x

    behind : List Row
    behind = swept n d rs

    ids : row_ids t.rows ≡ row_ids front ++ x.id.0 ∷ row_ids rs
    ids = ap row_ids is ∙ map-append (λ (z : Row). z.id.0) front (x ∷ behind) ∙ ap (λ is. row_ids front ++ x.id.0 ∷ is) (ids_swept n d rs)

    fresh : Fresh (row_ids front) (x ∷ rs)
    fresh = fresh_of (row_ids front) (x ∷ rs) (subst IdsApart ids apart)

    id_stays : (c : Bool) → (cond c (settled_row x) x).id.0 ≡ x.id.0
    id_stays true = refl
    id_stays false = refl

    ids_more : row_ids (front ++ y ∷ []) ≡ row_ids front ++ x.id.0 ∷ []
    ids_more = map-append (λ (z : Row). z.id.0) front (y ∷ []) ∙ ap (λ i. row_ids front ++ i ∷ []) (id_stays (is_cut_in v g x))

    world : run w0 (map row_plan (front ++ y ∷ [])) ≡ one x.plan v
    world = run_more w0 front y ∙ ap (λ (q : Plan). one q v) (plan_stays v g x)

    firm : firm_behind from_start (front ++ y ∷ []) ≡ firm_after g y
    firm = firm_more from_start front y
