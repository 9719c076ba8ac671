-- An edit marks just the rows whose recipe changes, since its number is new.
use Rattle.std.proofs.Common.{◌≡◌, ℕ, ◌<◌, ◌≤◌, ◌+◌, List, [], ◌∷◌, ◌++◌, Bool, true, false, cond, Some, None, refl, sym, ap, ◌∙◌, arith, eqb, map, take, drop, zero, suc}
use Rattle.std.proofs.lemmas.Bool.Decides.{Decides-eqb}
use Rattle.std.specs.Prelude.{not, ◌&&◌, ◌||◌, insert, remove}
use Rattle.std.specs.List.{list_any}
use Rattle.paris_names.specs.declared.keys.Key.{Key}
use Rattle.paris_names.specs.Keys.{has_key}
use Rattle.paris_model.specs.Instructions.{Plan, reads, writes}
use Rattle.paris_model.specs.Recipe.{Recipe, chain, past, same}
use Rattle.paris_model.specs.Recipe.Recipe.{Start, Made, End, And}
use Rattle.paris_events.specs.State.{Row}
use Rattle.paris_events.specs.Edits.{Known, row_recipe, past_row, known, unsettled, judged, set_first}
use Rattle.paris_depends.specs.Changes.{Differ}
use Rattle.paris_book.proofs.Swept.{swept}
use Rattle.paris_program.specs.Program.{ids_of}
use Rattle.paris_book.specs.Whole.{RowsBelow}
use Rattle.paris_book.specs.Marks.{writes_either}
use Rattle.paris_book.specs.Entries.{Entry, machine_row}
use Rattle.paris_depends.proofs.Recipes.{same_self}
use Rattle.paris_book.proofs.Recipes.{past_all, judged_front, judged_swept}
use Rattle.paris_events.proofs.Tests.{or_first, or_second}

-- the number of the edit that a recipe names first
abbrev pub edit_of : Recipe → ℕ
edit_of (Start m) = m
edit_of (Made i s c) = s
edit_of End = 0
edit_of (And a b) = 0

-- recipes of edits before this one
abbrev pub Below : ℕ → (Key → Recipe) → Type 0
Below n q = (f : Key) → edit_of (q f) < n

eqb_less : (m n : ℕ) → m < n → eqb m n ≡ false
eqb_less m n h = by_test (eqb m n) refl
  where
    by_test : (b : Bool) → eqb m n ≡ b → b ≡ false
    by_test true e = absurd (let x : m ≡ n = (Decides-eqb m n).0 e in omega arith)
    by_test false e = refl

and_false : (b : Bool) → (b && false) ≡ false
and_false true = refl
and_false false = refl

-- what this edit makes is new
pub same_new : (a : Recipe) (i n : ℕ) (c : Recipe) → edit_of a < n → same a (Made i n c) ≡ false
same_new (Start m) i n c h = refl
same_new (Made j s d) i n c h = rw (eqb_less s n h) (and_false (eqb j i))
same_new End i n c h = refl
same_new (And a b) i n c h = refl

pub same_new_start : (m n : ℕ) → m < n → same (Start m) (Start n) ≡ false
same_new_start m n h = eqb_less m n h

pub below_past : (n : ℕ) (q : Key → Recipe) (r : Row) → Below n q → r.set_by < n → Below n (past_row q r)
unfolding past
below_past n q r b h f = by_has (has_key (writes r.plan) f)
  where
    by_has : (c : Bool) → edit_of (cond c (row_recipe q r) (q f)) < n
    by_has true = h
    by_has false = b f

pub below_all : (n m : ℕ) (q : Key → Recipe) (es : List Entry) → Below (n + 1) q → RowsBelow n m es → Below (n + 1) (past_all q (map machine_row es))
below_all n m q [] b h = b
below_all n m q (e ∷ es) b h = below_all n m (past_row q (machine_row e)) es (below_past (n + 1) q (machine_row e) b (let x : e.1.set_by ≤ n = h.0 in omega arith)) h.2

-- an instruction that is put in changes what it writes
pub differ_insert : (n : ℕ) (q : Key → Recipe) (r : Row) → Below n q → r.set_by ≡ n → Differ (has_key (writes r.plan)) q (past_row q r)
unfolding past
differ_insert n q r b e f = by_has (has_key (writes r.plan) f)
  where
    by_has : (c : Bool) → same (q f) (cond c (row_recipe q r) (q f)) ≡ not c
    by_has true = rw e (same_new (q f) r.id.0 n (chain q (reads r.plan)) (b f))
    by_has false = same_self (q f)

-- whether a recipe is of the row with an id
abbrev pub is_of : ℕ → Recipe → Bool
is_of i (Made j s c) = eqb i j
is_of i (Start m) = false
is_of i End = false
is_of i (And a b) = false

-- no recipe is of that row
abbrev pub NotOf : ℕ → (Key → Recipe) → Type 0
NotOf i q = (f : Key) → is_of i (q f) ≡ false

same_other : (i s : ℕ) (c a : Recipe) → is_of i a ≡ false → same (Made i s c) a ≡ false
same_other i s c (Start m) h = refl
same_other i s c (Made j t d) h = rw h refl
same_other i s c End h = refl
same_other i s c (And a b) h = refl

pub eqb_flip : (i j : ℕ) → eqb j i ≡ false → eqb i j ≡ false
eqb_flip i j h = by_test (eqb i j) refl
  where
    by_test : (b : Bool) → eqb i j ≡ b → b ≡ false
    by_test true e = let x : true ≡ false = sym ((Decides-eqb j i).1 (sym ((Decides-eqb i j).0 e))) ∙ h in x
    by_test false e = refl

-- rows with other ids make no recipe of that row
pub not_of_all : (i : ℕ) (q : Key → Recipe) (es : List Entry) → NotOf i q → list_any (λ j. eqb j i) (ids_of es) ≡ false → NotOf i (past_all q (map machine_row es))
unfolding past
not_of_all i q [] h a = h
not_of_all i q (e ∷ es) h a = not_of_all i (past_row q (machine_row e)) es (λ f. by_has f (has_key (writes e.1.plan) f)) (or_second (eqb e.0 i) (list_any (λ j. eqb j i) (ids_of es)) a)
  where
    by_has : (f : Key) (c : Bool) → is_of i (cond c (row_recipe q (machine_row e)) (q f)) ≡ false
    by_has f true = eqb_flip i e.0 (or_first (eqb e.0 i) (list_any (λ j. eqb j i) (ids_of es)) a)
    by_has f false = h f

-- an instruction that is taken out changes what it wrote
pub differ_delete : (q : Key → Recipe) (r : Row) → NotOf r.id.0 q → Differ (has_key (writes r.plan)) (past_row q r) q
unfolding past
differ_delete q r a f = by_has (has_key (writes r.plan) f)
  where
    by_has : (c : Bool) → same (cond c (row_recipe q r) (q f)) (q f) ≡ not c
    by_has true = same_other r.id.0 r.set_by (chain q (reads r.plan)) (q f) (a f)
    by_has false = same_self (q f)

-- one that takes the place of another changes what either writes
pub differ_replace : (n : ℕ) (q : Key → Recipe) (r x : Row) → Below n q → NotOf r.id.0 q → x.set_by ≡ n → r.set_by < n → Differ (writes_either r.plan x.plan) (past_row q r) (past_row q x)
unfolding past
differ_replace n q r x b a e h f = by_both (has_key (writes r.plan) f) (has_key (writes x.plan) f)
  where
    by_both : (c d : Bool) → same (cond c (row_recipe q r) (q f)) (cond d (row_recipe q x) (q f)) ≡ not (c || d)
    by_both true true = rw e (same_new (row_recipe q r) x.id.0 n (chain q (reads x.plan)) h)
    by_both true false = same_other r.id.0 r.set_by (chain q (reads r.plan)) (q f) (a f)
    by_both false true = rw e (same_new (q f) x.id.0 n (chain q (reads x.plan)) (b f))
    by_both false false = same_self (q f)

pub known_take : (q : Key → Recipe) (rs : List Row) (p : ℕ) → take p (known q rs) ≡ known q (take p rs)
known_take q [] zero = refl
known_take q [] (suc p) = refl
known_take q (r ∷ rs) zero = refl
known_take q (r ∷ rs) (suc p) = rw (known_take (past_row q r) rs p) refl

pub known_drop : (q : Key → Recipe) (rs : List Row) (p : ℕ) → drop p (known q rs) ≡ known (past_all q (take p rs)) (drop p rs)
known_drop q [] zero = refl
known_drop q [] (suc p) = refl
known_drop q (r ∷ rs) zero = refl
known_drop q (r ∷ rs) (suc p) = known_drop (past_row q r) rs p

-- the rows after an insert
pub judged_insert : (n : ℕ) (q : Key → Recipe) (rs : List Row) (p : ℕ) (r : Row) → Below n (past_all q (take p rs)) → r.set_by ≡ n → judged n q (insert (known q rs) p (record { row = r; before = None })) ≡ take p rs ++ unsettled n r ∷ swept n (has_key (writes r.plan)) (drop p rs)
judged_insert n q rs p r b e =
    let new : Known = record { row = r; before = None } in
    ap (λ ks. judged n q (ks ++ new ∷ drop p (known q rs))) (known_take q rs p)
    ∙ ap (λ ks. judged n q (known q (take p rs) ++ new ∷ ks)) (known_drop q rs p)
    ∙ judged_front n q (take p rs) (new ∷ known (past_all q (take p rs)) (drop p rs))
    ∙ ap (λ ks. take p rs ++ unsettled n r ∷ ks) (judged_swept n (has_key (writes r.plan)) (past_all q (take p rs)) (past_row (past_all q (take p rs)) r) (differ_insert n (past_all q (take p rs)) r b e) (drop p rs))

-- the rows behind a row
known_behind : (q : Key → Recipe) (rs : List Row) (p : ℕ) (r : Row) (back : List Row) → drop p rs ≡ r ∷ back → drop (suc p) (known q rs) ≡ known (past_row (past_all q (take p rs)) r) back
known_behind q [] zero r back x = absurd (cc)
known_behind q [] (suc p) r back x = absurd (cc)
known_behind q (y ∷ rs) zero r back x = let a : y ≡ r = cc in let b : rs ≡ back = cc in rw (a, b) refl
known_behind q (y ∷ rs) (suc p) r back x = known_behind (past_row q y) rs p r back x

-- the rows after a delete
pub judged_delete : (n : ℕ) (q : Key → Recipe) (rs : List Row) (p : ℕ) (r : Row) (back : List Row) → drop p rs ≡ r ∷ back → NotOf r.id.0 (past_all q (take p rs)) → judged n q (remove (known q rs) p) ≡ take p rs ++ swept n (has_key (writes r.plan)) back
judged_delete n q rs p r back x a =
    ap (λ ks. judged n q (ks ++ drop (suc p) (known q rs))) (known_take q rs p)
    ∙ ap (λ ks. judged n q (known q (take p rs) ++ ks)) (known_behind q rs p r back x)
    ∙ judged_front n q (take p rs) (known (past_row (past_all q (take p rs)) r) back)
    ∙ ap (λ ks. take p rs ++ ks) (judged_swept n (has_key (writes r.plan)) (past_row (past_all q (take p rs)) r) (past_all q (take p rs)) (differ_delete (past_all q (take p rs)) r a) back)

-- the rows after a replace
pub judged_replace : (n : ℕ) (q : Key → Recipe) (rs : List Row) (p : ℕ) (r : Row) (back : List Row) (x : Plan) → drop p rs ≡ r ∷ back → Below n (past_all q (take p rs)) → NotOf r.id.0 (past_all q (take p rs)) → r.set_by < n
    → judged n q (take p (known q rs) ++ set_first n x (drop p (known q rs))) ≡ take p rs ++ unsettled n (record r { plan = x; set_by = n }) ∷ swept n (writes_either r.plan x) back
judged_replace n q rs p r back x e b a h =
    let c : Key → Recipe = past_all q (take p rs) in
    let y : Row = record r { plan = x; set_by = n } in
    ap (λ ks. judged n q (ks ++ set_first n x (drop p (known q rs)))) (known_take q rs p)
    ∙ ap (λ ks. judged n q (known q (take p rs) ++ set_first n x ks)) (known_drop q rs p ∙ ap (known c) e)
    ∙ judged_front n q (take p rs) (record { row = y; before = Some (row_recipe c r) } ∷ known (past_row c r) back)
    ∙ ap (λ t. take p rs ++ cond t y (unsettled n y) ∷ judged n (past_row c y) (known (past_row c r) back)) (same_new (row_recipe c r) r.id.0 n (chain c (reads x)) h)
    ∙ ap (λ ks. take p rs ++ unsettled n y ∷ ks) (judged_swept n (writes_either r.plan x) (past_row c r) (past_row c y) (differ_replace n c r y b a refl h) back)
