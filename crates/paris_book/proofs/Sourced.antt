-- What rows name stays what it was: where rows come from rows of before, and where one is settled.
use Rattle.std.proofs.Common.{◌≡◌, ℕ, ◌+◌, ◌<◌, ◌≤◌, ◌⊎◌, inl, inr, List, [], ◌∷◌, ◌++◌, Bool, true, false, cond, Option, Some, None, refl, sym, ap, ◌∙◌, subst, arith, take, drop, zero, suc, set, slice_get}
use Rattle.std.proofs.Math.Path.{ap₂}
use Rattle.std.specs.Prelude.{replicate}
use Rattle.paris_names.specs.declared.keys.Key.{Key}
use Rattle.paris_names.specs.declared.ids.Edition.{Edition}
use Rattle.paris_exec.specs.Tasks.{Task}
use Rattle.paris_edits.specs.Rows.{is_settled}
use Rattle.paris_events.specs.State.{Inputs, input_of}
use Rattle.paris_events.specs.declared.inputs.Input.{Input}
use Rattle.paris_depends.specs.Sweeps.{touches, spread}
use Rattle.paris_book.specs.Entries.{Entry, id_of, with_data}
use Rattle.paris_book.specs.Marks.{stale_data}
use Rattle.paris_book.specs.SourceLists.{no_sources}
use Rattle.paris_book.specs.Sources.{number_told, IsNumbered, LeavesFree, NamesInput, NamesResult, IsSourced}
use Rattle.paris_book.specs.declared.sources.Source.{Source}
use Rattle.paris_book.specs.declared.sources.Source.TheVariants.{Unknown, Input as FromInput, Row as FromRow}
use Rattle.paris_book.proofs.Swept.{swept_entries}

-- a row that keeps the result of one of before, with its sources: its edition is as it was, or is a new number
pub record Old (n m : ℕ) (es : List Entry) (x : Entry) : Type 0 where
  pub place : ℕ
  pub e : Entry
  pub at : slice_get es place ≡ Some e
  pub id : x.0 ≡ e.0
  pub done : x.1.done ≡ e.1.done
  pub sources : x.1.sources ≡ e.1.sources
  pub edition : ((x.1.edition ≡ e.1.edition) × (is_settled x.1.status ≡ false → is_settled e.1.status ≡ false)) ⊎ ((x.1.edition.0 ≡ m) × (n < m))

-- a row that keeps none
pub record New (n m : ℕ) (x : Entry) : Type 0 where
  pub done : x.1.done ≡ None
  pub sources : (i : ℕ) (s : Source) → slice_get x.1.sources i ≡ Some s → s ≡ Unknown
  pub edition : x.1.edition.0 ≡ m
  pub above : n < m

abbrev pub Comes : ℕ → ℕ → List Entry → Entry → Type 0
Comes n m es x = Old n m es x ⊎ New n m x

-- all rows are of this kind
abbrev pub Every : (Entry → Type 0) → List Entry → Type 0
Every P [] = Unit {0}
Every P (e ∷ es) = P e × Every P es

pub every_at : (P : Entry → Type 0) (es : List Entry) (p : ℕ) (x : Entry) → Every P es → slice_get es p ≡ Some x → P x
every_at P [] p x all at = absurd (cc)
every_at P (e ∷ es) zero x all at = let same : e ≡ x = cc in subst P same all.0
every_at P (e ∷ es) (suc p) x all at = every_at P es p x all.1 at

pub every_of : (P : Entry → Type 0) (es : List Entry) → ((p : ℕ) (x : Entry) → slice_get es p ≡ Some x → P x) → Every P es
every_of P [] f = tt
every_of P (e ∷ es) f = (f 0 e refl, every_of P es (λ p x at. f (suc p) x at))

pub every_take : (P : Entry → Type 0) (es : List Entry) (p : ℕ) → Every P es → Every P (take p es)
every_take P [] zero all = tt
every_take P [] (suc p) all = tt
every_take P (e ∷ es) zero all = tt
every_take P (e ∷ es) (suc p) all = (all.0, every_take P es p all.1)

pub every_drop : (P : Entry → Type 0) (es : List Entry) (p : ℕ) → Every P es → Every P (drop p es)
every_drop P [] zero all = tt
every_drop P [] (suc p) all = tt
every_drop P (e ∷ es) zero all = all
every_drop P (e ∷ es) (suc p) all = every_drop P es p all.1

pub every_join : (P : Entry → Type 0) (xs ys : List Entry) → Every P xs → Every P ys → Every P (xs ++ ys)
every_join P [] ys a b = b
every_join P (x ∷ xs) ys a b = (a.0, every_join P xs ys a.1 b)

-- a row of before
pub record Stands (es : List Entry) (x : Entry) : Type 0 where
  pub place : ℕ
  pub at : slice_get es place ≡ Some x

pub all_stand : (es : List Entry) → Every (Stands es) es
all_stand es = every_of (Stands es) es (λ p x at. record { place = p; at = at })

pub stays : (n m : ℕ) (es : List Entry) (x : Entry) → Stands es x → Comes n m es x
stays n m es x s = inl (record { place = s.place; e = x; at = s.at; id = refl; done = refl; sources = refl; edition = inl (refl, λ u. u) })

pub goes_stale : (n : ℕ) (es : List Entry) (x : Entry) → Stands es x → Comes n (n + 1) es (with_data (stale_data (n + 1)) x)
goes_stale n es x s = inl (record { place = s.place; e = x; at = s.at; id = refl; done = refl; sources = refl; edition = inr (refl, omega arith) })

pub every_stays : (n m : ℕ) (es xs : List Entry) → Every (Stands es) xs → Every (Comes n m es) xs
every_stays n m es [] all = tt
every_stays n m es (x ∷ xs) all = (stays n m es x all.0, every_stays n m es xs all.1)

pub every_swept : (n : ℕ) (d : Key → Bool) (es xs : List Entry) → Every (Stands es) xs → Every (Comes n (n + 1) es) (swept_entries (n + 1) d xs)
every_swept n d es [] all = tt
every_swept n d es (x ∷ xs) all = (by_touch (touches d x.1.plan), every_swept n (spread d x.1.plan) es xs all.1)
  where
    by_touch : (c : Bool) → Comes n (n + 1) es (cond c (with_data (stale_data (n + 1)) x) x)
    by_touch true = goes_stale n es x all.0
    by_touch false = stays n (n + 1) es x all.0

module _ (n m : ℕ) (inputs after : Inputs) (es zs : List Entry) (up : n ≤ m) (comes : Every (Comes n m es) zs)
    (news : (k : Key) (v : Input) → input_of after k ≡ Some v → (input_of inputs k ≡ Some v) ⊎ (n < v.number))
    (w : IsSourced n inputs es) where
  old_told : (x : Entry) (o : Old n m es x) (i : ℕ) (s : Source) → slice_get x.1.sources i ≡ Some s → (slice_get o.e.1.sources i ≡ Some s) × (number_told s ≤ n)
  old_told x o i s named =
      let before : slice_get o.e.1.sources i ≡ Some s = ap (λ (l : List Source). slice_get l i) (sym o.sources) ∙ named in
      (before, (w.numbers o.place o.e o.at).sources i s before)

  numbers : (x : Entry) → Comes n m es x → IsNumbered m x
  numbers x (inl o) =
      let e : IsNumbered n o.e = w.numbers o.place o.e o.at in
      record {
        edition = elim o.edition [
          | inl s ↦ (let a : o.e.1.edition.0 ≤ n = e.edition in let b : x.1.edition.0 ≡ o.e.1.edition.0 = ap (λ (d : Edition). d.0) s.0 in omega (arith, a, b, up))
          | inr s ↦ (let b : x.1.edition.0 ≡ m = s.0 in omega (arith, b))
        ];
        result = λ d done. (let a : d.edition.0 ≤ n = e.result d (sym o.done ∙ done) in omega (arith, a, up));
        sources = λ i s named. (let a : number_told s ≤ n = (old_told x o i s named).1 in omega (arith, a, up));
      }
  numbers x (inr o) = record {
    edition = (let b : x.1.edition.0 ≡ m = o.edition in omega (arith, b));
    result = λ d done. (let nothing : Option Task = None in let wrong : nothing ≡ Some d = sym o.done ∙ done in absurd (cc));
    sources = λ i s named. (let a : number_told s ≡ 0 = ap number_told (o.sources i s named) in omega (arith, a));
  }

  free : (x e : Entry) → Comes n m es x → Comes n m es e → LeavesFree x e
  free x e (inr o) c i unsettled named = let wrong : FromRow (id_of e) e.1.edition ≡ Unknown = o.sources i (FromRow (id_of e) e.1.edition) named in absurd (cc)
  free x e (inl o) (inr c) i unsettled named =
      let told : e.1.edition.0 ≤ n = (old_told x o i (FromRow (id_of e) e.1.edition) named).1 in
      let is : e.1.edition.0 ≡ m = c.edition in
      let above : n < m = c.above in
      absurd (omega (arith, told, is, above))
  free x e (inl o) (inl c) i unsettled named = elim c.edition [
    | inl s ↦ w.free o.place c.place o.e c.e o.at c.at i (s.1 unsettled)
        ((old_told x o i (FromRow (id_of e) e.1.edition) named).0 ∙ ap₂ (λ (j : ℕ) (d : Edition). Some (FromRow (record { 0 = j }) d)) c.id s.0)
    | inr s ↦ (
        let told : e.1.edition.0 ≤ n = (old_told x o i (FromRow (id_of e) e.1.edition) named).1 in
        let is : e.1.edition.0 ≡ m = s.0 in
        let above : n < m = s.1 in
        absurd (omega (arith, told, is, above)))
  ]

  given : (x : Entry) → Comes n m es x → NamesInput after x
  given x (inr o) i number k v named has same d done read = let nothing : Option Task = None in let wrong : nothing ≡ Some d = sym o.done ∙ done in absurd (cc)
  given x (inl o) i number k v named has same d done read = elim (news k v has) [
    | inl h ↦ w.named.given o.place o.e o.at i number k v (old_told x o i (FromInput number) named).0 h same d (sym o.done ∙ done) read
    | inr above ↦ (let told : number ≤ n = (old_told x o i (FromInput number) named).1 in absurd (omega (arith, told, same, above)))
  ]

  kept : (x e : Entry) → Comes n m es x → Comes n m es e → NamesResult x e
  kept x e (inr o) c i k edition t named keeps same d done read = let nothing : Option Task = None in let wrong : nothing ≡ Some d = sym o.done ∙ done in absurd (cc)
  kept x e (inl o) (inr c) i k edition t named keeps same d done read = let nothing : Option Task = None in let wrong : nothing ≡ Some t = sym c.done ∙ keeps in absurd (cc)
  kept x e (inl o) (inl c) i k edition t named keeps same d done read =
      w.named.kept o.place c.place o.e c.e o.at c.at i k edition t
      ((old_told x o i (FromRow (id_of e) edition) named).0 ∙ ap (λ (j : ℕ). Some (FromRow (record { 0 = j }) edition)) c.id)
      (sym c.done ∙ keeps) same d (sym o.done ∙ done) read

  -- rows that come from rows of before name what these named
  pub sourced_from : IsSourced m after zs
  sourced_from = record {
    numbers = λ p x at. numbers x (every_at (Comes n m es) zs p x comes at);
    free = λ p q x e at there. free x e (every_at (Comes n m es) zs p x comes at) (every_at (Comes n m es) zs q e comes there);
    named = record {
      given = λ p x at. given x (every_at (Comes n m es) zs p x comes at);
      kept = λ p q x e at there. kept x e (every_at (Comes n m es) zs p x comes at) (every_at (Comes n m es) zs q e comes there);
    };
  }

-- a row that keeps no result knows no source
pub none_told : (i : ℕ) (s : Source) → slice_get no_sources i ≡ Some s → s ≡ Unknown
none_told i s at = in_replicated 8 i at
  where
    in_replicated : (c i : ℕ) → slice_get (replicate c Unknown) i ≡ Some s → s ≡ Unknown
    in_replicated zero i at = absurd (cc)
    in_replicated (suc c) zero at = let same : s ≡ Unknown = cc in same
    in_replicated (suc c) (suc i) at = in_replicated c i at

-- the input data is as it was
pub no_news : (n : ℕ) (inputs : Inputs) (k : Key) (v : Input) → input_of inputs k ≡ Some v → (input_of inputs k ≡ Some v) ⊎ (n < v.number)
no_news n inputs k v has = inl has

-- what stands among rows of which one was changed
pub set_entry : {X : Type 0} (rs : List X) (k : ℕ) (y : X) (p : ℕ) (q : X) → slice_get (set rs k y) p ≡ Some q → ((p ≡ k) × (q ≡ y)) ⊎ (slice_get rs p ≡ Some q)
set_entry [] k y p q at = inr at
set_entry (x ∷ rs) zero y zero q at = inl (refl, (let same : q ≡ y = cc in same))
set_entry (x ∷ rs) zero y (suc p) q at = inr at
set_entry (x ∷ rs) (suc k) y zero q at = inr at
set_entry (x ∷ rs) (suc k) y (suc p) q at = elim (set_entry rs k y p q at) [ inl e ↦ inl (ap suc e.0, e.1) | inr e ↦ inr e ]

-- one row alone is another, with the result and the sources that it had
pub sourced_put : (n : ℕ) (inputs : Inputs) (es : List Entry) (k : ℕ) (e x : Entry) → slice_get es k ≡ Some e → x.0 ≡ e.0 → x.1.done ≡ e.1.done → x.1.sources ≡ e.1.sources → x.1.edition ≡ e.1.edition → (is_settled x.1.status ≡ false → is_settled e.1.status ≡ false)
    → IsSourced n inputs es → IsSourced n inputs (set es k x)
sourced_put n inputs es k e x at id done sources edition status w =
    sourced_from n n inputs inputs es (set es k x) (omega arith)
    (every_of (Comes n n es) (set es k x) (λ p z here. elim (set_entry es k x p z here) [
      | inl is ↦ subst (Comes n n es) (sym is.1) (inl (record { place = k; e = e; at = at; id = id; done = done; sources = sources; edition = inl (edition, status) }))
      | inr old ↦ stays n n es z (record { place = p; at = old })
    ]))
    (no_news n inputs) w
