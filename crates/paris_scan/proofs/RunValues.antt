-- Values that are made one after another along lines are what the lists that scans combine come to.
use Rattle.std.proofs.Common.{◌≡◌, ℕ, suc, ◌<◌, Bool, true, false, cond, get_or, List, [], ◌∷◌, ◌++◌, length, arith, ap, ◌∙◌, subst, sym, refl}
use Rattle.std.specs.Prelude.{◌^◌, All}
use Rattle.std.proofs.lemmas.List.FromFn.{fill_by_all, get_or-map-range_with_len, length-map-range_with_len}
use Rattle.std.proofs.lemmas.List.Sums.{fold-append}
use lib.Pow.{pow_pos}
use Rattle.paris_geometry.specs.declared.direction.Direction.{Direction}
use Rattle.paris_geometry.specs.declared.direction.Direction.TheVariants.{Upward, Downward}
use Rattle.paris_geometry.specs.Geometry.{axis_length, is_geometry, processor_count, stride}
use Rattle.paris_model.specs.declared.operators.Combiner.{Combiner}
use Rattle.paris_model.specs.declared.operators.Combiner.TheVariants.{Sum, BitOr, BitAnd, BitXor, Maximum, Minimum}
use Rattle.paris_model.specs.declared.operators.Inclusion.{Inclusion}
use Rattle.paris_model.specs.declared.operators.Inclusion.TheVariants.{Inclusive, Exclusive}
use Rattle.paris_model.specs.Combine.{combine, combined, unit}
use Rattle.paris_model.specs.Store.{everywhere}
use Rattle.paris_model.specs.Lines.{scan_values, values_where}
use Rattle.paris_field.specs.Fields.{AllFit, FieldNumbers, operand}
use Rattle.paris_field.specs.Numbers.{bits_everywhere, has}
use Rattle.paris_field.proofs.Places.{get_or-bits_everywhere}
use Rattle.paris_scan.specs.Lines.{scanned}
use Rattle.paris_scan.specs.Running.{AreRunning, HasBefore, shown_value, taken, value_before}
use Rattle.paris_scan.specs.Runs.{Reaches, before, begins_run, segment_run}
use Rattle.paris_scan.proofs.Added.{map_cond}
use Rattle.paris_scan.proofs.Defined.{inclusive_run}
use Rattle.paris_scan.proofs.Excluded.{exclusive_run}
use Rattle.paris_scan.proofs.OneByOne.{cut_same}
use Rattle.paris_scan.proofs.Reach.{behind, starts_at}
use Rattle.paris_scan.proofs.Units.{combined_below}
use Rattle.paris_scan.proofs.Turns.{Walk, run_ended, starts_line}

has_before : (d : Direction) (by n v : ℕ) → Reaches d by n v → HasBefore d by n v
has_before Upward by n v h = (λ _. h, λ e. absurd (cc))
has_before Downward by n v h = (λ e. absurd (cc), λ _. h)

pub before_within : (d : Direction) (by n v : ℕ) → v < n → HasBefore d by n v → before d by v < n
before_within Upward by n v h has = omega (arith, h)
before_within Downward by n v h has = has.1 refl

pub reaches_from : (d : Direction) (by n v : ℕ) → HasBefore d by n v → Reaches d by n v
reaches_from Upward by n v has = has.0 refl
reaches_from Downward by n v has = has.1 refl

-- a processor where no run begins has one before it
pub reach_back : {axes : List ℕ} {a : ℕ} {d : Direction} {f : ℕ → Bool} → Walk axes a d f → (v : ℕ) → v < processor_count axes → f v ≡ false → HasBefore d (stride axes a) (processor_count axes) v
reach_back {axes} {a} {d} {f} w v below none =
    has_before d (stride axes a) (processor_count axes) v (behind axes a d v w.sound w.within below (starts_at axes a d f v w.starts below none)).reaches

-- what a list comes to is made of that of the list without the last processor's values
abbrev pub Extends : (List ℕ → ℕ) → (ℕ → ℕ → ℕ) → ℕ → (ℕ → List ℕ) → Type 0
Extends total next n own = (v : ℕ) (xs : List ℕ) → v < n → total (xs ++ own v) ≡ next v (total xs)

cut_total : (total : List ℕ → ℕ) (b : Bool) (rest : List ℕ) → cond b (total []) (total rest) ≡ total (cond b [] rest)
cut_total total true rest = refl
cut_total total false rest = refl

extended : (total : List ℕ → ℕ) (next : ℕ → ℕ → ℕ) (n v : ℕ) (own : ℕ → List ℕ) (b : Bool) (rest : List ℕ) → Extends total next n own → v < n → total (cond b (own v) (rest ++ own v)) ≡ next v (cond b (total []) (total rest))
extended total next n v own true rest each h = each v [] h
extended total next n v own false rest each h = each v rest h

-- what the run that ends at v comes to
abbrev pub run_value : (List ℕ → ℕ) → List ℕ → ℕ → Direction → (ℕ → Bool) → (ℕ → List ℕ) → ℕ → ℕ
run_value total axes a d f own v = total (segment_run f own d (stride axes a) (axis_length axes a) v)

-- these are made of the one before and the processor's own values
pub runs_follow : {axes : List ℕ} {a : ℕ} {d : Direction} {f : ℕ → Bool} → Walk axes a d f → (total : List ℕ → ℕ) (next : ℕ → ℕ → ℕ) (own : ℕ → List ℕ) → Extends total next (processor_count axes) own
    → AreRunning next (total []) d (stride axes a) (processor_count axes) f (run_value total axes a d f own)
unfolding segment_run
runs_follow {axes} {a} {d} {f} w total next own each v below =
    ap total (sym (run_ended w own (suc (axis_length axes a)) v (omega arith) below))
    ∙ extended total next (processor_count axes) v own (f v) (segment_run f own d (stride axes a) (axis_length axes a) (before d (stride axes a) v)) each below

-- and a scan shows those of the lists that it combines
shown_run : (total : List ℕ → ℕ) (axes : List ℕ) (a : ℕ) (d : Direction) (inclusion : Inclusion) (segments selected : ℕ → Bool) (value : ℕ → ℕ) (v : ℕ) → is_geometry axes ≡ true → a < length axes → v < processor_count axes
    → shown_value (total []) inclusion d (stride axes a) (begins_run axes a d segments) (run_value total axes a d (begins_run axes a d segments) (λ u. values_where selected value (u ∷ []))) v ≡ total (scan_values axes a d inclusion segments selected value v)
shown_run total axes a d Inclusive segments selected value v sound within below = ap total (inclusive_run axes a d segments selected value v sound within below)
shown_run total axes a d Exclusive segments selected value v sound within below =
    cut_total total (begins_run axes a d segments v) (segment_run (begins_run axes a d segments) (λ u. values_where selected value (u ∷ [])) d (stride axes a) (axis_length axes a) (before d (stride axes a) v))
    ∙ ap total (exclusive_run axes a d segments selected value v sound within below)

-- values look at where runs begin among the processors alone
before_same : (none : ℕ) (d : Direction) (by : ℕ) (f g : ℕ → Bool) (values : ℕ → ℕ) (v : ℕ) → g v ≡ f v → value_before none d by g values v ≡ value_before none d by f values v
before_same none d by f g values v e = ap (λ b. cond b none (values (before d by v))) e

shown_same : (none : ℕ) (inclusion : Inclusion) (d : Direction) (by : ℕ) (f g : ℕ → Bool) (values : ℕ → ℕ) (v : ℕ) → g v ≡ f v → shown_value none inclusion d by g values v ≡ shown_value none inclusion d by f values v
shown_same none Inclusive d by f g values v e = refl
shown_same none Exclusive d by f g values v e = before_same none d by f g values v e

running_same : (next : ℕ → ℕ → ℕ) (none : ℕ) (d : Direction) (by n : ℕ) (f g : ℕ → Bool) (values : ℕ → ℕ) → ((v : ℕ) → v < n → g v ≡ f v) → AreRunning next none d by n f values → AreRunning next none d by n g values
running_same next none d by n f g values same running v h = running v h ∙ ap (next v) (sym (before_same none d by f g values v (same v h)))

-- what a scan shows depends on the values of n processors alone
pub shown_values : (none : ℕ) (inclusion : Inclusion) (d : Direction) (by n : ℕ) (begins : ℕ → Bool) (x y : ℕ → ℕ) (v : ℕ) → ((u : ℕ) → u < n → x u ≡ y u) → v < n → (begins v ≡ false → HasBefore d by n v)
    → shown_value none inclusion d by begins x v ≡ shown_value none inclusion d by begins y v
shown_values none Inclusive d by n begins x y v each h reach = each v h
shown_values none Exclusive d by n begins x y v each h reach =
    cut_same (begins v) none (x (before d by v)) (y (before d by v)) (λ e. each (before d by v) (before_within d by n v h (reach e)))

-- what a selected processor's value is in a field
abbrev pub own_values : List Bool → ℕ → FieldNumbers → ℕ → List ℕ
own_values selected L x u = values_where (has selected) (operand L x) (u ∷ [])

-- what the runs of a field's words come to
abbrev pub field_value : (List ℕ → ℕ) → List ℕ → ℕ → Direction → List Bool → List Bool → ℕ → FieldNumbers → ℕ → ℕ
field_value total axes a d segments selected L x = run_value total axes a d (begins_run axes a d (has segments)) (own_values selected L x)

-- how the lines of a scan are walked
pub record IsWalked (axes : List ℕ) (a : ℕ) (d : Direction) (segments : List Bool) (e : Direction) (by : ℕ) (begins : List Bool) : Type 0 where
  pub sound : is_geometry axes ≡ true
  pub within : a < length axes
  pub same : e ≡ d
  pub near : by ≡ stride axes a
  pub starts : begins ≡ bits_everywhere (processor_count axes) (begins_run axes a d (has segments))

pub field_follows : {axes : List ℕ} {a : ℕ} {d : Direction} {segments : List Bool} {e : Direction} {by : ℕ} {begins : List Bool} → IsWalked axes a d segments e by begins → (total : List ℕ → ℕ) (next : ℕ → ℕ → ℕ) (selected : List Bool) (L : ℕ) (x : FieldNumbers) (m : ℕ)
    → m ≡ processor_count axes → Extends total next (processor_count axes) (own_values selected L x) → AreRunning next (total []) e by m (has begins) (field_value total axes a d segments selected L x)
field_follows {axes} {a} {d} {segments} {e} {by} {begins} walks total next selected L x m count each =
    let n : ℕ = processor_count axes in
    let f : ℕ → Bool = begins_run axes a d (has segments) in
    let values : ℕ → ℕ = field_value total axes a d segments selected L x in
    let w : Walk axes a d f = record { sound = walks.sound; within = walks.within; starts = λ u _ e. starts_line axes a d (has segments) u e } in
    let same : (u : ℕ) → u < n → has begins u ≡ f u = λ u h. ap (λ (l : List Bool). has l u) walks.starts ∙ get_or-bits_everywhere n f u h in
    subst (λ c. AreRunning next (total []) c by m (has begins) values) (sym walks.same)
    (subst (λ k. AreRunning next (total []) d by k (has begins) values) (sym count)
    (subst (λ s. AreRunning next (total []) d s n (has begins) values) (sym walks.near)
    (running_same next (total []) d (stride axes a) n f (has begins) values same (runs_follow w total next (own_values selected L x) each))))

pub field_shows : {axes : List ℕ} {a : ℕ} {d : Direction} {segments : List Bool} {e : Direction} {by : ℕ} {begins : List Bool} → IsWalked axes a d segments e by begins → (total : List ℕ → ℕ) (inclusion : Inclusion) (selected : List Bool) (L : ℕ) (x : FieldNumbers)
    → (v : ℕ) → v < processor_count axes → shown_value (total []) inclusion e by (has begins) (field_value total axes a d segments selected L x) v ≡ total (scanned axes a d inclusion segments selected L x v)
field_shows {axes} {a} {d} {segments} {e} {by} {begins} walks total inclusion selected L x v below =
    let f : ℕ → Bool = begins_run axes a d (has segments) in
    let values : ℕ → ℕ = field_value total axes a d segments selected L x in
    ap (λ c. shown_value (total []) inclusion c by (has begins) values v) walks.same
    ∙ ap (λ s. shown_value (total []) inclusion d s (has begins) values v) walks.near
    ∙ shown_same (total []) inclusion d (stride axes a) f (has begins) values v (ap (λ (l : List Bool). has l v) walks.starts ∙ get_or-bits_everywhere (processor_count axes) f v below)
    ∙ shown_run total axes a d inclusion (has segments) (has selected) (operand L x) v walks.sound walks.within below

-- a processor without a value adds none to those that are combined
with_own : (op : Combiner) (L none : ℕ) (b : Bool) (x : ℕ) (xs : List ℕ) → combined op L none (xs ++ cond b (x ∷ []) []) ≡ cond b (combine op L (combined op L none xs) x) (combined op L none xs)
with_own op L none true x xs = fold-append (combine op L) none xs (x ∷ [])
with_own op L none false x xs = fold-append (combine op L) none xs []

pub takes_own : (op : Combiner) (L none n : ℕ) (selected : List Bool) (x : FieldNumbers) (words : List ℕ) → ((v : ℕ) → v < n → get_or words v 0 ≡ operand L x v) → Extends (combined op L none) (taken op L (has selected) words) n (own_values selected L x)
takes_own op L none n selected x words is v xs h =
    ap (λ l. combined op L none (xs ++ l)) (map_cond (has selected v) (operand L x) v)
    ∙ with_own op L none (has selected v) (operand L x v) xs
    ∙ ap (λ y. cond (has selected v) (combine op L (combined op L none xs) y) (combined op L none xs)) (sym (is v h))

-- numbers that fit, in each of n processors
pub all_fit : (n bits : ℕ) (f : ℕ → ℕ) → ((v : ℕ) → f v < 2 ^ bits) → AllFit bits (everywhere n f)
all_fit n bits f fits k z h =
    let below : k < n = omega (arith, h, length-map-range_with_len f 0 n) in
    let is : get_or (everywhere n f) k z ≡ f k = get_or-map-range_with_len f 0 n k k z below (omega arith) in
    omega (arith, is, fits k)

unit_below : (op : Combiner) (L : ℕ) → unit op L < 2 ^ L
unit_below Sum L = pow_pos L
unit_below BitOr L = pow_pos L
unit_below BitAnd L = (let some : 0 < 2 ^ L = pow_pos L in omega arith)
unit_below BitXor L = pow_pos L
unit_below Maximum L = pow_pos L
unit_below Minimum L = (let some : 0 < 2 ^ L = pow_pos L in omega arith)

pub combined_fits : (op : Combiner) (n L : ℕ) (values : ℕ → List ℕ) → ((v : ℕ) → All (λ x. x < 2 ^ L) (values v)) → AllFit L (everywhere n (λ v. combined op L (unit op L) (values v)))
combined_fits op n L values fits = all_fit n L (λ v. combined op L (unit op L) (values v)) (λ v. combined_below op L (unit op L) (values v) (unit_below op L) (fits v))

-- the words of a field
pub words_long : (L : ℕ) (x : FieldNumbers) (words : List ℕ) → words ≡ everywhere (length x.numbers) (operand L x) → length words ≡ length x.numbers
words_long L x words is = ap length is ∙ length-map-range_with_len (operand L x) 0 (length x.numbers)

pub words_at : (L : ℕ) (x : FieldNumbers) (words : List ℕ) → words ≡ everywhere (length x.numbers) (operand L x) → (v : ℕ) → v < length x.numbers → get_or words v 0 ≡ operand L x v
words_at L x words is v h = ap (λ (l : List ℕ). get_or l v 0) is ∙ get_or-map-range_with_len (operand L x) 0 (length x.numbers) v v 0 h (omega arith)

-- words that show a field's running values are what its values come to
pub words_shown : {axes : List ℕ} {a : ℕ} {d : Direction} {segments : List Bool} {e : Direction} {by : ℕ} {begins : List Bool} → IsWalked axes a d segments e by begins → (op : Combiner) (inclusion : Inclusion) (selected : List Bool) (L : ℕ) (x : FieldNumbers) (words shown : List ℕ)
    → length x.numbers ≡ processor_count axes → words ≡ everywhere (length x.numbers) (operand L x) → length shown ≡ length words
    → ((values : ℕ → ℕ) → AreRunning (taken op L (has selected) words) (unit op L) e by (length words) (has begins) values → (v : ℕ) → v < length words → get_or shown v 0 ≡ shown_value (unit op L) inclusion e by (has begins) values v)
    → shown ≡ everywhere (processor_count axes) (λ v. combined op L (unit op L) (scanned axes a d inclusion segments selected L x v))
words_shown {axes} {a} {d} {segments} {e} {by} {begins} walks op inclusion selected L x words shown count is long shows =
    let n : ℕ = processor_count axes in
    let total : List ℕ → ℕ = combined op L (unit op L) in
    let values : ℕ → ℕ = field_value total axes a d segments selected L x in
    let same : length words ≡ n = words_long L x words is ∙ count in
    let runs : AreRunning (taken op L (has selected) words) (unit op L) e by (length words) (has begins) values =
    field_follows walks total (taken op L (has selected) words) selected L x (length words) same (takes_own op L (unit op L) n selected x words (λ v h. words_at L x words is v (omega (arith, h, count)))) in
    fill_by_all (λ v. total (scanned axes a d inclusion segments selected L x v)) shown n 0 (long ∙ same) (λ v h.
    shows values runs v (omega (arith, h, same)) ∙ field_shows walks total inclusion selected L x v h)
