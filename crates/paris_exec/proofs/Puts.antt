-- What is put into a key by planes is what the definitions put there.
use Rattle.std.proofs.Common.{◌≡◌, ℕ, zero, suc, ◌<◌, ◌==◌, Bool, true, false, cond, List, [], ◌∷◌, length, map, replicate, slice_index, slice_index_or, refl, sym, ap, ◌∙◌, subst, if◌then◌else◌, arith, ◌^◌, ◌%◌}
use Rattle.std.specs.Prelude.{not, ◌&&◌}
use Rattle.std.specs.Simd.Lanes.{zip2}
use Rattle.std.proofs.Math.Nat.{mod-eq_of_lt}
use Rattle.std.proofs.lemmas.Simd.{length-zip2}
use Rattle.std.proofs.lemmas.List.Elements.{All-get_or}
use Rattle.std.proofs.lemmas.List.{length-map, length-replicate, get_or-replicate}
use lib.Pow.{pow_pos}
use Rattle.std.proofs.lemmas.List.FromFn.{fill_by_all}
use Rattle.paris_names.specs.declared.keys.FlagName.TheVariants.{Context}
use Rattle.paris_names.specs.declared.keys.Key.{Key}
use Rattle.paris_names.specs.declared.keys.Key.TheVariants.{Flag}
use Rattle.paris_geometry.specs.Geometry.{processor_count}
use Rattle.paris_model.specs.Store.{put, low, bit, stored}
use Rattle.paris_model.proofs.Stores.{everywhere-same}
use Rattle.paris_model.specs.Instructions.{key_width}
use Rattle.paris_plane.specs.Bits.{zip3}
use Rattle.paris_plane.proofs.Bits.{length-zip3, get_or-zip3}
use Rattle.paris_field.specs.Fields.{FieldNumbers, AllFit}
use Rattle.paris_field.specs.Numbers.{bit_in, number_at}
use Rattle.paris_flags.specs.declared.steps.TestStep.TheVariants.{Load}
use Rattle.paris_flags.specs.Steps.{test_bit}
use Rattle.paris_model.specs.Frame.{is_selected}
use Rattle.paris_exec.specs.Planes.{flag_value, is_selected_without}
use Rattle.paris_exec.specs.Tasks.{Task, field_of, frame_at, seen_at, put_value, put_value_where}

-- a flag's number is 1 where its bit is
pub selected_bit : (mask : List Bool) (v : ℕ) → (slice_index (map bit mask) v == 1) ≡ slice_index_or mask v false
selected_bit [] v = refl
selected_bit (true ∷ bs) zero = refl
selected_bit (false ∷ bs) zero = refl
selected_bit (b ∷ bs) (suc v) = selected_bit bs v

pub flag_bit : (mask : List Bool) (v : ℕ) → bit (slice_index_or mask v false) ≡ slice_index (map bit mask) v
flag_bit [] v = refl
flag_bit (b ∷ bs) zero = refl
flag_bit (b ∷ bs) (suc v) = flag_bit bs v

-- the processors of the context's plane are the selected ones
pub mask_selects : (t : Task) (mask : List Bool) → map bit mask ≡ seen_at t (Flag t.plan.set_no Context) → (λ v. slice_index_or mask v false) ≡ is_selected (frame_at t)
mask_selects t mask e = (λ i v. sym (selected_bit mask v) i) ∙ ap {B = ℕ → Bool} (λ xs v. slice_index xs v == 1) e

-- numbers that are stored where a test passes
pub put_is : (t : Task) (k : Key) (x new value : FieldNumbers) (who : ℕ → Bool) (f : ℕ → ℕ) → x ≡ field_of t.plan k (seen_at t k) → length x.numbers ≡ processor_count t.plan.axes
    → ((v : ℕ) → v < processor_count t.plan.axes → f v ≡ slice_index new.numbers v) → value.width ≡ x.width
    → value.numbers ≡ stored (length x.numbers) who (slice_index x.numbers) new.width f → value ≡ put_value_where t who k new
put_is t k x new value who f x_is count f_is width_is numbers_are =
    let wide : value.width ≡ (put_value_where t who k new).width = width_is ∙ ap (λ (y : FieldNumbers). y.width) x_is in
    let same : value.numbers ≡ (put_value_where t who k new).numbers =
    numbers_are
    ∙ ap (λ n. stored n who (slice_index x.numbers) new.width f) count
    ∙ everywhere-same (processor_count t.plan.axes) _ _ (λ v below. rw (f_is v below, x_is) refl) in
    (λ i. record { width = wide i; numbers = same i })

-- a store hangs on its test in the processors alone
pub where_same : (t : Task) (k : Key) (new : FieldNumbers) (who other : ℕ → Bool) → ((v : ℕ) → v < processor_count t.plan.axes → who v ≡ other v) → put_value_where t who k new ≡ put_value_where t other k new
where_same t k new who other same =
    ap (field_of t.plan k) (everywhere-same (processor_count t.plan.axes) _ _ (λ v below.
    ap (λ b. if b then put (slice_index (seen_at t k) v) (slice_index new.numbers v) new.width else slice_index (seen_at t k) v) (same v below)))

without_at : (flags mask : List Bool) (v : ℕ) → v < length flags → length flags ≡ length mask → slice_index_or (zip2 (λ a b. cond b false a) mask flags) v false ≡ (not (slice_index_or flags v false) && slice_index_or mask v false)
without_at [] mask v h e = absurd (omega (arith, h))
without_at (b ∷ bs) [] v h e = absurd (omega (arith, e))
without_at (true ∷ bs) (m ∷ ms) zero h e = refl
without_at (false ∷ bs) (m ∷ ms) zero h e = refl
without_at (b ∷ bs) (m ∷ ms) (suc v) h e = without_at bs ms v (omega (arith, h)) (omega (arith, e))

pub length-without : (flags mask : List Bool) → length flags ≡ length mask → length (zip2 (λ a b. cond b false a) mask flags) ≡ length flags
length-without flags mask e = length-zip2 (λ a b. cond b false a) mask flags (sym e) ∙ sym e

-- a store where flags aren't set, by the selected processors
pub put_without : (t : Task) (k : Key) (new : FieldNumbers) (flags mask : List Bool) → length flags ≡ processor_count t.plan.axes → length mask ≡ processor_count t.plan.axes → map bit mask ≡ seen_at t (Flag t.plan.set_no Context)
    → put_value_where t (λ v. slice_index_or (zip2 (λ a b. cond b false a) mask flags) v false) k new ≡ put_value_where t (is_selected_without t flags) k new
put_without t k new flags mask long count mask_is =
    where_same t k new _ _ (λ v below.
    without_at flags mask v (subst (λ n. v < n) (sym long) below) (long ∙ sym count)
    ∙ ap {B = Bool} (λ (who : ℕ → Bool). not (slice_index_or flags v false) && who v) (mask_selects t mask mask_is))

-- the carry flags that a plane holds are those that the definitions see
pub carry_seen : (mask : List Bool) (seen : List ℕ) → map bit mask ≡ seen → bit_in mask ≡ slice_index seen
carry_seen mask seen e = (λ i v. flag_bit mask v i) ∙ ap {B = ℕ → ℕ} (λ xs v. slice_index xs v) e

-- a bit that is put where the mask is 1
put_flag_bit : (old new selected : Bool) → bit (cond selected new old) ≡ (if selected then put (bit old) (bit new) 1 else bit old)
put_flag_bit true true true = refl
put_flag_bit true true false = refl
put_flag_bit true false true = refl
put_flag_bit true false false = refl
put_flag_bit false true true = refl
put_flag_bit false true false = refl
put_flag_bit false false true = refl
put_flag_bit false false false = refl

put_flag_at : (old new mask : List Bool) (v : ℕ) → length old ≡ length new → length old ≡ length mask → v < length old
    → slice_index (map bit (zip3 (test_bit Load) old new mask)) v ≡ (if slice_index (map bit mask) v == 1 then put (slice_index (map bit old) v) (slice_index (map bit new) v) 1 else slice_index (map bit old) v)
put_flag_at old new mask v on om below =
    let o : Bool = slice_index_or old v false in
    let n : Bool = slice_index_or new v false in
    sym (flag_bit (zip3 (test_bit Load) old new mask) v)
    ∙ ap bit (get_or-zip3 (test_bit Load) old new mask v false false false false on om below)
    ∙ put_flag_bit o n (slice_index_or mask v false)
    ∙ ap (λ s. if s then put (bit o) (bit n) 1 else bit o) (sym (selected_bit mask v))
    ∙ ap (λ x. if slice_index (map bit mask) v == 1 then put x (bit n) 1 else x) (flag_bit old v)
    ∙ ap (λ y. if slice_index (map bit mask) v == 1 then put (slice_index (map bit old) v) y 1 else slice_index (map bit old) v) (flag_bit new v)

-- a step of flags under the context's plane is a store by the selected processors
pub put_flag_is : (t : Task) (k : Key) (old new mask : List Bool) → key_width t.plan k ≡ 1 → map bit old ≡ seen_at t k → map bit mask ≡ seen_at t (Flag t.plan.set_no Context)
    → length old ≡ processor_count t.plan.axes → length new ≡ processor_count t.plan.axes → length mask ≡ processor_count t.plan.axes → flag_value (zip3 (test_bit Load) old new mask) ≡ put_value t k (flag_value new)
put_flag_is t k old new mask wide old_is mask_is long_old long_new long_mask =
    let on : length old ≡ length new = long_old ∙ sym long_new in
    let om : length old ≡ length mask = long_old ∙ sym long_mask in
    let after : List Bool = zip3 (test_bit Load) old new mask in
    let same : map bit after ≡ (put_value t k (flag_value new)).numbers =
    fill_by_all _ (map bit after) (processor_count t.plan.axes) 0 (length-map after bit ∙ length-zip3 (test_bit Load) old new mask on om ∙ long_old) (λ v below.
    put_flag_at old new mask v on om (subst (λ n. v < n) (sym long_old) below)
    ∙ ap (λ ms. if slice_index ms v == 1 then put (slice_index (map bit old) v) (slice_index (map bit new) v) 1 else slice_index (map bit old) v) mask_is
    ∙ ap (λ os. if slice_index (seen_at t (Flag t.plan.set_no Context)) v == 1 then put (slice_index os v) (slice_index (map bit new) v) 1 else slice_index os v) old_is) in
    (λ i. record { width = sym wide i; numbers = same i })

-- a store of all bits leaves nothing of what stood there
pub put_whole : (old x L : ℕ) → old < 2 ^ L → put old x L ≡ low L x
put_whole old x L small = let all : old % 2 ^ L ≡ old = mod-eq_of_lt small in omega (arith, all)

-- a number of a list that fits
pub fit_at : (w : ℕ) (numbers : List ℕ) → AllFit w numbers → (v : ℕ) → v < length numbers → slice_index numbers v < 2 ^ w
fit_at w numbers fit v below = All-get_or (λ x. x < 2 ^ w) numbers v 0 below fit

not_at : (mask : List Bool) (v : ℕ) → v < length mask → slice_index_or (map not mask) v false ≡ not (slice_index_or mask v false)
not_at [] v h = absurd (omega (arith, h))
not_at (b ∷ bs) zero h = refl
not_at (b ∷ bs) (suc v) h = not_at bs v (omega (arith, h))

-- the old number put into the others is the new one put into the selected
kept_at : (selected : Bool) (old new L : ℕ) → old < 2 ^ L → new < 2 ^ L → (if not selected then put new old L else new) ≡ (if selected then put old new L else old)
kept_at true old new L fo fn = sym (put_whole old new L fo ∙ mod-eq_of_lt fn)
kept_at false old new L fo fn = put_whole new old L fn ∙ mod-eq_of_lt fo

-- as a whole value
pub kept_is : (mask others : List Bool) (x new value : FieldNumbers) (planes : List (List Bool)) → length mask ≡ length x.numbers → new.width ≡ x.width → length new.numbers ≡ length x.numbers
    → AllFit x.width x.numbers → AllFit new.width new.numbers → others ≡ map not mask → ((v : ℕ) → v < length x.numbers → number_at planes v ≡ low x.width (slice_index x.numbers v)) → value.width ≡ new.width
    → value.numbers ≡ stored (length new.numbers) (λ v. slice_index_or others v false) (slice_index new.numbers) x.width (number_at planes)
    → value ≡ record { width = x.width; numbers = stored (length x.numbers) (λ v. slice_index_or mask v false) (slice_index x.numbers) x.width (slice_index new.numbers) }
kept_is mask others x new value planes mask_count wide count fit_x fit_new others_is planes_are width_is numbers_are =
    let same : value.numbers ≡ stored (length x.numbers) (λ v. slice_index_or mask v false) (slice_index x.numbers) x.width (slice_index new.numbers) =
    numbers_are
    ∙ ap (λ n. stored n (λ v. slice_index_or others v false) (slice_index new.numbers) x.width (number_at planes)) count
    ∙ everywhere-same (length x.numbers) _ _ (λ v below.
    ap (λ ms. if slice_index_or ms v false then put (slice_index new.numbers v) (number_at planes v) x.width else slice_index new.numbers v) others_is
    ∙ ap (λ b. if b then put (slice_index new.numbers v) (number_at planes v) x.width else slice_index new.numbers v) (not_at mask v (subst (λ n. v < n) (sym mask_count) below))
    ∙ ap (λ y. if not (slice_index_or mask v false) then put (slice_index new.numbers v) y x.width else slice_index new.numbers v) (planes_are v below ∙ mod-eq_of_lt (fit_at x.width x.numbers fit_x v below))
    ∙ kept_at (slice_index_or mask v false) (slice_index x.numbers v) (slice_index new.numbers v) x.width (fit_at x.width x.numbers fit_x v below)
    (subst (λ w. slice_index new.numbers v < 2 ^ w) wide (fit_at new.width new.numbers fit_new v (subst (λ n. v < n) (sym count) below)))) in
    (λ i. record { width = (width_is ∙ wide) i; numbers = same i })

-- a value put into every processor
full_at : (selected : Bool) (old new L : ℕ) → selected ≡ true → old < 2 ^ L → new < 2 ^ L → new ≡ (if selected then put old new L else old)
full_at selected old new L e fo fn = sym (ap (λ b. if b then put old new L else old) e ∙ put_whole old new L fo ∙ mod-eq_of_lt fn)

pub full_is : (mask : List Bool) (x new : FieldNumbers) → length mask ≡ length x.numbers → new.width ≡ x.width → length new.numbers ≡ length x.numbers → AllFit x.width x.numbers → AllFit new.width new.numbers
    → ((v : ℕ) → v < length mask → slice_index_or mask v false ≡ true)
    → new ≡ record { width = x.width; numbers = stored (length x.numbers) (λ v. slice_index_or mask v false) (slice_index x.numbers) x.width (slice_index new.numbers) }
full_is mask x new mask_count wide count fit_x fit_new full =
    let same : new.numbers ≡ stored (length x.numbers) (λ v. slice_index_or mask v false) (slice_index x.numbers) x.width (slice_index new.numbers) =
    fill_by_all _ new.numbers (length x.numbers) 0 count (λ v below.
    full_at (slice_index_or mask v false) (slice_index x.numbers v) (slice_index new.numbers v) x.width (full v (subst (λ n. v < n) (sym mask_count) below)) (fit_at x.width x.numbers fit_x v below)
    (subst (λ w. slice_index new.numbers v < 2 ^ w) wide (fit_at new.width new.numbers fit_new v (subst (λ n. v < n) (sym count) below)))) in
    (λ i. record { width = wide i; numbers = same i })

-- numbers of a value put over zeros in every processor
pub widened_is : (x none value : FieldNumbers) (all : List Bool) (planes : List (List Bool)) (w : ℕ) → none ≡ record { width = w; numbers = replicate (length x.numbers) 0 } → all ≡ replicate (length x.numbers) true → AllFit x.width x.numbers
    → ((v : ℕ) → v < length x.numbers → number_at planes v ≡ slice_index x.numbers v) → value.width ≡ none.width
    → value.numbers ≡ stored (length none.numbers) (λ v. slice_index_or all v false) (slice_index none.numbers) x.width (number_at planes) → value ≡ record { width = w; numbers = x.numbers }
widened_is x none value all planes w none_is all_is fit planes_are width_is numbers_are =
    let count : length none.numbers ≡ length x.numbers = ap (λ (y : FieldNumbers). length y.numbers) none_is ∙ length-replicate (length x.numbers) 0 in
    let same : value.numbers ≡ x.numbers =
    numbers_are
    ∙ ap (λ m. stored m (λ v. slice_index_or all v false) (slice_index none.numbers) x.width (number_at planes)) count
    ∙ sym (fill_by_all _ x.numbers (length x.numbers) 0 refl (λ v below.
    sym (
    ap (λ bs. if slice_index_or bs v false then put (slice_index none.numbers v) (number_at planes v) x.width else slice_index none.numbers v) all_is
    ∙ ap (λ b. if b then put (slice_index none.numbers v) (number_at planes v) x.width else slice_index none.numbers v) (get_or-replicate (length x.numbers) v true false below)
    ∙ ap (λ (y : FieldNumbers). put (slice_index y.numbers v) (number_at planes v) x.width) none_is
    ∙ ap (λ o. put o (number_at planes v) x.width) (get_or-replicate (length x.numbers) v 0 0 below)
    ∙ ap (λ y. put 0 y x.width) (planes_are v below)
    ∙ put_whole 0 (slice_index x.numbers v) x.width (pow_pos x.width)
    ∙ mod-eq_of_lt (fit_at x.width x.numbers fit v below)
    ))) in
    (λ i. record { width = (width_is ∙ ap (λ (y : FieldNumbers). y.width) none_is) i; numbers = same i })
