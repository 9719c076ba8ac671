-- What an instruction along the lines of an axis reads and leaves.
use Rattle.std.proofs.Common.{◌≡◌, ℕ, zero, suc, ◌^◌, ◌<◌, ◌≤◌, ◌==◌, Bool, false, true, cond, List, [], ◌∷◌, length, map, replicate, slice_index, Option, Some, None, refl, sym, ap, ◌∙◌, subst, arith}
use Rattle.std.specs.Prelude.{◌||◌, ◌&&◌, nat_le, nat_lt, sum, is_some, IfSome}
use Rattle.std.specs.List.{list_all}
use Rattle.std.proofs.lemmas.Bool.{and_parts}
use Rattle.std.proofs.lemmas.Bool.Decides.{nat_tests}
use Rattle.std.proofs.lemmas.List.{get_or-replicate, length-map}
use Rattle.std.proofs.Math.Nat.{mod-eq_of_lt}
use Rattle.std.proofs.Math.Pow.{pow_mono}
use Rattle.paris_names.specs.declared.keys.FlagName.TheVariants.{Context, Overflow}
use Rattle.paris_names.specs.declared.keys.Key.{Key}
use Rattle.paris_names.specs.declared.keys.Key.TheVariants.{Field, Flag}
use Rattle.paris_names.specs.Keys.{has_key, key_eq, in_order}
use Rattle.paris_geometry.specs.declared.direction.Direction.{Direction}
use Rattle.paris_geometry.specs.Geometry.{axis_length, at_coordinate, coordinate, processor_count}
use Rattle.paris_model.specs.declared.operators.Combiner.{Combiner}
use Rattle.paris_model.specs.declared.operators.Combiner.TheVariants.{Sum, BitOr, BitAnd, BitXor, Maximum, Minimum}
use Rattle.paris_model.specs.declared.operators.Comparison.TheVariants.{Equal}
use Rattle.paris_model.specs.declared.operators.Inclusion.{Inclusion}
use Rattle.paris_model.specs.declared.operators.Inclusion.TheVariants.{Inclusive}
use Rattle.paris_model.specs.declared.actions.Operand.{Operand}
use Rattle.paris_model.specs.declared.actions.Line.{Line}
use Rattle.paris_model.specs.declared.actions.Line.TheVariants.{Scan, CopyScan, Spread, CopySpread, Reduce}
use Rattle.paris_model.specs.declared.actions.Action.TheVariants.{AlongLine}
use Rattle.paris_model.specs.Combine.{combined, unit}
use Rattle.paris_model.specs.Fits.{IsFit, is_bad_length, has_bad_axis, has_bad_length, has_bad_operand, have_field_widths, line_axis, line_bad_length, line_bad_operand}
use Rattle.paris_model.specs.Frame.{is_selected, low_at}
use Rattle.paris_model.specs.Instructions.{reads, writes, key_width, after_plan, after_in, target_keys, source_keys, flag_keys, field_keys, stores_all_bits, operands, width_among}
use Rattle.paris_model.specs.Lines.{begins_segment, combined_values, combiner_flags, line_after, line_flags, line_length, line_result, line_sources, line_target, line_values, result_of, scan_values, segment_sources, stores_on_line, sum_overflows}
use Rattle.paris_model.specs.Store.{low, bit, everywhere}
use Rattle.paris_model.proofs.Stores.{everywhere-same}
use Rattle.paris_model.proofs.Widths.{key_width-is, some_width}
use Rattle.paris_model.proofs.Worlds.{has_key-append, or_false_first, or_false_second, or_true_second, reads_sources, reads_targets}
use Rattle.paris_alu.specs.Alu.{comparison_plane}
use Rattle.paris_field.specs.Fields.{AllFit, FieldNumbers, operand}
use Rattle.paris_field.specs.Numbers.{bits_everywhere, has}
use Rattle.paris_field.proofs.Places.{bits_same, get_or-bits_everywhere, plane_is}
use Rattle.paris_scan.specs.Lines.{combined_field, first_field, is_sum, of_lines, placed_field, scanned, stores_at, sums_overflow}
use Rattle.paris_exec.specs.Combined.{overflow_flags, overflow_values}
use Rattle.paris_exec.specs.Planes.{flag_value}
use Rattle.paris_exec.specs.Tasks.{Task, field_of, fields_of, frame_at, seen_at, left_values, put_value_where}
use Rattle.paris_exec.proofs.Left.{first_key, flag_numbers, put_numbers_where}
use Rattle.paris_exec.proofs.Operands.{AllWide, among, bits_count, good_length, has_field, narrow_length, same_field}
use Rattle.paris_exec.proofs.Puts.{fit_at, mask_selects}
use Rattle.paris_names.specs.declared.limits.TheConstants.{MAX_WIDTH}

-- a sum's flags
pub sum_flags : {X : Type 0} (op : Combiner) (o : Option X) → is_some o ≡ is_sum op → combiner_flags op ≡ overflow_flags o
sum_flags Sum (Some x) e = refl
sum_flags Sum None e = absurd (let f : false ≡ true = e in cc)
sum_flags BitOr None e = refl
sum_flags BitOr (Some x) e = absurd (let f : true ≡ false = e in cc)
sum_flags BitAnd None e = refl
sum_flags BitAnd (Some x) e = absurd (let f : true ≡ false = e in cc)
sum_flags BitXor None e = refl
sum_flags BitXor (Some x) e = absurd (let f : true ≡ false = e in cc)
sum_flags Maximum None e = refl
sum_flags Maximum (Some x) e = absurd (let f : true ≡ false = e in cc)
sum_flags Minimum None e = refl
sum_flags Minimum (Some x) e = absurd (let f : true ≡ false = e in cc)

-- what is read

-- operands of plans have a bit at least
pub all_some : (os : List Operand) → list_all (λ (o : Operand). nat_lt 0 o.width && nat_le o.width MAX_WIDTH) os ≡ true → AllWide 1 os
all_some [] h = tt
all_some (o ∷ os) h = (some_width o os h, all_some os (and_parts (nat_lt 0 o.width && nat_le o.width MAX_WIDTH) (list_all (λ (o : Operand). nat_lt 0 o.width && nat_le o.width MAX_WIDTH) os) h).1)

-- the first two operands are as wide as a length that fits both
pub first_two_wide : (D A : Operand) (os : List Operand) (f L : ℕ) → L ≤ D.width → L ≤ A.width → has_field (D ∷ A ∷ []) f ≡ true → L ≤ width_among (D ∷ A ∷ os) f
first_two_wide D A os f L to from there = by_first (D.field == f) there
  where
    by_second : (b : Bool) → (b || false) ≡ true → L ≤ cond b A.width (width_among os f)
    by_second true e = from
    by_second false e = absurd (let x : false ≡ true = e in cc)

    by_first : (b : Bool) → (b || ((A.field == f) || false)) ≡ true → L ≤ cond b D.width (cond (A.field == f) A.width (width_among os f))
    by_first true e = to
    by_first false e = by_second (A.field == f) e

module _ (t : Task) (i : Line Operand) (acts : t.plan.action ≡ AlongLine i) where
  source_key_read : (k : Key) → has_key (source_keys t.plan.set_no (AlongLine i)) k ≡ true → has_key (reads t.plan) k ≡ true
  source_key_read k h = reads_sources t.plan k (ap (λ a. has_key (source_keys t.plan.set_no a) k) acts ∙ h)

  source_among : (f : ℕ) → has_key (field_keys (line_sources i)) (Field f) ≡ true → has_key (reads t.plan) (Field f) ≡ true
  source_among f h =
      source_key_read (Field f)
      (has_key-append (field_keys (line_sources i)) (flag_keys t.plan.set_no (Context ∷ [])) (Field f)
      ∙ ap (λ b. b || has_key (flag_keys t.plan.set_no (Context ∷ [])) (Field f)) h)

  pub line_context_read : has_key (reads t.plan) (Flag t.plan.set_no Context) ≡ true
  line_context_read =
      source_key_read (Flag t.plan.set_no Context)
      (has_key-append (field_keys (line_sources i)) (flag_keys t.plan.set_no (Context ∷ [])) (Flag t.plan.set_no Context)
      ∙ or_true_second _ _ (first_key (Flag t.plan.set_no Context) []))

  target_key_read : (k : Key) → has_key (target_keys t.plan.set_no (AlongLine i)) k ≡ true → has_key (reads t.plan) k ≡ true
  target_key_read k h = reads_targets t.plan k (ap stores_all_bits acts) (ap (λ a. has_key (target_keys t.plan.set_no a) k) acts ∙ h)

  pub line_target_read : has_key (reads t.plan) (Field (line_target i).field) ≡ true
  line_target_read = target_key_read (Field (line_target i).field) (first_key (Field (line_target i).field) (flag_keys t.plan.set_no (line_flags i)))

  pub line_overflow_read : line_flags i ≡ Overflow ∷ [] → has_key (reads t.plan) (Flag t.plan.set_no Overflow) ≡ true
  line_overflow_read flags =
      target_key_read (Flag t.plan.set_no Overflow)
      (ap (λ fs. has_key (Field (line_target i).field ∷ flag_keys t.plan.set_no fs) (Flag t.plan.set_no Overflow)) flags
      ∙ or_true_second (key_eq (Flag t.plan.set_no Overflow) (Field (line_target i).field)) (has_key (Flag t.plan.set_no Overflow ∷ []) (Flag t.plan.set_no Overflow)) (first_key (Flag t.plan.set_no Overflow) []))

  -- the overflow flags that it stores, if it does
  pub line_flags_read : (overflow : Option (List Bool)) (L n : ℕ) (values : ℕ → List ℕ) → line_flags i ≡ overflow_flags overflow → IfSome overflow (λ bits. bits ≡ sums_overflow L n values) → n ≡ processor_count t.plan.axes
      → IfSome overflow (λ bits. (has_key (reads t.plan) (Flag t.plan.set_no Overflow) ≡ true) × (length bits ≡ processor_count t.plan.axes))
  line_flags_read None L n values flags are count = tt
  line_flags_read (Some bits) L n values flags are count = (line_overflow_read flags, bits_count bits n (processor_count t.plan.axes) (λ v. nat_le (2 ^ L) (sum (values v))) are count)

  module _ (A : Operand) (G : Option Operand) (sources : line_sources i ≡ A ∷ segment_sources G) where
    pub line_source_read : has_key (reads t.plan) (Field A.field) ≡ true
    line_source_read = source_among A.field (ap (λ os. has_key (field_keys os) (Field A.field)) sources ∙ first_key (Field A.field) (field_keys (segment_sources G)))

    module _ (fit : IsFit t.plan.axes t.plan.action) where
      line_some : AllWide 1 (operands (AlongLine i))
      line_some = all_some (operands (AlongLine i)) (sym (ap have_field_widths acts) ∙ fit.widths)

      pub line_axis_there : line_axis i < length t.plan.axes
      line_axis_there = (let bad : nat_le (length t.plan.axes) (line_axis i) ≡ false = sym (ap (has_bad_axis t.plan.axes) acts) ∙ fit.axis in grind (arith, nat_tests))

      pub line_operands_fit : line_bad_operand t.plan.axes i ≡ false
      line_operands_fit = sym (ap (has_bad_operand t.plan.axes) acts) ∙ fit.operands

      key_is : (f : ℕ) → key_width t.plan (Field f) ≡ width_among (line_target i ∷ A ∷ segment_sources G) f
      key_is f = key_width-is t.plan (Field f) ∙ ap (λ a. width_among (operands a) f) acts ∙ ap (λ os. width_among (line_target i ∷ os) f) sources

      pub line_segments_read : IfSome G (λ (S : Operand). (has_key (reads t.plan) (Field S.field) ≡ true) × (0 < key_width t.plan (Field S.field)))
      line_segments_read = by_given G refl
        where
          by_given : (o : Option Operand) → G ≡ o → IfSome o (λ (S : Operand). (has_key (reads t.plan) (Field S.field) ≡ true) × (0 < key_width t.plan (Field S.field)))
          by_given None e = tt
          by_given (Some S) e =
              let all : line_sources i ≡ A ∷ S ∷ [] = sources ∙ ap (λ o. A ∷ segment_sources o) e in
              let there : has_key (field_keys (A ∷ S ∷ [])) (Field S.field) ≡ true = or_true_second (key_eq (Field S.field) (Field A.field)) (has_key (Field S.field ∷ []) (Field S.field)) (first_key (Field S.field) []) in
              let wide : AllWide 1 (line_target i ∷ A ∷ S ∷ []) = subst (λ os. AllWide 1 (line_target i ∷ os)) all line_some in
              let some : 1 ≤ width_among (line_target i ∷ A ∷ S ∷ []) S.field =
              among (line_target i ∷ A ∷ S ∷ []) S.field 1 wide
              (or_true_second ((line_target i).field == S.field) (has_field (A ∷ S ∷ []) S.field) (or_true_second (A.field == S.field) (has_field (S ∷ []) S.field) (same_field S false))) in
              let is : key_width t.plan (Field S.field) ≡ width_among (line_target i ∷ A ∷ S ∷ []) S.field = key_is S.field ∙ ap (λ o. width_among (line_target i ∷ A ∷ segment_sources o) S.field) e in
              (source_among S.field (ap (λ os. has_key (field_keys os) (Field S.field)) all ∙ there), (let w : 0 < key_width t.plan (Field S.field) = omega (arith, some, is) in w))

      module _ (lengths : line_bad_length i ≡ (is_bad_length (line_length i) (line_target i) || is_bad_length (line_length i) A)) where
        bad : (is_bad_length (line_length i) (line_target i) || is_bad_length (line_length i) A) ≡ false
        bad = sym lengths ∙ sym (ap has_bad_length acts) ∙ fit.lengths

        target_good : (0 < line_length i) × (line_length i ≤ (line_target i).width)
        target_good = good_length (line_length i) (line_target i) (or_false_first (is_bad_length (line_length i) (line_target i)) (is_bad_length (line_length i) A) bad)

        source_good : (0 < line_length i) × (line_length i ≤ A.width)
        source_good = good_length (line_length i) A (or_false_second (is_bad_length (line_length i) (line_target i)) (is_bad_length (line_length i) A) bad)

        wide : (f : ℕ) → has_field (line_target i ∷ A ∷ []) f ≡ true → line_length i ≤ key_width t.plan (Field f)
        wide f there = subst (λ n. line_length i ≤ n) (sym (key_is f)) (first_two_wide (line_target i) A (segment_sources G) f (line_length i) target_good.1 source_good.1 there)

        pub line_positive : 0 < line_length i
        line_positive = target_good.0

        pub line_target_wide : line_length i ≤ key_width t.plan (Field (line_target i).field)
        line_target_wide = wide (line_target i).field (same_field (line_target i) (has_field (A ∷ []) (line_target i).field))

        pub line_source_wide : line_length i ≤ key_width t.plan (Field A.field)
        line_source_wide = wide A.field (or_true_second ((line_target i).field == A.field) (has_field (A ∷ []) A.field) (same_field A false))

        pub line_narrow : line_length i ≤ 128
        line_narrow = narrow_length t (line_target i).field (line_length i) fit line_target_wide

-- a coordinate that isn't outside its axis
pub place_there : (axes : List ℕ) (X C : ℕ) → nat_le (axis_length axes X) C ≡ false → C < axis_length axes X
place_there axes X C h = grind (arith, nat_tests)

-- where segments begin

pub has_none : (n v : ℕ) → has (replicate n false) v ≡ false
has_none zero v = refl
has_none (suc n) zero = refl
has_none (suc n) (suc v) = has_none n v

-- a test of each number of a list
has_where : (p : ℕ → Bool) (xs : List ℕ) (v : ℕ) → p 0 ≡ false → has (map p xs) v ≡ p (slice_index xs v)
has_where p [] v none = sym none
has_where p (x ∷ xs) zero none = refl
has_where p (x ∷ xs) (suc v) none = has_where p xs v none

pub has_ones : (xs : List ℕ) (plane : List Bool) (v : ℕ) → plane ≡ bits_everywhere (length xs) (λ v. slice_index xs v == 1) → has plane v ≡ (slice_index xs v == 1)
has_ones xs plane v is =
    ap (λ p. has p v) (is ∙ sym (plane_is (map (λ x. x == 1) xs) (length xs) (λ v. slice_index xs v == 1) (length-map xs (λ x. x == 1)) (λ v below. has_where (λ x. x == 1) xs v refl)))
    ∙ has_where (λ x. x == 1) xs v refl

-- 1 fits each width but 0
pub one_below : (w : ℕ) → 0 < w → 1 < 2 ^ w
one_below w some = (let least : 2 ^ 1 ≤ 2 ^ w = pow_mono some in omega (arith, least))

-- where a number of some bits equals 1
pub ones_compared : (x one : FieldNumbers) (plane : List Bool) → 0 < x.width → AllFit x.width x.numbers → one ≡ record { width = x.width; numbers = replicate (length x.numbers) 1 } → plane ≡ comparison_plane Equal x.width x one
    → plane ≡ bits_everywhere (length x.numbers) (λ v. slice_index x.numbers v == 1)
ones_compared x one plane some fit one_is is =
    is
    ∙ bits_same (length x.numbers) (λ v. operand x.width x v == operand x.width one v) (λ v. slice_index x.numbers v == 1) (λ v below.
    ap (λ n. n == operand x.width one v) (mod-eq_of_lt (fit_at x.width x.numbers fit v below))
    ∙ ap (λ (y : FieldNumbers). slice_index x.numbers v == operand x.width y v) one_is
    ∙ ap (λ n. slice_index x.numbers v == low x.width n) (get_or-replicate (length x.numbers) v 1 0 below)
    ∙ ap (λ n. slice_index x.numbers v == n) (mod-eq_of_lt (one_below x.width some)))

-- what is left

module _ (t : Task) (i : Line Operand) (acts : t.plan.action ≡ AlongLine i) (who : ℕ → Bool) (tests : (v : ℕ) → v < processor_count t.plan.axes → who v ≡ stores_on_line (frame_at t) i v) where
  written : {X : Type 0} (o : Option X) → line_flags i ≡ overflow_flags o → writes t.plan ≡ in_order (Field (line_target i).field ∷ flag_keys t.plan.set_no (overflow_flags o))
  unfolding writes
  written o flags = ap (λ a. in_order (target_keys t.plan.set_no a)) acts ∙ ap (λ fs. in_order (Field (line_target i).field ∷ flag_keys t.plan.set_no fs)) flags

  left_of : (ks : List Key) → writes t.plan ≡ ks → left_values t ≡ fields_of t.plan ks (map (after_plan t.plan (seen_at t)) ks)
  left_of ks e = ap (λ js. fields_of t.plan js (map (after_plan t.plan (seen_at t)) js)) e

  left_at_key : (k : Key) → field_of t.plan k (line_after (frame_at t) i k) ≡ field_of t.plan k (after_plan t.plan (seen_at t) k)
  left_at_key k = ap (λ a. field_of t.plan k (after_in (frame_at t) a k)) (sym acts)

  value_put : (value : FieldNumbers) → value ≡ record { width = line_length i; numbers = everywhere (processor_count t.plan.axes) (line_result (frame_at t) i) }
      → put_value_where t who (Field (line_target i).field) value ≡ field_of t.plan (Field (line_target i).field) (after_plan t.plan (seen_at t) (Field (line_target i).field))
  value_put value is =
      put_numbers_where t who (stores_on_line (frame_at t) i) (Field (line_target i).field) value (line_length i) (line_result (frame_at t) i) (line_result (frame_at t) i) is tests (λ v below. refl)
      ∙ left_at_key (Field (line_target i).field)

  overflow_put : (bits : List Bool) → bits ≡ bits_everywhere (processor_count t.plan.axes) (sum_overflows (frame_at t) i)
      → put_value_where t who (Flag t.plan.set_no Overflow) (flag_value bits) ≡ field_of t.plan (Flag t.plan.set_no Overflow) (after_plan t.plan (seen_at t) (Flag t.plan.set_no Overflow))
  overflow_put bits is =
      put_numbers_where t who (stores_on_line (frame_at t) i) (Flag t.plan.set_no Overflow) (flag_value bits) 1 (λ v. bit (sum_overflows (frame_at t) i v)) (λ v. bit (sum_overflows (frame_at t) i v))
      (flag_numbers bits (processor_count t.plan.axes) (sum_overflows (frame_at t) i) is) tests (λ v below. refl)
      ∙ left_at_key (Flag t.plan.set_no Overflow)

  -- what is left are the result and the overflow flags, if it sets them
  pub line_left : (value : FieldNumbers) (overflow : Option (List Bool)) → value ≡ record { width = line_length i; numbers = everywhere (processor_count t.plan.axes) (line_result (frame_at t) i) }
      → IfSome overflow (λ bits. bits ≡ bits_everywhere (processor_count t.plan.axes) (sum_overflows (frame_at t) i)) → line_flags i ≡ overflow_flags overflow
      → put_value_where t who (Field (line_target i).field) value ∷ overflow_values t who overflow ≡ left_values t
  line_left value None is bits_are flags =
      ap (λ y. y ∷ []) (value_put value is)
      ∙ sym (left_of (Field (line_target i).field ∷ []) (written {X = List Bool} None flags))
  line_left value (Some bits) is bits_are flags =
      ap (λ y. y ∷ put_value_where t who (Flag t.plan.set_no Overflow) (flag_value bits) ∷ []) (value_put value is)
      ∙ ap (λ z. field_of t.plan (Field (line_target i).field) (after_plan t.plan (seen_at t) (Field (line_target i).field)) ∷ z ∷ []) (overflow_put bits bits_are)
      ∙ sym (left_of (Field (line_target i).field ∷ Flag t.plan.set_no Overflow ∷ []) (written (Some bits) flags))

  -- of values that are combined
  pub combined_left : (op : Combiner) (values : ℕ → List ℕ) (value : FieldNumbers) (overflow : Option (List Bool)) → ((vs : List ℕ) → combined op (line_length i) (unit op (line_length i)) vs ≡ result_of i vs) → values ≡ combined_values (frame_at t) i
      → value ≡ combined_field op (line_length i) (processor_count t.plan.axes) values → IfSome overflow (λ bits. bits ≡ sums_overflow (line_length i) (processor_count t.plan.axes) values) → line_flags i ≡ overflow_flags overflow
      → put_value_where t who (Field (line_target i).field) value ∷ overflow_values t who overflow ≡ left_values t
  combined_left op values value overflow results same is bits_are flags =
      line_left value overflow
      (is
      ∙ ap (λ (f : ℕ → List ℕ). combined_field op (line_length i) (processor_count t.plan.axes) f) same
      ∙ ap (λ xs. record { width = line_length i; numbers = xs }) (everywhere-same (processor_count t.plan.axes) _ _ (λ v below. results (combined_values (frame_at t) i v))))
      (subst (λ (f : ℕ → List ℕ). IfSome overflow (λ bits. bits ≡ sums_overflow (line_length i) (processor_count t.plan.axes) f)) same bits_are) flags

-- what the kernels see is what the definitions see
module _ (t : Task) (A : Operand) (L : ℕ) (x : FieldNumbers) (x_is : x ≡ field_of t.plan (Field A.field) (seen_at t (Field A.field))) (mask : List Bool) (mask_is : map bit mask ≡ seen_at t (Flag t.plan.set_no Context)) where
  source_seen : operand L x ≡ low_at (frame_at t) A L
  source_seen = ap {B = ℕ → ℕ} (λ (y : FieldNumbers). operand L y) x_is

  scan_is : (axes : List ℕ) (X : ℕ) (direction : Direction) (inclusion : Inclusion) (G : Option Operand) (segments : List Bool) → ((v : ℕ) → has segments v ≡ begins_segment (frame_at t) G v)
      → scanned axes X direction inclusion segments mask L x ≡ scan_values axes X direction inclusion (begins_segment (frame_at t) G) (is_selected (frame_at t)) (low_at (frame_at t) A L)
  scan_is axes X direction inclusion G segments begins =
      ap {B = ℕ → List ℕ} (λ (b : ℕ → Bool). scan_values axes X direction inclusion b (has mask) (operand L x)) (λ j v. begins v j)
      ∙ ap {B = ℕ → List ℕ} (λ (s : ℕ → Bool). scan_values axes X direction inclusion (begins_segment (frame_at t) G) s (operand L x)) (mask_selects t mask mask_is)
      ∙ ap {B = ℕ → List ℕ} (λ (f : ℕ → ℕ). scan_values axes X direction inclusion (begins_segment (frame_at t) G) (is_selected (frame_at t)) f) source_seen

  lines_are : (axes : List ℕ) (X : ℕ) → of_lines axes X mask L x ≡ line_values axes X (is_selected (frame_at t)) (low_at (frame_at t) A L)
  lines_are axes X =
      ap {B = ℕ → List ℕ} (λ (s : ℕ → Bool). line_values axes X s (operand L x)) (mask_selects t mask mask_is)
      ∙ ap {B = ℕ → List ℕ} (λ (f : ℕ → ℕ). line_values axes X (is_selected (frame_at t)) f) source_seen

  context_stores : (v : ℕ) → has mask v ≡ is_selected (frame_at t) v
  context_stores v = ap {B = Bool} (λ (s : ℕ → Bool). s v) (mask_selects t mask mask_is)

  module _ (D : Operand) (X : ℕ) (axes : List ℕ) (same : axes ≡ t.plan.axes) (value : FieldNumbers) where
    pub scan_left : (op : Combiner) (direction : Direction) (inclusion : Inclusion) (G : Option Operand) → t.plan.action ≡ AlongLine (Scan op D A X L direction inclusion G) → (segments : List Bool) → ((v : ℕ) → has segments v ≡ begins_segment (frame_at t) G v)
        → (overflow : Option (List Bool)) → value ≡ combined_field op L (processor_count axes) (scanned axes X direction inclusion segments mask L x)
        → IfSome overflow (λ bits. bits ≡ sums_overflow L (processor_count axes) (scanned axes X direction inclusion segments mask L x)) → is_some overflow ≡ is_sum op
        → put_value_where t (has mask) (Field D.field) value ∷ overflow_values t (has mask) overflow ≡ left_values t
    scan_left op direction inclusion G acts segments begins overflow is bits_are sums =
        combined_left t (Scan op D A X L direction inclusion G) acts (has mask) (λ v below. context_stores v) op (scanned t.plan.axes X direction inclusion segments mask L x) value overflow (λ vs. refl)
        (scan_is t.plan.axes X direction inclusion G segments begins)
        (subst (λ a. value ≡ combined_field op L (processor_count a) (scanned a X direction inclusion segments mask L x)) same is)
        (subst (λ a. IfSome overflow (λ bits. bits ≡ sums_overflow L (processor_count a) (scanned a X direction inclusion segments mask L x))) same bits_are)
        (sum_flags op overflow sums)

    pub copy_scan_left : (direction : Direction) (G : Option Operand) → t.plan.action ≡ AlongLine (CopyScan D A X L direction G) → (segments : List Bool) → ((v : ℕ) → has segments v ≡ begins_segment (frame_at t) G v)
        → value ≡ first_field L (processor_count axes) (scanned axes X direction Inclusive segments mask L x) → put_value_where t (has mask) (Field D.field) value ∷ [] ≡ left_values t
    copy_scan_left direction G acts segments begins is =
        line_left t (CopyScan D A X L direction G) acts (has mask) (λ v below. context_stores v) value None
        (subst (λ a. value ≡ first_field L (processor_count a) (scanned a X direction Inclusive segments mask L x)) same is
        ∙ ap (λ (f : ℕ → List ℕ). first_field L (processor_count t.plan.axes) f) (scan_is t.plan.axes X direction Inclusive G segments begins))
        tt refl

    pub spread_left : (op : Combiner) → t.plan.action ≡ AlongLine (Spread op D A X L) → (overflow : Option (List Bool)) → value ≡ combined_field op L (processor_count axes) (of_lines axes X mask L x)
        → IfSome overflow (λ bits. bits ≡ sums_overflow L (processor_count axes) (of_lines axes X mask L x)) → is_some overflow ≡ is_sum op
        → put_value_where t (has mask) (Field D.field) value ∷ overflow_values t (has mask) overflow ≡ left_values t
    spread_left op acts overflow is bits_are sums =
        combined_left t (Spread op D A X L) acts (has mask) (λ v below. context_stores v) op (of_lines t.plan.axes X mask L x) value overflow (λ vs. refl) (lines_are t.plan.axes X)
        (subst (λ a. value ≡ combined_field op L (processor_count a) (of_lines a X mask L x)) same is)
        (subst (λ a. IfSome overflow (λ bits. bits ≡ sums_overflow L (processor_count a) (of_lines a X mask L x))) same bits_are)
        (sum_flags op overflow sums)

    pub copy_spread_left : (C : ℕ) → t.plan.action ≡ AlongLine (CopySpread D A X L C) → value ≡ placed_field axes X C L x → put_value_where t (has mask) (Field D.field) value ∷ [] ≡ left_values t
    copy_spread_left C acts is =
        line_left t (CopySpread D A X L C) acts (has mask) (λ v below. context_stores v) value None
        (subst (λ a. value ≡ placed_field a X C L x) same is
        ∙ ap (λ (f : ℕ → ℕ). record { width = L; numbers = everywhere (processor_count t.plan.axes) (λ v. f (at_coordinate t.plan.axes X v C)) }) source_seen)
        tt refl

    pub reduce_left : (op : Combiner) (C : ℕ) → t.plan.action ≡ AlongLine (Reduce op D A X L C) → (overflow : Option (List Bool)) (stores : List Bool) → value ≡ combined_field op L (processor_count axes) (of_lines axes X mask L x)
        → IfSome overflow (λ bits. bits ≡ sums_overflow L (processor_count axes) (of_lines axes X mask L x)) → is_some overflow ≡ is_sum op → stores ≡ stores_at axes X C mask
        → put_value_where t (has stores) (Field D.field) value ∷ overflow_values t (has stores) overflow ≡ left_values t
    reduce_left op C acts overflow stores is bits_are sums stores_are =
        combined_left t (Reduce op D A X L C) acts (has stores)
        (λ v below.
        ap (λ p. has p v) (subst (λ a. stores ≡ stores_at a X C mask) same stores_are)
        ∙ get_or-bits_everywhere (processor_count t.plan.axes) (λ u. has mask u && (coordinate t.plan.axes X u == C)) v below
        ∙ ap (λ b. b && (coordinate t.plan.axes X v == C)) (context_stores v))
        op (of_lines t.plan.axes X mask L x) value overflow (λ vs. refl) (lines_are t.plan.axes X)
        (subst (λ a. value ≡ combined_field op L (processor_count a) (of_lines a X mask L x)) same is)
        (subst (λ a. IfSome overflow (λ bits. bits ≡ sums_overflow L (processor_count a) (of_lines a X mask L x))) same bits_are)
        (sum_flags op overflow sums)
