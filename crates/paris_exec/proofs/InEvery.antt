-- What an instruction that stores in every processor leaves.
use Rattle.std.proofs.Common.{◌≡◌, ℕ, zero, suc, ◌-◌, ◌%◌, ◌^◌, ◌<◌, ◌≤◌, ◌==◌, Bool, true, false, cond, List, [], ◌∷◌, length, map, replicate, slice_index, slice_index_or, refl, sym, ap, ◌∙◌, subst, arith}
use Rattle.std.specs.Prelude.{not, ◌&&◌, ◌||◌, bit_and, bit_or}
use Rattle.std.specs.Simd.Lanes.{zip2}
use Rattle.std.proofs.Math.Nat.{mod-eq_of_lt}
use Rattle.std.proofs.lemmas.List.{length-map}
use Rattle.std.proofs.lemmas.List.FromFn.{fill_by_all}
use Rattle.paris_names.specs.declared.keys.FlagName.TheVariants.{Context, Test}
use Rattle.paris_names.specs.declared.keys.Key.{Key}
use Rattle.paris_names.specs.declared.keys.Key.TheVariants.{Field, Flag}
use Rattle.paris_names.specs.Keys.{has_key, in_order}
use Rattle.paris_geometry.specs.Geometry.{processor_count}
use Rattle.paris_model.specs.declared.actions.Operand.{Operand}
use Rattle.paris_model.specs.declared.actions.Unconditional.{Unconditional}
use Rattle.paris_model.specs.declared.actions.Unconditional.TheVariants.{MoveAlways, SetContext, ClearContext, InvertContext, LoadContext, AndContext, OrContext, AndContextWithTest, StoreContext}
use Rattle.paris_model.specs.declared.actions.Action.TheVariants.{OnAll}
use Rattle.paris_model.specs.Store.{low, put, bit, everywhere, stored}
use Rattle.paris_model.specs.Frame.{at, low_at}
use Rattle.paris_model.specs.Unconditional.{unconditional_after, unconditional_length, unconditional_value, is_overwrite}
use Rattle.std.specs.List.{list_all}
use Rattle.std.specs.Prelude.{nat_lt, nat_le}
use Rattle.std.proofs.lemmas.Bool.{eq-eqb, eqb-true, ltb-false}
use Rattle.std.proofs.lemmas.List.{get_or-replicate, length-replicate}
use lib.Pow.{pow_pos}
use Rattle.paris_model.specs.declared.operators.UnaryOperator.TheVariants.{Move}
use Rattle.paris_model.specs.Fits.{IsFit, is_wide, is_bad_length, has_bad_length, has_bad_operand, unconditional_bad_operand, have_field_widths}
use Rattle.paris_model.specs.Instructions.{reads, writes, key_width, after_plan, after_in, target_keys, source_keys, read_keys, stores_all_bits, operands, width_among}
use Rattle.paris_model.proofs.Direct.{value_at-unread}
use Rattle.paris_model.proofs.Widths.{key_width-is, width_first, some_width, index_below}
use Rattle.paris_model.proofs.Worlds.{or_false_first, or_false_second, or_true_second, reads_sources, reads_targets, reads_keys}
use Rattle.paris_alu.specs.Alu.{unary_field}
use Rattle.paris_field.specs.Fields.{AllFit, operand}
use Rattle.paris_field.specs.Numbers.{number_at}
use Rattle.paris_exec.proofs.Executed.{flag_width}
use Rattle.paris_exec.proofs.Left.{first_key, operand_is}
use Rattle.paris_exec.proofs.Operands.{good_length, among, has_field, same_field}
use Rattle.paris_exec.proofs.Puts.{flag_bit, put_whole}
use Rattle.paris_model.proofs.Stores.{everywhere-same}
use Rattle.paris_field.specs.Fields.{FieldNumbers}
use Rattle.paris_exec.specs.Planes.{flag_value}
use Rattle.paris_exec.specs.Tasks.{Task, field_of, fields_of, frame_at, seen_at, left_values, numbers_of}
use Rattle.paris_names.specs.declared.limits.TheConstants.{MAX_WIDTH}

-- a list of n numbers, by processor
everywhere_is : (n : ℕ) (xs : List ℕ) (f : ℕ → ℕ) → length xs ≡ n → ((v : ℕ) → v < n → slice_index xs v ≡ f v) → xs ≡ everywhere n f
everywhere_is n xs f long same = fill_by_all f xs n 0 long same

pub apart : (a b : ℕ) → (a ≡ b → ⊥) → (a == b) ≡ false
apart a b ne = by_test (a == b) refl
  where
    by_test : (c : Bool) → (a == b) ≡ c → (a == b) ≡ false
    by_test true e = absurd (ne (eqb-true a b e))
    by_test false e = e

-- a bit that is stored over a bit
put_bit : (old x : ℕ) → old < 2 → x < 2 → put old x 1 ≡ x
put_bit old x small few = (let a : old % 2 ≡ old = mod-eq_of_lt small in let b : x % 2 ≡ x = mod-eq_of_lt few in omega (arith, a, b))

pub bit_small : (bits : List Bool) (v : ℕ) → slice_index (map bit bits) v < 2
bit_small [] v = omega arith
bit_small (true ∷ bs) zero = omega arith
bit_small (false ∷ bs) zero = omega arith
bit_small (b ∷ bs) (suc v) = bit_small bs v

module _ (t : Task) (i : Unconditional Operand ℕ) (acts : t.plan.action ≡ OnAll i) (k : Key) (targets : target_keys t.plan.set_no (OnAll i) ≡ k ∷ []) where
  pub writes_one : writes t.plan ≡ k ∷ []
  unfolding writes
  writes_one = ap (λ a. in_order (target_keys t.plan.set_no a)) acts ∙ ap in_order targets

  pub left_alone : left_values t ≡ field_of t.plan k (unconditional_after (frame_at t) i k) ∷ []
  left_alone =
      ap (λ js. fields_of t.plan js (map (after_plan t.plan (seen_at t)) js)) writes_one
      ∙ ap (λ a. field_of t.plan k (after_in (frame_at t) a k) ∷ []) acts

  -- bits that are stored whole
  pub bits_left : key_width t.plan k ≡ 1 → unconditional_length i ≡ 1 → (bits : List Bool) → length bits ≡ processor_count t.plan.axes → ((v : ℕ) → slice_index (seen_at t k) v < 2)
      → ((v : ℕ) → v < processor_count t.plan.axes → slice_index (map bit bits) v ≡ unconditional_value (frame_at t) i v) → flag_value bits ∷ [] ≡ left_values t
  bits_left wide one bits long old same =
      ap (λ ys. record { width = 1; numbers = ys } ∷ [])
      (everywhere_is (processor_count t.plan.axes) (map bit bits) (unconditional_value (frame_at t) i) (length-map bits bit ∙ long) same
      ∙ everywhere-same (processor_count t.plan.axes) (unconditional_value (frame_at t) i) (λ v. put (at (frame_at t) k v) (unconditional_value (frame_at t) i v) 1)
      (λ v below. sym (put_bit (at (frame_at t) k v) (unconditional_value (frame_at t) i v) (old v) (subst (λ x. x < 2) (same v below) (bit_small bits v))))
      ∙ ap (λ L. stored (processor_count t.plan.axes) (λ v. true) (at (frame_at t) k) L (unconditional_value (frame_at t) i)) (sym one))
      ∙ ap (λ w. record { width = w; numbers = unconditional_after (frame_at t) i k } ∷ []) (sym wide)
      ∙ sym left_alone

-- what the operations on planes do to numbers of one bit
pub not_bits : (bits : List Bool) (v : ℕ) → v < length bits → slice_index (map bit (map not bits)) v ≡ 1 - slice_index (map bit bits) v
not_bits [] v h = absurd (omega (arith, h))
not_bits (true ∷ bs) zero h = refl
not_bits (false ∷ bs) zero h = refl
not_bits (b ∷ bs) (suc v) h = not_bits bs v (omega (arith, h))

and_bit : (a b : Bool) → bit (a && b) ≡ bit_and (bit a) (bit b)
and_bit true true = refl
and_bit true false = refl
and_bit false true = refl
and_bit false false = refl

or_bit : (a b : Bool) → bit (a || b) ≡ bit_or (bit a) (bit b)
or_bit true true = refl
or_bit true false = refl
or_bit false true = refl
or_bit false false = refl

pub and_bits : (xs ys : List Bool) (v : ℕ) → v < length xs → length xs ≡ length ys → slice_index (map bit (zip2 (λ a b. a && b) xs ys)) v ≡ bit_and (slice_index (map bit xs) v) (slice_index (map bit ys) v)
and_bits [] ys v h e = absurd (omega (arith, h))
and_bits (x ∷ xs) [] v h e = absurd (omega (arith, e))
and_bits (x ∷ xs) (y ∷ ys) zero h e = and_bit x y
and_bits (x ∷ xs) (y ∷ ys) (suc v) h e = and_bits xs ys v (omega (arith, h)) (omega (arith, e))

pub or_bits : (xs ys : List Bool) (v : ℕ) → v < length xs → length xs ≡ length ys → slice_index (map bit (zip2 (λ a b. a || b) xs ys)) v ≡ bit_or (slice_index (map bit xs) v) (slice_index (map bit ys) v)
or_bits [] ys v h e = absurd (omega (arith, h))
or_bits (x ∷ xs) [] v h e = absurd (omega (arith, e))
or_bits (x ∷ xs) (y ∷ ys) zero h e = or_bit x y
or_bits (x ∷ xs) (y ∷ ys) (suc v) h e = or_bits xs ys v (omega (arith, h)) (omega (arith, e))

length-zip2_same : {A B C : Type 0} (f : A → B → C) (xs : List A) (ys : List B) → length xs ≡ length ys → length (zip2 f xs ys) ≡ length xs
length-zip2_same f [] ys e = refl
length-zip2_same f (x ∷ xs) [] e = absurd (omega (arith, e))
length-zip2_same f (x ∷ xs) (y ∷ ys) e = ap suc (length-zip2_same f xs ys (omega (arith, e)))

same_bit : (n v : ℕ) (b : Bool) → v < n → slice_index (map bit (replicate n b)) v ≡ bit b
same_bit n v b below = sym (flag_bit (replicate n b) v) ∙ ap bit (get_or-replicate n v b false below)

module _ (t : Task) (i : Unconditional Operand ℕ) (acts : t.plan.action ≡ OnAll i) where
  pub all_source : (k : Key) → has_key (source_keys t.plan.set_no (OnAll i)) k ≡ true → has_key (reads t.plan) k ≡ true
  all_source k h = reads_sources t.plan k (ap (λ a. has_key (source_keys t.plan.set_no a) k) acts ∙ h)

  pub all_target : (k : Key) → is_overwrite i ≡ false → has_key (target_keys t.plan.set_no (OnAll i)) k ≡ true → has_key (reads t.plan) k ≡ true
  all_target k whole h = reads_targets t.plan k (ap stores_all_bits acts ∙ whole) (ap (λ a. has_key (target_keys t.plan.set_no a) k) acts ∙ h)

  -- a key that isn't read counts as 0
  pub unread : (k : Key) → has_key (read_keys t.plan.set_no (OnAll i)) k ≡ false → (v : ℕ) → slice_index (seen_at t k) v ≡ 0
  unread k h v = ap (λ xs. slice_index xs v) (value_at-unread (reads t.plan) (numbers_of t.inputs) k (reads_keys t.plan k ∙ ap (λ a. has_key (read_keys t.plan.set_no a) k) acts ∙ h))

  unread_small : (k : Key) → has_key (read_keys t.plan.set_no (OnAll i)) k ≡ false → (v : ℕ) → slice_index (seen_at t k) v < 2
  unread_small k h v = subst (λ x. x < 2) (sym (unread k h v)) (let few : 0 < 2 = omega arith in few)

  -- a field of one bit, the one operand, is one bit wide
  pub one_bit_alone : (F : Operand) → operands (OnAll i) ≡ F ∷ [] → IsFit t.plan.axes t.plan.action → is_wide F ≡ false → key_width t.plan (Field F.field) ≡ 1
  one_bit_alone F alone fit narrow =
      let fits : list_all (λ (o : Operand). nat_lt 0 o.width && nat_le o.width MAX_WIDTH) (F ∷ []) ≡ true = sym (ap (list_all (λ (o : Operand). nat_lt 0 o.width && nat_le o.width MAX_WIDTH)) alone) ∙ sym (ap have_field_widths acts) ∙ fit.widths in
      let some : 1 ≤ F.width = some_width F [] fits in
      let most : F.width ≤ 1 = ltb-false 1 F.width narrow in
      key_width-is t.plan (Field F.field)
      ∙ ap (λ a. width_among (operands a) F.field) acts
      ∙ ap (λ os. width_among os F.field) alone
      ∙ width_first F [] F.field (eq-eqb F.field F.field refl)
      ∙ (let one : F.width ≡ 1 = omega (arith, some, most) in one)

  pub bad_operand : IsFit t.plan.axes t.plan.action → unconditional_bad_operand i ≡ false
  bad_operand fit = sym (ap (has_bad_operand t.plan.axes) acts) ∙ fit.operands

-- each instruction of the context
module _ (t : Task) where
  context_wide : key_width t.plan (Flag t.plan.set_no Context) ≡ 1
  context_wide = flag_width t.plan t.plan.set_no Context

  pub set_left : (q : ℕ) → t.plan.action ≡ OnAll (SetContext q) → (bits : List Bool) → bits ≡ replicate (processor_count t.plan.axes) true → flag_value bits ∷ [] ≡ left_values t
  set_left q acts bits is =
      bits_left t (SetContext q) acts (Flag t.plan.set_no Context) refl context_wide refl bits (ap length is ∙ length-replicate (processor_count t.plan.axes) true) (unread_small t (SetContext q) acts (Flag t.plan.set_no Context) refl)
      (λ v below. ap (λ bs. slice_index (map bit bs) v) is ∙ same_bit (processor_count t.plan.axes) v true below)

  pub clear_left : (q : ℕ) → t.plan.action ≡ OnAll (ClearContext q) → (bits : List Bool) → bits ≡ replicate (processor_count t.plan.axes) false → flag_value bits ∷ [] ≡ left_values t
  clear_left q acts bits is =
      bits_left t (ClearContext q) acts (Flag t.plan.set_no Context) refl context_wide refl bits (ap length is ∙ length-replicate (processor_count t.plan.axes) false) (unread_small t (ClearContext q) acts (Flag t.plan.set_no Context) refl)
      (λ v below. ap (λ bs. slice_index (map bit bs) v) is ∙ same_bit (processor_count t.plan.axes) v false below)

  pub load_left : (F : Operand) → t.plan.action ≡ OnAll (LoadContext F) → (x : FieldNumbers) (bits : List Bool) → x ≡ field_of t.plan (Field F.field) (seen_at t (Field F.field)) → length x.numbers ≡ processor_count t.plan.axes → map bit bits ≡ x.numbers
      → flag_value bits ∷ [] ≡ left_values t
  load_left F acts x bits x_is count bits_are =
      bits_left t (LoadContext F) acts (Flag t.plan.set_no Context) refl context_wide refl bits (sym (length-map bits bit) ∙ ap length bits_are ∙ count) (unread_small t (LoadContext F) acts (Flag t.plan.set_no Context) refl)
      (λ v below. ap (λ xs. slice_index xs v) (bits_are ∙ ap (λ (y : FieldNumbers). y.numbers) x_is))

  module _ (mask : List Bool) (mask_is : map bit mask ≡ seen_at t (Flag t.plan.set_no Context)) (count : length mask ≡ processor_count t.plan.axes) where
    context_small : (v : ℕ) → slice_index (seen_at t (Flag t.plan.set_no Context)) v < 2
    context_small v = subst (λ xs. slice_index xs v < 2) mask_is (bit_small mask v)

    pub store_left : (F : Operand) → t.plan.action ≡ OnAll (StoreContext F) → key_width t.plan (Field F.field) ≡ 1 → (bits : List Bool) → bits ≡ mask → flag_value bits ∷ [] ≡ left_values t
    store_left F acts wide bits is =
        bits_left t (StoreContext F) acts (Field F.field) refl wide refl bits (ap length is ∙ count) (unread_small t (StoreContext F) acts (Field F.field) refl)
        (λ v below. ap (λ bs. slice_index (map bit bs) v) is ∙ ap (λ xs. slice_index xs v) mask_is)

    pub invert_left : (q : ℕ) → t.plan.action ≡ OnAll (InvertContext q) → (bits : List Bool) → bits ≡ map not mask → flag_value bits ∷ [] ≡ left_values t
    invert_left q acts bits is =
        bits_left t (InvertContext q) acts (Flag t.plan.set_no Context) refl context_wide refl bits (ap length is ∙ length-map mask not ∙ count) context_small
        (λ v below. ap (λ bs. slice_index (map bit bs) v) is ∙ not_bits mask v (omega (arith, below, count)) ∙ ap (λ xs. 1 - slice_index xs v) mask_is)

    module _ (other : List Bool) (long : length other ≡ processor_count t.plan.axes) where
      both : length mask ≡ length other
      both = count ∙ sym long

      pub and_left : (F : Operand) → t.plan.action ≡ OnAll (AndContext F) → (bits : List Bool) → map bit other ≡ seen_at t (Field F.field) → bits ≡ zip2 (λ a b. a && b) mask other → flag_value bits ∷ [] ≡ left_values t
      and_left F acts bits other_is is =
          bits_left t (AndContext F) acts (Flag t.plan.set_no Context) refl context_wide refl bits (ap length is ∙ length-zip2_same (λ a b. a && b) mask other both ∙ count) context_small
          (λ v below. ap (λ bs. slice_index (map bit bs) v) is ∙ and_bits mask other v (omega (arith, below, count)) both ∙ ap (λ xs. bit_and (slice_index xs v) (slice_index (map bit other) v)) mask_is
          ∙ ap (λ ys. bit_and (slice_index (seen_at t (Flag t.plan.set_no Context)) v) (slice_index ys v)) other_is)

      pub or_left : (F : Operand) → t.plan.action ≡ OnAll (OrContext F) → (bits : List Bool) → map bit other ≡ seen_at t (Field F.field) → bits ≡ zip2 (λ a b. a || b) mask other → flag_value bits ∷ [] ≡ left_values t
      or_left F acts bits other_is is =
          bits_left t (OrContext F) acts (Flag t.plan.set_no Context) refl context_wide refl bits (ap length is ∙ length-zip2_same (λ a b. a || b) mask other both ∙ count) context_small
          (λ v below. ap (λ bs. slice_index (map bit bs) v) is ∙ or_bits mask other v (omega (arith, below, count)) both ∙ ap (λ xs. bit_or (slice_index xs v) (slice_index (map bit other) v)) mask_is
          ∙ ap (λ ys. bit_or (slice_index (seen_at t (Flag t.plan.set_no Context)) v) (slice_index ys v)) other_is)

      pub and_test_left : (q : ℕ) → t.plan.action ≡ OnAll (AndContextWithTest q) → (bits : List Bool) → map bit other ≡ seen_at t (Flag t.plan.set_no Test) → bits ≡ zip2 (λ a b. a && b) mask other → flag_value bits ∷ [] ≡ left_values t
      and_test_left q acts bits other_is is =
          bits_left t (AndContextWithTest q) acts (Flag t.plan.set_no Context) refl context_wide refl bits (ap length is ∙ length-zip2_same (λ a b. a && b) mask other both ∙ count) context_small
          (λ v below. ap (λ bs. slice_index (map bit bs) v) is ∙ and_bits mask other v (omega (arith, below, count)) both ∙ ap (λ xs. bit_and (slice_index xs v) (slice_index (map bit other) v)) mask_is
          ∙ ap (λ ys. bit_and (slice_index (seen_at t (Flag t.plan.set_no Context)) v) (slice_index ys v)) other_is)

-- a move to the low bits of a field in every processor
module _ (t : Task) (D A : Operand) (L : ℕ) (acts : t.plan.action ≡ OnAll (MoveAlways D A L)) where
  pub move_source : has_key (reads t.plan) (Field A.field) ≡ true
  move_source = all_source t (MoveAlways D A L) acts (Field A.field) (first_key (Field A.field) [])

  pub move_target : (L == D.width) ≡ false → has_key (reads t.plan) (Field D.field) ≡ true
  move_target part = all_target t (MoveAlways D A L) acts (Field D.field) part (first_key (Field D.field) [])

  move_bad : IsFit t.plan.axes t.plan.action → (is_bad_length L D || is_bad_length L A) ≡ false
  move_bad fit = sym (ap has_bad_length acts) ∙ fit.lengths

  key_is : (f : ℕ) → key_width t.plan (Field f) ≡ width_among (D ∷ A ∷ []) f
  key_is f = key_width-is t.plan (Field f) ∙ ap (λ a. width_among (operands a) f) acts

  pub target_width : key_width t.plan (Field D.field) ≡ D.width
  target_width = key_is D.field ∙ width_first D (A ∷ []) D.field (eq-eqb D.field D.field refl)

  pub move_to : IsFit t.plan.axes t.plan.action → L ≤ key_width t.plan (Field D.field)
  move_to fit = subst (λ n. L ≤ n) (sym target_width) (good_length L D (or_false_first (is_bad_length L D) (is_bad_length L A) (move_bad fit))).1

  pub move_from : IsFit t.plan.axes t.plan.action → L ≤ key_width t.plan (Field A.field)
  move_from fit =
      let to = (good_length L D (or_false_first (is_bad_length L D) (is_bad_length L A) (move_bad fit))).1 in
      let from = (good_length L A (or_false_second (is_bad_length L D) (is_bad_length L A) (move_bad fit))).1 in
      subst (λ n. L ≤ n) (sym (key_is A.field)) (among (D ∷ A ∷ []) A.field L (to, (from, tt)) (or_true_second (D.field == A.field) (has_field (A ∷ []) A.field) (same_field A false)))

  module _ (x : FieldNumbers) (x_is : x ≡ field_of t.plan (Field A.field) (seen_at t (Field A.field))) (count : length x.numbers ≡ processor_count t.plan.axes) where
    -- where all bits of the destination are stored, what stood there is as wide
    old_small : AllFit x.width x.numbers → (L == D.width) ≡ true → (v : ℕ) → slice_index (seen_at t (Field D.field)) v < 2 ^ L
    old_small fit whole v = by_same (D.field == A.field) refl
      where
        by_same : (b : Bool) → (D.field == A.field) ≡ b → slice_index (seen_at t (Field D.field)) v < 2 ^ L
        by_same true e =
            let same : D.field ≡ A.field = eqb-true D.field A.field e in
            let wide : x.width ≡ L = ap (λ (y : FieldNumbers). y.width) x_is ∙ ap (λ f. key_width t.plan (Field f)) (sym same) ∙ target_width ∙ sym (eqb-true L D.width whole) in
            subst (λ f. slice_index (seen_at t (Field f)) v < 2 ^ L) (sym same)
            (subst (λ (y : FieldNumbers). slice_index y.numbers v < 2 ^ L) x_is (index_below x.numbers (2 ^ L) v (pow_pos L) (subst (λ n. AllFit n x.numbers) wide fit)))
        by_same false e =
            subst (λ n. n < 2 ^ L) (sym (unread t (MoveAlways D A L) acts (Field D.field) (ap (λ b. (D.field == A.field) || has_key (cond b [] (Field D.field ∷ [])) (Field D.field)) whole ∙ ap (λ b. b || false) e) v)) (pow_pos L)

    pub move_whole_left : AllFit x.width x.numbers → (L == D.width) ≡ true → (value : FieldNumbers) → value ≡ unary_field Move L x → value ∷ [] ≡ left_values t
    move_whole_left fit whole value is =
        ap (λ (y : FieldNumbers). y ∷ []) (is
        ∙ ap (λ n. record { width = L; numbers = everywhere n (λ v. low L (operand L x v)) }) count
        ∙ ap (λ ys. record { width = L; numbers = ys })
        (everywhere-same (processor_count t.plan.axes) (λ v. low L (operand L x v)) (λ v. put (at (frame_at t) (Field D.field) v) (low_at (frame_at t) A L v) L)
        (λ v below. ap (low L) (operand_is t A x L v x_is) ∙ sym (put_whole (at (frame_at t) (Field D.field) v) (low_at (frame_at t) A L v) L (old_small fit whole v))))
        ∙ ap (λ w. record { width = w; numbers = unconditional_after (frame_at t) (MoveAlways D A L) (Field D.field) }) (eqb-true L D.width whole ∙ sym target_width))
        ∙ sym (left_alone t (MoveAlways D A L) acts (Field D.field) refl)

    pub move_part_left : (old value : FieldNumbers) (all : List Bool) (planes : List (List Bool)) → old ≡ field_of t.plan (Field D.field) (seen_at t (Field D.field)) → length old.numbers ≡ processor_count t.plan.axes
        → all ≡ replicate (processor_count t.plan.axes) true → ((v : ℕ) → v < processor_count t.plan.axes → number_at planes v ≡ low L (slice_index x.numbers v)) → value.width ≡ old.width
        → value.numbers ≡ stored (length old.numbers) (λ v. slice_index_or all v false) (slice_index old.numbers) L (number_at planes) → value ∷ [] ≡ left_values t
    move_part_left old value all planes old_is long all_is planes_are width_is numbers_are =
        let wide : value.width ≡ key_width t.plan (Field D.field) = width_is ∙ ap (λ (y : FieldNumbers). y.width) old_is in
        let same : value.numbers ≡ unconditional_after (frame_at t) (MoveAlways D A L) (Field D.field) =
        numbers_are
        ∙ ap (λ n. stored n (λ v. slice_index_or all v false) (slice_index old.numbers) L (number_at planes)) long
        ∙ everywhere-same (processor_count t.plan.axes) _ _ (λ v below. rw (all_is, get_or-replicate (processor_count t.plan.axes) v true false below, planes_are v below, old_is, x_is) refl) in
        ap (λ (y : FieldNumbers). y ∷ []) (λ i. record { width = wide i; numbers = same i })
        ∙ sym (left_alone t (MoveAlways D A L) acts (Field D.field) refl)
