-- What an elementwise instruction leaves at the keys that it writes is what is put there.
use Rattle.std.proofs.Common.{◌≡◌, ℕ, ◌+◌, ◌-◌, ◌/◌, ◌%◌, ◌^◌, ◌<◌, ◌≤◌, ◌==◌, arith, slice_index_or, Bool, true, false, cond, List, [], ◌∷◌, length, map, replicate, slice_index, refl, sym, ap, ◌∙◌, subst}
use Rattle.std.specs.Prelude.{◌||◌, ◌&&◌, not}
use Rattle.std.proofs.Math.Nat.{mod-mod, mod-le}
use Rattle.std.proofs.lemmas.List.{get_or-replicate}
use Rattle.std.proofs.lemmas.Bool.{eq-eqb}
use Rattle.paris_names.specs.declared.keys.FlagName.{FlagName}
use Rattle.paris_names.specs.declared.keys.FlagName.TheVariants.{Context, Test, Carry, Overflow}
use Rattle.paris_names.specs.declared.keys.Key.{Key}
use Rattle.paris_names.specs.declared.keys.Key.TheVariants.{Field, Flag}
use Rattle.paris_names.specs.Keys.{has_key, key_eq, in_order}
use Rattle.paris_names.proofs.KeyLists.{key_eq-same}
use Rattle.paris_geometry.specs.Geometry.{coordinate, processor_count, numbers_below}
use Rattle.paris_model.specs.declared.operators.BinaryOperator.{BinaryOperator}
use Rattle.paris_model.specs.declared.operators.BinaryOperator.TheVariants.{UnsignedAdd, UnsignedAddCarry, UnsignedSubtract, SignedAdd, SignedSubtract, UnsignedMultiply, SignedMultiply, Truncate, Remainder, Maximum, Minimum, BitAnd, BitOr, BitXor}
use Rattle.paris_model.specs.declared.operators.UnaryOperator.{UnaryOperator}
use Rattle.paris_model.specs.declared.operators.Comparison.{Comparison}
use Rattle.paris_model.specs.declared.operators.Sign.{Sign}
use Rattle.paris_model.specs.declared.actions.Operand.{Operand}
use Rattle.paris_model.specs.declared.actions.Conditional.{Conditional}
use Rattle.paris_model.specs.declared.actions.Conditional.TheVariants.{Binary, Unary, MoveConstant, Resize, Compare, MyCoordinate, MyAddress, SetTest, ClearTest, LoadTest, StoreTest}
use Rattle.paris_model.specs.declared.actions.Action.TheVariants.{OnSelected}
use Rattle.paris_model.specs.Store.{low, put, bit, everywhere, stored}
use Rattle.paris_model.specs.Elementwise.{binary_result, binary_flags, binary_carry, binary_overflow, unary_result, unary_flags, unary_overflow, resize_result, resize_overflow, compares}
use Rattle.paris_model.specs.Frame.{at, low_at, field_at, flag_at, is_selected, put_where, put_selected}
use Rattle.paris_model.specs.Conditional.{conditional_after, conditional_source_flags}
use Rattle.paris_model.specs.Instructions.{reads, writes, after_plan, after_in, target_keys, source_keys, source_fields, source_flags, field_keys, flag_keys, stores_all_bits}
use Rattle.paris_model.proofs.Stores.{everywhere-same, everywhere-at}
use Rattle.paris_model.proofs.Worlds.{has_key-append, or_true_second, reads_sources, reads_targets}
use Rattle.paris_field.specs.Fields.{FieldNumbers, operand}
use Rattle.paris_field.specs.Numbers.{bits_everywhere}
use Rattle.paris_field.proofs.Places.{get_or-bits_everywhere}
use Rattle.paris_alu.specs.Alu.{binary_field, carry_plane, overflow_plane, unary_field, unary_overflow_plane, resized_field, resize_overflow_plane, comparison_plane}
use Rattle.paris_exec.proofs.Executed.{flag_width}
use Rattle.paris_exec.proofs.Puts.{flag_bit}
use Rattle.paris_exec.specs.Made.{is_quotient}
use Rattle.paris_exec.specs.Planes.{flag_value, is_selected_without}
use Rattle.paris_exec.specs.Tasks.{Task, field_of, fields_of, frame_at, seen_at, left_values, put_value, put_value_where}

pub or_true_first : (a b : Bool) → a ≡ true → (a || b) ≡ true
or_true_first true b h = refl
or_true_first false b h = absurd (let x : false ≡ true = h in cc)

-- the keys that are read

pub first_key : (k : Key) (ks : List Key) → has_key (k ∷ ks) k ≡ true
first_key k ks = or_true_first (key_eq k k) (has_key ks k) (key_eq-same k)

pub context_flag : (s : ℕ) (i : Conditional Operand ℕ) → has_key (flag_keys s (conditional_source_flags i)) (Flag s Context) ≡ true
context_flag s (Binary UnsignedAdd D A B L) = first_key (Flag s Context) []
context_flag s (Binary UnsignedAddCarry D A B L) = first_key (Flag s Context) (Flag s Carry ∷ [])
context_flag s (Binary UnsignedSubtract D A B L) = first_key (Flag s Context) []
context_flag s (Binary SignedAdd D A B L) = first_key (Flag s Context) []
context_flag s (Binary SignedSubtract D A B L) = first_key (Flag s Context) []
context_flag s (Binary UnsignedMultiply D A B L) = first_key (Flag s Context) []
context_flag s (Binary SignedMultiply D A B L) = first_key (Flag s Context) []
context_flag s (Binary Truncate D A B L) = first_key (Flag s Context) []
context_flag s (Binary Remainder D A B L) = first_key (Flag s Context) []
context_flag s (Binary (Maximum sign) D A B L) = first_key (Flag s Context) []
context_flag s (Binary (Minimum sign) D A B L) = first_key (Flag s Context) []
context_flag s (Binary BitAnd D A B L) = first_key (Flag s Context) []
context_flag s (Binary BitOr D A B L) = first_key (Flag s Context) []
context_flag s (Binary BitXor D A B L) = first_key (Flag s Context) []
context_flag s (Unary op D A L) = first_key (Flag s Context) []
context_flag s (MoveConstant D K L) = first_key (Flag s Context) []
context_flag s (Resize sign D A L M) = first_key (Flag s Context) []
context_flag s (Compare op A B L) = first_key (Flag s Context) []
context_flag s (MyCoordinate D X L) = first_key (Flag s Context) []
context_flag s (MyAddress D L) = first_key (Flag s Context) []
context_flag s (SetTest q) = first_key (Flag s Context) []
context_flag s (ClearTest q) = first_key (Flag s Context) []
context_flag s (LoadTest F) = first_key (Flag s Context) []
context_flag s (StoreTest F) = first_key (Flag s Context) (Flag s Test ∷ [])

module _ (t : Task) (i : Conditional Operand ℕ) (acts : t.plan.action ≡ OnSelected i) where
  set : ℕ
  set = t.plan.set_no

  pub read_source : (k : Key) → has_key (source_keys t.plan.set_no (OnSelected i)) k ≡ true → has_key (reads t.plan) k ≡ true
  read_source k h = reads_sources t.plan k (ap (λ a. has_key (source_keys t.plan.set_no a) k) acts ∙ h)

  pub read_target : (k : Key) → has_key (target_keys t.plan.set_no (OnSelected i)) k ≡ true → has_key (reads t.plan) k ≡ true
  read_target k h = reads_targets t.plan k (ap stores_all_bits acts) (ap (λ a. has_key (target_keys t.plan.set_no a) k) acts ∙ h)

  pub read_context : has_key (reads t.plan) (Flag t.plan.set_no Context) ≡ true
  read_context =
      read_source (Flag t.plan.set_no Context)
      (has_key-append (field_keys (source_fields (OnSelected i))) (flag_keys t.plan.set_no (source_flags (OnSelected i))) (Flag t.plan.set_no Context)
      ∙ or_true_second _ _ (context_flag t.plan.set_no i))

  pub after_selected : (k : Key) → after_plan t.plan (seen_at t) k ≡ conditional_after (frame_at t) i k
  after_selected k = ap (λ a. after_in (frame_at t) a k) acts

  pub writes_in_order : writes t.plan ≡ in_order (target_keys t.plan.set_no (OnSelected i))
  unfolding writes
  writes_in_order = ap (λ a. in_order (target_keys t.plan.set_no a)) acts

  -- the values that are left, where the keys that are written are known
  left_at : (ks : List Key) → in_order (target_keys t.plan.set_no (OnSelected i)) ≡ ks → left_values t ≡ fields_of t.plan ks (map (after_plan t.plan (seen_at t)) ks)
  left_at ks e = ap (λ js. fields_of t.plan js (map (after_plan t.plan (seen_at t)) js)) (writes_in_order ∙ e)

  pub left_one : (k : Key) (x : FieldNumbers) → target_keys t.plan.set_no (OnSelected i) ≡ k ∷ [] → put_value t k x ≡ field_of t.plan k (conditional_after (frame_at t) i k) → put_value t k x ∷ [] ≡ left_values t
  left_one k x targets is =
      ap (λ y. y ∷ []) (is ∙ ap (field_of t.plan k) (sym (after_selected k)))
      ∙ sym (left_at (k ∷ []) (ap in_order targets))

-- a field and its overflow are written in this order
in_order_two : (d s : ℕ) (flag : FlagName) → in_order (Field d ∷ Flag s flag ∷ []) ≡ Field d ∷ Flag s flag ∷ []
in_order_two d s flag = refl

in_order_three : (d s : ℕ) → in_order (Field d ∷ Flag s Carry ∷ Flag s Overflow ∷ []) ≡ Field d ∷ Flag s Carry ∷ Flag s Overflow ∷ []
in_order_three d s = rw (eq-eqb s s refl) refl

module _ (t : Task) (i : Conditional Operand ℕ) (acts : t.plan.action ≡ OnSelected i) (d : ℕ) where
  pub left_two : (x y : FieldNumbers) → target_keys t.plan.set_no (OnSelected i) ≡ Field d ∷ Flag t.plan.set_no Overflow ∷ []
      → x ≡ field_of t.plan (Field d) (conditional_after (frame_at t) i (Field d))
      → y ≡ field_of t.plan (Flag t.plan.set_no Overflow) (conditional_after (frame_at t) i (Flag t.plan.set_no Overflow))
      → x ∷ y ∷ [] ≡ left_values t
  left_two x y targets first second =
      ap (λ z. z ∷ y ∷ []) (first ∙ ap (field_of t.plan (Field d)) (sym (after_selected t i acts (Field d))))
      ∙ ap (λ z. field_of t.plan (Field d) (after_plan t.plan (seen_at t) (Field d)) ∷ z ∷ []) (second ∙ ap (field_of t.plan (Flag t.plan.set_no Overflow)) (sym (after_selected t i acts (Flag t.plan.set_no Overflow))))
      ∙ sym (left_at t i acts (Field d ∷ Flag t.plan.set_no Overflow ∷ []) (ap in_order targets ∙ in_order_two d t.plan.set_no Overflow))

  pub left_three : (x y z : FieldNumbers) → target_keys t.plan.set_no (OnSelected i) ≡ Field d ∷ Flag t.plan.set_no Carry ∷ Flag t.plan.set_no Overflow ∷ []
      → put_value t (Field d) x ≡ field_of t.plan (Field d) (conditional_after (frame_at t) i (Field d))
      → put_value t (Flag t.plan.set_no Carry) y ≡ field_of t.plan (Flag t.plan.set_no Carry) (conditional_after (frame_at t) i (Flag t.plan.set_no Carry))
      → put_value t (Flag t.plan.set_no Overflow) z ≡ field_of t.plan (Flag t.plan.set_no Overflow) (conditional_after (frame_at t) i (Flag t.plan.set_no Overflow))
      → put_value t (Field d) x ∷ put_value t (Flag t.plan.set_no Carry) y ∷ put_value t (Flag t.plan.set_no Overflow) z ∷ [] ≡ left_values t
  left_three x y z targets first second third =
      ap (λ w. w ∷ put_value t (Flag t.plan.set_no Carry) y ∷ put_value t (Flag t.plan.set_no Overflow) z ∷ []) (first ∙ ap (field_of t.plan (Field d)) (sym (after_selected t i acts (Field d))))
      ∙ ap (λ w. field_of t.plan (Field d) (after_plan t.plan (seen_at t) (Field d)) ∷ w ∷ put_value t (Flag t.plan.set_no Overflow) z ∷ []) (second ∙ ap (field_of t.plan (Flag t.plan.set_no Carry)) (sym (after_selected t i acts (Flag t.plan.set_no Carry))))
      ∙ ap (λ w. field_of t.plan (Field d) (after_plan t.plan (seen_at t) (Field d)) ∷ field_of t.plan (Flag t.plan.set_no Carry) (after_plan t.plan (seen_at t) (Flag t.plan.set_no Carry)) ∷ w ∷ []) (third ∙ ap (field_of t.plan (Flag t.plan.set_no Overflow)) (sym (after_selected t i acts (Flag t.plan.set_no Overflow))))
      ∙ sym (left_at t i acts (Field d ∷ Flag t.plan.set_no Carry ∷ Flag t.plan.set_no Overflow ∷ []) (ap in_order targets ∙ in_order_three d t.plan.set_no))

-- what is put

-- a store looks at its test in the processors alone, and at the low bits of the new numbers
stored_low : (n : ℕ) (who other : ℕ → Bool) (old : ℕ → ℕ) (L : ℕ) (f g : ℕ → ℕ) → ((v : ℕ) → v < n → who v ≡ other v) → ((v : ℕ) → v < n → low L (f v) ≡ low L (g v)) → stored n who old L f ≡ stored n other old L g
stored_low n who other old L f g tests same =
    everywhere-same n _ _ (λ v below. ap (λ b. cond b (put (old v) (f v) L) (old v)) (tests v below) ∙ ap (λ x. cond (other v) (old v - low L (old v) + x) (old v)) (same v below))

pub low_twice : (L x : ℕ) → low L (low L x) ≡ low L x
low_twice L x = mod-mod x (2 ^ L)

-- the numbers of a new value are put where a test passes
pub put_numbers_where : (t : Task) (who other : ℕ → Bool) (k : Key) (x : FieldNumbers) (L : ℕ) (f g : ℕ → ℕ) → x ≡ record { width = L; numbers = everywhere (processor_count t.plan.axes) f }
    → ((v : ℕ) → v < processor_count t.plan.axes → who v ≡ other v) → ((v : ℕ) → v < processor_count t.plan.axes → low L (f v) ≡ low L (g v)) → put_value_where t who k x ≡ field_of t.plan k (put_where (frame_at t) other k L g)
put_numbers_where t who other k x L f g is tests same =
    ap (put_value_where t who k) is
    ∙ ap (field_of t.plan k) (stored_low (processor_count t.plan.axes) who other (at (frame_at t) k) L _ g tests (λ v below. ap (low L) (everywhere-at (processor_count t.plan.axes) f v below) ∙ same v below))

-- and by the selected processors
pub put_numbers : (t : Task) (k : Key) (x : FieldNumbers) (L : ℕ) (f g : ℕ → ℕ) → x ≡ record { width = L; numbers = everywhere (processor_count t.plan.axes) f }
    → ((v : ℕ) → v < processor_count t.plan.axes → low L (f v) ≡ low L (g v)) → put_value t k x ≡ field_of t.plan k (put_selected (frame_at t) k L g)
put_numbers t k x L f g is same = put_numbers_where t (is_selected (frame_at t)) (is_selected (frame_at t)) k x L f g is (λ v below. refl) same

map_map : {A B C : Type 0} (f : A → B) (g : B → C) (xs : List A) → map g (map f xs) ≡ map (λ x. g (f x)) xs
map_map f g [] = refl
map_map f g (x ∷ xs) = ap (λ ys. g (f x) ∷ ys) (map_map f g xs)

-- the numbers of a plane of known bits
pub flag_numbers : (bits : List Bool) (n : ℕ) (b : ℕ → Bool) → bits ≡ bits_everywhere n b → flag_value bits ≡ record { width = 1; numbers = everywhere n (λ v. bit (b v)) }
flag_numbers bits n b is = ap flag_value is ∙ ap (λ xs. record { width = 1; numbers = xs }) (map_map b bit (numbers_below n))

-- the bits of a plane are put into a flag
pub put_bits : (t : Task) (k : Key) (bits : List Bool) (b : ℕ → Bool) (g : ℕ → ℕ) → bits ≡ bits_everywhere (processor_count t.plan.axes) b
    → ((v : ℕ) → v < processor_count t.plan.axes → bit (b v) ≡ g v) → put_value t k (flag_value bits) ≡ field_of t.plan k (put_selected (frame_at t) k 1 g)
put_bits t k bits b g is same =
    put_numbers t k (flag_value bits) 1 (λ v. bit (b v)) g (flag_numbers bits (processor_count t.plan.axes) b is) (λ v below. ap (low 1) (same v below))

-- operators of two sources

-- no operator but a quotient looks at the destination
old_ignored : (op : BinaryOperator) (L x y c o : ℕ) → is_quotient op ≡ false → binary_result op L x y c 0 ≡ binary_result op L x y c o
old_ignored UnsignedAdd L x y c o e = refl
old_ignored UnsignedAddCarry L x y c o e = refl
old_ignored UnsignedSubtract L x y c o e = refl
old_ignored SignedAdd L x y c o e = refl
old_ignored SignedSubtract L x y c o e = refl
old_ignored UnsignedMultiply L x y c o e = refl
old_ignored SignedMultiply L x y c o e = refl
old_ignored Truncate L x y c o e = absurd (let f : true ≡ false = e in cc)
old_ignored Remainder L x y c o e = absurd (let f : true ≡ false = e in cc)
old_ignored (Maximum sign) L x y c o e = refl
old_ignored (Minimum sign) L x y c o e = refl
old_ignored BitAnd L x y c o e = refl
old_ignored BitOr L x y c o e = refl
old_ignored BitXor L x y c o e = refl

kept_where : (b : Bool) (o q : ℕ) → cond b o q ≡ cond b o (cond b 0 q)
kept_where true o q = refl
kept_where false o q = refl

-- a quotient keeps it where it overflows
old_kept : (op : BinaryOperator) (L x y c o : ℕ) → is_quotient op ≡ true → binary_result op L x y c o ≡ cond (binary_overflow op L x y c) o (binary_result op L x y c 0)
old_kept UnsignedAdd L x y c o e = absurd (let f : false ≡ true = e in cc)
old_kept UnsignedAddCarry L x y c o e = absurd (let f : false ≡ true = e in cc)
old_kept UnsignedSubtract L x y c o e = absurd (let f : false ≡ true = e in cc)
old_kept SignedAdd L x y c o e = absurd (let f : false ≡ true = e in cc)
old_kept SignedSubtract L x y c o e = absurd (let f : false ≡ true = e in cc)
old_kept UnsignedMultiply L x y c o e = absurd (let f : false ≡ true = e in cc)
old_kept SignedMultiply L x y c o e = absurd (let f : false ≡ true = e in cc)
old_kept Truncate L x y c o e = kept_where (y == 0) o (x / y)
old_kept Remainder L x y c o e = kept_where (y == 0) o (x % y)
old_kept (Maximum sign) L x y c o e = absurd (let f : false ≡ true = e in cc)
old_kept (Minimum sign) L x y c o e = absurd (let f : false ≡ true = e in cc)
old_kept BitAnd L x y c o e = absurd (let f : false ≡ true = e in cc)
old_kept BitOr L x y c o e = absurd (let f : false ≡ true = e in cc)
old_kept BitXor L x y c o e = absurd (let f : false ≡ true = e in cc)

-- a number put over itself
put_same : (old L : ℕ) → put old old L ≡ old
put_same old L = (let part : low L old ≤ old = mod-le old (2 ^ L) in omega (arith, part))

-- so storing the quotient where there is one is storing it or what was there
kept_put : (overflows selected : Bool) (old q L : ℕ) → cond (not overflows && selected) (put old (low L q) L) old ≡ cond selected (put old (cond overflows old q) L) old
kept_put true true old q L = sym (put_same old L)
kept_put true false old q L = refl
kept_put false true old q L = ap (λ x. old - low L old + x) (low_twice L q)
kept_put false false old q L = refl

-- the low bits of a source are those that the definitions see
pub operand_is : (t : Task) (A : Operand) (x : FieldNumbers) (L v : ℕ) → x ≡ field_of t.plan (Field A.field) (seen_at t (Field A.field)) → operand L x v ≡ low_at (frame_at t) A L v
operand_is t A x L v is = ap (λ (y : FieldNumbers). operand L y v) is

module _ (t : Task) (op : BinaryOperator) (D A B : Operand) (L : ℕ) (acts : t.plan.action ≡ OnSelected (Binary op D A B L)) (x y : FieldNumbers) (x_is : x ≡ field_of t.plan (Field A.field) (seen_at t (Field A.field)))
    (y_is : y ≡ field_of t.plan (Field B.field) (seen_at t (Field B.field))) (count : length x.numbers ≡ processor_count t.plan.axes) where
  targets_of : (flags : List FlagName) → binary_flags op ≡ flags → target_keys t.plan.set_no (OnSelected (Binary op D A B L)) ≡ Field D.field ∷ flag_keys t.plan.set_no flags
  targets_of flags e = ap (λ fs. Field D.field ∷ flag_keys t.plan.set_no fs) e

  abbrev carry_seen : ℕ → ℕ
  carry_seen = slice_index (seen_at t (Flag t.plan.set_no Carry))

  abbrev made : ℕ → ℕ
  made v = low L (binary_result op L (operand L x v) (operand L y v) (carry_seen v) 0)

  abbrev overflows : ℕ → Bool
  overflows v = binary_overflow op L (operand L x v) (operand L y v) (carry_seen v)

  made_numbers : (value : FieldNumbers) → value ≡ binary_field op L x y (slice_index (seen_at t (Flag t.plan.set_no Carry))) → value ≡ record { width = L; numbers = everywhere (processor_count t.plan.axes) made }
  made_numbers value is = subst (λ n. value ≡ record { width = L; numbers = everywhere n made }) count is

  overflow_bits : (overflow : List Bool) → overflow ≡ overflow_plane op L x y (slice_index (seen_at t (Flag t.plan.set_no Carry))) → overflow ≡ bits_everywhere (processor_count t.plan.axes) overflows
  overflow_bits overflow is = subst (λ n. overflow ≡ bits_everywhere n overflows) count is

  result_put : (value : FieldNumbers) → is_quotient op ≡ false → value ≡ binary_field op L x y (slice_index (seen_at t (Flag t.plan.set_no Carry)))
      → put_value t (Field D.field) value ≡ field_of t.plan (Field D.field) (conditional_after (frame_at t) (Binary op D A B L) (Field D.field))
  result_put value exact is =
      put_numbers t (Field D.field) value L made (λ v. binary_result op L (low_at (frame_at t) A L v) (low_at (frame_at t) B L v) (flag_at (frame_at t) Carry v) (field_at (frame_at t) D v)) (made_numbers value is)
      (λ v below. low_twice L _ ∙ ap (low L) (old_ignored op L _ _ _ (field_at (frame_at t) D v) exact ∙ rw (operand_is t A x L v x_is, operand_is t B y L v y_is) refl))

  overflow_put : (overflow : List Bool) → overflow ≡ overflow_plane op L x y (slice_index (seen_at t (Flag t.plan.set_no Carry)))
      → put_value t (Flag t.plan.set_no Overflow) (flag_value overflow) ≡ field_of t.plan (Flag t.plan.set_no Overflow) (conditional_after (frame_at t) (Binary op D A B L) (Flag t.plan.set_no Overflow))
  overflow_put overflow is =
      put_bits t (Flag t.plan.set_no Overflow) overflow overflows (λ v. bit (binary_overflow op L (low_at (frame_at t) A L v) (low_at (frame_at t) B L v) (flag_at (frame_at t) Carry v))) (overflow_bits overflow is)
      (λ v below. rw (operand_is t A x L v x_is, operand_is t B y L v y_is) refl)

  pub sum_left : (value : FieldNumbers) (carry overflow : List Bool) → binary_flags op ≡ Carry ∷ Overflow ∷ [] → is_quotient op ≡ false
      → value ≡ binary_field op L x y (slice_index (seen_at t (Flag t.plan.set_no Carry)))
      → carry ≡ carry_plane op L x y (slice_index (seen_at t (Flag t.plan.set_no Carry)))
      → overflow ≡ overflow_plane op L x y (slice_index (seen_at t (Flag t.plan.set_no Carry)))
      → put_value t (Field D.field) value ∷ put_value t (Flag t.plan.set_no Carry) (flag_value carry) ∷ put_value t (Flag t.plan.set_no Overflow) (flag_value overflow) ∷ [] ≡ left_values t
  sum_left value carry overflow flags exact value_is carry_is overflow_is =
      left_three t (Binary op D A B L) acts D.field value (flag_value carry) (flag_value overflow) (targets_of (Carry ∷ Overflow ∷ []) flags)
      (result_put value exact value_is)
      (put_bits t (Flag t.plan.set_no Carry) carry (λ v. binary_carry op L (operand L x v) (operand L y v) (carry_seen v)) (λ v. bit (binary_carry op L (low_at (frame_at t) A L v) (low_at (frame_at t) B L v) (flag_at (frame_at t) Carry v)))
      (subst (λ n. carry ≡ bits_everywhere n (λ v. binary_carry op L (operand L x v) (operand L y v) (carry_seen v))) count carry_is)
      (λ v below. rw (operand_is t A x L v x_is, operand_is t B y L v y_is) refl))
      (overflow_put overflow overflow_is)

  pub product_left : (value : FieldNumbers) (overflow : List Bool) → binary_flags op ≡ Overflow ∷ [] → is_quotient op ≡ false
      → value ≡ binary_field op L x y (slice_index (seen_at t (Flag t.plan.set_no Carry)))
      → overflow ≡ overflow_plane op L x y (slice_index (seen_at t (Flag t.plan.set_no Carry)))
      → put_value t (Field D.field) value ∷ put_value t (Flag t.plan.set_no Overflow) (flag_value overflow) ∷ [] ≡ left_values t
  product_left value overflow flags exact value_is overflow_is =
      left_two t (Binary op D A B L) acts D.field (put_value t (Field D.field) value) (put_value t (Flag t.plan.set_no Overflow) (flag_value overflow)) (targets_of (Overflow ∷ []) flags)
      (result_put value exact value_is) (overflow_put overflow overflow_is)

  quotient_put : (value : FieldNumbers) (overflow : List Bool) → is_quotient op ≡ true
      → value ≡ binary_field op L x y (slice_index (seen_at t (Flag t.plan.set_no Carry)))
      → overflow ≡ overflow_plane op L x y (slice_index (seen_at t (Flag t.plan.set_no Carry)))
      → put_value_where t (is_selected_without t overflow) (Field D.field) value ≡ field_of t.plan (Field D.field) (conditional_after (frame_at t) (Binary op D A B L) (Field D.field))
  quotient_put value overflow divides value_is overflow_is =
      ap (put_value_where t (is_selected_without t overflow) (Field D.field)) (made_numbers value value_is)
      ∙ ap (field_of t.plan (Field D.field)) (everywhere-same (processor_count t.plan.axes) _ _ (λ v below.
      ap (λ b. cond (not b && is_selected (frame_at t) v) (put (field_at (frame_at t) D v) (slice_index (everywhere (processor_count t.plan.axes) made) v) L) (field_at (frame_at t) D v))
      (ap (λ bs. slice_index_or bs v false) (overflow_bits overflow overflow_is) ∙ get_or-bits_everywhere (processor_count t.plan.axes) overflows v below)
      ∙ ap (λ z. cond (not (overflows v) && is_selected (frame_at t) v) (put (field_at (frame_at t) D v) z L) (field_at (frame_at t) D v)) (everywhere-at (processor_count t.plan.axes) made v below)
      ∙ kept_put (overflows v) (is_selected (frame_at t) v) (field_at (frame_at t) D v) (binary_result op L (operand L x v) (operand L y v) (carry_seen v) 0) L
      ∙ ap (λ z. cond (is_selected (frame_at t) v) (put (field_at (frame_at t) D v) z L) (field_at (frame_at t) D v))
      (sym (old_kept op L (operand L x v) (operand L y v) (carry_seen v) (field_at (frame_at t) D v) divides) ∙ rw (operand_is t A x L v x_is, operand_is t B y L v y_is) refl)))

  pub quotient_left : (value : FieldNumbers) (overflow : List Bool) → binary_flags op ≡ Overflow ∷ [] → is_quotient op ≡ true
      → value ≡ binary_field op L x y (slice_index (seen_at t (Flag t.plan.set_no Carry)))
      → overflow ≡ overflow_plane op L x y (slice_index (seen_at t (Flag t.plan.set_no Carry)))
      → put_value_where t (is_selected_without t overflow) (Field D.field) value ∷ put_value t (Flag t.plan.set_no Overflow) (flag_value overflow) ∷ [] ≡ left_values t
  quotient_left value overflow flags divides value_is overflow_is =
      left_two t (Binary op D A B L) acts D.field (put_value_where t (is_selected_without t overflow) (Field D.field) value) (put_value t (Flag t.plan.set_no Overflow) (flag_value overflow)) (targets_of (Overflow ∷ []) flags)
      (quotient_put value overflow divides value_is overflow_is) (overflow_put overflow overflow_is)

  pub flagless_left : (value : FieldNumbers) → binary_flags op ≡ [] → is_quotient op ≡ false → value ≡ binary_field op L x y (slice_index (seen_at t (Flag t.plan.set_no Carry))) → put_value t (Field D.field) value ∷ [] ≡ left_values t
  flagless_left value flags exact value_is = left_one t (Binary op D A B L) acts (Field D.field) value (targets_of [] flags) (result_put value exact value_is)

-- operators of one source
module _ (t : Task) (op : UnaryOperator) (D A : Operand) (L : ℕ) (acts : t.plan.action ≡ OnSelected (Unary op D A L)) (x : FieldNumbers) (x_is : x ≡ field_of t.plan (Field A.field) (seen_at t (Field A.field)))
    (count : length x.numbers ≡ processor_count t.plan.axes) (value : FieldNumbers) (value_is : value ≡ unary_field op L x) where
  unary_put : put_value t (Field D.field) value ≡ field_of t.plan (Field D.field) (conditional_after (frame_at t) (Unary op D A L) (Field D.field))
  unary_put =
      put_numbers t (Field D.field) value L (λ v. low L (unary_result op L (operand L x v))) (λ v. unary_result op L (low_at (frame_at t) A L v))
      (subst (λ n. value ≡ record { width = L; numbers = everywhere n (λ v. low L (unary_result op L (operand L x v))) }) count value_is)
      (λ v below. low_twice L _ ∙ rw (operand_is t A x L v x_is) refl)

  pub unary_left : unary_flags op ≡ [] → put_value t (Field D.field) value ∷ [] ≡ left_values t
  unary_left flags = left_one t (Unary op D A L) acts (Field D.field) value (ap (λ fs. Field D.field ∷ flag_keys t.plan.set_no fs) flags) unary_put

  pub unary_overflow_left : (overflow : List Bool) → unary_flags op ≡ Overflow ∷ [] → overflow ≡ unary_overflow_plane op L x
      → put_value t (Field D.field) value ∷ put_value t (Flag t.plan.set_no Overflow) (flag_value overflow) ∷ [] ≡ left_values t
  unary_overflow_left overflow flags overflow_is =
      left_two t (Unary op D A L) acts D.field (put_value t (Field D.field) value) (put_value t (Flag t.plan.set_no Overflow) (flag_value overflow)) (ap (λ fs. Field D.field ∷ flag_keys t.plan.set_no fs) flags) unary_put
      (put_bits t (Flag t.plan.set_no Overflow) overflow (λ v. unary_overflow op L (operand L x v)) (λ v. bit (unary_overflow op L (low_at (frame_at t) A L v)))
      (subst (λ n. overflow ≡ bits_everywhere n (λ v. unary_overflow op L (operand L x v))) count overflow_is)
      (λ v below. rw (operand_is t A x L v x_is) refl))

-- moves to another length
pub resize_left : (t : Task) (sign : Sign) (D A : Operand) (L M : ℕ) (acts : t.plan.action ≡ OnSelected (Resize sign D A L M)) (x : FieldNumbers) (x_is : x ≡ field_of t.plan (Field A.field) (seen_at t (Field A.field)))
    (count : length x.numbers ≡ processor_count t.plan.axes) (value : FieldNumbers) (overflow : List Bool) → value ≡ resized_field sign L M x → overflow ≡ resize_overflow_plane sign L M x
    → put_value t (Field D.field) value ∷ put_value t (Flag t.plan.set_no Overflow) (flag_value overflow) ∷ [] ≡ left_values t
resize_left t sign D A L M acts x x_is count value overflow value_is overflow_is =
    left_two t (Resize sign D A L M) acts D.field (put_value t (Field D.field) value) (put_value t (Flag t.plan.set_no Overflow) (flag_value overflow)) refl
    (put_numbers t (Field D.field) value L (λ v. resize_result sign L M (operand M x v)) (λ v. resize_result sign L M (low_at (frame_at t) A M v))
    (subst (λ n. value ≡ record { width = L; numbers = everywhere n (λ v. resize_result sign L M (operand M x v)) }) count value_is)
    (λ v below. rw (operand_is t A x M v x_is) refl))
    (put_bits t (Flag t.plan.set_no Overflow) overflow (λ v. resize_overflow sign L M (operand M x v)) (λ v. bit (resize_overflow sign L M (low_at (frame_at t) A M v)))
    (subst (λ n. overflow ≡ bits_everywhere n (λ v. resize_overflow sign L M (operand M x v))) count overflow_is)
    (λ v below. rw (operand_is t A x M v x_is) refl))

-- comparisons
pub compare_left_is : (t : Task) (op : Comparison) (A B : Operand) (L : ℕ) (acts : t.plan.action ≡ OnSelected (Compare op A B L)) (x y : FieldNumbers) (x_is : x ≡ field_of t.plan (Field A.field) (seen_at t (Field A.field)))
    (y_is : y ≡ field_of t.plan (Field B.field) (seen_at t (Field B.field))) (count : length x.numbers ≡ processor_count t.plan.axes) (bits : List Bool) → bits ≡ comparison_plane op L x y
    → put_value t (Flag t.plan.set_no Test) (flag_value bits) ∷ [] ≡ left_values t
compare_left_is t op A B L acts x y x_is y_is count bits bits_are =
    left_one t (Compare op A B L) acts (Flag t.plan.set_no Test) (flag_value bits) refl
    (put_bits t (Flag t.plan.set_no Test) bits (λ v. compares op L (operand L x v) (operand L y v)) (λ v. bit (compares op L (low_at (frame_at t) A L v) (low_at (frame_at t) B L v)))
    (subst (λ n. bits ≡ bits_everywhere n (λ v. compares op L (operand L x v) (operand L y v))) count bits_are)
    (λ v below. rw (operand_is t A x L v x_is, operand_is t B y L v y_is) refl))

-- instructions that store numbers of their own, and those that move to and from the test flag

-- a list of numbers is put
put_list : (t : Task) (k : Key) (L : ℕ) (xs : List ℕ) (g : ℕ → ℕ) → ((v : ℕ) → v < processor_count t.plan.axes → slice_index xs v ≡ g v)
    → put_value t k (record { width = L; numbers = xs }) ≡ field_of t.plan k (put_selected (frame_at t) k L g)
put_list t k L xs g same = ap (field_of t.plan k) (stored_low (processor_count t.plan.axes) (is_selected (frame_at t)) (is_selected (frame_at t)) (at (frame_at t) k) L (slice_index xs) g (λ v below. refl) (λ v below. ap (low L) (same v below)))

pub constant_left : (t : Task) (D : Operand) (K L : ℕ) (acts : t.plan.action ≡ OnSelected (MoveConstant D K L)) (x : FieldNumbers) → x ≡ record { width = L; numbers = replicate (processor_count t.plan.axes) K }
    → put_value t (Field D.field) x ∷ [] ≡ left_values t
constant_left t D K L acts x is =
    left_one t (MoveConstant D K L) acts (Field D.field) x refl
    (ap (put_value t (Field D.field)) is ∙ put_list t (Field D.field) L (replicate (processor_count t.plan.axes) K) (λ v. K) (λ v below. get_or-replicate (processor_count t.plan.axes) v K 0 below))

-- as are the low bits of a number that each processor has
own_put : (t : Task) (k : Key) (L : ℕ) (x : FieldNumbers) (g : ℕ → ℕ) → x ≡ record { width = L; numbers = everywhere (processor_count t.plan.axes) (λ v. low L (g v)) } → put_value t k x ≡ field_of t.plan k (put_selected (frame_at t) k L g)
own_put t k L x g is = put_numbers t k x L (λ v. low L (g v)) g is (λ v below. low_twice L (g v))

pub coordinate_left : (t : Task) (D : Operand) (X L : ℕ) (acts : t.plan.action ≡ OnSelected (MyCoordinate D X L)) (x : FieldNumbers) → x ≡ record { width = L; numbers = everywhere (processor_count t.plan.axes) (λ v. low L (coordinate t.plan.axes X v)) }
    → put_value t (Field D.field) x ∷ [] ≡ left_values t
coordinate_left t D X L acts x is =
    left_one t (MyCoordinate D X L) acts (Field D.field) x refl (own_put t (Field D.field) L x (coordinate t.plan.axes X) is)

pub address_left : (t : Task) (D : Operand) (L : ℕ) (acts : t.plan.action ≡ OnSelected (MyAddress D L)) (x : FieldNumbers) → x ≡ record { width = L; numbers = everywhere (processor_count t.plan.axes) (low L) }
    → put_value t (Field D.field) x ∷ [] ≡ left_values t
address_left t D L acts x is =
    left_one t (MyAddress D L) acts (Field D.field) x refl (own_put t (Field D.field) L x (λ v. v) is)

-- a plane of a known bit in each processor is put into the test flag
module _ (t : Task) (i : Conditional Operand ℕ) (acts : t.plan.action ≡ OnSelected i) (targets : target_keys t.plan.set_no (OnSelected i) ≡ Flag t.plan.set_no Test ∷ []) where
  pub test_left : (bits : List Bool) (g : ℕ → ℕ) → conditional_after (frame_at t) i (Flag t.plan.set_no Test) ≡ put_selected (frame_at t) (Flag t.plan.set_no Test) 1 g
      → ((v : ℕ) → v < processor_count t.plan.axes → slice_index (map bit bits) v ≡ g v) → put_value t (Flag t.plan.set_no Test) (flag_value bits) ∷ [] ≡ left_values t
  test_left bits g after_is same =
      left_one t i acts (Flag t.plan.set_no Test) (flag_value bits) targets
      (put_list t (Flag t.plan.set_no Test) 1 (map bit bits) g same ∙ ap (field_of t.plan (Flag t.plan.set_no Test)) (sym after_is))

same_bits : (n v : ℕ) (b : Bool) → v < n → slice_index (map bit (replicate n b)) v ≡ bit b
same_bits n v b below = sym (flag_bit (replicate n b) v) ∙ ap bit (get_or-replicate n v b false below)

pub set_test_left : (t : Task) (q : ℕ) (acts : t.plan.action ≡ OnSelected (SetTest q)) (bits : List Bool) → bits ≡ replicate (processor_count t.plan.axes) true → put_value t (Flag t.plan.set_no Test) (flag_value bits) ∷ [] ≡ left_values t
set_test_left t q acts bits is =
    test_left t (SetTest q) acts refl bits (λ v. 1) refl (λ v below. ap (λ bs. slice_index (map bit bs) v) is ∙ same_bits (processor_count t.plan.axes) v true below)

pub clear_test_left : (t : Task) (q : ℕ) (acts : t.plan.action ≡ OnSelected (ClearTest q)) (bits : List Bool) → bits ≡ replicate (processor_count t.plan.axes) false → put_value t (Flag t.plan.set_no Test) (flag_value bits) ∷ [] ≡ left_values t
clear_test_left t q acts bits is =
    test_left t (ClearTest q) acts refl bits (λ v. 0) refl (λ v below. ap (λ bs. slice_index (map bit bs) v) is ∙ same_bits (processor_count t.plan.axes) v false below)

pub load_test_left : (t : Task) (F : Operand) (acts : t.plan.action ≡ OnSelected (LoadTest F)) (x : FieldNumbers) (bits : List Bool) → x ≡ field_of t.plan (Field F.field) (seen_at t (Field F.field)) → map bit bits ≡ x.numbers
    → put_value t (Flag t.plan.set_no Test) (flag_value bits) ∷ [] ≡ left_values t
load_test_left t F acts x bits x_is bits_are =
    test_left t (LoadTest F) acts refl bits (field_at (frame_at t) F) refl (λ v below. ap (λ xs. slice_index xs v) (bits_are ∙ ap (λ (y : FieldNumbers). y.numbers) x_is))

pub store_test_left : (t : Task) (F : Operand) (acts : t.plan.action ≡ OnSelected (StoreTest F)) (x : FieldNumbers) → x ≡ field_of t.plan (Flag t.plan.set_no Test) (seen_at t (Flag t.plan.set_no Test))
    → put_value t (Field F.field) x ∷ [] ≡ left_values t
store_test_left t F acts x x_is =
    left_one t (StoreTest F) acts (Field F.field) x refl
    (ap (put_value t (Field F.field)) (x_is ∙ ap (λ w. record { width = w; numbers = seen_at t (Flag t.plan.set_no Test) }) (flag_width t.plan t.plan.set_no Test)))
