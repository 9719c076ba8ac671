-- The operands of an elementwise instruction are read, and are as wide as its lengths say.
use Rattle.std.proofs.Common.{◌≡◌, ℕ, ◌<◌, ◌≤◌, ◌==◌, Bool, true, false, cond, List, [], ◌∷◌, length, refl, sym, ap, ◌∙◌, subst, arith, Result, Ok, Err}
use Rattle.std.specs.Prelude.{IfOk, ◌||◌, ◌&&◌, nat_lt, nat_le}
use Rattle.std.specs.List.{list_all}
use Rattle.std.proofs.lemmas.Bool.{eq-eqb, ltb-false, and_parts}
use Rattle.std.proofs.lemmas.Bool.Decides.{nat_tests}
use Rattle.std.proofs.lemmas.List.FromFn.{length-map-range_with_len}
use Rattle.paris_names.specs.declared.keys.FlagName.{FlagName}
use Rattle.paris_names.specs.declared.keys.FlagName.TheVariants.{Context, Test, Carry, Overflow}
use Rattle.paris_names.specs.declared.keys.Key.{Key}
use Rattle.paris_names.specs.declared.keys.Key.TheVariants.{Field, Flag}
use Rattle.paris_names.specs.Keys.{has_key, key_eq}
use Rattle.paris_model.specs.declared.operators.BinaryOperator.{BinaryOperator}
use Rattle.paris_model.specs.declared.operators.UnaryOperator.{UnaryOperator}
use Rattle.paris_model.specs.declared.operators.Comparison.{Comparison}
use Rattle.paris_model.specs.declared.operators.Sign.{Sign}
use Rattle.paris_model.specs.declared.actions.Operand.{Operand}
use Rattle.paris_model.specs.declared.actions.Conditional.{Conditional}
use Rattle.paris_model.specs.declared.actions.Conditional.TheVariants.{Binary, Unary, Resize, Compare, LoadTest, StoreTest}
use Rattle.paris_model.specs.declared.actions.Action.TheVariants.{OnSelected}
use Rattle.paris_model.specs.Store.{everywhere}
use Rattle.paris_model.specs.Elementwise.{binary_flags, unary_flags}
use Rattle.paris_model.specs.Conditional.{conditional_source_flags}
use Rattle.paris_model.specs.Fits.{IsFit, is_wide, is_bad_length, has_bad_length, has_bad_axis, has_bad_operand, conditional_bad_length, conditional_bad_axis, conditional_bad_operand, have_field_widths}
use Rattle.paris_model.specs.Instructions.{reads, key_width, operands, width_among, target_keys, flag_keys}
use Rattle.paris_model.proofs.Stores.{length-everywhere}
use Rattle.paris_model.proofs.Widths.{key_width-is, width_first, some_width}
use Rattle.paris_model.proofs.Worlds.{or_false_first, or_false_second, or_true_second}
use Rattle.paris_field.specs.Fields.{FieldNumbers}
use Rattle.paris_field.specs.Numbers.{bits_everywhere}
use Rattle.paris_exec.specs.Planes.{AreRead}
use Rattle.paris_exec.specs.Tasks.{Task, field_of, seen_at}
use Rattle.paris_exec.proofs.Executed.{key_narrow}
use Rattle.paris_exec.proofs.Left.{first_key, or_true_first, read_source, read_target, read_context}
use Rattle.paris_names.specs.declared.limits.TheConstants.{MAX_WIDTH}

-- what holds of a value that is there
pub if_ok : {X E : Type 0} {r : Result X E} {x : X} (P : X → Type 0) → r ≡ Ok x → IfOk r P → P x
if_ok P e h = subst (λ z. IfOk z P) e h

pub ok_then : {X E : Type 0} (P Q : X → Type 0) (r : Result X E) → ((x : X) → P x → Q x) → IfOk r P → IfOk r Q
ok_then P Q (Ok x) f h = f x h
ok_then P Q (Err e) f h = tt

-- all operands have L bits
abbrev pub AllWide : ℕ → List Operand → Type 0
AllWide L [] = Unit {0}
AllWide L (o ∷ os) = (L ≤ o.width) × AllWide L os

-- a field is one of the operands
abbrev pub has_field : List Operand → ℕ → Bool
has_field [] f = false
has_field (o ∷ os) f = (o.field == f) || has_field os f

pub among : (os : List Operand) (f L : ℕ) → AllWide L os → has_field os f ≡ true → L ≤ width_among os f
among [] f L all there = absurd (let e : false ≡ true = there in cc)
among (o ∷ os) f L all there = by_first (among os f L all.1) (o.field == f) there
  where
    by_first : (has_field os f ≡ true → L ≤ width_among os f) → (b : Bool) → (b || has_field os f) ≡ true → L ≤ cond b o.width (width_among os f)
    by_first rest true e = all.0
    by_first rest false e = rest e

pub same_field : (o : Operand) (rest : Bool) → ((o.field == o.field) || rest) ≡ true
same_field o rest = or_true_first (o.field == o.field) rest (eq-eqb o.field o.field refl)

-- a length that isn't bad
pub good_length : (L : ℕ) (o : Operand) → is_bad_length L o ≡ false → (0 < L) × (L ≤ o.width)
good_length L o h =
    let some : (L == 0) ≡ false = or_false_first (L == 0) (nat_lt o.width L) h in
    let fits : nat_lt o.width L ≡ false = or_false_second (L == 0) (nat_lt o.width L) h in
    (grind (arith, nat_tests), ltb-false o.width L fits)

-- a value has its key's width
pub value_wide : (t : Task) (k : Key) (x : FieldNumbers) (L : ℕ) → x ≡ field_of t.plan k (seen_at t k) → L ≤ key_width t.plan k → L ≤ x.width
value_wide t k x L is h = subst (λ (y : FieldNumbers). L ≤ y.width) (sym is) h

pub numbers_count : (x : FieldNumbers) (L n m : ℕ) (f : ℕ → ℕ) → x ≡ record { width = L; numbers = everywhere n f } → n ≡ m → length x.numbers ≡ m
numbers_count x L n m f is count = ap (λ (y : FieldNumbers). length y.numbers) is ∙ length-everywhere n f ∙ count

pub bits_count : (bits : List Bool) (n m : ℕ) (b : ℕ → Bool) → bits ≡ bits_everywhere n b → n ≡ m → length bits ≡ m
bits_count bits n m b is count = ap length is ∙ length-map-range_with_len b 0 n ∙ count

module _ (t : Task) (i : Conditional Operand ℕ) (acts : t.plan.action ≡ OnSelected i) where
  key_wide : (f L : ℕ) → L ≤ width_among (operands (OnSelected i)) f → L ≤ key_width t.plan (Field f)
  key_wide f L h = subst (λ n. L ≤ n) (sym (key_width-is t.plan (Field f) ∙ ap (λ a. width_among (operands a) f) acts)) h

  pub lengths_fit : IsFit t.plan.axes t.plan.action → conditional_bad_length i ≡ false
  lengths_fit fit = sym (ap has_bad_length acts) ∙ fit.lengths

  pub operands_fit : IsFit t.plan.axes t.plan.action → conditional_bad_operand i ≡ false
  operands_fit fit = sym (ap (has_bad_operand t.plan.axes) acts) ∙ fit.operands

  pub axis_fits : IsFit t.plan.axes t.plan.action → conditional_bad_axis t.plan.axes i ≡ false
  axis_fits fit = sym (ap (has_bad_axis t.plan.axes) acts) ∙ fit.axis

  -- what is stored to a field alone, or to flags too, reads them and the context
  pub field_read : (d : ℕ) (ks : List Key) → target_keys t.plan.set_no (OnSelected i) ≡ Field d ∷ ks → AreRead t (Field d ∷ Flag t.plan.set_no Context ∷ [])
  field_read d ks targets = (
    read_target t i acts (Field d) (ap (λ js. has_key js (Field d)) targets ∙ first_key (Field d) ks),
    (read_context t i acts, tt),
  )

  pub flag_read : (flag : FlagName) → target_keys t.plan.set_no (OnSelected i) ≡ Flag t.plan.set_no flag ∷ [] → AreRead t (Flag t.plan.set_no flag ∷ Flag t.plan.set_no Context ∷ [])
  flag_read flag targets = (
    read_target t i acts (Flag t.plan.set_no flag) (ap (λ js. has_key js (Flag t.plan.set_no flag)) targets ∙ first_key (Flag t.plan.set_no flag) []),
    (read_context t i acts, tt),
  )

  pub overflow_read : (d : ℕ) → target_keys t.plan.set_no (OnSelected i) ≡ Field d ∷ Flag t.plan.set_no Overflow ∷ [] → AreRead t (Field d ∷ Flag t.plan.set_no Overflow ∷ Flag t.plan.set_no Context ∷ [])
  overflow_read d targets = (
    read_target t i acts (Field d) (ap (λ js. has_key js (Field d)) targets ∙ first_key (Field d) (Flag t.plan.set_no Overflow ∷ [])),
    (read_target t i acts (Flag t.plan.set_no Overflow) (ap (λ js. has_key js (Flag t.plan.set_no Overflow)) targets ∙ first_key (Flag t.plan.set_no Overflow) []), (read_context t i acts, tt)),
  )

module _ (t : Task) (op : BinaryOperator) (D A B : Operand) (L : ℕ) (acts : t.plan.action ≡ OnSelected (Binary op D A B L)) where
  abbrev rest : List Key
  rest = flag_keys t.plan.set_no (conditional_source_flags (Binary op D A B L))

  pub left_read : has_key (reads t.plan) (Field A.field) ≡ true
  left_read = read_source t (Binary op D A B L) acts (Field A.field) (first_key (Field A.field) (Field B.field ∷ rest))

  pub right_read : has_key (reads t.plan) (Field B.field) ≡ true
  right_read =
      read_source t (Binary op D A B L) acts (Field B.field)
      (or_true_second (key_eq (Field B.field) (Field A.field)) (has_key (Field B.field ∷ rest) (Field B.field)) (first_key (Field B.field) rest))

  carry_target : binary_flags op ≡ Carry ∷ Overflow ∷ [] → has_key (target_keys t.plan.set_no (OnSelected (Binary op D A B L))) (Flag t.plan.set_no Carry) ≡ true
  carry_target e = ap (λ fs. has_key (flag_keys t.plan.set_no fs) (Flag t.plan.set_no Carry)) e ∙ first_key (Flag t.plan.set_no Carry) (Flag t.plan.set_no Overflow ∷ [])

  overflow_target : binary_flags op ≡ Carry ∷ Overflow ∷ [] → has_key (target_keys t.plan.set_no (OnSelected (Binary op D A B L))) (Flag t.plan.set_no Overflow) ≡ true
  overflow_target e =
      ap (λ fs. has_key (flag_keys t.plan.set_no fs) (Flag t.plan.set_no Overflow)) e
      ∙ or_true_second (key_eq (Flag t.plan.set_no Overflow) (Flag t.plan.set_no Carry)) (has_key (Flag t.plan.set_no Overflow ∷ []) (Flag t.plan.set_no Overflow)) (first_key (Flag t.plan.set_no Overflow) [])

  pub carry_read : binary_flags op ≡ Carry ∷ Overflow ∷ [] → has_key (reads t.plan) (Flag t.plan.set_no Carry) ≡ true
  carry_read e = read_target t (Binary op D A B L) acts (Flag t.plan.set_no Carry) (carry_target e)

  pub sum_read : binary_flags op ≡ Carry ∷ Overflow ∷ [] → AreRead t (Field D.field ∷ Flag t.plan.set_no Carry ∷ Flag t.plan.set_no Overflow ∷ Flag t.plan.set_no Context ∷ [])
  sum_read e = (
    (field_read t (Binary op D A B L) acts D.field (flag_keys t.plan.set_no (binary_flags op)) refl).0,
    (carry_read e, (read_target t (Binary op D A B L) acts (Flag t.plan.set_no Overflow) (overflow_target e), (read_context t (Binary op D A B L) acts, tt))),
  )

  pub product_read : binary_flags op ≡ Overflow ∷ [] → AreRead t (Field D.field ∷ Flag t.plan.set_no Overflow ∷ Flag t.plan.set_no Context ∷ [])
  product_read e = overflow_read t (Binary op D A B L) acts D.field (ap (λ fs. Field D.field ∷ flag_keys t.plan.set_no fs) e)

  pub flagless_read : AreRead t (Field D.field ∷ Flag t.plan.set_no Context ∷ [])
  flagless_read = field_read t (Binary op D A B L) acts D.field (flag_keys t.plan.set_no (binary_flags op)) refl

  module _ (fit : IsFit t.plan.axes t.plan.action) where
    bad : (is_bad_length L D || (is_bad_length L A || is_bad_length L B)) ≡ false
    bad = lengths_fit t (Binary op D A B L) acts fit

    wide : AllWide L (D ∷ A ∷ B ∷ [])
    wide =
        let to = (good_length L D (or_false_first (is_bad_length L D) (is_bad_length L A || is_bad_length L B) bad)).1 in
        let left = (good_length L A (or_false_first (is_bad_length L A) (is_bad_length L B) (or_false_second (is_bad_length L D) (is_bad_length L A || is_bad_length L B) bad))).1 in
        let right = (good_length L B (or_false_second (is_bad_length L A) (is_bad_length L B) (or_false_second (is_bad_length L D) (is_bad_length L A || is_bad_length L B) bad))).1 in
        (to, (left, (right, tt)))

    pub binary_some : 0 < L
    binary_some = (good_length L D (or_false_first (is_bad_length L D) (is_bad_length L A || is_bad_length L B) bad)).0

    pub binary_to : L ≤ key_width t.plan (Field D.field)
    binary_to = key_wide t (Binary op D A B L) acts D.field L (among (D ∷ A ∷ B ∷ []) D.field L wide (same_field D (has_field (A ∷ B ∷ []) D.field)))

    pub binary_left : L ≤ key_width t.plan (Field A.field)
    binary_left = key_wide t (Binary op D A B L) acts A.field L (among (D ∷ A ∷ B ∷ []) A.field L wide (or_true_second (D.field == A.field) (has_field (A ∷ B ∷ []) A.field) (same_field A (has_field (B ∷ []) A.field))))

    pub binary_right : L ≤ key_width t.plan (Field B.field)
    binary_right = key_wide t (Binary op D A B L) acts B.field L (among (D ∷ A ∷ B ∷ []) B.field L wide (or_true_second (D.field == B.field) (has_field (A ∷ B ∷ []) B.field) (or_true_second (A.field == B.field) (has_field (B ∷ []) B.field) (same_field B false))))

    pub binary_narrow : L ≤ 128
    binary_narrow = (let to : L ≤ key_width t.plan (Field D.field) = binary_to in let most : key_width t.plan (Field D.field) ≤ 128 = key_narrow t.plan (Field D.field) fit in omega (arith, to, most))

first_wide : (D : Operand) (os : List Operand) (L : ℕ) → L ≤ D.width → L ≤ width_among (D ∷ os) D.field
first_wide D os L h = subst (λ n. L ≤ n) (sym (width_first D os D.field (eq-eqb D.field D.field refl))) h

-- a length that the target has is below that of any field
pub narrow_length : (t : Task) (f L : ℕ) → IsFit t.plan.axes t.plan.action → L ≤ key_width t.plan (Field f) → L ≤ 128
narrow_length t f L fit within = (let most : key_width t.plan (Field f) ≤ 128 = key_narrow t.plan (Field f) fit in omega (arith, within, most))

module _ (t : Task) (op : UnaryOperator) (D A : Operand) (L : ℕ) (acts : t.plan.action ≡ OnSelected (Unary op D A L)) where
  pub unary_source : has_key (reads t.plan) (Field A.field) ≡ true
  unary_source = read_source t (Unary op D A L) acts (Field A.field) (first_key (Field A.field) (Flag t.plan.set_no Context ∷ []))

  pub unary_read : AreRead t (Field D.field ∷ Flag t.plan.set_no Context ∷ [])
  unary_read = field_read t (Unary op D A L) acts D.field (flag_keys t.plan.set_no (unary_flags op)) refl

  pub unary_overflow_read : unary_flags op ≡ Overflow ∷ [] → AreRead t (Field D.field ∷ Flag t.plan.set_no Overflow ∷ Flag t.plan.set_no Context ∷ [])
  unary_overflow_read e = overflow_read t (Unary op D A L) acts D.field (ap (λ fs. Field D.field ∷ flag_keys t.plan.set_no fs) e)

  module _ (fit : IsFit t.plan.axes t.plan.action) where
    unary_bad : (is_bad_length L D || is_bad_length L A) ≡ false
    unary_bad = lengths_fit t (Unary op D A L) acts fit

    pub unary_to : L ≤ key_width t.plan (Field D.field)
    unary_to = key_wide t (Unary op D A L) acts D.field L (first_wide D (A ∷ []) L (good_length L D (or_false_first (is_bad_length L D) (is_bad_length L A) unary_bad)).1)

    pub unary_from : L ≤ key_width t.plan (Field A.field)
    unary_from =
        let to = (good_length L D (or_false_first (is_bad_length L D) (is_bad_length L A) unary_bad)).1 in
        let from = (good_length L A (or_false_second (is_bad_length L D) (is_bad_length L A) unary_bad)).1 in
        key_wide t (Unary op D A L) acts A.field L (among (D ∷ A ∷ []) A.field L (to, (from, tt)) (or_true_second (D.field == A.field) (has_field (A ∷ []) A.field) (same_field A false)))

narrow_second : (D A : Operand) → list_all (λ (o : Operand). nat_lt 0 o.width && nat_le o.width MAX_WIDTH) (D ∷ A ∷ []) ≡ true → A.width ≤ MAX_WIDTH
narrow_second D A h =
    let second = (and_parts (nat_lt 0 D.width && nat_le D.width MAX_WIDTH) (list_all (λ (o : Operand). nat_lt 0 o.width && nat_le o.width MAX_WIDTH) (A ∷ [])) h).1 in
    let own = (and_parts (nat_lt 0 A.width && nat_le A.width MAX_WIDTH) true second).0 in
    let most : nat_le A.width MAX_WIDTH ≡ true = (and_parts (nat_lt 0 A.width) (nat_le A.width MAX_WIDTH) own).1 in
    grind (arith, nat_tests)

module _ (t : Task) (sign : Sign) (D A : Operand) (L M : ℕ) (acts : t.plan.action ≡ OnSelected (Resize sign D A L M)) where
  pub resize_source : has_key (reads t.plan) (Field A.field) ≡ true
  resize_source = read_source t (Resize sign D A L M) acts (Field A.field) (first_key (Field A.field) (Flag t.plan.set_no Context ∷ []))

  pub resize_read : AreRead t (Field D.field ∷ Flag t.plan.set_no Overflow ∷ Flag t.plan.set_no Context ∷ [])
  resize_read = overflow_read t (Resize sign D A L M) acts D.field refl

  pub resize_to : IsFit t.plan.axes t.plan.action → L ≤ key_width t.plan (Field D.field)
  resize_to fit =
      let bad : (is_bad_length L D || is_bad_length M A) ≡ false = lengths_fit t (Resize sign D A L M) acts fit in
      key_wide t (Resize sign D A L M) acts D.field L (first_wide D (A ∷ []) L (good_length L D (or_false_first (is_bad_length L D) (is_bad_length M A) bad)).1)

  -- the source's length is that of a field at most
  pub resize_lengths : IsFit t.plan.axes t.plan.action → (0 < L) × (0 < M) × (M ≤ 128)
  resize_lengths fit =
      let bad : (is_bad_length L D || is_bad_length M A) ≡ false = lengths_fit t (Resize sign D A L M) acts fit in
      let from = good_length M A (or_false_second (is_bad_length L D) (is_bad_length M A) bad) in
      let widths : list_all (λ (o : Operand). nat_lt 0 o.width && nat_le o.width MAX_WIDTH) (D ∷ A ∷ []) ≡ true = sym (ap have_field_widths acts) ∙ fit.widths in
      let most : A.width ≤ 128 = narrow_second D A widths in
      let longest : M ≤ A.width = from.1 in
      ((good_length L D (or_false_first (is_bad_length L D) (is_bad_length M A) bad)).0, from.0, (let m : M ≤ 128 = omega (arith, longest, most) in m))

module _ (t : Task) (op : Comparison) (A B : Operand) (L : ℕ) (acts : t.plan.action ≡ OnSelected (Compare op A B L)) where
  pub compare_left_read : has_key (reads t.plan) (Field A.field) ≡ true
  compare_left_read = read_source t (Compare op A B L) acts (Field A.field) (first_key (Field A.field) (Field B.field ∷ Flag t.plan.set_no Context ∷ []))

  pub compare_right_read : has_key (reads t.plan) (Field B.field) ≡ true
  compare_right_read =
      read_source t (Compare op A B L) acts (Field B.field)
      (or_true_second (key_eq (Field B.field) (Field A.field)) (has_key (Field B.field ∷ Flag t.plan.set_no Context ∷ []) (Field B.field)) (first_key (Field B.field) (Flag t.plan.set_no Context ∷ [])))

  module _ (fit : IsFit t.plan.axes t.plan.action) where
    compare_wide : AllWide L (A ∷ B ∷ [])
    compare_wide =
        let bad : (is_bad_length L A || is_bad_length L B) ≡ false = lengths_fit t (Compare op A B L) acts fit in
        let left = (good_length L A (or_false_first (is_bad_length L A) (is_bad_length L B) bad)).1 in
        let right = (good_length L B (or_false_second (is_bad_length L A) (is_bad_length L B) bad)).1 in
        (left, (right, tt))

    pub compare_left : L ≤ key_width t.plan (Field A.field)
    compare_left = key_wide t (Compare op A B L) acts A.field L (among (A ∷ B ∷ []) A.field L compare_wide (same_field A (has_field (B ∷ []) A.field)))

    pub compare_right : L ≤ key_width t.plan (Field B.field)
    compare_right = key_wide t (Compare op A B L) acts B.field L (among (A ∷ B ∷ []) B.field L compare_wide (or_true_second (A.field == B.field) (has_field (B ∷ []) B.field) (same_field B false)))

-- the one operand of an instruction that has no source fields
module _ (t : Task) (i : Conditional Operand ℕ) (acts : t.plan.action ≡ OnSelected i) (D : Operand) (alone : operands (OnSelected i) ≡ D ∷ []) (fit : IsFit t.plan.axes t.plan.action) where
  pub alone_to : (L : ℕ) → is_bad_length L D ≡ false → L ≤ key_width t.plan (Field D.field)
  alone_to L good = key_wide t i acts D.field L (subst (λ os. L ≤ width_among os D.field) (sym alone) (first_wide D [] L (good_length L D good).1))

  alone_fits : list_all (λ (o : Operand). nat_lt 0 o.width && nat_le o.width MAX_WIDTH) (D ∷ []) ≡ true
  alone_fits = sym (ap (list_all (λ (o : Operand). nat_lt 0 o.width && nat_le o.width MAX_WIDTH)) alone) ∙ sym (ap have_field_widths acts) ∙ fit.widths

  pub one_bit_to : 1 ≤ key_width t.plan (Field D.field)
  one_bit_to = key_wide t i acts D.field 1 (subst (λ os. 1 ≤ width_among os D.field) (sym alone) (first_wide D [] 1 (some_width D [] alone_fits)))

  -- a field of one bit is one bit wide
  pub one_bit : is_wide D ≡ false → key_width t.plan (Field D.field) ≡ 1
  one_bit narrow =
      let some : 1 ≤ D.width = some_width D [] alone_fits in
      let most : D.width ≤ 1 = ltb-false 1 D.width narrow in
      key_width-is t.plan (Field D.field)
      ∙ ap (λ a. width_among (operands a) D.field) acts
      ∙ ap (λ os. width_among os D.field) alone
      ∙ width_first D [] D.field (eq-eqb D.field D.field refl)
      ∙ (let one : D.width ≡ 1 = omega (arith, some, most) in one)

pub load_test_read : (t : Task) (F : Operand) → t.plan.action ≡ OnSelected (LoadTest F) → has_key (reads t.plan) (Field F.field) ≡ true
load_test_read t F acts = read_source t (LoadTest F) acts (Field F.field) (first_key (Field F.field) (Flag t.plan.set_no Context ∷ []))

pub store_test_read : (t : Task) (F : Operand) → t.plan.action ≡ OnSelected (StoreTest F) → has_key (reads t.plan) (Flag t.plan.set_no Test) ≡ true
store_test_read t F acts =
    read_source t (StoreTest F) acts (Flag t.plan.set_no Test)
    (or_true_second (key_eq (Flag t.plan.set_no Test) (Flag t.plan.set_no Context)) (has_key (Flag t.plan.set_no Test ∷ []) (Flag t.plan.set_no Test)) (first_key (Flag t.plan.set_no Test) []))
