-- What an instruction gives hangs on what it reads alone.
use Rattle.std.proofs.Common.{◌≡◌, ℕ, ◌+◌, ◌%◌, ◌^◌, ◌<◌, Bool, true, false, cond, List, [], ◌∷◌, ◌++◌, slice_index, Option, Some, None, refl, sym, ap, ◌∙◌, arith, sum}
use Rattle.std.specs.Prelude.{◌||◌, ◌==◌, nat_le}
use lib.Pow.{pow_pos}
use Rattle.paris_names.specs.declared.keys.FlagName.TheVariants.{Context, Test, Carry, Overflow}
use Rattle.paris_names.specs.declared.keys.Key.{Key}
use Rattle.paris_names.specs.declared.keys.Key.TheVariants.{Field, Flag}
use Rattle.paris_names.specs.Keys.{key_eq, has_key}
use Rattle.paris_names.proofs.KeyLists.{key_eq-same}
use Rattle.paris_geometry.specs.Geometry.{processor_count}
use Rattle.paris_model.specs.declared.operators.BinaryOperator.{BinaryOperator}
use Rattle.paris_model.specs.declared.operators.BinaryOperator.TheVariants.{UnsignedAddCarry}
use Rattle.paris_model.specs.declared.actions.Operand.{Operand}
use Rattle.paris_model.specs.declared.actions.Conditional.{Conditional}
use Rattle.paris_model.specs.declared.actions.Conditional.TheVariants.{Binary, Unary, MoveConstant, Resize, Compare, MyCoordinate, MyAddress, SetTest, ClearTest, LoadTest, StoreTest}
use Rattle.paris_model.specs.declared.actions.Unconditional.{Unconditional}
use Rattle.paris_model.specs.declared.actions.Unconditional.TheVariants.{MoveAlways, SetContext, ClearContext, InvertContext, LoadContext, AndContext, OrContext, AndContextWithTest, StoreContext}
use Rattle.paris_model.specs.declared.actions.News.{News}
use Rattle.paris_model.specs.declared.actions.Line.{Line}
use Rattle.paris_model.specs.declared.actions.Line.TheVariants.{Scan, CopyScan, Spread, CopySpread, Reduce}
use Rattle.paris_model.specs.declared.actions.Mail.{Mail}
use Rattle.paris_model.specs.declared.actions.Action.TheVariants.{OnSelected, ByMail}
use Rattle.paris_model.specs.Store.{low, bit, put, everywhere}
use Rattle.paris_model.specs.Elementwise.{binary_result, binary_carry, binary_overflow}
use Rattle.paris_model.specs.Frame.{Frame, World, put_where, is_selected, low_at, field_at, flag_at}
use Rattle.paris_model.specs.Conditional.{conditional_after, conditional_sources, conditional_source_flags}
use Rattle.paris_model.specs.Unconditional.{unconditional_after, unconditional_value, unconditional_length, unconditional_sources, unconditional_source_flags}
use Rattle.paris_model.specs.News.{news_after, news_source}
use Rattle.paris_model.specs.Lines.{line_after, line_sources, line_length, segment_sources, begins_segment, combined_values, scan_values, line_values, stores_on_line, result_of}
use Rattle.paris_model.specs.Mail.{mail_after, mail_of, mail_sources, mail_refusal, messages, arrivals, bad_sender, bad_sender_in, collision_at, delivered, notified, gets_mail, first_cause}
use Rattle.paris_model.specs.Combine.{combined}
use Rattle.paris_geometry.specs.declared.direction.Direction.{Direction}
use Rattle.paris_model.specs.declared.operators.Inclusion.{Inclusion}
use Rattle.paris_model.specs.declared.operators.Inclusion.TheVariants.{Inclusive}
use Rattle.paris_model.specs.Instructions.{target_keys, field_keys, flag_keys}
use Rattle.std.proofs.Math.Nat.{mod-eq_of_lt}
use Rattle.paris_model.proofs.Stores.{everywhere-same}
use Rattle.paris_model.proofs.Widths.{HaveBits, index_below}
use Rattle.paris_model.proofs.Worlds.{or_true_second}

-- two worlds have the same numbers at each key of a list
abbrev pub Agree : World → World → List Key → Type 0
Agree w w' [] = Unit {0}
Agree w w' (k ∷ ks) = (w k ≡ w' k) × Agree w w' ks

or_true_first : (a b : Bool) → a ≡ true → (a || b) ≡ true
or_true_first true b e = refl
or_true_first false b e = absurd (let x : false ≡ true = e in cc)

pub agree_at : (w w' : World) (ks : List Key) → ((k : Key) → has_key ks k ≡ true → w k ≡ w' k) → Agree w w' ks
agree_at w w' [] same = tt
agree_at w w' (k ∷ ks) same = (same k (or_true_first (key_eq k k) (has_key ks k) (key_eq-same k)), agree_at w w' ks (λ j t. same j (or_true_second (key_eq j k) (has_key ks j) t)))

pub agree_parts : (w w' : World) (xs ys : List Key) → Agree w w' (xs ++ ys) → Agree w w' xs × Agree w w' ys
agree_parts w w' [] ys same = (tt, same)
agree_parts w w' (x ∷ xs) ys same = let rest = agree_parts w w' xs ys same.1 in ((same.0, rest.0), rest.1)

-- a store of all bits leaves nothing of what stood there
put_whole : (old x L : ℕ) → old < 2 ^ L → put old x L ≡ low L x
put_whole old x L small = let all : old % 2 ^ L ≡ old = mod-eq_of_lt small in omega (arith, all)

-- what an instruction of the set sees of a world
abbrev pub seen : ℕ → List ℕ → World → Frame
seen s axes w = record { set_no = s; axes = axes; world = w }

module _ (s : ℕ) (axes : List ℕ) (w w' : World) where
  put_same : (k : Key) (who who' : ℕ → Bool) (L : ℕ) (new new' : ℕ → ℕ) → w k ≡ w' k → ((v : ℕ) → who v ≡ who' v) → ((v : ℕ) → new v ≡ new' v) → put_where (seen s axes w) who k L new ≡ put_where (seen s axes w') who' k L new'
  put_same k who who' L new new' here selected same = everywhere-same (processor_count axes) _ _ (λ v below. rw (selected v, same v, here) refl)

  selected_same : w (Flag s Context) ≡ w' (Flag s Context) → is_selected (seen s axes w) ≡ is_selected (seen s axes w')
  selected_same e = ap {B = ℕ → Bool} (λ xs v. slice_index xs v == 1) e

  low_same : (A : Operand) (L : ℕ) → w (Field A.field) ≡ w' (Field A.field) → low_at (seen s axes w) A L ≡ low_at (seen s axes w') A L
  low_same A L e = ap {B = ℕ → ℕ} (λ xs v. low L (slice_index xs v)) e

  field_same : (A : Operand) → w (Field A.field) ≡ w' (Field A.field) → field_at (seen s axes w) A ≡ field_at (seen s axes w') A
  field_same A e = ap {B = ℕ → ℕ} (λ xs v. slice_index xs v) e

  -- an operator that doesn't read the carry flag is not told it
  carry_result : (op : BinaryOperator) (D A B : Operand) (L x y old v : ℕ) → Agree w w' (flag_keys s (conditional_source_flags (Binary op D A B L))) → binary_result op L x y (flag_at (seen s axes w) Carry v) old ≡ binary_result op L x y (flag_at (seen s axes w') Carry v) old
  carry_result UnsignedAddCarry D A B L x y old v flags = ap (λ xs. x + y + slice_index xs v) flags.1.0
  carry_result _ D A B L x y old v flags = refl

  carry_carry : (op : BinaryOperator) (D A B : Operand) (L x y v : ℕ) → Agree w w' (flag_keys s (conditional_source_flags (Binary op D A B L))) → binary_carry op L x y (flag_at (seen s axes w) Carry v) ≡ binary_carry op L x y (flag_at (seen s axes w') Carry v)
  carry_carry UnsignedAddCarry D A B L x y v flags = ap (λ xs. nat_le (2 ^ L) (x + y + slice_index xs v)) flags.1.0
  carry_carry _ D A B L x y v flags = refl

  carry_overflow : (op : BinaryOperator) (D A B : Operand) (L x y v : ℕ) → Agree w w' (flag_keys s (conditional_source_flags (Binary op D A B L))) → binary_overflow op L x y (flag_at (seen s axes w) Carry v) ≡ binary_overflow op L x y (flag_at (seen s axes w') Carry v)
  carry_overflow UnsignedAddCarry D A B L x y v flags = ap (λ xs. nat_le (2 ^ L) (x + y + slice_index xs v)) flags.1.0
  carry_overflow _ D A B L x y v flags = refl

  context_of_binary : (op : BinaryOperator) (D A B : Operand) (L : ℕ) → Agree w w' (flag_keys s (conditional_source_flags (Binary op D A B L))) → w (Flag s Context) ≡ w' (Flag s Context)
  context_of_binary UnsignedAddCarry D A B L flags = flags.0
  context_of_binary _ D A B L flags = flags.0

  pub context_of : (i : Conditional Operand ℕ) → Agree w w' (flag_keys s (conditional_source_flags i)) → w (Flag s Context) ≡ w' (Flag s Context)
  context_of (Binary op D A B L) flags = context_of_binary op D A B L flags
  context_of _ flags = flags.0

  pub conditional_same : (i : Conditional Operand ℕ) (k : Key) → Agree w w' (field_keys (conditional_sources i)) → Agree w w' (flag_keys s (conditional_source_flags i)) → Agree w w' (target_keys s (OnSelected i)) → w k ≡ w' k → has_key (target_keys s (OnSelected i)) k ≡ true → conditional_after (seen s axes w) i k ≡ conditional_after (seen s axes w') i k
  conditional_same (Binary op D A B L) (Field f) sources flags targets here t = put_same (Field f) _ _ L _ _ here (λ v. rw (context_of (Binary op D A B L) flags) refl) (λ v. rw (sources.0, sources.1.0, targets.0) (carry_result op D A B L _ _ _ v flags))
  conditional_same (Binary op D A B L) (Flag r Carry) sources flags targets here t = put_same (Flag r Carry) _ _ 1 _ _ here (λ v. rw (context_of (Binary op D A B L) flags) refl) (λ v. rw (sources.0, sources.1.0) (ap bit (carry_carry op D A B L _ _ v flags)))
  conditional_same (Binary op D A B L) (Flag r Context) sources flags targets here t = put_same (Flag r Context) _ _ 1 _ _ here (λ v. rw (context_of (Binary op D A B L) flags) refl) (λ v. rw (sources.0, sources.1.0) (ap bit (carry_overflow op D A B L _ _ v flags)))
  conditional_same (Binary op D A B L) (Flag r Test) sources flags targets here t = put_same (Flag r Test) _ _ 1 _ _ here (λ v. rw (context_of (Binary op D A B L) flags) refl) (λ v. rw (sources.0, sources.1.0) (ap bit (carry_overflow op D A B L _ _ v flags)))
  conditional_same (Binary op D A B L) (Flag r Overflow) sources flags targets here t = put_same (Flag r Overflow) _ _ 1 _ _ here (λ v. rw (context_of (Binary op D A B L) flags) refl) (λ v. rw (sources.0, sources.1.0) (ap bit (carry_overflow op D A B L _ _ v flags)))
  conditional_same (Unary op D A L) (Field f) sources flags targets here t = put_same (Field f) _ _ L _ _ here (λ v. rw flags.0 refl) (λ v. rw sources.0 refl)
  conditional_same (Unary op D A L) (Flag r flag) sources flags targets here t = put_same (Flag r flag) _ _ 1 _ _ here (λ v. rw flags.0 refl) (λ v. rw sources.0 refl)
  conditional_same (Resize sign D A L M) (Field f) sources flags targets here t = put_same (Field f) _ _ L _ _ here (λ v. rw flags.0 refl) (λ v. rw sources.0 refl)
  conditional_same (Resize sign D A L M) (Flag r flag) sources flags targets here t = put_same (Flag r flag) _ _ 1 _ _ here (λ v. rw flags.0 refl) (λ v. rw sources.0 refl)
  conditional_same (Compare op A B L) (Flag r flag) sources flags targets here t = put_same (Flag r flag) _ _ 1 _ _ here (λ v. rw flags.0 refl) (λ v. rw (sources.0, sources.1.0) refl)
  conditional_same (SetTest q) (Flag r flag) sources flags targets here t = put_same (Flag r flag) _ _ 1 (λ v. 1) (λ v. 1) here (λ v. rw flags.0 refl) (λ v. refl)
  conditional_same (ClearTest q) (Flag r flag) sources flags targets here t = put_same (Flag r flag) _ _ 1 (λ v. 0) (λ v. 0) here (λ v. rw flags.0 refl) (λ v. refl)
  conditional_same (LoadTest F) (Flag r flag) sources flags targets here t = put_same (Flag r flag) _ _ 1 _ _ here (λ v. rw flags.0 refl) (λ v. rw sources.0 refl)
  conditional_same (MoveConstant D K L) (Field f) sources flags targets here t = put_same (Field f) _ _ L _ _ here (λ v. rw flags.0 refl) (λ v. refl)
  conditional_same (MyCoordinate D X L) (Field f) sources flags targets here t = put_same (Field f) _ _ L _ _ here (λ v. rw flags.0 refl) (λ v. refl)
  conditional_same (MyAddress D L) (Field f) sources flags targets here t = put_same (Field f) _ _ L _ _ here (λ v. rw flags.0 refl) (λ v. refl)
  conditional_same (StoreTest F) (Field f) sources flags targets here t = put_same (Field f) _ _ 1 _ _ here (λ v. rw flags.0 refl) (λ v. rw flags.1.0 refl)
  conditional_same (MoveConstant D K L) (Flag r flag) sources flags targets here t = absurd (let x : false ≡ true = t in cc)
  conditional_same (MyCoordinate D X L) (Flag r flag) sources flags targets here t = absurd (let x : false ≡ true = t in cc)
  conditional_same (MyAddress D L) (Flag r flag) sources flags targets here t = absurd (let x : false ≡ true = t in cc)
  conditional_same (StoreTest F) (Flag r flag) sources flags targets here t = absurd (let x : false ≡ true = t in cc)
  conditional_same (Compare op A B L) (Field f) sources flags targets here t = here
  conditional_same (SetTest q) (Field f) sources flags targets here t = here
  conditional_same (ClearTest q) (Field f) sources flags targets here t = here
  conditional_same (LoadTest F) (Field f) sources flags targets here t = here

  overwritten : (u : World) (k : Key) (L : ℕ) (new : ℕ → ℕ) → HaveBits L (u k) → put_where (seen s axes u) (λ v. true) k L new ≡ everywhere (processor_count axes) (λ v. low L (new v))
  overwritten u k L new small = everywhere-same (processor_count axes) _ _ (λ v below. put_whole (slice_index (u k) v) (new v) L (index_below (u k) (2 ^ L) v (pow_pos L) small))

  value_same : (i : Unconditional Operand ℕ) (v : ℕ) → Agree w w' (field_keys (unconditional_sources i)) → Agree w w' (flag_keys s (unconditional_source_flags i)) → unconditional_value (seen s axes w) i v ≡ unconditional_value (seen s axes w') i v
  value_same (MoveAlways D A L) v sources flags = rw sources.0 refl
  value_same (SetContext q) v sources flags = refl
  value_same (ClearContext q) v sources flags = refl
  value_same (InvertContext q) v sources flags = rw flags.0 refl
  value_same (LoadContext F) v sources flags = rw sources.0 refl
  value_same (AndContext F) v sources flags = rw (sources.0, flags.0) refl
  value_same (OrContext F) v sources flags = rw (sources.0, flags.0) refl
  value_same (AndContextWithTest q) v sources flags = rw (flags.0, flags.1.0) refl
  value_same (StoreContext F) v sources flags = rw flags.0 refl

  pub unconditional_same : (i : Unconditional Operand ℕ) (k : Key) → Agree w w' (field_keys (unconditional_sources i)) → Agree w w' (flag_keys s (unconditional_source_flags i)) → w k ≡ w' k → unconditional_after (seen s axes w) i k ≡ unconditional_after (seen s axes w') i k
  unconditional_same i k sources flags here = put_same k (λ v. true) (λ v. true) (unconditional_length i) _ _ here (λ v. refl) (λ v. value_same i v sources flags)

  -- where it stores all bits, what stood there doesn't matter
  pub overwrite_same : (i : Unconditional Operand ℕ) (k : Key) → Agree w w' (field_keys (unconditional_sources i)) → Agree w w' (flag_keys s (unconditional_source_flags i)) → HaveBits (unconditional_length i) (w k) → HaveBits (unconditional_length i) (w' k) → unconditional_after (seen s axes w) i k ≡ unconditional_after (seen s axes w') i k
  overwrite_same i k sources flags small small' =
      overwritten w k (unconditional_length i) (unconditional_value (seen s axes w) i) small
      ∙ everywhere-same (processor_count axes) _ _ (λ v below. ap (low (unconditional_length i)) (value_same i v sources flags))
      ∙ sym (overwritten w' k (unconditional_length i) (unconditional_value (seen s axes w') i) small')

  pub news_same : (i : News Operand) (k : Key) → w (Field (news_source i).field) ≡ w' (Field (news_source i).field) → w (Flag s Context) ≡ w' (Flag s Context) → w k ≡ w' k → news_after (seen s axes w) i k ≡ news_after (seen s axes w') i k
  news_same (News.Get D A X direction L) k source context here = put_same k _ _ L _ _ here (λ v. rw context refl) (λ v. rw source refl)
  news_same (News.Send D A X direction L) k source context here = put_same k _ _ L _ _ here (λ v. rw context refl) (λ v. rw source refl)

  begins_same : (G : Option Operand) → Agree w w' (field_keys (segment_sources G)) → begins_segment (seen s axes w) G ≡ begins_segment (seen s axes w') G
  begins_same None segments = refl
  begins_same (Some G) segments = ap {B = ℕ → Bool} (λ xs v. slice_index xs v == 1) segments.0

  scan_same : (X : ℕ) (direction : Direction) (kind : Inclusion) (v : ℕ) (b b' c c' : ℕ → Bool) (x x' : ℕ → ℕ) → b ≡ b' → c ≡ c' → x ≡ x' → scan_values axes X direction kind b c x v ≡ scan_values axes X direction kind b' c' x' v
  scan_same X direction kind v b b' c c' x x' begins selected value =
      ap (λ y. scan_values axes X direction kind y c x v) begins ∙ ap (λ y. scan_values axes X direction kind b' y x v) selected ∙ ap (λ y. scan_values axes X direction kind b' c' y v) value

  line_values_same : (X v : ℕ) (c c' : ℕ → Bool) (x x' : ℕ → ℕ) → c ≡ c' → x ≡ x' → line_values axes X c x v ≡ line_values axes X c' x' v
  line_values_same X v c c' x x' selected value = ap (λ y. line_values axes X y x v) selected ∙ ap (λ y. line_values axes X c' y v) value

  values_same : (i : Line Operand) (v : ℕ) → Agree w w' (field_keys (line_sources i)) → w (Flag s Context) ≡ w' (Flag s Context) → combined_values (seen s axes w) i v ≡ combined_values (seen s axes w') i v
  values_same (Scan op D A X L direction kind G) v sources context = scan_same X direction kind v _ _ _ _ _ _ (begins_same G sources.1) (selected_same context) (low_same A L sources.0)
  values_same (CopyScan D A X L direction G) v sources context = scan_same X direction Inclusive v _ _ _ _ _ _ (begins_same G sources.1) (selected_same context) (low_same A L sources.0)
  values_same (Spread op D A X L) v sources context = line_values_same X v _ _ _ _ (selected_same context) (low_same A L sources.0)
  values_same (CopySpread D A X L C) v sources context = rw sources.0 refl
  values_same (Reduce op D A X L C) v sources context = line_values_same X v _ _ _ _ (selected_same context) (low_same A L sources.0)

  stores_same : (i : Line Operand) (v : ℕ) → w (Flag s Context) ≡ w' (Flag s Context) → stores_on_line (seen s axes w) i v ≡ stores_on_line (seen s axes w') i v
  stores_same (Scan op D A X L direction _ G) v context = rw context refl
  stores_same (CopyScan D A X L direction G) v context = rw context refl
  stores_same (Spread op D A X L) v context = rw context refl
  stores_same (CopySpread D A X L C) v context = rw context refl
  stores_same (Reduce op D A X L C) v context = rw context refl

  pub line_same : (i : Line Operand) (k : Key) → Agree w w' (field_keys (line_sources i)) → w (Flag s Context) ≡ w' (Flag s Context) → w k ≡ w' k → line_after (seen s axes w) i k ≡ line_after (seen s axes w') i k
  line_same i (Field f) sources context here = put_same (Field f) _ _ (line_length i) _ _ here (λ v. stores_same i v context) (λ v. ap (result_of i) (values_same i v sources context))
  line_same i (Flag r flag) sources context here = put_same (Flag r flag) _ _ 1 _ _ here (λ v. stores_same i v context) (λ v. ap (λ xs. bit (nat_le (2 ^ line_length i) (sum xs))) (values_same i v sources context))

  mail_same : (B A : Operand) (L : ℕ) → w (Field B.field) ≡ w' (Field B.field) → w (Field A.field) ≡ w' (Field A.field) → w (Flag s Context) ≡ w' (Flag s Context) → mail_of (seen s axes w) B A L ≡ mail_of (seen s axes w') B A L
  mail_same B A L addresses source context =
      ap (λ c. messages (processor_count axes) c (field_at (seen s axes w) B) (low_at (seen s axes w) A L)) (selected_same context)
      ∙ ap (λ a. messages (processor_count axes) (is_selected (seen s axes w')) a (low_at (seen s axes w) A L)) (field_same B addresses)
      ∙ ap (λ x. messages (processor_count axes) (is_selected (seen s axes w')) (field_at (seen s axes w') B) x) (low_same A L source)

  bad_sender_same : (B : Operand) → w (Field B.field) ≡ w' (Field B.field) → w (Flag s Context) ≡ w' (Flag s Context) → bad_sender_in (seen s axes w) B ≡ bad_sender_in (seen s axes w') B
  bad_sender_same B addresses context =
      ap (λ c. bad_sender (processor_count axes) c (field_at (seen s axes w) B)) (selected_same context)
      ∙ ap (λ a. bad_sender (processor_count axes) (is_selected (seen s axes w')) a) (field_same B addresses)

  pub refusal_same : (i : Mail Operand) → Agree w w' (field_keys (mail_sources i)) → w (Flag s Context) ≡ w' (Flag s Context) → mail_refusal (seen s axes w) i ≡ mail_refusal (seen s axes w') i
  refusal_same (Mail.Get D B A L) sources context = ap (λ o. first_cause o None) (bad_sender_same B sources.0 context)
  refusal_same (Mail.Send D B A L N) sources context =
      ap (λ o. first_cause o (collision_at (processor_count axes) (mail_of (seen s axes w) B A L))) (bad_sender_same B sources.0 context)
      ∙ ap (λ mail. first_cause (bad_sender_in (seen s axes w') B) (collision_at (processor_count axes) mail)) (mail_same B A L sources.0 sources.1.0 context)
  refusal_same (Mail.CombiningSend op D B A L N) sources context = ap (λ o. first_cause o None) (bad_sender_same B sources.0 context)

  delivered_same : (mail mail' : List (ℕ × ℕ)) (D : Operand) (L : ℕ) (value value' : ℕ → ℕ) (f : ℕ) → mail ≡ mail' → ((v : ℕ) → value v ≡ value' v) → w (Field f) ≡ w' (Field f) → delivered (seen s axes w) mail D L value f ≡ delivered (seen s axes w') mail' D L value' f
  delivered_same mail mail' D L value value' f same values here = by_test (f == D.field)
    where
      by_test : (b : Bool) → cond b (put_where (seen s axes w) (gets_mail mail) (Field f) L value) (notified (processor_count axes) mail) ≡ cond b (put_where (seen s axes w') (gets_mail mail') (Field f) L value') (notified (processor_count axes) mail')
      by_test true = put_same (Field f) _ _ L _ _ here (λ v. ap (λ x. gets_mail x v) same) values
      by_test false = ap (notified (processor_count axes)) same

  pub mail_after_same : (i : Mail Operand) (k : Key) → Agree w w' (field_keys (mail_sources i)) → w (Flag s Context) ≡ w' (Flag s Context) → Agree w w' (target_keys s (ByMail i)) → w k ≡ w' k → mail_after (seen s axes w) i k ≡ mail_after (seen s axes w') i k
  mail_after_same (Mail.Get D B A L) (Field f) sources context targets here = put_same (Field f) _ _ L _ _ here (λ v. rw context refl) (λ v. rw (sources.0, sources.1.0) refl)
  mail_after_same (Mail.Send D B A L N) (Field f) sources context targets here =
      let same = mail_same B A L sources.0 sources.1.0 context in
      delivered_same (mail_of (seen s axes w) B A L) (mail_of (seen s axes w') B A L) D L _ _ f same (λ r. ap (λ x. slice_index (arrivals x r) 0) same) here
  mail_after_same (Mail.CombiningSend op D B A L N) (Field f) sources context targets here =
      let same = mail_same B A L sources.0 sources.1.0 context in
      delivered_same (mail_of (seen s axes w) B A L) (mail_of (seen s axes w') B A L) D L _ _ f same
      (λ r. ap (λ xs. combined op L (low L (slice_index xs r)) (arrivals (mail_of (seen s axes w) B A L) r)) targets.0 ∙ ap (λ x. combined op L (low_at (seen s axes w') D L r) (arrivals x r)) same) here
  mail_after_same (Mail.Get D B A L) (Flag r flag) sources context targets here = here
  mail_after_same (Mail.Send D B A L N) (Flag r flag) sources context targets here = here
  mail_after_same (Mail.CombiningSend op D B A L N) (Flag r flag) sources context targets here = here
