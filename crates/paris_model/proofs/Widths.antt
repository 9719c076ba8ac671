-- What a fit plan leaves at a key has one number for each processor, and each fits the key.
use Rattle.std.proofs.Common.{◌≡◌, ℕ, ◌^◌, ◌<◌, ◌≤◌, Bool, true, false, cond, List, [], ◌∷◌, ◌++◌, length, slice_index, Option, Some, None, inl, inr, refl, sym, ◌∙◌, subst, arith}
use Rattle.std.specs.Prelude.{All, ◌||◌, ◌&&◌, ◌==◌, nat_lt, nat_le}
use Rattle.std.specs.List.{list_all}
use Rattle.std.proofs.lemmas.Bool.{and_parts, cases_lt, ltb-true, ltb-false}
use Rattle.std.proofs.lemmas.List.{get_or_past}
use Rattle.std.proofs.lemmas.List.FromFn.{get_or-map-range_with_len}
use lib.Pow.{pow_pos}
use Rattle.paris_names.specs.declared.keys.FlagName.{FlagName}
use Rattle.paris_names.specs.declared.keys.FlagName.TheVariants.{Context, Overflow}
use Rattle.paris_names.specs.declared.keys.Key.{Key}
use Rattle.paris_names.specs.declared.keys.Key.TheVariants.{Field, Flag}
use Rattle.paris_names.specs.Keys.{has_key}
use Rattle.paris_names.proofs.KeyLists.{key_eq-flip}
use Rattle.paris_geometry.specs.Geometry.{processor_count}
use Rattle.paris_model.specs.declared.actions.Operand.{Operand}
use Rattle.paris_model.specs.declared.actions.Conditional.{Conditional}
use Rattle.paris_model.specs.declared.actions.Conditional.TheVariants.{Binary, Unary, MoveConstant, Resize, Compare, MyCoordinate, MyAddress, SetTest, ClearTest, LoadTest, StoreTest}
use Rattle.paris_model.specs.declared.actions.Unconditional.{Unconditional}
use Rattle.paris_model.specs.declared.actions.Unconditional.TheVariants.{MoveAlways, SetContext, ClearContext, InvertContext, LoadContext, AndContext, OrContext, AndContextWithTest, StoreContext}
use Rattle.paris_model.specs.declared.actions.News.{News}
use Rattle.paris_model.specs.declared.actions.Line.{Line}
use Rattle.paris_model.specs.declared.actions.Line.TheVariants.{Scan, CopyScan, Spread, CopySpread, Reduce}
use Rattle.paris_model.specs.declared.actions.Mail.{Mail}
use Rattle.paris_model.specs.declared.actions.Action.{Action}
use Rattle.paris_model.specs.declared.actions.Action.TheVariants.{OnSelected, OnAll, ByNews, AlongLine, ByMail}
use Rattle.paris_model.specs.Store.{bit, put, everywhere, stored}
use Rattle.paris_model.specs.Elementwise.{binary_flags, unary_flags}
use Rattle.paris_model.specs.Conditional.{conditional_after}
use Rattle.paris_model.specs.Unconditional.{unconditional_after, unconditional_value}
use Rattle.paris_model.specs.News.{news_after}
use Rattle.paris_model.specs.Lines.{line_after, line_target, line_sources, line_flags, line_length}
use Rattle.paris_model.specs.Mail.{mail_after, mail_of, delivered, notify_targets, notified, gets_mail}
use Rattle.paris_model.specs.Frame.{Frame, is_selected, World, put_where}
use Rattle.paris_model.specs.Fits.{IsFit, is_bad_length, has_bad_length, conditional_bad_length, unconditional_bad_length, news_bad_length, line_bad_length, mail_bad_length, have_field_widths}
use Rattle.paris_model.specs.Instructions.{Plan, writes, reads, operands, target_keys, flag_keys, width_among, key_width, field_keys, frame_of, after_plan, after_in}
use Rattle.paris_model.specs.Laws.{FitsAt, ReadsFit, UnreadFit}
use Rattle.paris_model.proofs.Stores.{length-everywhere, put_below}
use Rattle.paris_model.proofs.Worlds.{or_false_first, or_false_second, writes_targets}
use Rattle.paris_names.specs.declared.limits.TheConstants.{MAX_WIDTH}

-- each number has W bits at most
abbrev pub HaveBits : ℕ → List ℕ → Type 0
HaveBits W xs = All (λ x. x < 2 ^ W) xs

-- n numbers of W bits
abbrev pub AreNumbers : ℕ → ℕ → List ℕ → Type 0
AreNumbers W n xs = HaveBits W xs × (length xs ≡ n)

pub everywhere_below : (n : ℕ) (f : ℕ → ℕ) (b : ℕ) → ((v : ℕ) → f v < b) → All (λ x. x < b) (everywhere n f)
everywhere_below n f b small k d within =
    let below : k < n = subst (λ (z : ℕ). k < z) (length-everywhere n f) within in
    subst (λ (x : ℕ). x < b) (sym (get_or-map-range_with_len f 0 n k k d below (omega arith))) (small k)

-- a number that isn't there counts as 0
pub index_below : (xs : List ℕ) (b v : ℕ) → 0 < b → All (λ x. x < b) xs → slice_index xs v < b
index_below xs b v some all =
    elim (cases_lt v (length xs)) [
      | inl within ↦ all v 0 within
      | inr beyond ↦ subst (λ (x : ℕ). x < b) (sym (get_or_past xs v 0 beyond)) some
    ]

stored_bits : (n : ℕ) (who : ℕ → Bool) (old new : ℕ → ℕ) (L W : ℕ) → L ≤ W → ((v : ℕ) → old v < 2 ^ W) → HaveBits W (stored n who old L new)
stored_bits n who old new L W within small = everywhere_below n _ (2 ^ W) (λ v. by_test v (who v))
  where
    by_test : (v : ℕ) (b : Bool) → cond b (put (old v) (new v) L) (old v) < 2 ^ W
    by_test v true = put_below (old v) (new v) L W within (small v)
    by_test v false = small v

put_bits : (m : Frame) (who : ℕ → Bool) (k : Key) (new : ℕ → ℕ) (L W : ℕ) → L ≤ W → HaveBits W (m.world k) → AreNumbers W (processor_count m.axes) (put_where m who k L new)
put_bits m who k new L W within before = (
  stored_bits (processor_count m.axes) who (λ v. slice_index (m.world k) v) new L W within (λ v. index_below (m.world k) (2 ^ W) v (pow_pos W) before),
  length-everywhere (processor_count m.axes) _,
)

-- the width of a key in operands
abbrev pub width_in : List Operand → Key → ℕ
width_in os (Field f) = width_among os f
width_in os (Flag s flag) = 1

pub key_width-is : (p : Plan) (k : Key) → key_width p k ≡ width_in (operands p.action) k
unfolding key_width
key_width-is p (Field f) = refl
key_width-is p (Flag s flag) = refl

pub width_first : (D : Operand) (os : List Operand) (f : ℕ) → (f == D.field) ≡ true → width_among (D ∷ os) f ≡ D.width
width_first D os f e = simp (key_eq-flip (Field D.field) (Field f), e)

width_next : (D : Operand) (os : List Operand) (f : ℕ) → (f == D.field) ≡ false → width_among (D ∷ os) f ≡ width_among os f
width_next D os f e = simp (key_eq-flip (Field D.field) (Field f), e)

-- a flag is no field
no_field : (s : ℕ) (flags : List FlagName) (f : ℕ) → has_key (flag_keys s flags) (Field f) ≡ false
no_field s [] f = refl
no_field s (flag ∷ flags) f = no_field s flags f

or_true_first : (a b : Bool) → b ≡ false → (a || b) ≡ true → a ≡ true
or_true_first true b e h = refl
or_true_first false b e h = sym e ∙ h

pub is_target : (D : Operand) (s : ℕ) (flags : List FlagName) (f : ℕ) → has_key (Field D.field ∷ flag_keys s flags) (Field f) ≡ true → (f == D.field) ≡ true
is_target D s flags f h = or_true_first (f == D.field) (has_key (flag_keys s flags) (Field f)) (no_field s flags f) h

length_within : (L : ℕ) (D : Operand) → is_bad_length L D ≡ false → L ≤ D.width
length_within L D h = ltb-false D.width L (or_false_second (L == 0) (nat_lt D.width L) h)

pub some_width : (D : Operand) (os : List Operand) → list_all (λ (o : Operand). nat_lt 0 o.width && nat_le o.width MAX_WIDTH) (D ∷ os) ≡ true → 1 ≤ D.width
some_width D os h = let positive : 0 < D.width = ltb-true 0 D.width (and_parts _ _ (and_parts _ _ h).0).0 in omega arith

target_within : (L : ℕ) (D : Operand) (os : List Operand) (f : ℕ) → L ≤ D.width → (f == D.field) ≡ true → L ≤ width_among (D ∷ os) f
target_within L D os f within e = subst (λ (W : ℕ). L ≤ W) (sym (width_first D os f e)) within

conditional_bits : (m : Frame) (i : Conditional Operand ℕ) (k : Key) → conditional_bad_length i ≡ false → have_field_widths (OnSelected i) ≡ true → has_key (target_keys m.set_no (OnSelected i)) k ≡ true → HaveBits (width_in (operands (OnSelected i)) k) (m.world k) → AreNumbers (width_in (operands (OnSelected i)) k) (processor_count m.axes) (conditional_after m i k)
conditional_bits m i (Flag s flag) lengths widths target before = put_bits m (is_selected m) (Flag s flag) _ 1 1 (omega arith) before
conditional_bits m (Binary op D A B L) (Field f) lengths widths target before = put_bits m (is_selected m) (Field f) _ L _ (target_within L D (A ∷ B ∷ []) f (length_within L D (or_false_first _ _ lengths)) (is_target D m.set_no (binary_flags op) f target)) before
conditional_bits m (Unary op D A L) (Field f) lengths widths target before = put_bits m (is_selected m) (Field f) _ L _ (target_within L D (A ∷ []) f (length_within L D (or_false_first _ _ lengths)) (is_target D m.set_no (unary_flags op) f target)) before
conditional_bits m (MoveConstant D K L) (Field f) lengths widths target before = put_bits m (is_selected m) (Field f) _ L _ (target_within L D [] f (length_within L D lengths) (is_target D m.set_no [] f target)) before
conditional_bits m (Resize sign D A L M) (Field f) lengths widths target before = put_bits m (is_selected m) (Field f) _ L _ (target_within L D (A ∷ []) f (length_within L D (or_false_first _ _ lengths)) (is_target D m.set_no (Overflow ∷ []) f target)) before
conditional_bits m (MyCoordinate D X L) (Field f) lengths widths target before = put_bits m (is_selected m) (Field f) _ L _ (target_within L D [] f (length_within L D lengths) (is_target D m.set_no [] f target)) before
conditional_bits m (MyAddress D L) (Field f) lengths widths target before = put_bits m (is_selected m) (Field f) _ L _ (target_within L D [] f (length_within L D lengths) (is_target D m.set_no [] f target)) before
conditional_bits m (StoreTest F) (Field f) lengths widths target before = put_bits m (is_selected m) (Field f) _ 1 _ (target_within 1 F [] f (some_width F [] widths) (is_target F m.set_no [] f target)) before
conditional_bits m (Compare op A B L) (Field f) lengths widths target before = absurd (let x : false ≡ true = target in cc)
conditional_bits m (SetTest s) (Field f) lengths widths target before = absurd (let x : false ≡ true = target in cc)
conditional_bits m (ClearTest s) (Field f) lengths widths target before = absurd (let x : false ≡ true = target in cc)
conditional_bits m (LoadTest F) (Field f) lengths widths target before = absurd (let x : false ≡ true = target in cc)

-- the context is one bit
context_bits : (m : Frame) (k : Key) (os : List Operand) (new : ℕ → ℕ) → has_key (Flag m.set_no Context ∷ []) k ≡ true → HaveBits (width_in os k) (m.world k) → AreNumbers (width_in os k) (processor_count m.axes) (put_where m (λ v. true) k 1 new)
context_bits m (Field f) os new target before = absurd (let x : false ≡ true = target in cc)
context_bits m (Flag s flag) os new target before = put_bits m (λ v. true) (Flag s flag) new 1 1 (omega arith) before

unconditional_bits : (m : Frame) (i : Unconditional Operand ℕ) (k : Key) → unconditional_bad_length i ≡ false → have_field_widths (OnAll i) ≡ true → has_key (target_keys m.set_no (OnAll i)) k ≡ true → HaveBits (width_in (operands (OnAll i)) k) (m.world k) → AreNumbers (width_in (operands (OnAll i)) k) (processor_count m.axes) (unconditional_after m i k)
unconditional_bits m (MoveAlways D A L) (Field f) lengths widths target before = put_bits m (λ v. true) (Field f) _ L _ (target_within L D (A ∷ []) f (length_within L D (or_false_first _ _ lengths)) (is_target D m.set_no [] f target)) before
unconditional_bits m (StoreContext F) (Field f) lengths widths target before = put_bits m (λ v. true) (Field f) _ 1 _ (target_within 1 F [] f (some_width F [] widths) (is_target F m.set_no [] f target)) before
unconditional_bits m (MoveAlways D A L) (Flag s flag) lengths widths target before = absurd (let x : false ≡ true = target in cc)
unconditional_bits m (StoreContext F) (Flag s flag) lengths widths target before = absurd (let x : false ≡ true = target in cc)
unconditional_bits m (SetContext s) k lengths widths target before = context_bits m k (operands (OnAll (SetContext s))) (unconditional_value m (SetContext s)) target before
unconditional_bits m (ClearContext s) k lengths widths target before = context_bits m k (operands (OnAll (ClearContext s))) (unconditional_value m (ClearContext s)) target before
unconditional_bits m (InvertContext s) k lengths widths target before = context_bits m k (operands (OnAll (InvertContext s))) (unconditional_value m (InvertContext s)) target before
unconditional_bits m (LoadContext F) k lengths widths target before = context_bits m k (operands (OnAll (LoadContext F))) (unconditional_value m (LoadContext F)) target before
unconditional_bits m (AndContext F) k lengths widths target before = context_bits m k (operands (OnAll (AndContext F))) (unconditional_value m (AndContext F)) target before
unconditional_bits m (OrContext F) k lengths widths target before = context_bits m k (operands (OnAll (OrContext F))) (unconditional_value m (OrContext F)) target before
unconditional_bits m (AndContextWithTest s) k lengths widths target before = context_bits m k (operands (OnAll (AndContextWithTest s))) (unconditional_value m (AndContextWithTest s)) target before

news_bits : (m : Frame) (i : News Operand) (k : Key) → news_bad_length i ≡ false → has_key (target_keys m.set_no (ByNews i)) k ≡ true → HaveBits (width_in (operands (ByNews i)) k) (m.world k) → AreNumbers (width_in (operands (ByNews i)) k) (processor_count m.axes) (news_after m i k)
news_bits m (News.Get D A X direction L) (Field f) lengths target before = put_bits m _ (Field f) _ L _ (target_within L D (A ∷ []) f (length_within L D (or_false_first _ _ lengths)) (is_target D m.set_no [] f target)) before
news_bits m (News.Send D A X direction L) (Field f) lengths target before = put_bits m _ (Field f) _ L _ (target_within L D (A ∷ []) f (length_within L D (or_false_first _ _ lengths)) (is_target D m.set_no [] f target)) before
news_bits m (News.Get D A X direction L) (Flag s flag) lengths target before = absurd (let x : false ≡ true = target in cc)
news_bits m (News.Send D A X direction L) (Flag s flag) lengths target before = absurd (let x : false ≡ true = target in cc)

line_within : (i : Line Operand) → line_bad_length i ≡ false → line_length i ≤ (line_target i).width
line_within (Scan op D A X L direction _ G) h = length_within L D (or_false_first _ _ h)
line_within (CopyScan D A X L direction G) h = length_within L D (or_false_first _ _ h)
line_within (Spread op D A X L) h = length_within L D (or_false_first _ _ h)
line_within (CopySpread D A X L C) h = length_within L D (or_false_first _ _ h)
line_within (Reduce op D A X L C) h = length_within L D (or_false_first _ _ h)

line_bits : (m : Frame) (i : Line Operand) (k : Key) → line_bad_length i ≡ false → has_key (target_keys m.set_no (AlongLine i)) k ≡ true → HaveBits (width_in (operands (AlongLine i)) k) (m.world k) → AreNumbers (width_in (operands (AlongLine i)) k) (processor_count m.axes) (line_after m i k)
line_bits m i (Flag s flag) lengths target before = put_bits m _ (Flag s flag) _ 1 1 (omega arith) before
line_bits m i (Field f) lengths target before = put_bits m _ (Field f) _ (line_length i) _ (target_within (line_length i) (line_target i) (line_sources i) f (line_within i lengths) (is_target (line_target i) m.set_no (line_flags i) f target)) before

-- one bit is a number of any width
bit_below : (b : Bool) (W : ℕ) → 1 ≤ W → bit b < 2 ^ W
bit_below true W some = put_below 0 1 1 W some (pow_pos W)
bit_below false W some = pow_pos W

delivered_bits : (m : Frame) (mail : List (ℕ × ℕ)) (D : Operand) (L : ℕ) (value : ℕ → ℕ) (f W : ℕ) → ((f == D.field) ≡ true → L ≤ W) → ((f == D.field) ≡ false → 1 ≤ W) → HaveBits W (m.world (Field f)) → AreNumbers W (processor_count m.axes) (delivered m mail D L value f)
delivered_bits m mail D L value f W to_destination to_notify before = by_test (f == D.field) to_destination to_notify
  where
    by_test : (b : Bool) → (b ≡ true → L ≤ W) → (b ≡ false → 1 ≤ W) → AreNumbers W (processor_count m.axes) (cond b (put_where m (gets_mail mail) (Field f) L value) (notified (processor_count m.axes) mail))
    by_test true within some = put_bits m (gets_mail mail) (Field f) value L W (within refl) before
    by_test false within some = (everywhere_below (processor_count m.axes) _ (2 ^ W) (λ v. bit_below (gets_mail mail v) W (some refl)), length-everywhere (processor_count m.axes) _)

or_rest : (a b : Bool) → a ≡ false → (a || b) ≡ true → b ≡ true
or_rest true b e h = absurd (let x : true ≡ false = e in cc)
or_rest false b e h = h

-- the notify field has a bit, and the destination the length's bits
notify_some : (D : Operand) (N : Option Operand) (os : List Operand) (f : ℕ) → list_all (λ (o : Operand). nat_lt 0 o.width && nat_le o.width MAX_WIDTH) (D ∷ (notify_targets N ++ os)) ≡ true → has_key (field_keys (D ∷ notify_targets N) ++ []) (Field f) ≡ true → (f == D.field) ≡ false → 1 ≤ width_among (D ∷ (notify_targets N ++ os)) f
notify_some D None os f widths target e = absurd (let x : false ≡ true = sym e ∙ or_true_first (f == D.field) false refl target in cc)
notify_some D (Some N) os f widths target e =
    let is : (f == N.field) ≡ true = or_true_first (f == N.field) false refl (or_rest (f == D.field) _ e target) in
    subst (λ (W : ℕ). 1 ≤ W) (sym (width_next D (N ∷ os) f e ∙ width_first N os f is)) (some_width N os (and_parts _ _ widths).1)

no_flag : (os : List Operand) (s : ℕ) (flag : FlagName) → false ≡ has_key (field_keys os ++ []) (Flag s flag)
no_flag [] s flag = refl
no_flag (o ∷ os) s flag = no_flag os s flag

mail_bits : (m : Frame) (i : Mail Operand) (k : Key) → mail_bad_length i ≡ false → have_field_widths (ByMail i) ≡ true → has_key (target_keys m.set_no (ByMail i)) k ≡ true → HaveBits (width_in (operands (ByMail i)) k) (m.world k) → AreNumbers (width_in (operands (ByMail i)) k) (processor_count m.axes) (mail_after m i k)
mail_bits m (Mail.Get D B A L) (Field f) lengths widths target before = put_bits m _ (Field f) _ L _ (target_within L D (B ∷ A ∷ []) f (length_within L D (or_false_first _ _ lengths)) (is_target D m.set_no [] f target)) before
mail_bits m (Mail.Send D B A L N) (Field f) lengths widths target before = delivered_bits m (mail_of m B A L) D L _ f _ (target_within L D (notify_targets N ++ B ∷ A ∷ []) f (length_within L D (or_false_first _ _ lengths))) (notify_some D N (B ∷ A ∷ []) f widths target) before
mail_bits m (Mail.CombiningSend op D B A L N) (Field f) lengths widths target before = delivered_bits m (mail_of m B A L) D L _ f _ (target_within L D (notify_targets N ++ B ∷ A ∷ []) f (length_within L D (or_false_first _ _ lengths))) (notify_some D N (B ∷ A ∷ []) f widths target) before
mail_bits m (Mail.Get D B A L) (Flag s flag) lengths widths target before = absurd (let x : false ≡ true = target in cc)
mail_bits m (Mail.Send D B A L N) (Flag s flag) lengths widths target before = absurd (let x : false ≡ true = no_flag (D ∷ notify_targets N) s flag ∙ target in cc)
mail_bits m (Mail.CombiningSend op D B A L N) (Flag s flag) lengths widths target before = absurd (let x : false ≡ true = no_flag (D ∷ notify_targets N) s flag ∙ target in cc)

action_bits : (m : Frame) (i : Action Operand ℕ) (k : Key) → has_bad_length i ≡ false → have_field_widths i ≡ true → has_key (target_keys m.set_no i) k ≡ true → HaveBits (width_in (operands i) k) (m.world k) → AreNumbers (width_in (operands i) k) (processor_count m.axes) (after_in m i k)
action_bits m (OnSelected i) k lengths widths target before = conditional_bits m i k lengths widths target before
action_bits m (OnAll i) k lengths widths target before = unconditional_bits m i k lengths widths target before
action_bits m (ByNews i) k lengths widths target before = news_bits m i k lengths target before
action_bits m (AlongLine i) k lengths widths target before = line_bits m i k lengths target before
action_bits m (ByMail i) k lengths widths target before = mail_bits m i k lengths widths target before

-- what a fit plan leaves fits
pub after_fits : (p : Plan) (w : World) → IsFit p.axes p.action → ReadsFit p w → UnreadFit p w → (k : Key) → has_key (writes p) k ≡ true → FitsAt p (after_plan p w) k × (length (after_plan p w k) ≡ processor_count p.axes)
after_fits p w fit at_reads unread k t =
    let same : key_width p k ≡ width_in (operands p.action) k = key_width-is p k in
    let stood : HaveBits (width_in (operands p.action) k) (w k) = subst (λ W. HaveBits W (w k)) same (by_read (has_key (reads p) k) refl) in
    let leaves : AreNumbers (width_in (operands p.action) k) (processor_count p.axes) (after_plan p w k) = action_bits (frame_of p w) p.action k fit.lengths fit.widths (sym (writes_targets p k) ∙ t) stood in
    (subst (λ W. HaveBits W (after_plan p w k)) (sym same) leaves.0, leaves.1)
  where
    by_read : (b : Bool) → has_key (reads p) k ≡ b → FitsAt p w k
    by_read true e = at_reads k e
    by_read false e = unread k t e
