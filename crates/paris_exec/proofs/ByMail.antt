-- What an instruction by mail reads and leaves, and when it is refused.
use Rattle.std.proofs.Common.{◌≡◌, ℕ, ◌<◌, ◌≤◌, ◌==◌, Bool, false, true, cond, List, [], ◌∷◌, ◌++◌, length, map, slice_index, Option, Some, None, refl, sym, ap, ◌∙◌, subst, arith}
use Rattle.std.specs.Prelude.{◌||◌, nat_lt, if◌then◌else◌}
use Rattle.std.proofs.lemmas.Bool.{eq-eqb, ltb-false}
use Rattle.std.proofs.lemmas.List.{append-nil}
use Rattle.paris_names.specs.declared.keys.FlagName.TheVariants.{Context}
use Rattle.paris_names.specs.declared.keys.Key.{Key}
use Rattle.paris_names.specs.declared.keys.Key.TheVariants.{Field, Flag}
use Rattle.paris_names.specs.Keys.{has_key, key_eq, in_order}
use Rattle.paris_names.proofs.KeyLists.{key_eq-flip}
use Rattle.paris_geometry.specs.Geometry.{processor_count}
use Rattle.paris_model.specs.declared.operators.Combiner.{Combiner}
use Rattle.paris_model.specs.declared.actions.Operand.{Operand}
use Rattle.paris_model.specs.declared.actions.Mail.{Mail}
use Rattle.paris_model.specs.declared.actions.Mail.TheVariants.{Get, Send, CombiningSend}
use Rattle.paris_model.specs.declared.actions.Action.TheVariants.{ByMail}
use Rattle.paris_model.specs.Combine.{combined}
use Rattle.paris_model.specs.Fits.{IsFit, is_bad_length, is_wide, is_wide_if_given, is_overlap, has_bad_length, has_bad_operand, has_overlap, have_field_widths, mail_bad_length, mail_notify, mail_target}
use Rattle.paris_model.specs.Frame.{at, field_at, is_selected, low_at, put_where}
use Rattle.paris_model.specs.Instructions.{reads, writes, key_width, after_plan, after_in, refusal, refusal_in, target_keys, source_keys, flag_keys, field_keys, stores_all_bits, operands, width_among}
use Rattle.paris_model.specs.Mail.{arrivals, bad_sender, collision_at, delivered, first_cause, gets_mail, mail_after, mail_of, mail_refusal, mail_sources, mail_targets, messages, notified, notify_targets}
use Rattle.paris_model.specs.Store.{low, put, bit, everywhere}
use Rattle.paris_model.proofs.Stores.{everywhere-at, everywhere-same}
use Rattle.paris_model.proofs.Widths.{key_width-is, width_first}
use Rattle.paris_model.proofs.Worlds.{has_key-append, or_false_first, or_true_second, reads_sources, reads_targets}
use Rattle.paris_field.specs.Fields.{FieldNumbers, operand}
use Rattle.paris_field.proofs.Places.{get_or-bits_everywhere}
use Rattle.paris_field.specs.Numbers.{has}
use Rattle.paris_router.specs.declared.sends.Delivery.{Delivery}
use Rattle.paris_router.specs.Mail.{bad_sender_of, delivered_field, fetched_field, mail_in, receivers_of}
use Rattle.paris_combine.specs.Combined.{combined_mail}
use Rattle.paris_exec.specs.Combined.{by_field, delivered_values, mail_source}
use Rattle.paris_exec.specs.Planes.{AreRead, flag_value}
use Rattle.paris_exec.specs.Tasks.{Task, field_of, fields_of, frame_at, seen_at, left_values, put_value, put_value_where}
use Rattle.paris_exec.proofs.AlongLines.{all_some}
use Rattle.paris_exec.proofs.Left.{first_key, flag_numbers, put_numbers_where}
use Rattle.paris_exec.proofs.Operands.{AllWide, good_length, narrow_length}
use Rattle.paris_exec.proofs.Puts.{mask_selects}

-- what is read

module _ (t : Task) (i : Mail Operand) (acts : t.plan.action ≡ ByMail i) where
  source_key_read : (k : Key) → has_key (source_keys t.plan.set_no (ByMail i)) k ≡ true → has_key (reads t.plan) k ≡ true
  source_key_read k h = reads_sources t.plan k (ap (λ a. has_key (source_keys t.plan.set_no a) k) acts ∙ h)

  source_among : (f : ℕ) → has_key (field_keys (mail_sources i)) (Field f) ≡ true → has_key (reads t.plan) (Field f) ≡ true
  source_among f h =
      source_key_read (Field f)
      (has_key-append (field_keys (mail_sources i)) (flag_keys t.plan.set_no (Context ∷ [])) (Field f)
      ∙ ap (λ b. b || has_key (flag_keys t.plan.set_no (Context ∷ [])) (Field f)) h)

  pub mail_context_read : has_key (reads t.plan) (Flag t.plan.set_no Context) ≡ true
  mail_context_read =
      source_key_read (Flag t.plan.set_no Context)
      (has_key-append (field_keys (mail_sources i)) (flag_keys t.plan.set_no (Context ∷ [])) (Flag t.plan.set_no Context)
      ∙ or_true_second _ _ (first_key (Flag t.plan.set_no Context) []))

  module _ (B A : Operand) (sources : mail_sources i ≡ B ∷ A ∷ []) where
    pub mail_addresses_read : has_key (reads t.plan) (Field B.field) ≡ true
    mail_addresses_read = source_among B.field (ap (λ os. has_key (field_keys os) (Field B.field)) sources ∙ first_key (Field B.field) (Field A.field ∷ []))

    mail_source_read : has_key (reads t.plan) (Field A.field) ≡ true
    mail_source_read =
        source_among A.field
        (ap (λ os. has_key (field_keys os) (Field A.field)) sources
        ∙ or_true_second (key_eq (Field A.field) (Field B.field)) (has_key (Field A.field ∷ []) (Field A.field)) (first_key (Field A.field) []))

  module _ (D : Operand) (N : Option Operand) (targets : mail_targets i ≡ D ∷ notify_targets N) where
    pub mail_target_read : has_key (reads t.plan) (Field D.field) ≡ true
    mail_target_read =
        reads_targets t.plan (Field D.field) (ap stores_all_bits acts)
        (ap (λ a. has_key (target_keys t.plan.set_no a) (Field D.field)) acts
        ∙ ap (λ os. has_key (field_keys os ++ []) (Field D.field)) targets
        ∙ first_key (Field D.field) (field_keys (notify_targets N) ++ []))

    pub mail_both_read : AreRead t (Field D.field ∷ Flag t.plan.set_no Context ∷ [])
    mail_both_read = (mail_target_read, (mail_context_read, tt))

    module _ (fit : IsFit t.plan.axes t.plan.action) where
      key_is : (f : ℕ) → key_width t.plan (Field f) ≡ width_among (D ∷ (notify_targets N ++ mail_sources i)) f
      key_is f = key_width-is t.plan (Field f) ∙ ap (λ a. width_among (operands a) f) acts ∙ ap (λ os. width_among (os ++ mail_sources i) f) targets

      module _ (L : ℕ) (A : Operand) (lengths : mail_bad_length i ≡ (is_bad_length L D || is_bad_length L A)) where
        target_good : (0 < L) × (L ≤ D.width)
        target_good = good_length L D (or_false_first (is_bad_length L D) (is_bad_length L A) (sym lengths ∙ sym (ap has_bad_length acts) ∙ fit.lengths))

        pub mail_target_wide : L ≤ key_width t.plan (Field D.field)
        mail_target_wide = subst (λ n. L ≤ n) (sym (key_is D.field ∙ width_first D (notify_targets N ++ mail_sources i) D.field (eq-eqb D.field D.field refl))) target_good.1

        pub mail_narrow : L ≤ 128
        mail_narrow = narrow_length t D.field L fit mail_target_wide

      -- the notify field is one bit wide
      pub mail_notify_wide : (S : Operand) → N ≡ Some S → mail_notify i ≡ N → (S.field == D.field) ≡ false → key_width t.plan (Field S.field) ≡ 1
      mail_notify_wide S given noted apart =
          let narrow : is_wide S ≡ false = sym (ap is_wide_if_given (noted ∙ given)) ∙ sym (ap (has_bad_operand t.plan.axes) acts) ∙ fit.operands in
          let all : AllWide 1 (operands (ByMail i)) = all_some (operands (ByMail i)) (sym (ap have_field_widths acts) ∙ fit.widths) in
          let some : 1 ≤ S.width = (subst (λ os. AllWide 1 (os ++ mail_sources i)) (targets ∙ ap (λ o. D ∷ notify_targets o) given) all).1.0 in
          let most : S.width ≤ 1 = ltb-false 1 S.width narrow in
          key_is S.field
          ∙ ap (λ o. width_among (D ∷ (notify_targets o ++ mail_sources i)) S.field) given
          ∙ ap (λ b. cond b D.width (width_among (S ∷ mail_sources i) S.field)) (key_eq-flip (Field D.field) (Field S.field) ∙ apart)
          ∙ width_first S (mail_sources i) S.field (eq-eqb S.field S.field refl)
          ∙ (let one : S.width ≡ 1 = omega (arith, some, most) in one)

pub mail_from_read : (t : Task) (i : Mail Operand) → t.plan.action ≡ ByMail i → has_key (reads t.plan) (Field (mail_source i).field) ≡ true
mail_from_read t (Get D B A L) acts = mail_source_read t (Get D B A L) acts B A refl
mail_from_read t (Send D B A L N) acts = mail_source_read t (Send D B A L N) acts B A refl
mail_from_read t (CombiningSend op D B A L N) acts = mail_source_read t (CombiningSend op D B A L N) acts B A refl

-- what is delivered to the destination is stored there
delivered_to : (t : Task) (mail : List (ℕ × ℕ)) (D : Operand) (L : ℕ) (value : ℕ → ℕ) → delivered (frame_at t) mail D L value D.field ≡ put_where (frame_at t) (gets_mail mail) (Field D.field) L value
delivered_to t mail D L value = ap (λ b. if b then put_where (frame_at t) (gets_mail mail) (Field D.field) L value else notified (processor_count t.plan.axes) mail) (eq-eqb D.field D.field refl)

-- two fields are written in the order of their numbers
in_order_pair : (d s : ℕ) → (s == d) ≡ false → in_order (Field d ∷ Field s ∷ []) ≡ (if nat_lt s d then Field s ∷ Field d ∷ [] else Field d ∷ Field s ∷ [])
in_order_pair d s apart = ap (λ b. if b then Field d ∷ [] else (if nat_lt s d then Field s ∷ Field d ∷ [] else Field d ∷ Field s ∷ [])) apart

-- what is left

module _ (t : Task) (i : Mail Operand) (acts : t.plan.action ≡ ByMail i) where
  pub mail_refused : refusal t.plan (seen_at t) ≡ mail_refusal (frame_at t) i
  mail_refused = ap (refusal_in (frame_at t)) acts

  written : writes t.plan ≡ in_order (field_keys (mail_targets i))
  unfolding writes
  written = ap (λ a. in_order (target_keys t.plan.set_no a)) acts ∙ ap in_order (append-nil (field_keys (mail_targets i)))

  left_of : (ks : List Key) → writes t.plan ≡ ks → left_values t ≡ fields_of t.plan ks (map (after_plan t.plan (seen_at t)) ks)
  left_of ks e = ap (λ js. fields_of t.plan js (map (after_plan t.plan (seen_at t)) js)) e

  left_at_key : (k : Key) → field_of t.plan k (mail_after (frame_at t) i k) ≡ field_of t.plan k (after_plan t.plan (seen_at t) k)
  left_at_key k = ap (λ a. field_of t.plan k (after_in (frame_at t) a k)) (sym acts)

  -- the value of the destination alone
  mail_left_one : (D : Operand) (x : FieldNumbers) → mail_targets i ≡ D ∷ [] → x ≡ field_of t.plan (Field D.field) (mail_after (frame_at t) i (Field D.field)) → x ∷ [] ≡ left_values t
  mail_left_one D x targets is =
      ap (λ y. y ∷ []) (is ∙ left_at_key (Field D.field))
      ∙ sym (left_of (Field D.field ∷ []) (written ∙ ap (λ os. in_order (field_keys os)) targets))

  mail_left_two : (D S : Operand) (x y : FieldNumbers) → (S.field == D.field) ≡ false → mail_targets i ≡ D ∷ S ∷ [] → x ≡ field_of t.plan (Field D.field) (mail_after (frame_at t) i (Field D.field))
      → y ≡ field_of t.plan (Field S.field) (mail_after (frame_at t) i (Field S.field)) → by_field D.field x S.field y ≡ left_values t
  mail_left_two D S x y apart targets x_is y_is =
      ap (λ z. by_field D.field z S.field y) (x_is ∙ left_at_key (Field D.field))
      ∙ ap (λ z. by_field D.field (field_of t.plan (Field D.field) (after_plan t.plan (seen_at t) (Field D.field))) S.field z) (y_is ∙ left_at_key (Field S.field))
      ∙ by_test (nat_lt S.field D.field)
      ∙ sym (left_of (cond (nat_lt S.field D.field) (Field S.field ∷ Field D.field ∷ []) (Field D.field ∷ Field S.field ∷ [])) (written ∙ ap (λ os. in_order (field_keys os)) targets ∙ in_order_pair D.field S.field apart))
    where
      by_test : (b : Bool) → cond b (field_of t.plan (Field S.field) (after_plan t.plan (seen_at t) (Field S.field)) ∷ field_of t.plan (Field D.field) (after_plan t.plan (seen_at t) (Field D.field)) ∷ []) (field_of t.plan (Field D.field) (after_plan t.plan (seen_at t) (Field D.field)) ∷ field_of t.plan (Field S.field) (after_plan t.plan (seen_at t) (Field S.field)) ∷ [])
          ≡ fields_of t.plan (cond b (Field S.field ∷ Field D.field ∷ []) (Field D.field ∷ Field S.field ∷ [])) (map (after_plan t.plan (seen_at t)) (cond b (Field S.field ∷ Field D.field ∷ []) (Field D.field ∷ Field S.field ∷ [])))
      by_test true = refl
      by_test false = refl

  -- a delivery to the destination, and to the notify field where there is one
  delivery_left : (fit : IsFit t.plan.axes t.plan.action) (D : Operand) (N : Option Operand) (L : ℕ) (value : ℕ → ℕ) (mail : List (ℕ × ℕ)) → mail_targets i ≡ D ∷ notify_targets N → mail_notify i ≡ N → mail_target i ≡ D
      → ((f : ℕ) → mail_after (frame_at t) i (Field f) ≡ delivered (frame_at t) mail D L value f) → (new : Delivery) → new.value ≡ record { width = L; numbers = everywhere (processor_count t.plan.axes) value }
      → new.receivers ≡ receivers_of (processor_count t.plan.axes) mail → delivered_values t D.field N new ≡ left_values t
  delivery_left fit D N L value mail targets noted aimed after new value_is receivers_are = by_given N refl
    where
      destination : put_value_where t (has new.receivers) (Field D.field) new.value ≡ field_of t.plan (Field D.field) (mail_after (frame_at t) i (Field D.field))
      destination =
          put_numbers_where t (has new.receivers) (gets_mail mail) (Field D.field) new.value L value value value_is
          (λ v below. ap (λ p. has p v) receivers_are ∙ get_or-bits_everywhere (processor_count t.plan.axes) (gets_mail mail) v below) (λ v below. refl)
          ∙ ap (field_of t.plan (Field D.field)) (sym (after D.field ∙ delivered_to t mail D L value))

      notice : (S : Operand) → N ≡ Some S → (S.field == D.field) ≡ false → flag_value new.receivers ≡ field_of t.plan (Field S.field) (mail_after (frame_at t) i (Field S.field))
      notice S given apart =
          flag_numbers new.receivers (processor_count t.plan.axes) (gets_mail mail) receivers_are
          ∙ ap (λ w. record { width = w; numbers = notified (processor_count t.plan.axes) mail }) (sym (mail_notify_wide t i acts D N targets fit S given noted apart))
          ∙ ap (λ b. field_of t.plan (Field S.field) (if b then put_where (frame_at t) (gets_mail mail) (Field S.field) L value else notified (processor_count t.plan.axes) mail)) (sym apart)
          ∙ ap (field_of t.plan (Field S.field)) (sym (after S.field))

      distinct : (S : Operand) → N ≡ Some S → (S.field == D.field) ≡ false
      distinct S given =
          sym (ap (is_overlap D) (noted ∙ given))
          ∙ ap (λ d. is_overlap d (mail_notify i)) (sym aimed)
          ∙ sym (ap has_overlap acts) ∙ fit.overlap

      by_given : (o : Option Operand) → N ≡ o → delivered_values t D.field N new ≡ left_values t
      by_given None e = ap (λ o. delivered_values t D.field o new) e ∙ mail_left_one D (put_value_where t (has new.receivers) (Field D.field) new.value) (targets ∙ ap (λ o. D ∷ notify_targets o) e) destination
      by_given (Some S) e =
          ap (λ o. delivered_values t D.field o new) e
          ∙ mail_left_two D S (put_value_where t (has new.receivers) (Field D.field) new.value) (flag_value new.receivers) (distinct S e) (targets ∙ ap (λ o. D ∷ notify_targets o) e) destination (notice S e (distinct S e))

-- what the kernels see is what the definitions see
module _ (t : Task) (B A : Operand) (L : ℕ) (places x : FieldNumbers) (mask : List Bool) (mask_is : map bit mask ≡ seen_at t (Flag t.plan.set_no Context)) (places_are : places ≡ field_of t.plan (Field B.field) (seen_at t (Field B.field)))
    (count : length places.numbers ≡ processor_count t.plan.axes) (x_is : x.numbers ≡ seen_at t (Field A.field)) (long : length x.numbers ≡ processor_count t.plan.axes) where
  addresses_seen : slice_index places.numbers ≡ field_at (frame_at t) B
  addresses_seen = ap {B = ℕ → ℕ} (λ (y : FieldNumbers). slice_index y.numbers) places_are

  source_seen : operand L x ≡ low_at (frame_at t) A L
  source_seen = ap {B = ℕ → ℕ} (λ (xs : List ℕ) v. low L (slice_index xs v)) x_is

  -- the same senders are bad
  pub bad_seen : bad_sender_of places mask ≡ bad_sender (processor_count t.plan.axes) (is_selected (frame_at t)) (field_at (frame_at t) B)
  bad_seen =
      ap (λ m. bad_sender m (has mask) (slice_index places.numbers)) count
      ∙ ap {B = Option ℕ} (λ (s : ℕ → Bool). bad_sender (processor_count t.plan.axes) s (slice_index places.numbers)) (mask_selects t mask mask_is)
      ∙ ap {B = Option ℕ} (λ (f : ℕ → ℕ). bad_sender (processor_count t.plan.axes) (is_selected (frame_at t)) f) addresses_seen

  -- and the same messages are sent
  pub mail_seen : mail_in L places x mask ≡ mail_of (frame_at t) B A L
  mail_seen =
      ap (λ m. messages m (has mask) (slice_index places.numbers) (operand L x)) long
      ∙ ap {B = List (ℕ × ℕ)} (λ (s : ℕ → Bool). messages (processor_count t.plan.axes) s (slice_index places.numbers) (operand L x)) (mask_selects t mask mask_is)
      ∙ ap {B = List (ℕ × ℕ)} (λ (f : ℕ → ℕ). messages (processor_count t.plan.axes) (is_selected (frame_at t)) f (operand L x)) addresses_seen
      ∙ ap {B = List (ℕ × ℕ)} (λ (g : ℕ → ℕ). messages (processor_count t.plan.axes) (is_selected (frame_at t)) (field_at (frame_at t) B) g) source_seen

  module _ (D : Operand) where
    -- a bad address
    pub get_refused : t.plan.action ≡ ByMail (Get D B A L) → first_cause (bad_sender_of places mask) None ≡ refusal t.plan (seen_at t)
    get_refused acts = ap (λ o. first_cause o None) bad_seen ∙ sym (mail_refused t (Get D B A L) acts)

    pub combining_refused : (op : Combiner) (N : Option Operand) → t.plan.action ≡ ByMail (CombiningSend op D B A L N) → first_cause (bad_sender_of places mask) None ≡ refusal t.plan (seen_at t)
    combining_refused op N acts = ap (λ o. first_cause o None) bad_seen ∙ sym (mail_refused t (CombiningSend op D B A L N) acts)

    -- a bad address or a collision
    pub send_refused : (N : Option Operand) → t.plan.action ≡ ByMail (Send D B A L N) → first_cause (bad_sender_of places mask) (collision_at (length x.numbers) (mail_in L places x mask)) ≡ refusal t.plan (seen_at t)
    send_refused N acts =
        ap (λ o. first_cause o (collision_at (length x.numbers) (mail_in L places x mask))) bad_seen
        ∙ ap (λ m. first_cause (bad_sender (processor_count t.plan.axes) (is_selected (frame_at t)) (field_at (frame_at t) B)) (collision_at m (mail_in L places x mask))) long
        ∙ ap (λ mail. first_cause (bad_sender (processor_count t.plan.axes) (is_selected (frame_at t)) (field_at (frame_at t) B)) (collision_at (processor_count t.plan.axes) mail)) mail_seen
        ∙ sym (mail_refused t (Send D B A L N) acts)

    -- a selected processor stores what it has fetched
    pub get_left : t.plan.action ≡ ByMail (Get D B A L) → (value : FieldNumbers) → value ≡ fetched_field L places x mask → put_value t (Field D.field) value ∷ [] ≡ left_values t
    get_left acts value is =
        mail_left_one t (Get D B A L) acts D (put_value t (Field D.field) value) refl
        (ap (put_value t (Field D.field)) (is ∙ ap (λ m. record { width = L; numbers = everywhere m fetched }) long)
        ∙ ap (field_of t.plan (Field D.field)) (everywhere-same (processor_count t.plan.axes) _ _ (λ v below.
        ap (λ y. if is_selected (frame_at t) v then put (at (frame_at t) (Field D.field) v) y L else at (frame_at t) (Field D.field) v)
        (everywhere-at (processor_count t.plan.axes) fetched v below ∙ ap {B = ℕ} (λ (s : ℕ → Bool). if s v then operand L x (slice_index places.numbers v) else 0) (mask_selects t mask mask_is))
        ∙ chosen (is_selected (frame_at t) v) (at (frame_at t) (Field D.field) v) (operand L x (slice_index places.numbers v))
        ∙ ap {B = ℕ} (λ (g : ℕ → ℕ). if is_selected (frame_at t) v then put (at (frame_at t) (Field D.field) v) (g (slice_index places.numbers v)) L else at (frame_at t) (Field D.field) v) source_seen
        ∙ ap {B = ℕ} (λ (f : ℕ → ℕ). if is_selected (frame_at t) v then put (at (frame_at t) (Field D.field) v) (low_at (frame_at t) A L (f v)) L else at (frame_at t) (Field D.field) v) addresses_seen)))
      where
        fetched : ℕ → ℕ
        fetched v = if has mask v then operand L x (slice_index places.numbers v) else 0

        chosen : (b : Bool) (old y : ℕ) → (if b then put old (if b then y else 0) L else old) ≡ (if b then put old y L else old)
        chosen true old y = refl
        chosen false old y = refl

    module _ (fit : IsFit t.plan.axes t.plan.action) (N : Option Operand) (new : Delivery) (receivers_are : new.receivers ≡ receivers_of (length x.numbers) (mail_in L places x mask)) where
      receivers_seen : new.receivers ≡ receivers_of (processor_count t.plan.axes) (mail_of (frame_at t) B A L)
      receivers_seen = receivers_are ∙ ap (λ m. receivers_of m (mail_in L places x mask)) long ∙ ap (receivers_of (processor_count t.plan.axes)) mail_seen

      -- a receiver stores the message
      pub send_left : t.plan.action ≡ ByMail (Send D B A L N) → new.value ≡ delivered_field L (length x.numbers) (mail_in L places x mask) → delivered_values t D.field N new ≡ left_values t
      send_left acts is =
          delivery_left t (Send D B A L N) acts fit D N L (λ r. slice_index (arrivals (mail_of (frame_at t) B A L) r) 0) (mail_of (frame_at t) B A L) refl refl refl (λ f. refl) new
          (is ∙ ap (λ m. delivered_field L m (mail_in L places x mask)) long ∙ ap (delivered_field L (processor_count t.plan.axes)) mail_seen) receivers_seen

      -- a receiver stores what it holds, combined with its messages
      pub combining_left : (op : Combiner) (old : FieldNumbers) → t.plan.action ≡ ByMail (CombiningSend op D B A L N) → old ≡ field_of t.plan (Field D.field) (seen_at t (Field D.field)) → length old.numbers ≡ processor_count t.plan.axes
          → new.value ≡ combined_mail op L old (mail_in L places x mask) → delivered_values t D.field N new ≡ left_values t
      combining_left op old acts old_is old_long is =
          delivery_left t (CombiningSend op D B A L N) acts fit D N L (λ r. combined op L (low_at (frame_at t) D L r) (arrivals (mail_of (frame_at t) B A L) r)) (mail_of (frame_at t) B A L) refl refl refl (λ f. refl) new
          (is
          ∙ ap (λ m. record { width = L; numbers = everywhere m (λ r. combined op L (operand L old r) (arrivals (mail_in L places x mask) r)) }) old_long
          ∙ ap (λ mail. record { width = L; numbers = everywhere (processor_count t.plan.axes) (λ r. combined op L (operand L old r) (arrivals mail r)) }) mail_seen
          ∙ ap {B = FieldNumbers} (λ (y : FieldNumbers). record { width = L; numbers = everywhere (processor_count t.plan.axes) (λ r. combined op L (operand L y r) (arrivals (mail_of (frame_at t) B A L) r)) }) old_is)
          receivers_seen
