-- What a move to or from the neighbours reads and leaves.
use Rattle.std.proofs.Common.{◌≡◌, ℕ, ◌<◌, ◌≤◌, ◌==◌, Bool, false, true, List, [], ◌∷◌, length, map, slice_index_or, sym, ap, ◌∙◌, subst, arith}
use Rattle.std.specs.Prelude.{◌||◌, nat_le}
use Rattle.std.proofs.lemmas.Bool.Decides.{nat_tests}
use Rattle.paris_names.specs.declared.keys.FlagName.TheVariants.{Context}
use Rattle.paris_names.specs.declared.keys.Key.TheVariants.{Field, Flag}
use Rattle.paris_names.specs.Keys.{has_key, key_eq, in_order}
use Rattle.paris_geometry.specs.declared.direction.Direction.{Direction}
use Rattle.paris_geometry.specs.Geometry.{neighbour, processor_count}
use Rattle.paris_model.specs.declared.actions.Operand.{Operand}
use Rattle.paris_model.specs.declared.actions.News.{News}
use Rattle.paris_model.specs.declared.actions.News.TheVariants.{Get, Send}
use Rattle.paris_model.specs.declared.actions.Action.TheVariants.{ByNews}
use Rattle.paris_model.specs.Fits.{IsFit, is_bad_length, has_bad_axis, has_bad_length, news_axis}
use Rattle.paris_model.specs.Frame.{is_selected, low_at}
use Rattle.paris_model.specs.Instructions.{reads, writes, key_width, after_plan, after_in, target_keys, source_keys, stores_all_bits, operands, width_among}
use Rattle.paris_model.specs.News.{news_target, news_source, news_sender, news_after}
use Rattle.paris_model.specs.Store.{low, bit}
use Rattle.paris_model.proofs.Widths.{key_width-is}
use Rattle.paris_model.proofs.Worlds.{or_false_first, or_false_second, or_true_second, reads_sources, reads_targets}
use Rattle.paris_field.specs.Fields.{FieldNumbers, operand}
use Rattle.paris_field.proofs.Places.{get_or-bits_everywhere}
use Rattle.paris_news.specs.News.{moved_field, sent_field, sent_plane}
use Rattle.paris_exec.specs.Planes.{AreRead}
use Rattle.paris_exec.specs.Tasks.{Task, field_of, fields_of, frame_at, seen_at, left_values, put_value, put_value_where}
use Rattle.paris_exec.proofs.Left.{first_key, operand_is, put_numbers, put_numbers_where}
use Rattle.paris_exec.proofs.Operands.{among, good_length, has_field, same_field}
use Rattle.paris_exec.proofs.Puts.{mask_selects}

module _ (t : Task) (i : News Operand) (acts : t.plan.action ≡ ByNews i) where
  pub source_read : has_key (reads t.plan) (Field (news_source i).field) ≡ true
  source_read =
      reads_sources t.plan (Field (news_source i).field)
      (ap (λ a. has_key (source_keys t.plan.set_no a) (Field (news_source i).field)) acts ∙ first_key (Field (news_source i).field) (Flag t.plan.set_no Context ∷ []))

  pub context_read : has_key (reads t.plan) (Flag t.plan.set_no Context) ≡ true
  context_read =
      reads_sources t.plan (Flag t.plan.set_no Context)
      (ap (λ a. has_key (source_keys t.plan.set_no a) (Flag t.plan.set_no Context)) acts
      ∙ or_true_second (key_eq (Flag t.plan.set_no Context) (Field (news_source i).field)) (has_key (Flag t.plan.set_no Context ∷ []) (Flag t.plan.set_no Context)) (first_key (Flag t.plan.set_no Context) []))

  pub target_read : has_key (reads t.plan) (Field (news_target i).field) ≡ true
  target_read =
      reads_targets t.plan (Field (news_target i).field) (ap stores_all_bits acts)
      (ap (λ a. has_key (target_keys t.plan.set_no a) (Field (news_target i).field)) acts ∙ first_key (Field (news_target i).field) [])

  pub both_read : AreRead t (Field (news_target i).field ∷ Flag t.plan.set_no Context ∷ [])
  both_read = (target_read, (context_read, tt))

  writes_target : writes t.plan ≡ Field (news_target i).field ∷ []
  unfolding writes
  writes_target = ap (λ a. in_order (target_keys t.plan.set_no a)) acts

  -- what is left is the one value of the destination
  pub news_left : (x : FieldNumbers) → x ≡ field_of t.plan (Field (news_target i).field) (news_after (frame_at t) i (Field (news_target i).field)) → x ∷ [] ≡ left_values t
  news_left x is =
      ap (λ y. y ∷ []) (is ∙ ap (λ a. field_of t.plan (Field (news_target i).field) (after_in (frame_at t) a (Field (news_target i).field))) (sym acts))
      ∙ sym (ap (λ js. fields_of t.plan js (map (after_plan t.plan (seen_at t)) js)) writes_target)

  module _ (fit : IsFit t.plan.axes t.plan.action) where
    pub axis_there : news_axis i < length t.plan.axes
    axis_there = (let bad : nat_le (length t.plan.axes) (news_axis i) ≡ false = sym (ap (has_bad_axis t.plan.axes) acts) ∙ fit.axis in grind (arith, nat_tests))

    module _ (L : ℕ) (lengths : has_bad_length (ByNews i) ≡ (is_bad_length L (news_target i) || is_bad_length L (news_source i))) where
      bad : (is_bad_length L (news_target i) || is_bad_length L (news_source i)) ≡ false
      bad = sym lengths ∙ sym (ap has_bad_length acts) ∙ fit.lengths

      wide_among : (f : ℕ) → has_field (news_target i ∷ news_source i ∷ []) f ≡ true → L ≤ key_width t.plan (Field f)
      wide_among f there =
          let to = (good_length L (news_target i) (or_false_first (is_bad_length L (news_target i)) (is_bad_length L (news_source i)) bad)).1 in
          let from = (good_length L (news_source i) (or_false_second (is_bad_length L (news_target i)) (is_bad_length L (news_source i)) bad)).1 in
          subst (λ n. L ≤ n) (sym (key_width-is t.plan (Field f) ∙ ap (λ a. width_among (operands a) f) acts)) (among (news_target i ∷ news_source i ∷ []) f L (to, (from, tt)) there)

      pub target_wide : L ≤ key_width t.plan (Field (news_target i).field)
      target_wide = wide_among (news_target i).field (same_field (news_target i) (has_field (news_source i ∷ []) (news_target i).field))

      pub source_wide : L ≤ key_width t.plan (Field (news_source i).field)
      source_wide =
          wide_among (news_source i).field
          (or_true_second ((news_target i).field == (news_source i).field) (has_field (news_source i ∷ []) (news_source i).field) (same_field (news_source i) false))

module _ (t : Task) (D A : Operand) (X : ℕ) (direction : Direction) (L : ℕ) (x : FieldNumbers) (x_is : x ≡ field_of t.plan (Field A.field) (seen_at t (Field A.field))) where
  -- a selected processor stores what its neighbour holds
  pub get_left : t.plan.action ≡ ByNews (Get D A X direction L) → (value : FieldNumbers) → value ≡ moved_field t.plan.axes X direction L x → put_value t (Field D.field) value ∷ [] ≡ left_values t
  get_left acts value is =
      news_left t (Get D A X direction L) acts (put_value t (Field D.field) value)
      (put_numbers t (Field D.field) value L (λ v. operand L x (neighbour t.plan.axes X direction v)) (λ v. low_at (frame_at t) A L (neighbour t.plan.axes X direction v)) is
      (λ v below. ap (low L) (operand_is t A x L (neighbour t.plan.axes X direction v) x_is)))

  -- a processor stores what a selected one sends it
  pub send_left : t.plan.action ≡ ByNews (Send D A X direction L) → (value : FieldNumbers) (mask receivers : List Bool) → value ≡ sent_field t.plan.axes X direction L x
      → map bit mask ≡ seen_at t (Flag t.plan.set_no Context) → receivers ≡ sent_plane t.plan.axes X direction mask
      → put_value_where t (λ r. slice_index_or receivers r false) (Field D.field) value ∷ [] ≡ left_values t
  send_left acts value mask receivers is mask_is receivers_are =
      news_left t (Send D A X direction L) acts (put_value_where t (λ r. slice_index_or receivers r false) (Field D.field) value)
      (put_numbers_where t (λ r. slice_index_or receivers r false) (λ r. is_selected (frame_at t) (news_sender t.plan.axes X direction r)) (Field D.field) value L
      (λ r. operand L x (news_sender t.plan.axes X direction r)) (λ r. low_at (frame_at t) A L (news_sender t.plan.axes X direction r)) is
      (λ r below.
      ap (λ bs. slice_index_or bs r false) receivers_are
      ∙ get_or-bits_everywhere (processor_count t.plan.axes) (λ q. slice_index_or mask (news_sender t.plan.axes X direction q) false) r below
      ∙ ap (λ (who : ℕ → Bool). who (news_sender t.plan.axes X direction r)) (mask_selects t mask mask_is))
      (λ r below. ap (low L) (operand_is t A x L (news_sender t.plan.axes X direction r) x_is)))
