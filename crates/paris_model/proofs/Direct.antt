-- What a plan does hangs on what it reads alone, so the world after it is what its instruction gives there.
use Rattle.std.proofs.Common.{length, ◌≡◌, ℕ, ◌≤◌, Bool, true, false, cond, List, [], ◌∷◌, Some, None, refl, sym, ap, ◌∙◌, subst, arith, map}
use Rattle.std.specs.Prelude.{◌||◌}
use Rattle.std.proofs.lemmas.Bool.{eqb-true, ltb-false}
use Rattle.paris_geometry.specs.Geometry.{processor_count}
use Rattle.paris_names.specs.declared.keys.FlagName.TheVariants.{Context}
use Rattle.paris_names.specs.declared.keys.Key.{Key}
use Rattle.paris_names.specs.declared.keys.Key.TheVariants.{Field, Flag}
use Rattle.paris_names.specs.Keys.{has_key, key_eq}
use Rattle.paris_model.specs.declared.actions.Refusal.{Refusal}
use Rattle.paris_model.specs.declared.actions.Operand.{Operand}
use Rattle.paris_model.specs.declared.actions.Unconditional.{Unconditional}
use Rattle.paris_model.specs.declared.actions.Unconditional.TheVariants.{MoveAlways, SetContext, ClearContext, InvertContext, LoadContext, AndContext, OrContext, AndContextWithTest, StoreContext}
use Rattle.paris_model.specs.declared.actions.Action.{Action}
use Rattle.paris_model.specs.declared.actions.Action.TheVariants.{OnSelected, OnAll, ByNews, AlongLine, ByMail}
use Rattle.paris_model.specs.Frame.{World}
use Rattle.paris_model.specs.Unconditional.{unconditional_length, is_overwrite}
use Rattle.paris_model.specs.Fits.{IsFit, unconditional_bad_operand, have_field_widths}
use Rattle.paris_model.specs.Instructions.{Plan, reads, writes, operands, key_width, source_keys, source_fields, source_flags, target_keys, read_keys, field_keys, flag_keys, stores_all_bits, value_at, refusal, refusal_in, after_plan, after_in, outcome, outcome_in, with_outcome, one}
use Rattle.paris_model.specs.Laws.{FitsAt, ReadsFit, AgreeOnReads, UnreadFit}
use Rattle.paris_model.proofs.Worlds.{has_key-append, or_true_second, reads_keys, writes_targets, value_at-map}
use Rattle.paris_model.proofs.Widths.{HaveBits, width_in, width_first, key_width-is, some_width, is_target, after_fits}
use Rattle.paris_model.proofs.Agreement.{Agree, agree_at, agree_parts, seen, conditional_same, unconditional_same, overwrite_same, news_same, line_same, mail_after_same, refusal_same}

-- the numbers of keys that are read agree, for each part of what is read
module _ (s : ℕ) (axes : List ℕ) (w w' : World) (i : Action Operand ℕ) (same : (k : Key) → has_key (read_keys s i) k ≡ true → w k ≡ w' k) where
  parts : Agree w w' (source_keys s i) × Agree w w' (cond (stores_all_bits i) [] (target_keys s i))
  parts = agree_parts w w' (source_keys s i) (cond (stores_all_bits i) [] (target_keys s i)) (agree_at w w' (read_keys s i) same)

  pub same_fields : Agree w w' (field_keys (source_fields i))
  same_fields = (agree_parts w w' (field_keys (source_fields i)) (flag_keys s (source_flags i)) parts.0).0

  pub same_flags : Agree w w' (flag_keys s (source_flags i))
  same_flags = (agree_parts w w' (field_keys (source_fields i)) (flag_keys s (source_flags i)) parts.0).1

  pub same_targets : stores_all_bits i ≡ false → Agree w w' (target_keys s i)
  same_targets e = subst (λ b. Agree w w' (cond b [] (target_keys s i))) e parts.1

  pub same_target : (k : Key) → stores_all_bits i ≡ false → has_key (target_keys s i) k ≡ true → w k ≡ w' k
  same_target k e t = same k (has_key-append (source_keys s i) (cond (stores_all_bits i) [] (target_keys s i)) k ∙ rw e (or_true_second (has_key (source_keys s i) k) (has_key (target_keys s i) k) t))

context_width : (s : ℕ) (k : Key) (os : List Operand) → has_key (Flag s Context ∷ []) k ≡ true → width_in os k ≡ 1
context_width s (Field f) os t = absurd (let x : false ≡ true = t in cc)
context_width s (Flag r flag) os t = refl

-- an instruction that stores all bits stores as many as the key is wide
whole_width : (s : ℕ) (i : Unconditional Operand ℕ) (k : Key) → is_overwrite i ≡ true → unconditional_bad_operand i ≡ false → have_field_widths (OnAll i) ≡ true → has_key (target_keys s (OnAll i)) k ≡ true → width_in (operands (OnAll i)) k ≡ unconditional_length i
whole_width s (MoveAlways D A L) (Field f) whole good widths t = width_first D (A ∷ []) f (is_target D s [] f t) ∙ sym (eqb-true L D.width whole)
whole_width s (StoreContext F) (Field f) whole good widths t =
    let one_at_most : F.width ≤ 1 = ltb-false 1 F.width good in
    let one_at_least : 1 ≤ F.width = some_width F [] widths in
    width_first F [] f (is_target F s [] f t) ∙ omega arith
whole_width s (MoveAlways D A L) (Flag r flag) whole good widths t = absurd (let x : false ≡ true = t in cc)
whole_width s (StoreContext F) (Flag r flag) whole good widths t = absurd (let x : false ≡ true = t in cc)
whole_width s (SetContext q) k whole good widths t = context_width s k (operands (OnAll (SetContext q))) t
whole_width s (ClearContext q) k whole good widths t = context_width s k (operands (OnAll (ClearContext q))) t
whole_width s (InvertContext q) k whole good widths t = context_width s k (operands (OnAll (InvertContext q))) t
whole_width s (LoadContext F) k whole good widths t = context_width s k (operands (OnAll (LoadContext F))) t
whole_width s (AndContext F) k whole good widths t = context_width s k (operands (OnAll (AndContext F))) t
whole_width s (OrContext F) k whole good widths t = context_width s k (operands (OnAll (OrContext F))) t
whole_width s (AndContextWithTest q) k whole good widths t = context_width s k (operands (OnAll (AndContextWithTest q))) t

-- what an action leaves at a key that it writes
action_same : (s : ℕ) (axes : List ℕ) (w w' : World) (i : Action Operand ℕ) (k : Key) → ((j : Key) → has_key (read_keys s i) j ≡ true → w j ≡ w' j) → (stores_all_bits i ≡ true → has_key (read_keys s i) k ≡ false → after_in (seen s axes w) i k ≡ after_in (seen s axes w') i k) → has_key (target_keys s i) k ≡ true → after_in (seen s axes w) i k ≡ after_in (seen s axes w') i k
action_same s axes w w' (OnSelected i) k same unread t = conditional_same s axes w w' i k (same_fields s axes w w' (OnSelected i) same) (same_flags s axes w w' (OnSelected i) same) (same_targets s axes w w' (OnSelected i) same refl) (same_target s axes w w' (OnSelected i) same k refl t) t
action_same s axes w w' (OnAll i) k same unread t = by_read (has_key (read_keys s (OnAll i)) k) refl (is_overwrite i) refl
  where
    sources : Agree w w' (field_keys (source_fields (OnAll i)))
    sources = same_fields s axes w w' (OnAll i) same

    flags : Agree w w' (flag_keys s (source_flags (OnAll i)))
    flags = same_flags s axes w w' (OnAll i) same

    by_read : (b : Bool) → has_key (read_keys s (OnAll i)) k ≡ b → (c : Bool) → is_overwrite i ≡ c → after_in (seen s axes w) (OnAll i) k ≡ after_in (seen s axes w') (OnAll i) k
    by_read true e c o = unconditional_same s axes w w' i k sources flags (same k e)
    by_read false e false o = unconditional_same s axes w w' i k sources flags (same_target s axes w w' (OnAll i) same k o t)
    by_read false e true o = unread o e
action_same s axes w w' (ByNews i) k same unread t = news_same s axes w w' i k (same_fields s axes w w' (ByNews i) same).0 (same_flags s axes w w' (ByNews i) same).0 (same_target s axes w w' (ByNews i) same k refl t)
action_same s axes w w' (AlongLine i) k same unread t = line_same s axes w w' i k (same_fields s axes w w' (AlongLine i) same) (same_flags s axes w w' (AlongLine i) same).0 (same_target s axes w w' (AlongLine i) same k refl t)
action_same s axes w w' (ByMail i) k same unread t = mail_after_same s axes w w' i k (same_fields s axes w w' (ByMail i) same) (same_flags s axes w w' (ByMail i) same).0 (same_targets s axes w w' (ByMail i) same refl) (same_target s axes w w' (ByMail i) same k refl t)

-- and where it stores all bits of a key that it doesn't read
action_whole : (s : ℕ) (axes : List ℕ) (w w' : World) (i : Action Operand ℕ) (k : Key) → IsFit axes i → ((j : Key) → has_key (read_keys s i) j ≡ true → w j ≡ w' j) → HaveBits (width_in (operands i) k) (w k) → HaveBits (width_in (operands i) k) (w' k) → has_key (target_keys s i) k ≡ true → stores_all_bits i ≡ true → after_in (seen s axes w) i k ≡ after_in (seen s axes w') i k
action_whole s axes w w' (OnAll i) k fit same small small' t whole =
    let wide : width_in (operands (OnAll i)) k ≡ unconditional_length i = whole_width s i k whole fit.operands fit.widths t in
    overwrite_same s axes w w' i k (same_fields s axes w w' (OnAll i) same) (same_flags s axes w w' (OnAll i) same) (subst (λ W. HaveBits W (w k)) wide small) (subst (λ W. HaveBits W (w' k)) wide small')
action_whole s axes w w' (OnSelected i) k fit same small small' t whole = absurd (let x : false ≡ true = whole in cc)
action_whole s axes w w' (ByNews i) k fit same small small' t whole = absurd (let x : false ≡ true = whole in cc)
action_whole s axes w w' (AlongLine i) k fit same small small' t whole = absurd (let x : false ≡ true = whole in cc)
action_whole s axes w w' (ByMail i) k fit same small small' t whole = absurd (let x : false ≡ true = whole in cc)

action_refusal : (s : ℕ) (axes : List ℕ) (w w' : World) (i : Action Operand ℕ) → ((j : Key) → has_key (read_keys s i) j ≡ true → w j ≡ w' j) → refusal_in (seen s axes w) i ≡ refusal_in (seen s axes w') i
action_refusal s axes w w' (OnSelected i) same = refl
action_refusal s axes w w' (OnAll i) same = refl
action_refusal s axes w w' (ByNews i) same = refl
action_refusal s axes w w' (AlongLine i) same = refl
action_refusal s axes w w' (ByMail i) same = refusal_same s axes w w' i (same_fields s axes w w' (ByMail i) same) (same_flags s axes w w' (ByMail i) same).0

pub refusal_depends : (p : Plan) (w w' : World) → AgreeOnReads p w w' → refusal p w ≡ refusal p w'
refusal_depends p w w' same = action_refusal p.set_no p.axes w w' p.action (λ j t. same j (reads_keys p j ∙ t))

pub after_depends : (p : Plan) (w w' : World) → IsFit p.axes p.action → AgreeOnReads p w w' → UnreadFit p w → UnreadFit p w' → (k : Key) → has_key (writes p) k ≡ true → after_plan p w k ≡ after_plan p w' k
after_depends p w w' fit same unread unread' k t =
    action_same p.set_no p.axes w w' p.action k same_there
    (λ whole h. let e : has_key (reads p) k ≡ false = reads_keys p k ∙ h in
    action_whole p.set_no p.axes w w' p.action k fit same_there (subst (λ W. HaveBits W (w k)) (key_width-is p k) (unread k t e)) (subst (λ W. HaveBits W (w' k)) (key_width-is p k) (unread' k t e)) target whole)
    target
  where
    same_there : (j : Key) → has_key (read_keys p.set_no p.action) j ≡ true → w j ≡ w' j
    same_there j h = same j (reads_keys p j ∙ h)

    target : has_key (target_keys p.set_no p.action) k ≡ true
    target = sym (writes_targets p k) ∙ t

-- what is read is all that matters to an instruction that leaves bits of what it writes
after_depends_kept : (p : Plan) (w w' : World) → stores_all_bits p.action ≡ false → AgreeOnReads p w w' → (k : Key) → has_key (writes p) k ≡ true → after_plan p w k ≡ after_plan p w' k
after_depends_kept p w w' kept same k t =
    action_same p.set_no p.axes w w' p.action k (λ j h. same j (reads_keys p j ∙ h))
    (λ whole h. absurd (let x : true ≡ false = sym whole ∙ kept in cc))
    (sym (writes_targets p k) ∙ t)

-- a key that isn't among keys has no numbers beside them
pub value_at-unread : (ks : List Key) (values : List (List ℕ)) (k : Key) → has_key ks k ≡ false → value_at ks values k ≡ []
value_at-unread [] values k e = refl
value_at-unread (j ∷ js) [] k e = refl
value_at-unread (j ∷ js) (x ∷ xs) k e = by_first (key_eq k j) (value_at-unread js xs k) e
  where
    by_first : (b : Bool) → (has_key js k ≡ false → value_at js xs k ≡ []) → (b || has_key js k) ≡ false → cond b x (value_at js xs k) ≡ []
    by_first true rest h = absurd (let y : true ≡ false = h in cc)
    by_first false rest h = rest h

-- so a world that has the inputs of a plan and nothing else fits what the plan doesn't read
pub inputs_unread : (p : Plan) (inputs : List (List ℕ)) → UnreadFit p (value_at (reads p) inputs)
inputs_unread p inputs k t e = subst (λ xs. HaveBits (key_width p k) xs) (sym (value_at-unread (reads p) inputs k e)) (λ j d h. absurd (omega arith))

-- what a fit plan leaves fits, where its inputs do
pub after_inputs_fit : (p : Plan) (inputs : List (List ℕ)) → IsFit p.axes p.action → ReadsFit p (value_at (reads p) inputs) → (k : Key) → has_key (writes p) k ≡ true → FitsAt p (after_plan p (value_at (reads p) inputs)) k × (length (after_plan p (value_at (reads p) inputs) k) ≡ processor_count p.axes)
after_inputs_fit p inputs fit at_reads k t = after_fits p (value_at (reads p) inputs) fit at_reads (inputs_unread p inputs) k t

-- what a plan reads of a world, and nothing else
abbrev seen_of : Plan → World → World
seen_of p w = value_at (reads p) (map w (reads p))

seen_agrees : (p : Plan) (w : World) → AgreeOnReads p (seen_of p w) w
seen_agrees p w j h = value_at-map w (reads p) j h

one_of_seen : (p : Plan) (w : World) → refusal p w ≡ None → (k : Key) → has_key (writes p) k ≡ true → one p w k ≡ after_plan p (seen_of p w) k
unfolding one outcome
one_of_seen p w e k t =
    ap (λ o. with_outcome (outcome_in p (seen_of p w) o) p w k) (refusal_depends p (seen_of p w) w (seen_agrees p w) ∙ e)
    ∙ ap (λ b. cond b (value_at (writes p) (map (after_plan p (seen_of p w)) (writes p)) k) (w k)) t
    ∙ value_at-map (after_plan p (seen_of p w)) (writes p) k t

-- a plan that isn't refused leaves what its instruction gives in the world itself
pub one_direct : (p : Plan) (w : World) → IsFit p.axes p.action → UnreadFit p w → refusal p w ≡ None → (k : Key) → has_key (writes p) k ≡ true → one p w k ≡ after_plan p w k
one_direct p w fit unread e k t = one_of_seen p w e k t ∙ after_depends p (seen_of p w) w fit (seen_agrees p w) (inputs_unread p (map w (reads p))) unread k t

pub one_direct_kept : (p : Plan) (w : World) → stores_all_bits p.action ≡ false → refusal p w ≡ None → (k : Key) → has_key (writes p) k ≡ true → one p w k ≡ after_plan p w k
one_direct_kept p w kept e k t = one_of_seen p w e k t ∙ after_depends_kept p (seen_of p w) w kept (seen_agrees p w) k t

-- a plan that is refused leaves every key
pub refused_leaves : (p : Plan) (w : World) (cause : Refusal) → refusal p w ≡ Some cause → (k : Key) → one p w k ≡ w k
unfolding one outcome
refused_leaves p w cause e k = ap (λ o. with_outcome (outcome_in p (seen_of p w) o) p w k) (refusal_depends p (seen_of p w) w (seen_agrees p w) ∙ e)
