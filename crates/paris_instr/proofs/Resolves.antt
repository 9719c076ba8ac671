-- What is known of a resolved instruction: its operands are declared, and its keys are those of the board.
use Rattle.std.proofs.Common.{◌≡◌, ℕ, ◌<◌, ◌≤◌, ◌^◌, List, [], ◌∷◌, ◌++◌, Bool, true, false, cond, refl, sym, ap, ◌∙◌, subst, arith, length, nat_lt, nat_le, inl, inr}
use Rattle.std.specs.Prelude.{◌&&◌, ◌||◌, ◌⊎◌, ◌==◌}
use Rattle.std.specs.List.{list_all}
use Rattle.std.proofs.Math.Nat.{pow-le-pow_right}
use Rattle.std.proofs.Math.Path.{ap₂}
use Rattle.std.proofs.lemmas.Bool.{and_parts, and_from, or_cases, both_ways, eqb-true, eq-eqb, ne_eqb, lt-ltb, le-leb}
use Rattle.std.proofs.lemmas.List.{map-append}
use Rattle.paris_names.specs.declared.keys.FlagName.{FlagName}
use Rattle.paris_names.specs.declared.keys.Key.{Key}
use Rattle.paris_names.specs.declared.keys.Key.TheVariants.{Field, Flag}
use Rattle.paris_names.specs.Keys.{flag_place, has_key, key_eq}
use Rattle.paris_geometry.specs.Geometry.{processor_count}
use Rattle.paris_board.specs.Board.{Board, declaration_at, axes_of, is_declared, width_of, count_of}
use Rattle.paris_model.specs.declared.actions.Operand.{Operand}
use Rattle.paris_model.specs.declared.actions.Action.{Action}
use Rattle.paris_model.specs.Instructions.{Plan, operands, read_keys, source_keys, target_keys, field_keys, flag_keys, target_fields, target_flags, source_fields, source_flags, stores_all_bits, key_width, width_among}
use Rattle.paris_model.proofs.Worlds.{has_key-append, reads_keys, writes_targets}
use Rattle.paris_instr.specs.Resolve.{set_of_operand, set_of_action, is_in_one_set, IsOperandOf, AreOperandsOf, IsFittedTo}
use Rattle.paris_names.specs.declared.limits.TheConstants.{MAX_WIDTH}

-- no number of 128 bits needs more than 128 bits
pub not_too_great : (L K : ℕ) → 128 ≤ L → K < 2 ^ 128 → nat_le (2 ^ L) K ≡ false
not_too_great L K long small =
    let above : 2 ^ 128 ≤ 2 ^ L = pow-le-pow_right (omega arith) long in
    grind arith

-- each operand is as wide as a field may be
pub have_widths : (b : Board) (os : List Operand) → AreOperandsOf b os → list_all (λ (o : Operand). nat_lt 0 o.width && nat_le o.width MAX_WIDTH) os ≡ true
have_widths b [] known = refl
have_widths b (o ∷ os) known =
    let own : (nat_lt 0 o.width && nat_le o.width MAX_WIDTH) ≡ true = and_from (nat_lt 0 o.width) (nat_le o.width MAX_WIDTH) (lt-ltb 0 o.width known.0.2) (le-leb o.width MAX_WIDTH known.0.3) in
    and_from (nat_lt 0 o.width && nat_le o.width MAX_WIDTH) (list_all (λ (o : Operand). nat_lt 0 o.width && nat_le o.width MAX_WIDTH) os) own (have_widths b os known.1)

-- a field among the operands of one set
record IsFieldAmong (b : Board) (s : ℕ) (os : List Operand) (f : ℕ) : Type 0 where
  declared : is_declared b (Field f) ≡ true
  width : (declaration_at b f).width ≡ width_among os f
  set_no : (declaration_at b f).set_no ≡ s

among : (b : Board) (s : ℕ) (os : List Operand) (f : ℕ) → AreOperandsOf b os → list_all (λ o. set_of_operand b o == s) os ≡ true → has_key (field_keys os) (Field f) ≡ true → IsFieldAmong b s os f
among b s [] f known same h = absurd (let e : false ≡ true = h in cc)
among b s (o ∷ os) f known same h =
    by_first (among b s os f known.1 (and_parts (set_of_operand b o == s) (list_all (λ o. set_of_operand b o == s) os) same).1) (f == o.field) refl h
  where
    by_first : (has_key (field_keys os) (Field f) ≡ true → IsFieldAmong b s os f) → (t : Bool) → (f == o.field) ≡ t → (t || has_key (field_keys os) (Field f)) ≡ true → IsFieldAmong b s (o ∷ os) f
    by_first rest true e g =
        let here : f ≡ o.field = eqb-true f o.field e in
        let of_board : IsOperandOf b o = known.0 in
        let of_set : set_of_operand b o ≡ s = eqb-true (set_of_operand b o) s (and_parts (set_of_operand b o == s) (list_all (λ o. set_of_operand b o == s) os) same).0 in
        let P : ℕ → Type 0 = λ x. is_declared b (Field x) ≡ true in
        record {
          declared = subst P (sym here) of_board.0;
          width = ap (λ x. (declaration_at b x).width) here ∙ ap (λ (x : Operand). x.width) (sym of_board.1) ∙ rw (eq-eqb o.field f (sym here)) refl;
          set_no = ap (λ x. (declaration_at b x).set_no) here ∙ of_set;
        }
    by_first rest false e g =
        let later = rest g in
        let other : (o.field == f) ≡ false = ne_eqb o.field f (λ x. both_ways (f == o.field) e (eq-eqb f o.field (sym x))) in
        record { declared = later.declared; width = later.width ∙ rw other refl; set_no = later.set_no }

-- the tests of keys: t and u are whether a key is among the fields and the flags of the targets, x and y those of the sources
by_kind : (all t u x y : Bool) → (((x || y) || cond all false (t || u)) || (t || u)) ≡ true → ((t || x) ≡ true) ⊎ ((u || y) ≡ true)
by_kind all true u x y h = inl refl
by_kind all false true x y h = inr refl
by_kind all false false true y h = inl refl
by_kind all false false false true h = inr refl
by_kind true false false false false h = cc
by_kind false false false false false h = cc

-- a key that an action reads or writes is a field of one of its operands, or one of its flags
key_kind : (s : ℕ) (i : Action Operand ℕ) (k : Key) → (has_key (read_keys s i) k || has_key (target_keys s i) k) ≡ true
    → (has_key (field_keys (operands i)) k ≡ true) ⊎ (has_key (flag_keys s (target_flags i ++ source_flags i)) k ≡ true)
key_kind s i k h =
    let t = has_key (field_keys (target_fields i)) k in
    let u = has_key (flag_keys s (target_flags i)) k in
    let x = has_key (field_keys (source_fields i)) k in
    let y = has_key (flag_keys s (source_flags i)) k in
    let targets : has_key (target_keys s i) k ≡ (t || u) = has_key-append (field_keys (target_fields i)) (flag_keys s (target_flags i)) k in
    let sources : has_key (source_keys s i) k ≡ (x || y) = has_key-append (field_keys (source_fields i)) (flag_keys s (source_flags i)) k in
    let fields : has_key (field_keys (operands i)) k ≡ (t || x) =
    ap (λ keys. has_key keys k) (map-append (λ (o : Operand). Field o.field) (target_fields i) (source_fields i)) ∙ has_key-append (field_keys (target_fields i)) (field_keys (source_fields i)) k in
    let flags : has_key (flag_keys s (target_flags i ++ source_flags i)) k ≡ (u || y) =
    ap (λ keys. has_key keys k) (map-append (Flag s) (target_flags i) (source_flags i)) ∙ has_key-append (flag_keys s (target_flags i)) (flag_keys s (source_flags i)) k in
    let all = stores_all_bits i in
    let rest : (b : Bool) → has_key (cond b [] (target_keys s i)) k ≡ cond b false (t || u) = λ b. elim b as (λ b. has_key (cond b [] (target_keys s i)) k ≡ cond b false (t || u)) [ true ↦ refl | false ↦ targets ] in
    let read : has_key (read_keys s i) k ≡ ((x || y) || cond all false (t || u)) =
    has_key-append (source_keys s i) (cond all [] (target_keys s i)) k ∙ ap₂ (λ a b. a || b) sources (rest all) in
    rw (fields, flags) (by_kind all t u x y (sym (ap₂ (λ a b. a || b) read targets) ∙ h))

-- a field is none of a set's flags
no_field : (s : ℕ) (flags : List FlagName) (f : ℕ) → has_key (flag_keys s flags) (Field f) ≡ false
no_field s [] f = refl
no_field s (x ∷ xs) f = no_field s xs f

-- a flag is none of the fields
no_flag : (os : List Operand) (s : ℕ) (flag : FlagName) → has_key (field_keys os) (Flag s flag) ≡ false
no_flag [] s flag = refl
no_flag (o ∷ os) s flag = no_flag os s flag

-- a flag among those of a set is of that set
flag_set : (s : ℕ) (flags : List FlagName) (t : ℕ) (flag : FlagName) → has_key (flag_keys s flags) (Flag t flag) ≡ true → t ≡ s
flag_set s [] t flag h = absurd (let e : false ≡ true = h in cc)
flag_set s (x ∷ xs) t flag h =
    elim (or_cases (key_eq (Flag t flag) (Flag s x)) (has_key (flag_keys s xs) (Flag t flag)) h) [
      | inl e ↦ eqb-true t s (and_parts (t == s) (flag_place flag == flag_place x) e).0
      | inr e ↦ flag_set s xs t flag e
    ]

-- what is known of a plan that was made on a board
pub record IsMadeOn (b : Board) (p : Plan) : Type 0 where
  pub known : AreOperandsOf b (operands p.action)
  pub one_set : is_in_one_set b p.action ≡ true
  pub set_no : p.set_no ≡ set_of_action b p.action
  pub declared : p.set_no < length b.sets
  pub axes : p.axes ≡ axes_of b p.set_no

-- its keys are those of the board
pub made_fits : (b : Board) (p : Plan) → IsMadeOn b p → IsFittedTo b p
unfolding key_width
made_fits b p made k h =
    let among_keys : (has_key (read_keys p.set_no p.action) k || has_key (target_keys p.set_no p.action) k) ≡ true = sym (ap₂ (λ a b. a || b) (reads_keys p k) (writes_targets p k)) ∙ h in
    by_key k (key_kind p.set_no p.action k among_keys)
  where
    by_key : (k : Key) → (has_key (field_keys (operands p.action)) k ≡ true) ⊎ (has_key (flag_keys p.set_no (target_flags p.action ++ source_flags p.action)) k ≡ true)
        → (is_declared b k ≡ true) × (width_of b k ≡ key_width p k) × (count_of b k ≡ processor_count p.axes)
    by_key (Field f) (inl e) =
        let Q : ℕ → Type 0 = λ s. list_all (λ o. set_of_operand b o == s) (operands p.action) ≡ true in
        let found = among b p.set_no (operands p.action) f made.known (subst Q (sym made.set_no) made.one_set) e in
        (found.declared, found.width, ap (λ s. processor_count (axes_of b s)) found.set_no ∙ ap processor_count (sym made.axes))
    by_key (Field f) (inr e) = absurd (both_ways _ (no_field p.set_no (target_flags p.action ++ source_flags p.action) f) e)
    by_key (Flag t flag) (inl e) = absurd (both_ways _ (no_flag (operands p.action) t flag) e)
    by_key (Flag t flag) (inr e) =
        let of_set : t ≡ p.set_no = flag_set p.set_no (target_flags p.action ++ source_flags p.action) t flag e in
        (rw of_set (lt-ltb p.set_no (length b.sets) made.declared), refl, ap (λ s. processor_count (axes_of b s)) of_set ∙ ap processor_count (sym made.axes))
