-- The derived tests of edits and of rows that are listed tell whether they are the same, and a derived copy of an edit is the same.
use Rattle.std.proofs.Common.{◌≡◌, Decides, eqb, true, false, refl, sym, ◌∙◌, subst, rules}
use Rattle.std.proofs.lemmas.Bool.{and_parts, eqb-true, eq-eqb}
use Rattle.std.proofs.lemmas.Slice.Eq.{bytes_eq-Decides, slice_eq-Decides}
use Rattle.std.specs.Cmp.{unsigned_Decides}
use Rattle.std.specs.Option.{option_eq}
use Rattle.std.specs.Prelude.{◌&&◌}
use Rattle.paris_names.specs.contracts.names.Name as NameRow
use Rattle.paris_names.specs.contracts.names.NamePartialEq.TheImpl as NameEq
use Rattle.paris_names.specs.contracts.names.KeyNamePartialEq.TheImpl as KeyEq
use Rattle.paris_names.specs.contracts.keys.FlagNamePartialEq.TheImpl as FlagEq
use Rattle.paris_names.specs.contracts.ids.RowIdPartialEq.TheImpl as RowIdEq
use Rattle.paris_names.specs.contracts.ids.SpotPartialEq.TheImpl as SpotEq
use Rattle.paris_board.proofs.NameTests.{name_eq}
use Rattle.paris_edits.specs.contracts.edits.EditPartialEq.TheImpl as EditEq
use Rattle.paris_edits.specs.declared.edits.Edit.{Edit}
use Rattle.paris_edits.specs.declared.edits.Edit.TheVariants.{AddSet, AddField, Input, Insert, Delete, Replace}
use Rattle.paris_edits.specs.contracts.rows.RowLookPartialEq.TheImpl as RowLookEq
use Rattle.paris_edits.specs.contracts.rows.StatusPartialEq.TheImpl as StatusEq
use Rattle.paris_model.specs.contracts.actions.RefusalPartialEq.TheImpl as RefusalEq
use Rattle.paris_edits.specs.declared.rows.RowLook.{RowLook}
use Rattle.paris_instr.specs.PlanEq.{instr_eq}
use Rattle.paris_instr.proofs.SameActions.{IsStrict, IsReflexive, same_action, self_action}

same_name : IsStrict NameEq.ghosts.eq
same_name x y h = sym ((bytes_eq-Decides y x).0 (sym (name_eq x y) ∙ h))

self_name : IsReflexive NameEq.ghosts.eq
self_name x = search rules

same_instr : IsStrict instr_eq
same_instr a b h = same_action NameRow.the_row NameRow.the_row NameEq.ghosts NameEq.ghosts NameEq.dict NameEq.dict same_name same_name a b h

self_instr : IsReflexive instr_eq
self_instr a = self_action NameRow.the_row NameRow.the_row NameEq.ghosts NameEq.ghosts NameEq.dict NameEq.dict self_name self_name a

same_status : IsStrict StatusEq.ghosts.eq
same_status x y h = search rules

self_status : IsReflexive StatusEq.ghosts.eq
self_status x = search rules

same_cause : IsStrict (option_eq RefusalEq.ghosts.eq)
same_cause x y h = search rules

self_cause : IsReflexive (option_eq RefusalEq.ghosts.eq)
self_cause x = search rules

-- the derived test of rows that are listed, field by field
look_eq : (a b : RowLook) → RowLookEq.ghosts.eq a b ≡ (eqb a.id.0 b.id.0 && (eqb a.edition.0 b.edition.0 && (StatusEq.ghosts.eq a.status b.status && (instr_eq a.instr b.instr && option_eq RefusalEq.ghosts.eq a.cause b.cause))))
look_eq a b = refl

same_look : IsStrict RowLookEq.ghosts.eq
same_look a b h =
    let p = and_parts _ _ (sym (look_eq a b) ∙ h) in
    let q = and_parts _ _ p.1 in
    let r = and_parts _ _ q.1 in
    let s = and_parts _ _ r.1 in
    let id = eqb-true a.id.0 b.id.0 p.0 in
    let edition = eqb-true a.edition.0 b.edition.0 q.0 in
    let status = same_status a.status b.status r.0 in
    let instr = same_instr a.instr b.instr s.0 in
    let cause = same_cause a.cause b.cause s.1 in
    search rules

self_look : IsReflexive RowLookEq.ghosts.eq
self_look a =
    look_eq a a
    ∙ rw (eq-eqb a.id.0 a.id.0 refl, eq-eqb a.edition.0 a.edition.0 refl, self_status a.status, self_instr a.instr, self_cause a.cause) refl

pub look_decides : (a b : RowLook) → Decides (RowLookEq.ghosts.eq a b) (a ≡ b)
look_decides a b = (λ t. same_look a b t, λ e. subst (λ y. RowLookEq.ghosts.eq a y ≡ true) e (self_look a))

same_spot : IsStrict SpotEq.ghosts.eq
same_spot x y h = search rules

self_spot : IsReflexive SpotEq.ghosts.eq
self_spot x = search rules

same_id : IsStrict RowIdEq.ghosts.eq
same_id x y h = search rules

self_id : IsReflexive RowIdEq.ghosts.eq
self_id x = search rules

same_flag : IsStrict (option_eq FlagEq.ghosts.eq)
same_flag x y h = search rules

self_flag : IsReflexive (option_eq FlagEq.ghosts.eq)
self_flag x = search rules

same_key : IsStrict KeyEq.ghosts.eq
same_key x y h =
    let p = and_parts _ _ h in
    let name = same_name x.name y.name p.0 in
    let flag = same_flag x.flag y.flag p.1 in
    λ i. record { name = name i; flag = flag i }

self_key : IsReflexive KeyEq.ghosts.eq
self_key x = rw (self_name x.name, self_flag x.flag) refl

same_edit : IsStrict EditEq.ghosts.eq
same_edit (AddSet n xs) (AddSet n' xs') h =
    let p = and_parts _ _ h in let name = same_name n n' p.0 in let axes = (slice_eq-Decides unsigned_Decides xs xs' _ refl).0 p.1 in cc
same_edit (AddSet n xs) (AddField n' s' w') h = absurd (let e : false ≡ true = h in cc)
same_edit (AddSet n xs) (Input k' f' xs') h = absurd (let e : false ≡ true = h in cc)
same_edit (AddSet n xs) (Insert s' i') h = absurd (let e : false ≡ true = h in cc)
same_edit (AddSet n xs) (Delete r') h = absurd (let e : false ≡ true = h in cc)
same_edit (AddSet n xs) (Replace r' i') h = absurd (let e : false ≡ true = h in cc)
same_edit (AddField n s w) (AddSet n' xs') h = absurd (let e : false ≡ true = h in cc)
same_edit (AddField n s w) (AddField n' s' w') h =
    let p = and_parts _ _ h in let q = and_parts _ _ p.1 in let name = same_name n n' p.0 in let set = same_name s s' q.0 in let width = eqb-true w w' q.1 in cc
same_edit (AddField n s w) (Input k' f' xs') h = absurd (let e : false ≡ true = h in cc)
same_edit (AddField n s w) (Insert s' i') h = absurd (let e : false ≡ true = h in cc)
same_edit (AddField n s w) (Delete r') h = absurd (let e : false ≡ true = h in cc)
same_edit (AddField n s w) (Replace r' i') h = absurd (let e : false ≡ true = h in cc)
same_edit (Input k f xs) (AddSet n' xs') h = absurd (let e : false ≡ true = h in cc)
same_edit (Input k f xs) (AddField n' s' w') h = absurd (let e : false ≡ true = h in cc)
same_edit (Input k f xs) (Input k' f' xs') h =
    let p = and_parts _ _ h in let q = and_parts _ _ p.1 in let key = same_key k k' p.0 in let from = eqb-true f f' q.0 in let values = (slice_eq-Decides unsigned_Decides xs xs' _ refl).0 q.1 in cc
same_edit (Input k f xs) (Insert s' i') h = absurd (let e : false ≡ true = h in cc)
same_edit (Input k f xs) (Delete r') h = absurd (let e : false ≡ true = h in cc)
same_edit (Input k f xs) (Replace r' i') h = absurd (let e : false ≡ true = h in cc)
same_edit (Insert s i) (AddSet n' xs') h = absurd (let e : false ≡ true = h in cc)
same_edit (Insert s i) (AddField n' s' w') h = absurd (let e : false ≡ true = h in cc)
same_edit (Insert s i) (Input k' f' xs') h = absurd (let e : false ≡ true = h in cc)
same_edit (Insert s i) (Insert s' i') h =
    let p = and_parts _ _ h in let spot = same_spot s s' p.0 in let instr = same_instr i i' p.1 in cc
same_edit (Insert s i) (Delete r') h = absurd (let e : false ≡ true = h in cc)
same_edit (Insert s i) (Replace r' i') h = absurd (let e : false ≡ true = h in cc)
same_edit (Delete r) (AddSet n' xs') h = absurd (let e : false ≡ true = h in cc)
same_edit (Delete r) (AddField n' s' w') h = absurd (let e : false ≡ true = h in cc)
same_edit (Delete r) (Input k' f' xs') h = absurd (let e : false ≡ true = h in cc)
same_edit (Delete r) (Insert s' i') h = absurd (let e : false ≡ true = h in cc)
same_edit (Delete r) (Delete r') h =
    let row = same_id r r' h in cc
same_edit (Delete r) (Replace r' i') h = absurd (let e : false ≡ true = h in cc)
same_edit (Replace r i) (AddSet n' xs') h = absurd (let e : false ≡ true = h in cc)
same_edit (Replace r i) (AddField n' s' w') h = absurd (let e : false ≡ true = h in cc)
same_edit (Replace r i) (Input k' f' xs') h = absurd (let e : false ≡ true = h in cc)
same_edit (Replace r i) (Insert s' i') h = absurd (let e : false ≡ true = h in cc)
same_edit (Replace r i) (Delete r') h = absurd (let e : false ≡ true = h in cc)
same_edit (Replace r i) (Replace r' i') h =
    let p = and_parts _ _ h in let row = same_id r r' p.0 in let instr = same_instr i i' p.1 in cc

self_edit : IsReflexive EditEq.ghosts.eq
self_edit (AddSet n xs) = rw (self_name n, (slice_eq-Decides unsigned_Decides xs xs _ refl).1 refl) refl
self_edit (AddField n s w) = rw (self_name n, self_name s, eq-eqb w w refl) refl
self_edit (Input k f xs) = rw (self_key k, eq-eqb f f refl, (slice_eq-Decides unsigned_Decides xs xs _ refl).1 refl) refl
self_edit (Insert s i) = rw (self_spot s, self_instr i) refl
self_edit (Delete r) = self_id r
self_edit (Replace r i) = rw (self_id r, self_instr i) refl

pub edit_decides : (a b : Edit) → Decides (EditEq.ghosts.eq a b) (a ≡ b)
edit_decides a b = (λ t. same_edit a b t, λ e. subst (λ y. EditEq.ghosts.eq a y ≡ true) e (self_edit a))
