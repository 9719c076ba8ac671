-- The machine values of a `KeptSeat` and of a `RawBox` of contents. Assumes `Logic`.
use Rattle.std.proofs.Common.{◌≡◌, ℕ, List, [], ◌∷◌, ◌++◌, refl, subst}
use seplogic.Ra.Ura.{Ura}
use mir.Syntax.{Ty, ty_ptr, impl, tnil, dnil}
use mir.Raw.{raw as bare}
use mir.Val.{Val, vptr, vstruct, of_list, has_ty, WT}
use base.Logic.{never, fst∗}
use types.Logic.{Logic, sem}
use types.Kit.{Item, Goal, Seq, Step, step, ‵, ◌$◌, move, drop, fsplit, fjoin, fpick, fpack, rewrite, feq_i, feq_l}
use denote.RattleType.{RattleType, Valss}
use denote.Builtin.{RawPtr}
use denote.Memory.{lone}
use denote.RawPtr.{Ptr, block_ptr, null_ptr, ptr_val, in_a_block}
use denote.Steps.{nothing}
use denote.Param.{layout}
use denote.Param.Laws.{Laws}
use denote.Struct.Struct.{within}
use denote.Struct.Owning.{shape}
use Rattle.keep.proofs.Names.{Al, handle_tells, Ptr-Good, and_tt}
use Rattle.paris_c.specs.Holding.{holds}
use Rattle.std.specs.Prelude.{Option, None, Some, is_some}
use mathlib.Core.Bool.{false≢true}
use base.Fml.{Fml}
use lib.Dec.{T}
use mathlib.Core.Bool.{true, ◌&&◌}
use Rattle.keep.proofs.Names.{Good}
use Rattle.std.specs.Box.Ownership.{box_owns}
use Rattle.std.specs.contracts.alloc.Global as global
use Rattle.std.proofs.alloc.Global.TheLaws as global_laws
use Rattle.std.specs.contracts.impls.GlobalAllocator.TheImpl as heap
use Rattle.keep.proofs.Values.{both}
use Rattle.paris_c.specs.contracts.seating.SeatContents as contents
use Rattle.paris_c.specs.contracts.seat_handle.KeptSeat as kept

abbrev pub R : RattleType
R = contents.the_row

abbrev pub Z : RattleType
Z = global.the_row

abbrev pub LZ : Laws Z
LZ = global_laws.the_row_laws

abbrev pub al : Al
al = record { row = Z; laws = LZ; g = heap.ghosts; d = impl [] tnil dnil; drops = impl [] tnil dnil }

abbrev pub KeptSeat : RattleType
KeptSeat = kept.the_row

abbrev frees : Z.Denot → Ty → Ptr → Fml
frees a = heap.ghosts.dealloc_token a

module _ {M : Type 1} {𝓤 : Ura M} {𝓛 : Logic 𝓤} {K : Type 0} {Γ : List (Item 𝓤)} {G : Goal 𝓤 𝓛.H} where
  pub kept_out : K → (d : KeptSeat.Denot) (x : R.Denot) (vs : List Val) → d.value ≡ Some x
      → ((b o : ℕ) (h : Val) → d.at ≡ block_ptr b o → vs ≡ both (vptr b o) h ∷ [] → Good (layout Z) h → Seq K 𝓛 (‵ (box_owns (frees d.alloc) R (block_ptr b o) x) ∷ ‵ (Z.own_val d.alloc (h ∷ [])) ∷ Γ) G)
      → Seq K 𝓛 (‵ (KeptSeat.own_val d vs) ∷ Γ) G
  kept_out t d x vs se k =
      fsplit t $ fpick t (λ vss. fsplit t $ feq_l t (λ ev. fsplit t $ feq_l t (λ ep. fsplit t $ handle_tells al t d.alloc vss.1.0 (λ h ea fits. move t (1 ∷ []) $ drop t $ move t (1 ∷ []) $
      rewrite t 0 (λ (held : Option R.Denot). ‵ (holds (frees d.alloc) R d.at held)) se refl $
      in_a_block t d.at (λ p. box_owns (frees d.alloc) R p x) (fst∗ 𝓤 (never 𝓤) (sem 𝓛 (frees d.alloc (bare (lone R.mir)) null_ptr))) (λ b o e. k b o h e
      (subst (λ (p : Ptr). vs ≡ vstruct (of_list (ptr_val p ∷ h ∷ [])) ∷ []) e
      (subst (λ (ws : List Val). vs ≡ vstruct (of_list (ptr_val d.at ∷ (ws ++ []))) ∷ []) ea (subst (λ (ps : List Val). vs ≡ vstruct (of_list (ps ++ (vss.1.0 ++ []))) ∷ []) ep ev))) fits)))))

  pub kept_in : K → (b o : ℕ) (h : Val) (a : Z.Denot) (x : R.Denot)
      → Step K 𝓛 (‵ (KeptSeat.own_val (record { at = block_ptr b o; alloc = a; value = Some x }) (both (vptr b o) h ∷ [])) ∷ Γ) G (‵ (box_owns (frees a) R (block_ptr b o) x) ∷ ‵ (Z.own_val a (h ∷ [])) ∷ Γ) G
  kept_in t b o h a x = step (λ s. let v : Val = both (vptr b o) h in
      nothing t $ move t (2 ∷ 0 ∷ []) $ fjoin t $ feq_i t (List Val) (vptr b o ∷ []) (vptr b o ∷ []) refl $ fjoin t $ feq_i t (List Val) (v ∷ []) (v ∷ []) refl $ fjoin t $
      fpack t (Valss (RawPtr ∷ Z ∷ [])) (within (shape kept.the_type) (block_ptr b o, (((tt, tt), tt), tt)) (v ∷ [])) (vptr b o ∷ [], (h ∷ [], tt)) $ fjoin t $ s)

  pub empty_in : K → (p : Ptr) (h : Val) (a : Z.Denot)
      → Step K 𝓛 (‵ (KeptSeat.own_val (record { at = p; alloc = a; value = None }) (both (ptr_val p) h ∷ [])) ∷ Γ) G (‵ (Z.own_val a (h ∷ [])) ∷ Γ) G
  empty_in t p h a = step (λ s. let v : Val = both (ptr_val p) h in
      nothing t $ nothing t $ move t (2 ∷ 0 ∷ []) $ fjoin t $ feq_i t (List Val) (ptr_val p ∷ []) (ptr_val p ∷ []) refl $ fjoin t $ feq_i t (List Val) (v ∷ []) (v ∷ []) refl $ fjoin t $
      fpack t (Valss (RawPtr ∷ Z ∷ [])) (within (shape kept.the_type) (p, (((tt, tt), tt), tt)) (v ∷ [])) (ptr_val p ∷ [], (h ∷ [], tt)) $ fjoin t $ s)

pub empty_good : (p : Ptr) (h : Val) → Good (layout Z) h → T (has_ty ty_ptr (ptr_val p) && (has_ty (layout Z) h && true)) × WT (both (ptr_val p) h)
empty_good (block_ptr b o) h fits = (and_tt (has_ty (layout Z) h) fits.0, (tt, (fits.1, tt)))
empty_good null_ptr h fits = (and_tt (has_ty (layout Z) h) fits.0, ((Ptr-Good null_ptr).1, (fits.1, tt)))

pub some_of : {X : Type 0} (o : Option X) → is_some o ≡ true → (x : X) × (o ≡ Some x)
some_of None e = absurd (false≢true e)
some_of (Some x) e = (x, refl)
