-- `empty` holds a pointer that owns nothing.
use Rattle.std.proofs.Common.{◌≡◌, List, [], ◌∷◌, ◌++◌, refl, sym, subst}
use Rattle.std.specs.Prelude.{Option, None}
use mir.Val.{Val}
use base.Logic.{SProp, ent, emp, id⊢}
use base.Fml.{ftrue}
use prog.Wp.{WpFn}
use types.Kit.{‵, raw, ◌⊛◌, ◌$◌, ◌∵◌, !, qed, by, move, keep, drop, split, fsplit, fjoin, feq_l, suffices, use0}
use types.Run.{no_more, and_then, returns, enter}
use types.ByLocal.{alloc_all, pass_all, free_all, look_at, get, sets}
use types.Part.{agg}
use contract.Monad.{fact, fact_i}
use contract.Running.{tables}
use denote.RattleType.{owns}
use denote.Signature.{types_at, plain}
use denote.RawPtr.{RawPtr, ptr_val}
use denote.Steps.{nothing}
use denote.Triple.Entry.{alive}
use denote.Triple.Walked.{Stays, stay_dropped, walk_of, Goes-dropped}
use Rattle.keep.proofs.Names.{handle_tells, Ptr-Good}
use Rattle.std.proofs.raw_atomic.Walks.{proved_at, leaves}
use Rattle.keep.proofs.Values.{both}
use Rattle.paris_c.proofs.KeptDeskValues.{R, Z, al, empty_in, empty_good}
use Rattle.paris_c.specs.contracts.desk_handle.KeptDesk.empty.{ended, clauses}
use Rattle.paris_c.specs.contracts.desk_handle.KeptDesk.empty.Key.{name as #self}
use Rattle.paris_c.proofs.desk_handle.KeptDesk.empty.Statement.{statement}
use Rattle.paris_c.proofs.desk_handle.KeptDesk.empty.Code as code

pub empty_spec : {M : Type 1} → statement M
empty_spec 𝓤 𝓛 𝓜 𝓡 wired =
    let H = 𝓛.H in let 𝓣 = tables 𝓤 H 𝓜 𝓡 𝓡.env in let c = clauses 𝓛 𝓜.mem 𝓡.returns in let fn = code.function in
    let hs : Stays ended.signature.params ended.kept = (stay_dropped (plain (λ _. RawPtr)) ended.kept.0, (stay_dropped (plain (λ _. Z)) ended.kept.1.0, tt)) in
    proved_at 𝓛 ended hs c 𝓜 𝓡 (Goes-dropped 𝓛 0 (plain (λ _. RawPtr)) ended.kept.0 (λ κs x f. refl), (Goes-dropped 𝓛 0 (plain (λ _. Z)) ended.kept.1.0 (λ κs x f. refl), tt)) #self fn (code.unfolded 𝓤 H 𝓜 𝓡 wired) (λ z are.
    let p = z.0.3.0 in let a = z.0.3.1.0 in let Post : Val → SProp 𝓤 = (walk_of 𝓛 ended hs c).post z in let Run : List Val → SProp 𝓤 = λ ws. WpFn 𝓤 H 𝓣.C 𝓣.Λ fn ws Post in
    qed 𝓛 ((raw (alive 𝓛 ended.signature z.0.0 z.0.1) ⊛ ‵ (owns (types_at ended.signature.params z.0.0) z.0.3 z.0.4)) ∷ ‵ ftrue ∷ []) ∵ move ! (1 ∷ []) $ drop ! $ split ! $ move ! (1 ∷ []) $ fsplit ! $ feq_l ! (λ ev. fsplit ! $
    handle_tells al ! a z.0.4.1.0 (λ h ea fits. let w : Val = both (ptr_val p) h in
    suffices ! (Run (ptr_val p ∷ h ∷ [])) (subst (λ (us : List Val). ent 𝓤 (Run (ptr_val p ∷ h ∷ [])) (Run us)) (sym (λ i. ev i ++ (ea i ++ []))) (id⊢ 𝓤 (Run (ptr_val p ∷ h ∷ [])))) $
    enter ! 𝓣.C 𝓣.Λ fn (ptr_val p ∷ h ∷ []) Post $ alloc_all ! (λ l. pass_all ! refl (Ptr-Good p, (fits, tt)) $
    sets ! (agg ! (and_then ! (get ! refl) (and_then ! (get ! refl) (no_more !)))) refl (empty_good p h fits) $
    returns ! (look_at ! 0 refl) $ free_all ! refl $ empty_in ! p h a $
    use0 𝓛 (raw (fact 𝓤 (◌≡◌ {A = Option R.Denot} None None))) (fact_i 𝓤 (◌≡◌ {A = Option R.Denot} None None) (emp 𝓤) refl) $ nothing ! $ nothing ! $ fjoin ! $ nothing ! $ fjoin ! $ keep ! (4 ∷ 0 ∷ 2 ∷ 1 ∷ []) $
    by ! (leaves 𝓛 ended hs c z w (record { at = p; alloc = a; value = None }) (tt, (tt, tt)) (tt, (tt, tt)))))))
