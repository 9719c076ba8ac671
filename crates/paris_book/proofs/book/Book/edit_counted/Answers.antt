use Rattle.std.proofs.Common.{sym, subst}
use Rattle.std.specs.Prelude.{Result, Ok, Err, IfOk, IfErr}
use Rattle.paris_events.specs.CutOff.{IsAtRest}
use Rattle.paris_events.specs.Edits.{edited_by}
use Rattle.paris_events.proofs.Rests.{off_off}
use Rattle.paris_book.proofs.book.Book.edit_counted.Goals as goal

either_way : {T E : Type 0} (r : Result T E) (P : T → Type 0) (Q : E → Type 0) (R : Type 0) → ((x : T) → P x → R) → ((e : E) → Q e → R) → IfOk r P → IfErr r Q → R
either_way (Ok x) P Q R f g ok err = f x ok
either_way (Err e) P Q R f g ok err = g e err

pub invariant_of-self : goal.invariant_of-self
invariant_of-self c =
    either_way c.apply.result _ _ (IsAtRest c.apply.new.self)
    (λ answer ok. subst IsAtRest (sym ok.2) (off_off (edited_by c.self.inside.loose c.args.edit.now)))
    (λ fault err. subst IsAtRest (sym err.0) c.self.invariant)
    c.apply.ensures.ok c.apply.ensures.err
