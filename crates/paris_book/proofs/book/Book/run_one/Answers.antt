use Rattle.std.proofs.Common.{sym, subst}
use Rattle.std.specs.Prelude.{Result, Ok, Err, OnOk, OnErr}
use Rattle.paris_events.specs.CutOff.{IsAtRest}
use Rattle.paris_book.proofs.ReadyRuns.{run_stays}
use Rattle.paris_book.proofs.book.Book.run_one.Goals as goal

either_way : {T E : Type 0} (r : Result T E) (P Q R : Type 0) → (P → R) → (Q → R) → OnOk r P → OnErr r Q → R
either_way (Ok x) P Q R f g ok err = f ok
either_way (Err e) P Q R f g ok err = g err

pub invariant_of-self : goal.invariant_of-self
invariant_of-self c =
    either_way c.run_next.result _ _ (IsAtRest c.run_next.new.self)
    (λ ran. subst IsAtRest (sym ran) (run_stays c.self.inside.loose c.self.invariant))
    (λ same. subst IsAtRest (sym same) c.self.invariant)
    c.run_next.ensures.state c.run_next.ensures.err
