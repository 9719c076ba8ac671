use Rattle.std.proofs.Common.{sym, subst}
use Rattle.std.specs.Prelude.{Result, Ok, Err, OnOk, IfErr}
use Rattle.paris_edits.specs.declared.edits.Edit.TheVariants.{Input}
use Rattle.paris_events.specs.CutOff.{IsAtRest}
use Rattle.paris_events.specs.Edits.{edited_by}
use Rattle.paris_events.proofs.Rests.{off_off}
use Rattle.paris_book.proofs.book.Book.set_words_counted.Goals as goal

either_way : {T E : Type 0} (r : Result T E) (P : Type 0) (Q : E → Type 0) (R : Type 0) → (P → R) → ((e : E) → Q e → R) → OnOk r P → IfErr r Q → R
either_way (Ok x) P Q R f g ok err = f ok
either_way (Err e) P Q R f g ok err = g e err

pub invariant_of-self : goal.invariant_of-self
invariant_of-self c =
    either_way c.set_words.result _ _ (IsAtRest c.set_words.new.self)
    (λ ok. subst IsAtRest (sym ok.1) (off_off (edited_by c.self.inside.loose (Input c.args.key c.args.from c.args.words.now))))
    (λ fault err. subst IsAtRest (sym err.0) c.self.invariant)
    c.set_words.ensures.ok c.set_words.ensures.err
