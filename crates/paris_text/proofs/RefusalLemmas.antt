-- A reader's refusal is the column at which reading stops.
use Rattle.std.proofs.Common.{◌≡◌, ℕ, List, Result, Ok, Err, refl, ◌∙◌, ap}
use Rattle.std.specs.Prelude.{IfOk, IfErr}
use Rattle.std.specs.Result.{IsErrAnd}
use Rattle.std.proofs.lemmas.Result.{err_from_is_err_and}
use Rattle.paris_names.specs.declared.faults.Fault.{Fault}
use Rattle.paris_names.specs.declared.faults.Fault.TheVariants.{Syntax}
use Rattle.paris_text.specs.declared.reader.Syntax as reader
use Rattle.paris_text.specs.Reading.{Gives, Place, place}
use Rattle.paris_text.specs.CommandReading.{IsRefusal, GivesIfRoom, verb_at, rest_at, command_at, command_in}
use Rattle.paris_text.specs.declared.verbs.Verb.{Verb}
use Rattle.paris_text.specs.declared.verbs.Setting.{Setting}
use Rattle.paris_text.specs.Words.{words}
use Rattle.paris_text.proofs.PlaceLemmas.{place_start}

-- the column at which reading stops is given as a fault
pub column_given : {X Y : Type 0} (view : X → Y) (r : Result X Fault) (read : Result Y ℕ) (e : ℕ) → IsErrAnd r (λ fault. fault ≡ Syntax e) → read ≡ Err e → GivesIfRoom view r read
column_given view r read e given stops =
    let p = err_from_is_err_and r given in
    rw (p.1, stops) p.2

pub given_ok : {X : Type 0} (r : Result X reader.Syntax) (read : Result X ℕ) (x : X) → Gives (λ y. y) r read → r ≡ Ok x → read ≡ Ok x
given_ok (Ok y) read x h e = let same : y ≡ x = cc in h ∙ ap Ok same
given_ok (Err f) read x h e = cc

pub given_err : {X : Type 0} (r : Result X reader.Syntax) (read : Result X ℕ) (f : reader.Syntax) → Gives (λ y. y) r read → r ≡ Err f → read ≡ Err f.0
given_err (Ok y) read f h e = cc
given_err (Err g) read f h e = let same : g ≡ f = cc in rw (← same) h

pub room_ok : {X : Type 0} (r : Result X Fault) (read : Result X ℕ) → GivesIfRoom (λ x. x) r read → IfOk r (λ x. read ≡ Ok x)
room_ok (Ok x) read h = h
room_ok (Err fault) read h = tt

pub room_err : {X : Type 0} (r : Result X Fault) (read : Result X ℕ) → GivesIfRoom (λ x. x) r read → IfErr r (λ fault. IsRefusal read fault)
room_err (Ok x) read h = tt
room_err (Err fault) read h = h

-- a line's command is what its words behind the verb are
pub verb_reads : (s : Setting) (line : List ℕ) (v : Verb) (p : Place) → verb_at s (place line 0) ≡ Ok (v, p) → command_in s line ≡ rest_at v p
unfolding command_in command_at
verb_reads s line v p h =
    let first : verb_at s (1, words line) ≡ Ok (v, p) = rw place_start at h in
    rw first refl

pub no_verb : (s : Setting) (line : List ℕ) (e : ℕ) → verb_at s (place line 0) ≡ Err e → command_in s line ≡ Err e
unfolding command_in command_at
no_verb s line e h =
    let first : verb_at s (1, words line) ≡ Err e = rw place_start at h in
    rw first refl
