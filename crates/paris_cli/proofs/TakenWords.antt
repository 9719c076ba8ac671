-- What a parse by the program's command line says of the words.
use Rattle.std.proofs.Common.{◌≡◌, ◌⊎◌, ◌∙◌, ℕ, List, [], Option, Some, None, Bool, true, false, refl, ap, ap₂, subst, inl, inr, codes}
use Rattle.std.specs.Prelude.{option_map, unwrap_or}
use Rattle.std.specs.Borrow.{Bor}
use Rattle.clap.specs.Words.{App, AddsArg, HasKind, HasMatchesOf, IsAmong, Kinds, app_of, fault_of, first_of, first_value, found_of, is_simple_and_free, kind_of, matches_of, new_app, one_of, one_text, rows_of, rule_of, with_rule}
use Rattle.clap.specs.Simple.{is_simple as has_matches}
use Rattle.clap.specs.Simple.{on_top}
use Rattle.clap.specs.declared.builder.arg.Arg.{Arg}
use Rattle.clap.specs.declared.builder.command.Command.{Command}
use Rattle.clap.specs.declared.error.Error.{Error}
use Rattle.clap.specs.declared.parser.matches.ArgMatches.{ArgMatches}
use Rattle.clap.specs.declared.error.kind.ErrorKind.TheVariants.{OutOfMemory}
use Rattle.clap.proofs.OnLiterals.{clap_on_literals}
use Rattle.clap.proofs.WalkLemmas.{first_value-rows, one_text-rows}
use Rattle.paris_cli.specs.Words.{AreTaken, command_line, desk_option, switch_word, workers_option}

pub is_simple : is_simple_and_free command_line ≡ true
unfolding clap_on_literals
is_simple = refl

-- a command with the options added is the command line
pub command_is : (old mid new : Command) (workers desk : Arg) → AddsArg old workers mid → AddsArg mid desk new → workers.global ≡ false → desk.global ≡ false
    → app_of old ≡ on_top (λ top. record top { no_binary_name = true }) (new_app (codes "paris_front")) → rule_of workers ≡ workers_option → rule_of desk ≡ desk_option
    → app_of new ≡ command_line
command_is old mid new workers desk first second here there app rule flag =
    second.shape there ∙ ap₂ with_rule (first.shape here ∙ ap₂ with_rule app rule) flag

pub words_taken : (a : App) (words : List (List ℕ)) → a ≡ command_line → (is_simple_and_free a ≡ true → fault_of a words ≡ []) → AreTaken words
words_taken a words same kinds = let P : App → Type 0 = λ b. is_simple_and_free b ≡ true → fault_of b words ≡ [] in (subst P same kinds) is_simple

pub words_untaken : (a : App) (words : List (List ℕ)) (e : Error) → a ≡ command_line → (is_simple_and_free a ≡ true → HasKind (fault_of a words) e)
    → (kind_of e ≡ OutOfMemory) ⊎ (AreTaken words → ⊥)
words_untaken a words e same kinds =
    let P : App → Type 0 = λ b. is_simple_and_free b ≡ true → HasKind (fault_of b words) e in
    elim ((subst P same kinds) is_simple) [
      | inl none ↦ inl none
      | inr among ↦ inr (λ taken. let Q : Kinds → Type 0 = λ ks. IsAmong (kind_of e) ks in subst Q taken among)
    ]

line_has_matches : has_matches command_line ≡ true
unfolding clap_on_literals
line_has_matches = refl

-- the word that a parse found is the one that the definitions give
pub word_found : (a : App) (words : List (List ℕ)) (m : ArgMatches) (found : Option (Bor (List ℕ))) (other : Bor (List ℕ)) (word : List ℕ) → a ≡ command_line
    → HasMatchesOf a words m → option_map (λ s. s.now) found ≡ first_value (found_of m) (codes "workers")
    → first_of (codes "workers") (matches_of command_line words) ≡ Some word → (unwrap_or found other).now ≡ word
word_found a words m found other word same matches got first =
    let P : App → Type 0 = λ b. has_matches b ≡ true → rows_of (found_of m) ≡ matches_of b words in
    let rows : rows_of (found_of m) ≡ matches_of command_line words = (subst P same (λ h. (matches h).0)) line_has_matches in
    of_some found (got ∙ first_value-rows (found_of m) (codes "workers") ∙ ap (first_of (codes "workers")) rows ∙ first)
  where
    of_some : (o : Option (Bor (List ℕ))) → option_map (λ s. s.now) o ≡ Some word → (unwrap_or o other).now ≡ word
    of_some None h = cc
    of_some (Some s) h = ap (λ (x : Option (List ℕ)). unwrap_or x []) h

-- the flag that a parse found is the one that the definitions give
pub flag_found : (a : App) (words : List (List ℕ)) (m : ArgMatches) (found desk : Bool) → a ≡ command_line → HasMatchesOf a words m
    → (one_text (found_of m) (codes "desk") ≡ Some (codes "true") → found ≡ true)
    → (one_text (found_of m) (codes "desk") ≡ Some (codes "false") → found ≡ false)
    → one_of (codes "desk") (matches_of command_line words) ≡ Some (switch_word desk) → found ≡ desk
flag_found a words m found desk same matches is_true is_false said = of_flag desk (one_text-rows (found_of m) (codes "desk") ∙ ap (one_of (codes "desk")) rows ∙ said)
  where
    rows : rows_of (found_of m) ≡ matches_of command_line words
    rows = let P : App → Type 0 = λ b. has_matches b ≡ true → rows_of (found_of m) ≡ matches_of b words in (subst P same (λ h. (matches h).0)) line_has_matches

    of_flag : (b : Bool) → one_text (found_of m) (codes "desk") ≡ Some (switch_word b) → found ≡ b
    of_flag true is = is_true is
    of_flag false is = is_false is

-- a desk is asked for, or it isn't
pub not_both : (desk : Bool) → desk ≡ true → desk ≡ false → ⊥
not_both desk here there = cc
