-- Which words of a command line are taken, and what is said of those that are refused.
use Rattle.std.specs.Prelude.{◌≡◌, ◌≤◌, ℕ, List, [], ◌∷◌, Some, Bool, true, false, pos, codes}
use Rattle.std.specs.Str.Parse.{IsNumeral, digits_value, without_leading_plus}
use Rattle.std.specs.String.{string_bytes}
use Rattle.clap.specs.Words.{App, Rule, new_app, new_rule, with_rule, fault_of, first_of, one_of, matches_of}
use Rattle.clap.specs.Simple.{on_top}
use Rattle.clap.specs.declared.builder.action.ArgAction.TheVariants.{SetTrue}
use Rattle.clap.specs.declared.builder.value_parser.ValueParser.TheVariants.{Signed}
use Rattle.paris_cli.specs.declared.words.WordsFault.{WordsFault}
use Rattle.paris_cli.specs.declared.words.WordsFault.TheVariants.{Usage, Untold, NotText, NoMemory}
use Rattle.paris_names.specs.declared.limits.TheConstants.{MAX_WORKERS}

-- `--workers N`, with a number from 1 to 16, and 2 where it isn't there
abbrev pub workers_option : Rule
workers_option = record (new_rule (codes "workers")) {
  long = Some (codes "workers");
  value_names = 1;
  defaults = codes "2" ∷ [];
  parser = Some (Signed (pos 1) (pos MAX_WORKERS));
}

-- `--desk`, a flag
abbrev pub desk_option : Rule
desk_option = record (new_rule (codes "desk")) { long = Some (codes "desk"); action = Some SetTrue }

-- the command line: these two alone, and no name of the program before them
abbrev pub command_line : App
command_line = with_rule (with_rule (on_top (λ top. record top { no_binary_name = true }) (new_app (codes "paris_front"))) workers_option) desk_option

-- the command line has no fault in the words
abbrev pub AreTaken : List (List ℕ) → Type 0
AreTaken words = fault_of command_line words ≡ []

-- the word says this number in decimal digits, where a plus may stand first
abbrev pub SaysNumber : List ℕ → ℕ → Type 0
SaysNumber word k = IsNumeral 10 (without_leading_plus word) × (digits_value 10 (without_leading_plus word) ≡ k)

-- the words ask for so many workers, from 1 to 16, by the first value of the option, or by its default
abbrev pub AskFor : List (List ℕ) → ℕ → Type 0
AskFor words k = (word : List ℕ) × (first_of (codes "workers") (matches_of command_line words) ≡ Some word) × SaysNumber word k × (1 ≤ k) × (k ≤ MAX_WORKERS)

abbrev pub switch_word : Bool → List ℕ
switch_word true = codes "true"
switch_word false = codes "false"

-- whether the words ask for a desk, by the value of the flag
abbrev pub AskForDesk : List (List ℕ) → Bool → Type 0
AskForDesk words desk = one_of (codes "desk") (matches_of command_line words) ≡ Some (switch_word desk)

abbrev pub refusal_line : WordsFault → List ℕ
refusal_line (Usage text) = string_bytes text
refusal_line Untold = codes "wrong words\n"
refusal_line NotText = codes "a word is not in UTF-8\n"
refusal_line NoMemory = codes "no memory\n"

abbrev pub refusal_status : WordsFault → ℕ
refusal_status (Usage text) = 2
refusal_status Untold = 2
refusal_status NotText = 2
refusal_status NoMemory = 4
