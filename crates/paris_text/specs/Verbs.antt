-- The first words of commands, the command that a first word is of, and where each of them may stand.
use Rattle.std.specs.Prelude.{ℕ, List, Bool, not, true, Option, None, Some, codes, find, if◌then◌else◌}
use Rattle.std.specs.Str.{bytes_eq}
use Rattle.paris_text.specs.declared.verbs.Verb.{Verb}
use Rattle.paris_text.specs.declared.verbs.Verb.TheVariants as verb
use Rattle.paris_text.specs.declared.verbs.Setting.{Setting}
use Rattle.paris_text.specs.declared.verbs.TheConstants.{VERBS}

-- the first word of each command
unfoldable pub verb_text : Verb → List ℕ
verb_text verb.Set = codes "set"
verb_text verb.Field = codes "field"
verb_text verb.Input = codes "input"
verb_text verb.Insert = codes "insert"
verb_text verb.Delete = codes "delete"
verb_text verb.Replace = codes "replace"
verb_text verb.Take = codes "take"
verb_text verb.Bring = codes "bring"
verb_text verb.Release = codes "release"
verb_text verb.Show = codes "show"
verb_text verb.List = codes "list"
verb_text verb.Faults = codes "faults"
verb_text verb.Settle = codes "settle"
verb_text verb.Paris = codes "paris"

-- the verb that a word is, if it is one
unfoldable pub verb_word : List ℕ → Option Verb
verb_word w = find (λ v. bytes_eq (verb_text v) w) VERBS

-- whether a command with this first word may stand in a line: of a book that sessions share no line settles all rows, and the profile is
-- chosen by the first command alone
abbrev pub allows : Setting → Verb → Bool
allows s verb.Settle = not s.is_shared
allows s verb.Paris = s.is_first
allows s _ = true

-- a verb, where it is one that may stand there
abbrev pub if_allowed : Setting → Option Verb → Option Verb
if_allowed s None = None
if_allowed s (Some v) = if allows s v then Some v else None

-- the verb that a word is, if it is one that may stand there
unfoldable pub verb_in : Setting → List ℕ → Option Verb
verb_in s w = if_allowed s (verb_word w)
