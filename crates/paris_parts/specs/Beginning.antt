-- What a seat has in hand before anything is done at it, and the profile of a run.
use Rattle.std.specs.Prelude.{◌==◌, ℕ, true, Option, None, Some, List, [], ◌∷◌}
use Rattle.paris_names.specs.declared.profiles.Profile.{Profile}
use Rattle.paris_names.specs.declared.profiles.Profile.TheVariants.{One}
use Rattle.paris_session.specs.Hands.{Hand, asked, empty_hand}
use Rattle.paris_session.specs.declared.asked.Asked.{Asked}
use Rattle.paris_session.specs.declared.asked.Asked.TheVariants.{Chosen}
use Rattle.paris_desk.specs.Seats.{SeatState}

-- a seat begins with an empty hand. The first command at the first seat is the first of all
abbrev pub hand_at : SeatState → Hand
hand_at s = empty_hand (s.number == 0)

-- the profile that is chosen by what a command asks for
abbrev pub chosen_by : Asked → Profile
chosen_by (Chosen profile) = profile
chosen_by _ = One

-- the same by what a line asks for, and by the later lines where it asks for nothing
abbrev pub chosen_or : Profile → Option Asked → Profile
chosen_or later None = later
chosen_or later (Some a) = chosen_by a

-- the profile that lines choose: by the first of them that is not skipped, as the first of a script
abbrev pub profile_of : List (List ℕ) → Profile
profile_of [] = One
profile_of (line ∷ lines) = chosen_or (profile_of lines) (asked true (empty_hand true) line)

-- the profile of a run is the one that its first part chooses
abbrev pub profile_of_run : List (List (List ℕ)) → Profile
profile_of_run [] = One
profile_of_run (part ∷ parts) = profile_of part
