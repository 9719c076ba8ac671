use Rattle.std.proofs.Common.{◌≡◌, ◌+◌, length, drop, option_map, nat_eq}
use Rattle.std.specs.List.{slice_split}
use Rattle.paris_text.specs.Words.{numbers_of_words}
use Rattle.paris_text.specs.Room.{axes_room}
use Rattle.paris_text.proofs.words.count_axes.Given as goal

abbrev pub invariant-loop-part : goal.invariant-loop-part
invariant-loop-part l =
    (goal.iterator-loop-part).can_next l.part-iterator
    × (goal.iterator-loop-part).is_finite l.part-iterator
    × (l.count ≡ length l.yielded)
    × (axes_room l.word ≡ option_map (λ vs. l.count + length vs) (numbers_of_words (drop (length l.yielded) (slice_split (λ b. nat_eq b 120) l.word))))
