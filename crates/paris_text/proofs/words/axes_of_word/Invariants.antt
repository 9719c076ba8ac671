use Rattle.std.proofs.Common.{◌≡◌, ◌++◌, length, drop, option_map, nat_eq}
use Rattle.std.specs.List.{slice_split}
use Rattle.paris_text.specs.Words.{numbers_of_words, axes_word}
use Rattle.paris_text.proofs.words.axes_of_word.Given as goal

abbrev pub invariant-loop-part : goal.invariant-loop-part
invariant-loop-part l =
    (goal.iterator-loop-part).can_next l.part-iterator
    × (goal.iterator-loop-part).is_finite l.part-iterator
    × (axes_word l.word ≡ option_map (λ vs. l.axes.items ++ vs) (numbers_of_words (drop (length l.yielded) (slice_split (λ b. nat_eq b 120) l.word))))
