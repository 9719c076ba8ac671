-- Lists of numbers in stretches, and what the numbers of a stretch come to.
use Rattle.std.specs.Prelude.{ℕ, ◌+◌, ◌*◌, ◌/◌, ◌^◌, Bool, not, nat_eq, List, [], ◌∷◌, length, map, cond, min, max, fold}
use Rattle.std.specs.List.{count_by, range_with_len, slice_range}
use Rattle.std.specs.Cmp.Lexicographic.{pointwise}
use Rattle.paris_stretches.specs.declared.summaries.Sum.{Sum}

-- where stretch i begins, and the one before it ends, where so many processors are cut into so many parts
abbrev pub bound : ℕ → ℕ → ℕ → ℕ
bound count parts i = i * count / parts

-- the numbers of stretch i
abbrev pub stretch : ℕ → List ℕ → ℕ → List ℕ
stretch parts numbers i = slice_range numbers (bound (length numbers) parts i) (bound (length numbers) parts (i + 1))

-- whether a number is other than 0
abbrev pub is_other : ℕ → Bool
is_other number = not (nat_eq number 0)

-- how many numbers are other than 0
abbrev pub count_others : List ℕ → ℕ
count_others numbers = count_by is_other numbers

-- the least of some numbers, and 0 where there are none
abbrev pub least : List ℕ → ℕ
least [] = 0
least (number ∷ numbers) = fold min number numbers

-- the greatest of some numbers, and 0 where there are none
abbrev pub greatest : List ℕ → ℕ
greatest numbers = fold max 0 numbers

-- the sum that three words are
abbrev pub sum_number : Sum → ℕ
sum_number words = (words.high * 2 ^ 64 + words.middle) * 2 ^ 64 + words.low

-- whether a number of stretch i of the one list is another than that of the other list
abbrev pub stretch_differs : ℕ → List ℕ → List ℕ → ℕ → Bool
stretch_differs parts xs ys i = not (pointwise nat_eq (stretch parts xs i) (stretch parts ys i))

-- a 1 for each of so many stretches in which two lists differ, and a 0 for each other one
abbrev pub differences : ℕ → List ℕ → List ℕ → List ℕ
differences parts xs ys = map (λ i. cond (stretch_differs parts xs ys i) 1 0) (range_with_len 0 parts)
