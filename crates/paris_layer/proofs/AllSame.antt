-- Lists of bits of which one or more are all the same.
use Rattle.std.proofs.Common.{◌≡◌, ◌&&◌, ◌||◌, ℕ, zero, suc, List, [], ◌∷◌, Bool, true, false, not, cond, length, map, replicate, refl, arith, ap, ◌∙◌, sym}
use Rattle.std.specs.Simd.Lanes.{zip2}
use Rattle.std.proofs.lemmas.Simd.{length-replicate, length-zip2, zip2_splat, zip2_splat_left}
use mathlib.Core.Bool.{beq, false≢true}
use Rattle.paris_plane.specs.Bits.{zip3, differ, sum_bit, carry_bit, borrow_bit}

-- one bit for each 0 and one for each 1
pub by_bits : (f : Bool → Bool) (low high : Bool) (xs : List Bool) → low ≡ f false → high ≡ f true → map (λ b. cond b high low) xs ≡ map f xs
by_bits f low high [] l h = refl
by_bits f low high (true ∷ xs) l h = ap (λ t. t ∷ map (λ b. cond b high low) xs) h ∙ ap (λ t. f true ∷ t) (by_bits f low high xs l h)
by_bits f low high (false ∷ xs) l h = ap (λ t. t ∷ map (λ b. cond b high low) xs) l ∙ ap (λ t. f false ∷ t) (by_bits f low high xs l h)

map_same : (b : Bool) (xs : List Bool) → map (λ x. cond x b b) xs ≡ replicate (length xs) b
map_same b [] = refl
map_same b (true ∷ xs) = ap (λ t. b ∷ t) (map_same b xs)
map_same b (false ∷ xs) = ap (λ t. b ∷ t) (map_same b xs)

map_kept : (xs : List Bool) → map (λ x. cond x true false) xs ≡ xs
map_kept [] = refl
map_kept (true ∷ xs) = ap (λ t. true ∷ t) (map_kept xs)
map_kept (false ∷ xs) = ap (λ t. false ∷ t) (map_kept xs)

map_turned : (xs : List Bool) → map (λ x. cond x false true) xs ≡ map not xs
map_turned [] = refl
map_turned (true ∷ xs) = ap (λ t. false ∷ t) (map_turned xs)
map_turned (false ∷ xs) = ap (λ t. true ∷ t) (map_turned xs)

pub applied_same : (low high : Bool) (n : ℕ) (xs : List Bool) → beq low high ≡ true → n ≡ length xs → replicate n low ≡ map (λ b. cond b high low) xs
applied_same true true n xs e long = ap (λ (k : ℕ). replicate k true) long ∙ sym (map_same true xs)
applied_same false false n xs e long = ap (λ (k : ℕ). replicate k false) long ∙ sym (map_same false xs)
applied_same true false n xs e long = absurd (false≢true e)
applied_same false true n xs e long = absurd (false≢true e)

pub applied_kept : (low high : Bool) (xs : List Bool) → beq low high ≡ false → high ≡ true → xs ≡ map (λ b. cond b high low) xs
applied_kept true true xs other is = absurd (false≢true (sym other))
applied_kept false true xs other is = sym (map_kept xs)
applied_kept l false xs other is = absurd (false≢true is)

pub above : (low high : Bool) → beq low high ≡ false → low ≡ false → high ≡ true
above low true other is = refl
above true false other is = absurd (false≢true (sym is))
above false false other is = absurd (false≢true (sym other))

pub applied_turned : (low high : Bool) (xs : List Bool) → beq low high ≡ false → high ≡ false → map not xs ≡ map (λ b. cond b high low) xs
applied_turned false false xs other is = absurd (false≢true (sym other))
applied_turned true false xs other is = sym (map_turned xs)
applied_turned l true xs other is = absurd (false≢true (sym is))

pub not_filled : (n : ℕ) (b : Bool) → replicate n (not b) ≡ map not (replicate n b)
not_filled zero b = refl
not_filled (suc n) b = ap (λ t. not b ∷ t) (not_filled n b)

-- what an operation makes of bits that are the same everywhere
count_of : {A : Type 0} (n : ℕ) (a : A) (xs : List A) → replicate n a ≡ xs → n ≡ length xs
count_of n a xs is = sym (length-replicate n a) ∙ ap length is

pub zip2_left : {A B C : Type 0} (g : A → B → C) (n : ℕ) (a : A) (xs : List A) (ys : List B) → replicate n a ≡ xs → length xs ≡ length ys → zip2 g xs ys ≡ map (g a) ys
zip2_left g n a xs ys is same = ap (λ l. zip2 g l ys) (sym is) ∙ zip2_splat_left g a n ys (sym (count_of n a xs is ∙ same))

pub zip2_right : {A B C : Type 0} (g : A → B → C) (n : ℕ) (b : B) (xs : List A) (ys : List B) → replicate n b ≡ ys → length xs ≡ length ys → zip2 g xs ys ≡ map (λ x. g x b) xs
zip2_right g n b xs ys is same = ap (λ l. zip2 g xs l) (sym is) ∙ zip2_splat g xs n b (same ∙ sym (count_of n b ys is))

map_filled : {A B : Type 0} (g : A → B) (n : ℕ) (a : A) → map g (replicate n a) ≡ replicate n (g a)
map_filled g zero a = refl
map_filled g (suc n) a = ap (λ t. g a ∷ t) (map_filled g n a)

pub zip2_same : {A B C : Type 0} (g : A → B → C) (n m : ℕ) (a : A) (b : B) (xs : List A) (ys : List B) → replicate n a ≡ xs → replicate m b ≡ ys → length xs ≡ length ys → replicate n (g a b) ≡ zip2 g xs ys
zip2_same g n m a b xs ys is_xs is_ys same =
    sym (map_filled (λ x. g x b) n a) ∙ ap (map (λ x. g x b)) is_xs ∙ sym (zip2_right g m b xs ys is_ys same)

applied_map : {B C D : Type 0} (g : B → C → D) (ys : List B) (zs : List C) → zip2 (λ h z. h z) (map g ys) zs ≡ zip2 g ys zs
applied_map g [] zs = refl
applied_map g (y ∷ ys) [] = refl
applied_map g (y ∷ ys) (z ∷ zs) = ap (λ t. g y z ∷ t) (applied_map g ys zs)

pub zip3_left : {A B C D : Type 0} (g : A → B → C → D) (n : ℕ) (a : A) (xs : List A) (ys : List B) (zs : List C) → replicate n a ≡ xs → length xs ≡ length ys → zip3 g xs ys zs ≡ zip2 (g a) ys zs
unfolding zip3
zip3_left g n a xs ys zs is same = ap (λ l. zip2 (λ h z. h z) l zs) (zip2_left g n a xs ys is same) ∙ applied_map (g a) ys zs

pub zip3_middle : {A B C D : Type 0} (g : A → B → C → D) (n : ℕ) (b : B) (xs : List A) (ys : List B) (zs : List C) → replicate n b ≡ ys → length xs ≡ length ys → zip3 g xs ys zs ≡ zip2 (λ x z. g x b z) xs zs
unfolding zip3
zip3_middle g n b xs ys zs is same = ap (λ l. zip2 (λ h z. h z) l zs) (zip2_right g n b xs ys is same) ∙ applied_map (λ x z. g x b z) xs zs

map_zip2 : {A B C D : Type 0} (g : A → B → C) (h : C → D) (xs : List A) (ys : List B) → map h (zip2 g xs ys) ≡ zip2 (λ x y. h (g x y)) xs ys
map_zip2 g h [] ys = refl
map_zip2 g h (x ∷ xs) [] = refl
map_zip2 g h (x ∷ xs) (y ∷ ys) = ap (λ t. h (g x y) ∷ t) (map_zip2 g h xs ys)

pub zip3_right : {A B C D : Type 0} (g : A → B → C → D) (n : ℕ) (c : C) (xs : List A) (ys : List B) (zs : List C) → replicate n c ≡ zs → length xs ≡ length ys → length xs ≡ length zs → zip3 g xs ys zs ≡ zip2 (λ x y. g x y c) xs ys
unfolding zip3
zip3_right g n c xs ys zs is same same' =
    zip2_right (λ h z. h z) n c (zip2 g xs ys) zs is (length-zip2 g xs ys same ∙ same') ∙ map_zip2 g (λ h. h c) xs ys

pub zip3_same : {A B C D : Type 0} (g : A → B → C → D) (n m k : ℕ) (a : A) (b : B) (c : C) (xs : List A) (ys : List B) (zs : List C) → replicate n a ≡ xs → replicate m b ≡ ys → replicate k c ≡ zs → length xs ≡ length ys → length xs ≡ length zs → replicate n (g a b c) ≡ zip3 g xs ys zs
zip3_same g n m k a b c xs ys zs is_xs is_ys is_zs same same' =
    zip2_same (λ x y. g x y c) n m a b xs ys is_xs is_ys same ∙ sym (zip3_right g k c xs ys zs is_zs same same')

-- two operations that make the same of each two bits
pub zip2_alike : (f g : Bool → Bool → Bool) (xs ys : List Bool) → ((a b : Bool) → f a b ≡ g a b) → zip2 f xs ys ≡ zip2 g xs ys
zip2_alike f g [] ys e = refl
zip2_alike f g (x ∷ xs) [] e = refl
zip2_alike f g (x ∷ xs) (y ∷ ys) e = ap (λ h. h ∷ zip2 f xs ys) (e x y) ∙ ap (λ t. g x y ∷ t) (zip2_alike f g xs ys e)

pub not_zip2 : (f g : Bool → Bool → Bool) (xs ys : List Bool) → ((a b : Bool) → not (f a b) ≡ g a b) → map not (zip2 f xs ys) ≡ zip2 g xs ys
not_zip2 f g xs ys e = map_zip2 f not xs ys ∙ zip2_alike (λ a b. not (f a b)) g xs ys e

pub zip2_turned : {A B C : Type 0} (g : A → B → C) (xs : List A) (ys : List B) → zip2 g xs ys ≡ zip2 (λ y x. g x y) ys xs
zip2_turned g [] [] = refl
zip2_turned g [] (y ∷ ys) = refl
zip2_turned g (x ∷ xs) [] = refl
zip2_turned g (x ∷ xs) (y ∷ ys) = ap (λ t. g x y ∷ t) (zip2_turned g xs ys)

-- a selection under a mask that is the same bit throughout
first_of : (xs ys : List Bool) → length xs ≡ length ys → zip2 (λ x y. x) xs ys ≡ xs
first_of [] ys e = refl
first_of (x ∷ xs) [] e = absurd (omega (arith, e))
first_of (x ∷ xs) (y ∷ ys) e = ap (λ t. x ∷ t) (first_of xs ys (omega (arith, e)))

second_of : (xs ys : List Bool) → length xs ≡ length ys → zip2 (λ x y. y) xs ys ≡ ys
second_of [] [] e = refl
second_of [] (y ∷ ys) e = absurd (omega (arith, e))
second_of (x ∷ xs) [] e = absurd (omega (arith, e))
second_of (x ∷ xs) (y ∷ ys) e = ap (λ t. y ∷ t) (second_of xs ys (omega (arith, e)))

pub all_chosen : (xs ys ms : List Bool) (b : Bool) (n : ℕ) → replicate n b ≡ ms → b ≡ true → length xs ≡ length ys → length xs ≡ length ms → ys ≡ zip3 {A = Bool} {B = Bool} {C = Bool} {D = Bool} (λ x y m. cond m y x) xs ys ms
all_chosen xs ys ms b n is on e h =
    sym (second_of xs ys e) ∙ ap (λ m. zip2 (λ x y. cond m y x) xs ys) (sym on) ∙ sym (zip3_right (λ x y m. cond m y x) n b xs ys ms is e h)

pub none_chosen : (xs ys ms : List Bool) (b : Bool) (n : ℕ) → replicate n b ≡ ms → b ≡ false → length xs ≡ length ys → length xs ≡ length ms → xs ≡ zip3 {A = Bool} {B = Bool} {C = Bool} {D = Bool} (λ x y m. cond m y x) xs ys ms
none_chosen xs ys ms b n is off e h =
    sym (first_of xs ys e) ∙ ap (λ m. zip2 (λ x y. cond m y x) xs ys) (sym off) ∙ sym (zip3_right (λ x y m. cond m y x) n b xs ys ms is e h)

turned_differ : (a b : Bool) → not (differ a b) ≡ differ (differ true a) b
turned_differ true true = refl
turned_differ true false = refl
turned_differ false true = refl
turned_differ false false = refl

-- the steps of sums and differences beside a bit that is the same everywhere
pub sum_plain : (bit : Bool) (xs ys : List Bool) → bit ≡ false → zip2 differ xs ys ≡ zip2 (sum_bit bit) xs ys
unfolding sum_bit
sum_plain bit xs ys is = zip2_alike differ (λ x y. differ (differ false x) y) xs ys (λ a b. refl) ∙ ap (λ t. zip2 (λ x y. differ (differ t x) y) xs ys) (sym is)

pub sum_turned : (bit : Bool) (xs ys : List Bool) → bit ≡ true → map not (zip2 differ xs ys) ≡ zip2 (sum_bit bit) xs ys
unfolding sum_bit
sum_turned bit xs ys is = not_zip2 differ (λ x y. differ (differ true x) y) xs ys turned_differ ∙ ap (λ t. zip2 (λ x y. differ (differ t x) y) xs ys) (sym is)

carry_none : (a b : Bool) → (a && b) ≡ carry_bit false a b
unfolding carry_bit
carry_none true true = refl
carry_none true false = refl
carry_none false true = refl
carry_none false false = refl

pub carry_plain : (bit : Bool) (xs ys : List Bool) → bit ≡ false → zip2 (λ a b. a && b) xs ys ≡ zip2 (carry_bit bit) xs ys
carry_plain bit xs ys is = zip2_alike (λ a b. a && b) (carry_bit false) xs ys carry_none ∙ ap (λ t. zip2 (carry_bit t) xs ys) (sym is)

carry_all : (a b : Bool) → (a || b) ≡ carry_bit true a b
unfolding carry_bit
carry_all true true = refl
carry_all true false = refl
carry_all false true = refl
carry_all false false = refl

pub carry_full : (bit : Bool) (xs ys : List Bool) → bit ≡ true → zip2 (λ a b. a || b) xs ys ≡ zip2 (carry_bit bit) xs ys
carry_full bit xs ys is = zip2_alike (λ a b. a || b) (carry_bit true) xs ys carry_all ∙ ap (λ t. zip2 (carry_bit t) xs ys) (sym is)

from_none : (a b : Bool) → (b || a) ≡ borrow_bit b false a
unfolding borrow_bit
from_none true true = refl
from_none true false = refl
from_none false true = refl
from_none false false = refl

pub borrow_from_none : (bit : Bool) (ys bs : List Bool) → bit ≡ false → zip2 (λ a b. a || b) bs ys ≡ zip2 (λ y b. borrow_bit b bit y) ys bs
borrow_from_none bit ys bs is =
    zip2_turned (λ a b. a || b) bs ys ∙ zip2_alike (λ a b. b || a) (λ y b. borrow_bit b false y) ys bs from_none ∙ ap (λ t. zip2 (λ y b. borrow_bit b t y) ys bs) (sym is)

from_all : (a b : Bool) → (b && a) ≡ borrow_bit b true a
unfolding borrow_bit
from_all true true = refl
from_all true false = refl
from_all false true = refl
from_all false false = refl

pub borrow_from_all : (bit : Bool) (ys bs : List Bool) → bit ≡ true → zip2 (λ a b. a && b) bs ys ≡ zip2 (λ y b. borrow_bit b bit y) ys bs
borrow_from_all bit ys bs is =
    zip2_turned (λ a b. a && b) bs ys ∙ zip2_alike (λ a b. b && a) (λ y b. borrow_bit b true y) ys bs from_all ∙ ap (λ t. zip2 (λ y b. borrow_bit b t y) ys bs) (sym is)

with_none : (a b : Bool) → cond a false b ≡ borrow_bit false a b
unfolding borrow_bit
with_none true true = refl
with_none true false = refl
with_none false true = refl
with_none false false = refl

pub borrow_with_none : (bit : Bool) (xs ys : List Bool) → bit ≡ false → zip2 (λ y x. cond x false y) ys xs ≡ zip2 (borrow_bit bit) xs ys
borrow_with_none bit xs ys is =
    zip2_turned (λ y x. cond x false y) ys xs ∙ zip2_alike (λ x y. cond x false y) (borrow_bit false) xs ys with_none ∙ ap (λ t. zip2 (borrow_bit t) xs ys) (sym is)

with_all : (a b : Bool) → not (cond b false a) ≡ borrow_bit true a b
unfolding borrow_bit
with_all true true = refl
with_all true false = refl
with_all false true = refl
with_all false false = refl

pub borrow_with_all : (bit : Bool) (xs ys : List Bool) → bit ≡ true → map not (zip2 (λ x y. cond y false x) xs ys) ≡ zip2 (borrow_bit bit) xs ys
borrow_with_all bit xs ys is = not_zip2 (λ x y. cond y false x) (borrow_bit true) xs ys with_all ∙ ap (λ t. zip2 (borrow_bit t) xs ys) (sym is)

-- three bits of which one is the same everywhere, wherever it stands
pub sum_second : (a b c : Bool) → sum_bit a b c ≡ sum_bit b a c
unfolding sum_bit
sum_second true true true = refl
sum_second true true false = refl
sum_second true false true = refl
sum_second true false false = refl
sum_second false true true = refl
sum_second false true false = refl
sum_second false false true = refl
sum_second false false false = refl

pub sum_third : (a b c : Bool) → sum_bit a b c ≡ sum_bit c a b
unfolding sum_bit
sum_third true true true = refl
sum_third true true false = refl
sum_third true false true = refl
sum_third true false false = refl
sum_third false true true = refl
sum_third false true false = refl
sum_third false false true = refl
sum_third false false false = refl

pub carry_second : (a b c : Bool) → carry_bit a b c ≡ carry_bit b a c
unfolding carry_bit
carry_second true true true = refl
carry_second true true false = refl
carry_second true false true = refl
carry_second true false false = refl
carry_second false true true = refl
carry_second false true false = refl
carry_second false false true = refl
carry_second false false false = refl

pub carry_third : (a b c : Bool) → carry_bit a b c ≡ carry_bit c a b
unfolding carry_bit
carry_third true true true = refl
carry_third true true false = refl
carry_third true false true = refl
carry_third true false false = refl
carry_third false true true = refl
carry_third false true false = refl
carry_third false false true = refl
carry_third false false false = refl

pub borrow_turned : (a b c : Bool) → borrow_bit a b c ≡ borrow_bit c b a
unfolding borrow_bit
borrow_turned true true true = refl
borrow_turned true true false = refl
borrow_turned true false true = refl
borrow_turned true false false = refl
borrow_turned false true true = refl
borrow_turned false true false = refl
borrow_turned false false true = refl
borrow_turned false false false = refl

-- what is put in place of the carries or the borrows
pub carry_in_place : (bit : Bool) (xs cs : List Bool) → zip2 (carry_bit bit) cs xs ≡ zip2 (carry_bit bit) xs cs
carry_in_place bit xs cs =
    zip2_turned (carry_bit bit) cs xs ∙ zip2_alike (λ x c. carry_bit bit c x) (carry_bit bit) xs cs (λ x c. carry_third bit c x ∙ carry_second x bit c)

pub borrow_in_place : (bit : Bool) (xs bs : List Bool) → zip2 (borrow_bit bit) xs bs ≡ zip2 (λ x b. borrow_bit b x bit) xs bs
borrow_in_place bit xs bs = zip2_alike (borrow_bit bit) (λ x b. borrow_bit b x bit) xs bs (λ x b. borrow_turned bit x b)

pub turned_and : (bs xs : List Bool) → zip2 (λ a b. a && b) (map not bs) xs ≡ zip2 (λ x b. cond b false x) xs bs
turned_and [] [] = refl
turned_and [] (x ∷ xs) = refl
turned_and (true ∷ bs) [] = refl
turned_and (false ∷ bs) [] = refl
turned_and (true ∷ bs) (x ∷ xs) = ap (λ t. false ∷ t) (turned_and bs xs)
turned_and (false ∷ bs) (x ∷ xs) = ap (λ t. x ∷ t) (turned_and bs xs)
