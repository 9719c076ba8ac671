-- Twice as many places are two runs, one after the other.
use Rattle.std.proofs.Common.{◌≡◌, ℕ, zero, suc, ◌+◌, ◌*◌, Bool, true, false, ◌||◌, cond, List, [], ◌∷◌, ◌++◌, append_assoc, arith, ap, ◌∙◌, sym, refl}
use Rattle.std.specs.Prelude.{All}
use Rattle.std.proofs.lemmas.List.Elements.{All-append, All-nil}
use Rattle.paris_geometry.specs.declared.direction.Direction.{Direction}
use Rattle.paris_geometry.specs.declared.direction.Direction.TheVariants.{Upward, Downward}
use Rattle.paris_scan.specs.Runs.{before, begun_within, segment_run}

before_zero : (d : Direction) (s v : ℕ) → before d (0 * s) v ≡ v
before_zero Upward s v = omega arith
before_zero Downward s v = omega arith

before_suc : (d : Direction) (s m v : ℕ) → before d (m * s) (before d s v) ≡ before d (suc m * s) v
before_suc Upward s m v = (let e : suc m * s ≡ m * s + s = omega arith in omega arith)
before_suc Downward s m v = (let e : suc m * s ≡ m * s + s = omega arith in omega arith)

append_nil : (xs : List ℕ) → xs ≡ xs ++ []
append_nil [] = refl
append_nil (x ∷ xs) = ap (λ l. x ∷ l) (append_nil xs)

-- the two laws by the test at v
cut : (b c : Bool) (o x y : List ℕ) → cond b o (cond c x (y ++ x) ++ o) ≡ cond (b || c) (cond b o (x ++ o)) (y ++ cond b o (x ++ o))
cut true c o x y = refl
cut false true o x y = refl
cut false false o x y = append_assoc y x o

pub run_split : (f : ℕ → Bool) (own : ℕ → List ℕ) (d : Direction) (s k m v : ℕ) → segment_run f own d s (m + k) v ≡ cond (begun_within f d s m v) (segment_run f own d s m v) (segment_run f own d s k (before d (m * s) v) ++ segment_run f own d s m v)
unfolding segment_run begun_within
run_split f own d s k zero v =
    (let e : 0 + k ≡ k = omega arith in ap (λ j. segment_run f own d s j v) e)
    ∙ ap (segment_run f own d s k) (sym (before_zero d s v)) ∙ append_nil (segment_run f own d s k (before d (0 * s) v))
run_split f own d s k (suc m) v =
    let u : ℕ = before d s v in
    (let e : suc m + k ≡ suc (m + k) = omega arith in ap (λ j. segment_run f own d s j v) e)
    ∙ ap (λ r. cond (f v) (own v) (r ++ own v)) (run_split f own d s k m u)
    ∙ cut (f v) (begun_within f d s m u) (own v) (segment_run f own d s m u) (segment_run f own d s k (before d (m * s) u))
    ∙ ap (λ w. cond (begun_within f d s (suc m) v) (segment_run f own d s (suc m) v) (segment_run f own d s k w ++ segment_run f own d s (suc m) v)) (before_suc d s m v)

or_assoc : (a b c : Bool) → (a || (b || c)) ≡ ((a || b) || c)
or_assoc true b c = refl
or_assoc false b c = refl

pub begun_split : (f : ℕ → Bool) (d : Direction) (s k m v : ℕ) → begun_within f d s (m + k) v ≡ (begun_within f d s m v || begun_within f d s k (before d (m * s) v))
unfolding begun_within
begun_split f d s k zero v =
    (let e : 0 + k ≡ k = omega arith in ap (λ j. begun_within f d s j v) e) ∙ ap (begun_within f d s k) (sym (before_zero d s v))
begun_split f d s k (suc m) v =
    let u : ℕ = before d s v in
    (let e : suc m + k ≡ suc (m + k) = omega arith in ap (λ j. begun_within f d s j v) e)
    ∙ ap (λ b. f v || b) (begun_split f d s k m u)
    ∙ or_assoc (f v) (begun_within f d s m u) (begun_within f d s k (before d (m * s) u))
    ∙ ap (λ w. begun_within f d s (suc m) v || begun_within f d s k w) (before_suc d s m v)

-- where a segment began within m places, more places change nothing
pub run_stays : (f : ℕ → Bool) (own : ℕ → List ℕ) (d : Direction) (s k m v : ℕ) → begun_within f d s m v ≡ true → segment_run f own d s (m + k) v ≡ segment_run f own d s m v
run_stays f own d s k m v e = run_split f own d s k m v ∙ ap (λ b. cond b (segment_run f own d s m v) (segment_run f own d s k (before d (m * s) v) ++ segment_run f own d s m v)) e

-- all that a run holds is some place's own
all_cond : (P : ℕ → Type 0) (b : Bool) (o x : List ℕ) → All P o → All P x → All P (cond b o (x ++ o))
all_cond P true o x a b = a
all_cond P false o x a b = All-append P x o b a

pub run_all : (P : ℕ → Type 0) (f : ℕ → Bool) (own : ℕ → List ℕ) (d : Direction) (s k v : ℕ) → ((u : ℕ) → All P (own u)) → All P (segment_run f own d s k v)
unfolding segment_run
run_all P f own d s zero v each = All-nil P
run_all P f own d s (suc k) v each = all_cond P (f v) (own v) (segment_run f own d s k (before d s v)) (each v) (run_all P f own d s k (before d s v) each)

-- one place
one_cond : (b : Bool) (o : List ℕ) → cond b o ([] ++ o) ≡ o
one_cond true o = refl
one_cond false o = refl

pub run_one : (f : ℕ → Bool) (own : ℕ → List ℕ) (d : Direction) (s v : ℕ) → segment_run f own d s 1 v ≡ own v
unfolding segment_run
run_one f own d s v = one_cond (f v) (own v)

or_false : (b : Bool) → (b || false) ≡ b
or_false true = refl
or_false false = refl

pub begun_one : (f : ℕ → Bool) (d : Direction) (s v : ℕ) → begun_within f d s 1 v ≡ f v
unfolding begun_within
begun_one f d s v = or_false (f v)
