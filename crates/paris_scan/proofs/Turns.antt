-- One turn of a scan by doubling, and its last.
use Rattle.std.proofs.Common.{◌≡◌, ℕ, zero, suc, ◌+◌, ◌-◌, ◌*◌, ◌<◌, ◌≤◌, Bool, true, false, ◌||◌, cond, List, [], ◌++◌, length, get_or, arith, ap, ◌∙◌, sym, subst, refl, eqb}
use Rattle.std.specs.Prelude.{All}
use Rattle.std.specs.Simd.Lanes.{zip2}
use Rattle.std.proofs.lemmas.Simd.{get_or-zip2, length-zip2}
use Rattle.paris_field.specs.Numbers.{bits_everywhere}
use Rattle.paris_field.proofs.Places.{get_or-bits_everywhere, length-bits_everywhere}
use Rattle.std.proofs.lemmas.List.Elements.{All-nil}
use Rattle.paris_geometry.specs.declared.direction.Direction.{Direction}
use Rattle.paris_geometry.specs.declared.direction.Direction.TheVariants.{Upward, Downward}
use Rattle.paris_geometry.specs.Geometry.{stride, axis_length, processor_count, is_geometry, coordinate}
use Rattle.std.proofs.lemmas.Bool.Decides.{nat_tests}
use Rattle.paris_scan.specs.Runs.{begins_run, first_coordinate, before, begun_within, segment_run, StartsLines, Reaches}
use Rattle.paris_scan.proofs.Twice.{run_split, begun_split, run_stays, run_all}
use Rattle.paris_scan.proofs.Reach.{reached, begun_in_line, behind, starts_at}

or_by : (b x y : Bool) → (b ≡ false → x ≡ y) → (b || x) ≡ (b || y)
or_by true x y h = refl
or_by false x y h = h refl

pub before_below : (d : Direction) (by n v : ℕ) → v < n → Reaches d by n v → before d by v < n
before_below Upward by n v h reach = omega arith
before_below Downward by n v h reach = reach

twice : (m : ℕ) → m * 2 ≡ m + m
twice m = omega arith

-- a line that is walked in a direction, and where segments begin on it
pub record Walk (axes : List ℕ) (a : ℕ) (d : Direction) (f : ℕ → Bool) : Type 0 where
  pub sound : is_geometry axes ≡ true
  pub within : a < length axes
  pub starts : StartsLines axes a d f

pub begun_doubled : {axes : List ℕ} {a : ℕ} {d : Direction} {f : ℕ → Bool} → Walk axes a d f → (m by : ℕ) (old moved new : List Bool) (v : ℕ) → by ≡ m * stride axes a → length old ≡ processor_count axes → length moved ≡ processor_count axes → ((u : ℕ) → u < processor_count axes → get_or old u false ≡ begun_within f d (stride axes a) m u) → ((u : ℕ) → u < processor_count axes → Reaches d by (processor_count axes) u → get_or moved u false ≡ get_or old (before d by u) false) → new ≡ zip2 (λ x y. x || y) old moved → v < processor_count axes → get_or new v false ≡ begun_within f d (stride axes a) (m * 2) v
begun_doubled {axes} {a} {d} {f} w m by old moved new v is nold nm olds moves e below =
    let s : ℕ = stride axes a in
    ap (λ l. get_or l v false) e ∙ get_or-zip2 (λ x y. x || y) old moved v false false false (omega arith) (omega arith)
    ∙ ap (λ b. b || get_or moved v false) (olds v below)
    ∙ or_by (begun_within f d s m v) (get_or moved v false) (begun_within f d s m (before d (m * s) v)) (λ none.
    let reach : Reaches d by (processor_count axes) v = subst (λ x. Reaches d x (processor_count axes) v) (sym is) (reached axes a d f m v w.sound w.within w.starts below none) in
    moves v below reach ∙ olds (before d by v) (before_below d by (processor_count axes) v below reach)
    ∙ ap (λ x. begun_within f d s m (before d x v)) is)
    ∙ sym (ap (λ k. begun_within f d s k v) (twice m) ∙ begun_split f d s m m v)

pub cut_shows : (sh : List ℕ → ℕ) (b : Bool) (x : ℕ) (r : List ℕ) → sh [] ≡ 0 → (b ≡ true → x ≡ 0) → (b ≡ false → x ≡ sh r) → x ≡ sh (cond b [] r)
cut_shows sh true x r none t f = t refl ∙ sym none
cut_shows sh false x r none t f = f refl

cut_all : (P : ℕ → Type 0) (b : Bool) (r : List ℕ) → All P r → All P (cond b [] r)
cut_all P true r h = All-nil P
cut_all P false r h = h

cut_append : (b : Bool) (r ys : List ℕ) → cond b [] r ++ ys ≡ cond b ys (r ++ ys)
cut_append true r ys = refl
cut_append false r ys = refl

pub run_doubled : {axes : List ℕ} {a : ℕ} {d : Direction} {f : ℕ → Bool} → Walk axes a d f → (sh : List ℕ → ℕ) (P : ℕ → Type 0) (own : ℕ → List ℕ) (m by : ℕ) (begun : List Bool) (old new : ℕ → ℕ) (v : ℕ) → sh [] ≡ 0 → ((u : ℕ) → All P (own u)) → by ≡ m * stride axes a → ((u : ℕ) → u < processor_count axes → get_or begun u false ≡ begun_within f d (stride axes a) m u)
    → ((u : ℕ) → u < processor_count axes → old u ≡ sh (segment_run f own d (stride axes a) m u))
    → ((xs ys : List ℕ) → All P xs → All P ys
    → ((x : ℕ) → (get_or begun v false ≡ true → x ≡ 0) × (get_or begun v false ≡ false → Reaches d by (processor_count axes) v → x ≡ old (before d by v)) → x ≡ sh xs)
    → old v ≡ sh ys → new v ≡ sh (xs ++ ys))
    → v < processor_count axes → new v ≡ sh (segment_run f own d (stride axes a) (m * 2) v)
run_doubled {axes} {a} {d} {f} w sh P own m by begun old new v none fits is begins olds joined below =
    let s : ℕ = stride axes a in
    let b : Bool = begun_within f d s m v in
    let r : List ℕ = segment_run f own d s m (before d (m * s) v) in
    let ys : List ℕ = segment_run f own d s m v in
    joined (cond b [] r) ys (cut_all P b r (run_all P f own d s m (before d (m * s) v) fits)) (run_all P f own d s m v fits)
    (λ x comes. cut_shows sh b x r none (λ t. comes.0 (begins v below ∙ t)) (λ n.
    let reach : Reaches d by (processor_count axes) v = subst (λ z. Reaches d z (processor_count axes) v) (sym is) (reached axes a d f m v w.sound w.within w.starts below n) in
    comes.1 (begins v below ∙ n) reach ∙ olds (before d by v) (before_below d by (processor_count axes) v below reach)
    ∙ ap (λ z. sh (segment_run f own d s m (before d z v))) is))
    (olds v below)
    ∙ ap sh (cut_append b r ys ∙ sym (ap (λ k. segment_run f own d s k v) (twice m) ∙ run_split f own d s m m v))

-- what is moved on by one place at the end, and cut where a segment begins
pub run_before : {axes : List ℕ} {a : ℕ} {d : Direction} {f : ℕ → Bool} → Walk axes a d f → (sh : List ℕ → ℕ) (own : ℕ → List ℕ) (k by : ℕ) (begins : List Bool) (last : ℕ → ℕ) (v x : ℕ) → sh [] ≡ 0 → by ≡ stride axes a
    → ((u : ℕ) → u < processor_count axes → get_or begins u false ≡ f u)
    → ((u : ℕ) → u < processor_count axes → last u ≡ sh (segment_run f own d (stride axes a) k u))
    → (get_or begins v false ≡ true → x ≡ 0) × (get_or begins v false ≡ false → Reaches d by (processor_count axes) v → x ≡ last (before d by v))
    → v < processor_count axes → x ≡ sh (cond (f v) [] (segment_run f own d (stride axes a) k (before d (stride axes a) v)))
run_before {axes} {a} {d} {f} w sh own k by begins last v x none is starts lasts comes below =
    let s : ℕ = stride axes a in
    cut_shows sh (f v) x (segment_run f own d s k (before d s v)) none (λ t. comes.0 (starts v below ∙ t)) (λ n.
    let b = behind axes a d v w.sound w.within below (starts_at axes a d f v w.starts below n) in
    let reach : Reaches d by (processor_count axes) v = subst (λ z. Reaches d z (processor_count axes) v) (sym is) b.reaches in
    comes.1 (starts v below ∙ n) reach
    ∙ ap (λ z. last (before d z v)) is
    ∙ lasts (before d s v) b.there)

-- as many places as the line has are all that count
pub run_ended : {axes : List ℕ} {a : ℕ} {d : Direction} {f : ℕ → Bool} → Walk axes a d f → (own : ℕ → List ℕ) (m v : ℕ) → axis_length axes a ≤ m → v < processor_count axes → segment_run f own d (stride axes a) m v ≡ segment_run f own d (stride axes a) (axis_length axes a) v
run_ended {axes} {a} {d} {f} w own m v enough below =
    let n : ℕ = axis_length axes a in
    let sum : m ≡ n + (m - n) = omega arith in
    ap (λ k. segment_run f own d (stride axes a) k v) sum
    ∙ run_stays f own d (stride axes a) (m - n) n v (begun_in_line axes a d f v w.sound w.within w.starts below)

-- a run looks at where segments begin among the processors alone
same_cut : (b c : Bool) (o x y : List ℕ) → b ≡ c → (c ≡ false → x ≡ y) → cond b o (x ++ o) ≡ cond c o (y ++ o)
same_cut b true o x y e h = ap (λ t. cond t o (x ++ o)) e
same_cut b false o x y e h = ap (λ t. cond t o (x ++ o)) e ∙ ap (λ l. l ++ o) (h refl)

pub run_same : {axes : List ℕ} {a : ℕ} {d : Direction} {f : ℕ → Bool} → Walk axes a d f → (g : ℕ → Bool) (own : ℕ → List ℕ) (k v : ℕ) → ((u : ℕ) → u < processor_count axes → g u ≡ f u) → v < processor_count axes → segment_run g own d (stride axes a) k v ≡ segment_run f own d (stride axes a) k v
unfolding segment_run
run_same w g own zero v same below = refl
run_same {axes} {a} {d} {f} w g own (suc k) v same below =
    let s : ℕ = stride axes a in
    same_cut (g v) (f v) (own v) (segment_run g own d s k (before d s v)) (segment_run f own d s k (before d s v)) (same v below) (λ n.
    run_same w g own k (before d s v) same (behind axes a d v w.sound w.within below (starts_at axes a d f v w.starts below n)).there)

-- the plane of where lines and segments begin
pub begun_long : (n : ℕ) (edge : ℕ → Bool) (plane segments begun : List Bool) → plane ≡ bits_everywhere n edge → length segments ≡ n → begun ≡ zip2 (λ x y. x || y) plane segments → length begun ≡ n
begun_long n edge plane segments begun is ns e =
    let np : length plane ≡ n = ap length is ∙ length-bits_everywhere n edge in
    ap length e ∙ length-zip2 (λ x y. x || y) plane segments (np ∙ sym ns) ∙ np

pub begun_at : (n v : ℕ) (edge : ℕ → Bool) (plane segments begun : List Bool) → plane ≡ bits_everywhere n edge → length segments ≡ n → begun ≡ zip2 (λ x y. x || y) plane segments → v < n → get_or begun v false ≡ (edge v || get_or segments v false)
begun_at n v edge plane segments begun is ns e h =
    let np : length plane ≡ n = ap length is ∙ length-bits_everywhere n edge in
    ap (λ l. get_or l v false) e ∙ get_or-zip2 (λ x y. x || y) plane segments v false false false (omega arith) (omega arith)
    ∙ ap (λ b. b || get_or segments v false) (ap (λ l. get_or l v false) is ∙ get_or-bits_everywhere n edge v h)

or_first : (b c : Bool) → b ≡ true → (b || c) ≡ true
or_first b c e = ap (λ x. x || c) e

pub starts_line : (axes : List ℕ) (a : ℕ) (d : Direction) (segments : ℕ → Bool) (v : ℕ) → coordinate axes a v ≡ first_coordinate d (axis_length axes a) → begins_run axes a d segments v ≡ true
starts_line axes a d segments v e =
    let t : eqb (coordinate axes a v) (first_coordinate d (axis_length axes a)) ≡ true = grind (arith, nat_tests, e) in
    or_first (eqb (coordinate axes a v) (first_coordinate d (axis_length axes a))) (segments v) t
