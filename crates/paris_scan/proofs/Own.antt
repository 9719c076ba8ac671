-- What processors bring to a line, and values that are turned.
use Rattle.std.proofs.Common.{◌≡◌, ℕ, ◌^◌, ◌<◌, Bool, true, false, ◌&&◌, ◌||◌, not, eqb, cond, List, [], ◌∷◌, length, map, arith, ap, ◌∙◌, sym, refl}
use Rattle.std.specs.Prelude.{All, filter}
use Rattle.std.proofs.Math.Nat.{mod-lt}
use Rattle.std.proofs.lemmas.List.Elements.{All-nil, All-cons}
use lib.Pow.{pow_pos}
use Rattle.paris_geometry.specs.declared.direction.Direction.{Direction}
use Rattle.paris_geometry.specs.Geometry.{line, line_until}
use Rattle.paris_model.specs.declared.operators.Inclusion.{Inclusion}
use Rattle.paris_model.specs.Lines.{from_last, is_inclusive, line_values, scan_values, values_where}
use Rattle.paris_model.specs.Store.{everywhere}
use Rattle.paris_field.specs.Fields.{FieldNumbers, operand}
use Rattle.paris_field.specs.Numbers.{has, number_at}
use Rattle.paris_field.proofs.Places.{everywhere_same}
use Rattle.paris_scan.specs.Lines.{of_lines, scanned}
use Rattle.paris_scan.proofs.Added.{map_cond}
use Rattle.paris_scan.specs.Shown.{complement, complement_shown, shown_field}

-- a processor brings the list of its own value, or none
brought : (shows : ℕ → List ℕ → ℕ) (L : ℕ) → shows L [] ≡ 0 → (b : Bool) (x : ℕ) → shows L (x ∷ []) ≡ x → cond b x 0 ≡ shows L (cond b (x ∷ []) [])
brought shows L none true x one = sym one
brought shows L none false x one = sym none

pub own_value : (shows : ℕ → List ℕ → ℕ) (L : ℕ) → shows L [] ≡ 0 → (selected : ℕ → Bool) (value : ℕ → ℕ) (v : ℕ) → shows L (value v ∷ []) ≡ value v → cond (selected v) (value v) 0 ≡ shows L (values_where selected value (v ∷ []))
own_value shows L none selected value v one = brought shows L none (selected v) (value v) one ∙ ap (shows L) (sym (map_cond (selected v) value v))

pub operand_fits : (L : ℕ) (x : FieldNumbers) (v : ℕ) → operand L x v < 2 ^ L
operand_fits L x v = mod-lt _ (pow_pos L)

pub complement_fits : (L x : ℕ) → complement L x < 2 ^ L
complement_fits L x = (let some : 0 < 2 ^ L = pow_pos L in omega arith)

-- what planes show of the operands of selected processors
pub operand_shown : (shows : ℕ → List ℕ → ℕ) (L : ℕ) → shows L [] ≡ 0 → ((x : ℕ) → x < 2 ^ L → shows L (x ∷ []) ≡ x) → (n : ℕ) (selected : List Bool) (x : FieldNumbers) (lows state : List (List Bool)) → length selected ≡ n → length x.numbers ≡ n
    → ((v : ℕ) → v < length x.numbers → number_at lows v ≡ operand L x v)
    → ((v : ℕ) → v < length selected → number_at state v ≡ cond (has selected v) (number_at lows v) 0)
    → (v : ℕ) → v < n → number_at state v ≡ shows L (values_where (has selected) (operand L x) (v ∷ []))
operand_shown shows L none one n selected x lows state ns nx each masked v h =
    masked v (omega (arith, h, ns))
    ∙ ap (λ t. cond (has selected v) t 0) (each v (omega (arith, h, nx)))
    ∙ own_value shows L none (has selected) (operand L x) v (one (operand L x v) (operand_fits L x v))

-- and of their complements
pub complement_brought : (shows : ℕ → List ℕ → ℕ) (L : ℕ) → shows L [] ≡ 0 → ((x : ℕ) → x < 2 ^ L → shows L (x ∷ []) ≡ x) → (n : ℕ) (selected : List Bool) (x : FieldNumbers) (lows state : List (List Bool)) → length selected ≡ n → length x.numbers ≡ n → length lows ≡ L
    → ((v : ℕ) → v < length x.numbers → number_at lows v ≡ operand L x v)
    → ((v : ℕ) → v < length selected → number_at state v ≡ cond (has selected v) (complement (length lows) (number_at lows v)) 0)
    → (v : ℕ) → v < n → number_at state v ≡ shows L (values_where (has selected) (λ u. complement L (operand L x u)) (v ∷ []))
complement_brought shows L none one n selected x lows state ns nx nl each masked v h =
    masked v (omega (arith, h, ns))
    ∙ ap (λ k. cond (has selected v) (complement k (number_at lows v)) 0) nl
    ∙ ap (λ t. cond (has selected v) (complement L t) 0) (each v (omega (arith, h, nx)))
    ∙ own_value shows L none (has selected) (λ u. complement L (operand L x u)) v (one (complement L (operand L x v)) (complement_fits L (operand L x v)))

mapped_twice : (f g : ℕ → ℕ) (us : List ℕ) → map (λ u. f (g u)) us ≡ map f (map g us)
mapped_twice f g [] = refl
mapped_twice f g (u ∷ us) = ap (λ l. f (g u) ∷ l) (mapped_twice f g us)

values_mapped : (f : ℕ → ℕ) (selected : ℕ → Bool) (value : ℕ → ℕ) (us : List ℕ) → values_where selected (λ u. f (value u)) us ≡ map f (values_where selected value us)
values_mapped f selected value us = mapped_twice f value (filter selected us)

pub scan_mapped : (f : ℕ → ℕ) (axes : List ℕ) (a : ℕ) (d : Direction) (inclusion : Inclusion) (begins selected : ℕ → Bool) (value : ℕ → ℕ) (v : ℕ)
    → scan_values axes a d inclusion begins selected (λ u. f (value u)) v ≡ map f (scan_values axes a d inclusion begins selected value v)
scan_mapped f axes a d inclusion begins selected value v =
    values_mapped f (λ u. selected u && (is_inclusive inclusion || not (eqb u v))) value (from_last begins (line_until axes a d v))

all_mapped : (P : ℕ → Type 0) (value : ℕ → ℕ) → ((u : ℕ) → P (value u)) → (us : List ℕ) → All P (map value us)
all_mapped P value each [] = All-nil P
all_mapped P value each (u ∷ us) = All-cons P (value u) (map value us) (each u) (all_mapped P value each us)

values_fit : (L : ℕ) (selected : ℕ → Bool) (value : ℕ → ℕ) → ((u : ℕ) → value u < 2 ^ L) → (us : List ℕ) → All (λ x. x < 2 ^ L) (values_where selected value us)
values_fit L selected value fits us = all_mapped (λ x. x < 2 ^ L) value fits (filter selected us)

field : ℕ → List ℕ → FieldNumbers
field w xs = record { width = w; numbers = xs }

turned_field : ℕ → ℕ → (ℕ → ℕ) → FieldNumbers
turned_field w n f = record { width = w; numbers = everywhere n f }

abbrev pub complement_field : ℕ → List (List Bool) → FieldNumbers
complement_field n ps = record { width = length ps; numbers = everywhere n (λ v. complement (length ps) (number_at ps v)) }

-- a field of complements of what the complements of values come to
pub complements_are : (m n L : ℕ) (ps : List (List Bool)) (shows : ℕ → List ℕ → ℕ) (values : ℕ → List ℕ) → m ≡ n → length ps ≡ L → ((v : ℕ) → v < n → number_at ps v ≡ shows L (map (complement L) (values v)))
    → complement_field m ps ≡ shown_field (complement_shown shows) L n values
unfolding turned_field field
complements_are m n L ps shows values same long each =
    ap (λ k. complement_field k ps) same
    ∙ ap (λ k. turned_field k n (λ v. complement k (number_at ps v))) long
    ∙ ap (λ (xs : List ℕ). field L xs) (everywhere_same n (λ v. complement L (number_at ps v)) (λ v. complement_shown shows L (values v)) (λ v h. ap (complement L) (each v h)))

-- what scans and spreads combine fits
pub scanned_fit : (axes : List ℕ) (a : ℕ) (d : Direction) (inclusion : Inclusion) (segments selected : List Bool) (L : ℕ) (x : FieldNumbers) (v : ℕ) → All (λ y. y < 2 ^ L) (scanned axes a d inclusion segments selected L x v)
scanned_fit axes a d inclusion segments selected L x v =
    values_fit L (λ u. has selected u && (is_inclusive inclusion || not (eqb u v))) (operand L x) (operand_fits L x) (from_last (has segments) (line_until axes a d v))

pub lines_fit : (axes : List ℕ) (a : ℕ) (selected : List Bool) (L : ℕ) (x : FieldNumbers) (v : ℕ) → All (λ y. y < 2 ^ L) (of_lines axes a selected L x v)
lines_fit axes a selected L x v = values_fit L (has selected) (operand L x) (operand_fits L x) (line axes a v)

pub line_mapped : (f : ℕ → ℕ) (axes : List ℕ) (a : ℕ) (selected : ℕ → Bool) (value : ℕ → ℕ) (v : ℕ) → line_values axes a selected (λ u. f (value u)) v ≡ map f (line_values axes a selected value v)
line_mapped f axes a selected value v = values_mapped f selected value (line axes a v)
