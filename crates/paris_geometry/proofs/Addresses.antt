-- Addresses and coordinates undo each other.
use Rattle.std.proofs.Common.{lit<, ◌≡◌, ℕ, zero, suc, ◌+◌, ◌*◌, ◌/◌, ◌%◌, ◌<◌, ◌≤◌, true, List, [], ◌∷◌, length, get_or, take, take_all, add-one, refl, sym, ap, ◌∙◌, arith}
use Rattle.std.proofs.Math.Nat.{mul_comm, mul-le-mul_left, div-one, div-div-eq-div-mul, mod-add-div, div-lt_iff_lt-mul, add-mul-div_left, add-mul-mod_self_left, mod-eq_of_lt, div-eq_of_lt}
use Rattle.std.proofs.lemmas.List.FromFn.{get_or-map-range_with_len, length-map-range_with_len}
use Rattle.paris_geometry.specs.Geometry.{product, stride, axis_length, processor_count, is_geometry, coordinate, coordinates, address, AreCoordinates}
use Rattle.paris_geometry.proofs.Strides.{product_first, stride_first, geometry_small}
use Rattle.paris_geometry.proofs.Neighbours.{coordinate_below}

coordinate_first : (n : ℕ) (ns : List ℕ) (v : ℕ) → coordinate (n ∷ ns) 0 v ≡ v % n
coordinate_first n ns v = ap (λ x. x % n) (div-one v)

coordinate_later : (n : ℕ) (ns : List ℕ) (a v : ℕ) → coordinate (n ∷ ns) (suc a) v ≡ coordinate ns a (v / n)
coordinate_later n ns a v = ap (λ x. x % axis_length ns a) (ap (λ s. v / s) (stride_first n ns a) ∙ sym (div-div-eq-div-mul v n (stride ns a)))

pub address_below : (axes cs : List ℕ) → AreCoordinates axes cs → address axes cs < product axes
address_below [] [] h = lit< tt
address_below [] (c ∷ cs) h = absurd h
address_below (n ∷ ns) [] h = absurd h
address_below (n ∷ ns) (c ∷ cs) h =
    let rest : address ns cs + 1 ≤ product ns = (let y : address ns cs < product ns = address_below ns cs h.1 in omega arith) in
    let up : n * (address ns cs + 1) ≤ n * product ns = mul-le-mul_left n rest in
    let here : c < n = h.0 in
    rw (product_first n ns) (omega (arith, up, here))

-- the processor whose coordinates these are
pub address_of : (axes cs : List ℕ) (v : ℕ) → AreCoordinates axes cs → ((a : ℕ) → a < length axes → get_or cs a 0 ≡ coordinate axes a v) → v < product axes → address axes cs ≡ v
address_of [] [] v h same below = (let e : v < 1 = below in omega arith)
address_of [] (c ∷ cs) v h same below = absurd h
address_of (n ∷ ns) [] v h same below = absurd h
address_of (n ∷ ns) (c ∷ cs) v h same below =
    let some : 0 < n = (let y : c < n = h.0 in omega arith) in
    let first : c ≡ v % n = same 0 (omega arith) ∙ coordinate_first n ns v in
    let front : v / n < product ns = (div-lt_iff_lt-mul some).1 (rw (mul_comm (product ns) n) (rw (← product_first n ns) below)) in
    let rest : address ns cs ≡ v / n = address_of ns cs (v / n) h.1 (λ a within. same (suc a) (omega arith) ∙ coordinate_later n ns a v) front in
    ap (λ x. x + n * address ns cs) first ∙ ap (λ x. v % n + n * x) rest ∙ mod-add-div v n

-- the coordinates of an address
pub coordinate_of : (axes cs : List ℕ) (a : ℕ) → AreCoordinates axes cs → a < length axes → coordinate axes a (address axes cs) ≡ get_or cs a 0
coordinate_of [] [] a h within = absurd (omega arith)
coordinate_of [] (c ∷ cs) a h within = absurd h
coordinate_of (n ∷ ns) [] a h within = absurd h
coordinate_of (n ∷ ns) (c ∷ cs) zero h within =
    coordinate_first n ns (c + n * address ns cs) ∙ add-mul-mod_self_left c n (address ns cs) ∙ mod-eq_of_lt h.0
coordinate_of (n ∷ ns) (c ∷ cs) (suc a) h within =
    let some : 0 < n = (let y : c < n = h.0 in omega arith) in
    let quotient : (c + n * address ns cs) / n ≡ address ns cs = add-mul-div_left c (address ns cs) some ∙ ap (λ x. x + address ns cs) (div-eq_of_lt h.0) ∙ (let e : 0 + address ns cs ≡ address ns cs = omega arith in e) in
    coordinate_later n ns a (c + n * address ns cs) ∙ ap (coordinate ns a) quotient ∙ coordinate_of ns cs a h.1 (omega arith)

are_coordinates : (axes cs : List ℕ) → length cs ≡ length axes → ((a : ℕ) → a < length axes → get_or cs a 0 < axis_length axes a) → AreCoordinates axes cs
are_coordinates [] [] e h = tt
are_coordinates [] (c ∷ cs) e h = absurd (omega arith)
are_coordinates (n ∷ ns) [] e h = absurd (omega arith)
are_coordinates (n ∷ ns) (c ∷ cs) e h = (h 0 (omega arith), are_coordinates ns cs (omega arith) (λ a within. h (suc a) (omega arith)))

coordinate_at : (axes : List ℕ) (v a : ℕ) → a < length axes → get_or (coordinates axes v) a 0 ≡ coordinate axes a v
coordinate_at axes v a within = get_or-map-range_with_len (λ (a : ℕ). coordinate axes a v) 0 (length axes) a a 0 within (omega arith)

pub own_coordinates : (axes : List ℕ) (v : ℕ) → is_geometry axes ≡ true → AreCoordinates axes (coordinates axes v)
own_coordinates axes v sound =
    are_coordinates axes (coordinates axes v) (length-map-range_with_len (λ (a : ℕ). coordinate axes a v) 0 (length axes))
    (λ a within. rw (coordinate_at axes v a within) (coordinate_below axes a v sound within))

-- a processor's address is the one of its coordinates
pub address_own : (axes : List ℕ) (v : ℕ) → is_geometry axes ≡ true → v < processor_count axes → address axes (coordinates axes v) ≡ v
address_own axes v sound below = address_of axes (coordinates axes v) v (own_coordinates axes v sound) (coordinate_at axes v) below

pub are_length : (axes cs : List ℕ) → AreCoordinates axes cs → length cs ≡ length axes
are_length [] [] h = refl
are_length [] (c ∷ cs) h = absurd h
are_length (n ∷ ns) [] h = absurd h
are_length (n ∷ ns) (c ∷ cs) h = ap suc (are_length ns cs h.1)

pub are_below : (axes cs : List ℕ) (a : ℕ) → AreCoordinates axes cs → a < length axes → get_or cs a 0 < axis_length axes a
are_below [] cs a h within = absurd (omega arith)
are_below (n ∷ ns) [] a h within = absurd h
are_below (n ∷ ns) (c ∷ cs) zero h within = h.0
are_below (n ∷ ns) (c ∷ cs) (suc a) h within = are_below ns cs a h.1 (omega arith)

-- one coordinate more
address_next : (axes cs : List ℕ) (a : ℕ) → AreCoordinates axes cs → a < length axes → address (take (suc a) axes) (take (suc a) cs) ≡ address (take a axes) (take a cs) + get_or cs a 0 * stride axes a
address_next [] cs a h within = absurd (omega arith)
address_next (n ∷ ns) [] a h within = absurd h
address_next (n ∷ ns) (c ∷ cs) zero h within = omega arith
address_next (n ∷ ns) (c ∷ cs) (suc a) h within =
    let rest = address_next ns cs a h.1 (omega arith) in
    rw (stride_first n ns a, rest) (omega arith)

pub address_more : (axes cs : List ℕ) (a address_so_far : ℕ) → AreCoordinates axes cs → a < length axes → address_so_far ≡ address (take a axes) (take a cs) → address_so_far + get_or cs a 0 * stride axes a ≡ address (take (a + 1) axes) (take (a + 1) cs)
address_more axes cs a so_far h within is = rw (is, add-one a) (sym (address_next axes cs a h within))

taken_below : (axes cs : List ℕ) (a : ℕ) → AreCoordinates axes cs → address (take a axes) (take a cs) ≤ address axes cs
taken_below axes cs zero h = omega arith
taken_below [] cs (suc a) h = omega arith
taken_below (n ∷ ns) [] (suc a) h = absurd h
taken_below (n ∷ ns) (c ∷ cs) (suc a) h =
    let up : n * address (take a ns) (take a cs) ≤ n * address ns cs = mul-le-mul_left n (taken_below ns cs a h.1) in
    omega (arith, up)

-- an address so far is few
pub address_fits : (axes cs : List ℕ) (a so_far : ℕ) → is_geometry axes ≡ true → AreCoordinates axes cs → so_far ≡ address (take a axes) (take a cs) → so_far ≤ 65536
address_fits axes cs a so_far sound h is =
    let few = geometry_small axes sound in
    let part = taken_below axes cs a h in
    let whole : address axes cs < processor_count axes = address_below axes cs h in
    rw is (omega (arith, few, part, whole))

pub address_whole : (axes cs : List ℕ) (a so_far : ℕ) → AreCoordinates axes cs → length axes ≤ a → so_far ≡ address (take a axes) (take a cs) → so_far ≡ address axes cs
address_whole axes cs a so_far h past is =
    let too : length cs ≤ a = (let e = are_length axes cs h in omega (arith, e, past)) in
    is ∙ ap (λ xs. address xs (take a cs)) (take_all a axes past) ∙ ap (address axes) (take_all a cs too)
