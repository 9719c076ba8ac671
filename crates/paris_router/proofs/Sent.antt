-- The messages of one sender more, and what holds of all.
use Rattle.std.proofs.Common.{◌≡◌, ℕ, zero, suc, ◌+◌, ◌<◌, ◌^◌, Bool, true, false, List, [], ◌∷◌, ◌++◌, All, map, cond, refl, sym, ap, subst, ◌∙◌, arith}
use Rattle.std.specs.Prelude.{◌==◌, filter}
use Rattle.std.specs.List.{range_with_len}
use Rattle.std.proofs.lemmas.List.{append_assoc, append-nil, map-append}
use Rattle.std.proofs.lemmas.List.Elements.{All-filter, All-from_get_or, All-map, filter-append}
use Rattle.std.proofs.lemmas.List.FromFn.{get_or-range_with_len, length-range_with_len}
use Rattle.paris_geometry.specs.Geometry.{numbers_below}
use Rattle.paris_model.specs.Mail.{arrivals, messages}

range_more : (a n : ℕ) → range_with_len a (suc n) ≡ range_with_len a n ++ (a + n) ∷ []
range_more a zero = ap (λ k. k ∷ []) (omega arith)
range_more a (suc n) = ap (λ l. a ∷ l) (range_more (a + 1) n ∙ ap (λ k. range_with_len (a + 1) n ++ k ∷ []) (omega arith))

one : (selected : ℕ → Bool) (p : ℕ) → filter selected (p ∷ []) ≡ cond (selected p) (p ∷ []) []
one selected p = go (selected p) refl
  where
    go : (b : Bool) → selected p ≡ b → filter selected (p ∷ []) ≡ cond (selected p) (p ∷ []) []
    go true e = simp e
    go false e = simp e

messages_more : (p : ℕ) (selected : ℕ → Bool) (address value : ℕ → ℕ) → messages (suc p) selected address value ≡ messages p selected address value ++ map (λ q. (address q, value q)) (cond (selected p) (p ∷ []) [])
messages_more p selected address value =
    ap (λ l. map (λ q. (address q, value q)) (filter selected l)) (range_more 0 p ∙ ap (λ k. numbers_below p ++ k ∷ []) (omega arith))
    ∙ ap (map (λ q. (address q, value q))) (filter-append selected (numbers_below p) (p ∷ []))
    ∙ map-append (λ q. (address q, value q)) (filter selected (numbers_below p)) (filter selected (p ∷ []))
    ∙ ap (λ l. messages p selected address value ++ map (λ q. (address q, value q)) l) (one selected p)

pub sent : (p : ℕ) (selected : ℕ → Bool) (address value : ℕ → ℕ) → selected p ≡ true → messages (p + 1) selected address value ≡ messages p selected address value ++ (address p, value p) ∷ []
sent p selected address value does =
    let next : p + 1 ≡ suc p = omega arith in
    ap (λ k. messages k selected address value) next ∙ messages_more p selected address value
    ∙ ap (λ b. messages p selected address value ++ map (λ q. (address q, value q)) (cond b (p ∷ []) [])) does

pub silent : (p : ℕ) (selected : ℕ → Bool) (address value : ℕ → ℕ) → selected p ≡ false → messages (p + 1) selected address value ≡ messages p selected address value
silent p selected address value stays =
    let next : p + 1 ≡ suc p = omega arith in
    ap (λ k. messages k selected address value) next ∙ messages_more p selected address value
    ∙ ap (λ b. messages p selected address value ++ map (λ q. (address q, value q)) (cond b (p ∷ []) [])) stays
    ∙ append-nil (messages p selected address value)

-- addresses that agree where something is sent, and values that agree
pub same_messages : (n : ℕ) (selected : ℕ → Bool) (a b x y : ℕ → ℕ) → ((p : ℕ) → p < n → selected p ≡ true → a p ≡ b p) → ((p : ℕ) → p < n → x p ≡ y p) → messages n selected a x ≡ messages n selected b y
same_messages zero selected a b x y addresses values = refl
same_messages (suc n) selected a b x y addresses values =
    messages_more n selected a x
    ∙ ap (λ l. l ++ map (λ q. (a q, x q)) (cond (selected n) (n ∷ []) [])) (same_messages n selected a b x y (λ p h. addresses p (omega arith)) (λ p h. values p (omega arith)))
    ∙ ap (λ l. messages n selected b y ++ l) (last (selected n) refl)
    ∙ sym (messages_more n selected b y)
  where
    last : (s : Bool) → selected n ≡ s → map {B = ℕ × ℕ} (λ q. (a q, x q)) (cond s (n ∷ []) []) ≡ map {B = ℕ × ℕ} (λ q. (b q, y q)) (cond s (n ∷ []) [])
    last true e =
        let from_address : ℕ → List (ℕ × ℕ) = λ k. (k, x n) ∷ [] in
        let from_value : ℕ → List (ℕ × ℕ) = λ k. (b n, k) ∷ [] in
        ap from_address (addresses n (omega arith) e) ∙ ap from_value (values n (omega arith))
    last false e = refl

one_message : (s : Bool) (k : ℕ) (a b x y : ℕ → ℕ) → a k ≡ b k → x k ≡ y k → map {B = ℕ × ℕ} (λ q. (a q, x q)) (cond s (k ∷ []) []) ≡ map {B = ℕ × ℕ} (λ q. (b q, y q)) (cond s (k ∷ []) [])
one_message true k a b x y address value =
    let from_address : ℕ → List (ℕ × ℕ) = λ n. (n, x k) ∷ [] in
    let from_value : ℕ → List (ℕ × ℕ) = λ n. (b k, n) ∷ [] in
    ap from_address address ∙ ap from_value value
one_message false k a b x y address value = refl

-- senders, addresses and values that agree
pub agreeing_messages : (n : ℕ) (s t : ℕ → Bool) (a b x y : ℕ → ℕ) → ((p : ℕ) → p < n → s p ≡ t p) → ((p : ℕ) → p < n → a p ≡ b p) → ((p : ℕ) → p < n → x p ≡ y p) → messages n s a x ≡ messages n t b y
agreeing_messages zero s t a b x y senders addresses values = refl
agreeing_messages (suc n) s t a b x y senders addresses values =
    messages_more n s a x
    ∙ ap (λ l. l ++ map (λ q. (a q, x q)) (cond (s n) (n ∷ []) [])) (agreeing_messages n s t a b x y (λ p h. senders p (omega arith)) (λ p h. addresses p (omega arith)) (λ p h. values p (omega arith)))
    ∙ ap (λ u. messages n t b y ++ map (λ q. (a q, x q)) (cond u (n ∷ []) [])) (senders n (omega arith))
    ∙ ap (λ l. messages n t b y ++ l) (one_message (t n) n a b x y (addresses n (omega arith)) (values n (omega arith)))
    ∙ sym (messages_more n t b y)

last_one : (s : Bool) (address value : ℕ → ℕ) (a k : ℕ) → map {B = ℕ × ℕ} (λ q. (address q, value q)) (cond s ((a + k) ∷ []) []) ≡ map {B = ℕ × ℕ} (λ i. (address (a + i), value (a + i))) (cond s (k ∷ []) [])
last_one true address value a k = refl
last_one false address value a k = refl

-- the messages of k senders more
pub messages_join : (a k : ℕ) (selected : ℕ → Bool) (address value : ℕ → ℕ) → messages (a + k) selected address value ≡ messages a selected address value ++ messages k (λ i. selected (a + i)) (λ i. address (a + i)) (λ i. value (a + i))
messages_join a zero selected address value =
    let same : a + 0 ≡ a = omega arith in
    ap (λ n. messages n selected address value) same ∙ sym (append-nil (messages a selected address value))
messages_join a (suc k) selected address value =
    let next : a + suc k ≡ suc (a + k) = omega arith in
    let part : List (ℕ × ℕ) = messages k (λ i. selected (a + i)) (λ i. address (a + i)) (λ i. value (a + i)) in
    ap (λ n. messages n selected address value) next
    ∙ messages_more (a + k) selected address value
    ∙ ap (λ l. l ++ map (λ q. (address q, value q)) (cond (selected (a + k)) ((a + k) ∷ []) [])) (messages_join a k selected address value)
    ∙ append_assoc (messages a selected address value) part (map (λ q. (address q, value q)) (cond (selected (a + k)) ((a + k) ∷ []) []))
    ∙ ap (λ l. messages a selected address value ++ (part ++ l)) (last_one (selected (a + k)) address value a k)
    ∙ ap (λ l. messages a selected address value ++ l) (sym (messages_more k (λ i. selected (a + i)) (λ i. address (a + i)) (λ i. value (a + i))))

pub messages_all : (P : ℕ × ℕ → Type 0) (n : ℕ) (selected : ℕ → Bool) (address value : ℕ → ℕ) → ((p : ℕ) → p < n → P (address p, value p)) → All P (messages n selected address value)
messages_all P n selected address value each =
    All-map P (λ p. (address p, value p)) (filter selected (numbers_below n))
    (All-filter selected (λ p. P (address p, value p)) (numbers_below n)
    (All-from_get_or (λ p. P (address p, value p)) (numbers_below n) 0 (λ i h.
    let long = length-range_with_len 0 n in
    let inside : i < n = omega arith in
    subst (λ p. P (address p, value p)) (sym (get_or-range_with_len 0 n i 0 inside ∙ omega arith)) (each i inside))))

-- what arrives fits where all messages do
pub arrivals_fit : (L : ℕ) (mail : List (ℕ × ℕ)) (r : ℕ) → All (λ message. message.1 < 2 ^ L) mail → All (λ x. x < 2 ^ L) (arrivals mail r)
arrivals_fit L mail r fit =
    All-map (λ x. x < 2 ^ L) (λ (message : ℕ × ℕ). message.1) (filter (λ (message : ℕ × ℕ). message.0 == r) mail)
    (All-filter (λ (message : ℕ × ℕ). message.0 == r) (λ (message : ℕ × ℕ). message.1 < 2 ^ L) mail fit)
