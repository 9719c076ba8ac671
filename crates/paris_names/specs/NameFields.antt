-- A name's fields come back from its bytes.
use Rattle.std.specs.Prelude.{◌≡◌, ℕ, ◌+◌, ◌-◌, ◌≤◌, List, ◌++◌, length, take, replicate, true}
use Rattle.std.proofs.Common.{arith, ap, sym, ◌∙◌, length-append}
use Rattle.std.proofs.lemmas.List.{length-take-le, length-replicate}
use Rattle.paris_names.specs.Names.{name_buffer, is_name}
use Rattle.paris_names.specs.declared.names.Name.TheInside.{Inside}
use Rattle.paris_names.specs.declared.limits.TheConstants.{MAX_NAME}

pub name_len : (len : ℕ) (bs : List ℕ) → len ≤ MAX_NAME → bs ≡ name_buffer (take len bs) → length (take len bs) ≡ len
name_len len bs small same =
    let whole : length bs ≡ length (take len bs) + (MAX_NAME - length (take len bs)) = ap length same ∙ length-append (take len bs) (replicate (MAX_NAME - length (take len bs)) 0) ∙ ap (λ (k : ℕ). length (take len bs) + k) (length-replicate (MAX_NAME - length (take len bs)) 0) in
    let enough : len ≤ length bs = omega arith in
    length-take-le len bs enough

pub name_fields : (a : Inside) → (a.len ≤ MAX_NAME) × (a.buffer ≡ name_buffer (take a.len a.buffer)) × (is_name (take a.len a.buffer) ≡ true)
    → record { buffer = name_buffer (take a.len a.buffer); len = length (take a.len a.buffer) } ≡ a
name_fields a h =
    let P : List ℕ → Inside = λ bs. record { buffer = bs; len = length (take a.len a.buffer) } in
    let Q : ℕ → Inside = λ n. record { buffer = a.buffer; len = n } in
    ap P (sym h.1) ∙ ap Q (name_len a.len a.buffer h.0 h.1)
