-- Messages, one after the other.
use Rattle.std.proofs.Common.{◌≡◌, ℕ, ◌+◌, ◌<◌, ◌^◌, Bool, true, false, List, [], ◌∷◌, ◌++◌, length, get_or, take, refl}
use Rattle.std.proofs.lemmas.List.{length-map, map-append, take_more}
use Rattle.std.proofs.lemmas.List.Elements.{filter-append, All-map}
use Rattle.std.specs.Prelude.{if◌then◌else◌, filter, ◌==◌}
use Rattle.std.specs.List.{All}
use Rattle.paris_geometry.specs.Geometry.{numbers_below, processor_count}
use Rattle.paris_model.specs.declared.actions.Operand.{Operand}
use Rattle.paris_model.specs.Frame.{Frame, field_at, low_at, is_selected}
use Rattle.paris_model.specs.Mail.{arrivals, mail_of}
use Rattle.paris_plain.proofs.Values.{low_small}

pub length-arrivals : (mail : List (ℕ × ℕ)) (r : ℕ) → length (arrivals mail r) ≡ length (filter (λ message. message.0 == r) mail)
length-arrivals mail r = length-map _ _

-- what arrives of one message more
pub arrivals-more : (mail : List (ℕ × ℕ)) (i : ℕ) (r : ℕ) → i < length mail → arrivals (take (i + 1) mail) r ≡ arrivals (take i mail) r ++ (if (get_or mail i (0, 0)).0 == r then (get_or mail i (0, 0)).1 ∷ [] else [])
arrivals-more mail i r h = rw (take_more mail i (0, 0) h) (simp (filter-append, map-append) (go ((get_or mail i (0, 0)).0 == r) refl))
  where
    message : ℕ × ℕ
    message = get_or mail i (0, 0)

    go : (b : Bool) → (message.0 == r) ≡ b → arrivals (take i mail) r ++ arrivals (message ∷ []) r ≡ arrivals (take i mail) r ++ (if message.0 == r then message.1 ∷ [] else [])
    go true e = simp e
    go false e = simp e

-- the lemmas for a loop over messages
pub ruleset posted = (length-arrivals, arrivals-more)

-- the value of each message fits the length
pub mail_fits : (m : Frame) (B A : Operand) (L : ℕ) → All (λ message. message.1 < 2 ^ L) (mail_of m B A L)
mail_fits m B A L = All-map (λ message. message.1 < 2 ^ L) (λ p. (field_at m B p, low_at m A L p)) (filter (is_selected m) (numbers_below (processor_count m.axes))) (λ k d there. low_small L _)
