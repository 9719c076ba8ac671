-- What a test that passed or failed says of its parts.
use Rattle.std.proofs.Common.{◌≡◌, List, [], ◌∷◌, Bool, true, false, refl}
use Rattle.std.specs.Prelude.{◌&&◌, ◌||◌}
use Rattle.std.specs.List.{list_all}
use Rattle.paris_names.specs.declared.keys.Key.{Key}

pub and_first : (a b : Bool) → (a && b) ≡ true → a ≡ true
and_first true b h = refl
and_first false b h = h

pub and_second : (a b : Bool) → (a && b) ≡ true → b ≡ true
and_second true b h = h
and_second false b h = absurd (let x : false ≡ true = h in cc)

pub or_first : (a b : Bool) → (a || b) ≡ false → a ≡ false
or_first true b h = h
or_first false b h = refl

pub or_second : (a b : Bool) → (a || b) ≡ false → b ≡ false
or_second true b h = absurd (let x : true ≡ false = h in cc)
or_second false b h = h

pub all_more : (h h' : Key → Bool) → ((f : Key) → h f ≡ true → h' f ≡ true) → (fs : List Key) → list_all h fs ≡ true → list_all h' fs ≡ true
all_more h h' m [] t = refl
all_more h h' m (f ∷ fs) t = rw (m f (and_first (h f) (list_all h fs) t)) (all_more h h' m fs (and_second (h f) (list_all h fs) t))
