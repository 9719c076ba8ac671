-- No plan writes more than three keys: a field and two flags at most.
use Rattle.std.proofs.Common.{◌≡◌, ℕ, ◌+◌, ◌≤◌, suc, List, [], ◌∷◌, ◌++◌, length, map, Bool, true, false, cond, Some, None, refl, ap, ◌∙◌, arith}
use Rattle.std.specs.List.{fold}
use Rattle.paris_names.specs.declared.keys.Key.{Key}
use Rattle.paris_names.specs.Keys.{with_key, key_eq, key_before}
use Rattle.paris_model.specs.declared.operators.BinaryOperator.{BinaryOperator}
use Rattle.paris_model.specs.declared.operators.BinaryOperator.TheVariants.{UnsignedAdd, UnsignedAddCarry, UnsignedSubtract, SignedAdd, SignedSubtract, UnsignedMultiply, SignedMultiply, Truncate, Remainder}
use Rattle.paris_model.specs.declared.operators.UnaryOperator.{UnaryOperator}
use Rattle.paris_model.specs.declared.operators.UnaryOperator.TheVariants.{Negate, BitNot, Move}
use Rattle.paris_model.specs.declared.operators.Combiner.{Combiner}
use Rattle.paris_model.specs.declared.operators.Combiner.TheVariants.{Sum}
use Rattle.paris_model.specs.declared.actions.Operand.{Operand}
use Rattle.paris_model.specs.declared.actions.Action.{Action}
use Rattle.paris_model.specs.declared.actions.Action.TheVariants.{OnSelected, OnAll, ByNews, AlongLine, ByMail}
use Rattle.paris_model.specs.declared.actions.Conditional.TheVariants.{Binary, Unary, MoveConstant, Resize, Compare, MyCoordinate, MyAddress, SetTest, ClearTest, LoadTest, StoreTest}
use Rattle.paris_model.specs.declared.actions.Unconditional.TheVariants.{MoveAlways, StoreContext}
use Rattle.paris_model.specs.declared.actions.Line.TheVariants.{Scan, CopyScan, Spread, CopySpread, Reduce}
use Rattle.paris_model.specs.declared.actions.Mail.TheVariants.{Get, Send, CombiningSend}
use Rattle.paris_model.specs.Elementwise.{binary_flags, unary_flags}
use Rattle.paris_model.specs.Lines.{combiner_flags}
use Rattle.paris_model.specs.Instructions.{Plan, target_fields, target_flags, target_keys, writes}

with_key-length : (k : Key) (keys : List Key) → length (with_key k keys) ≤ suc (length keys)
with_key-length k [] = omega arith
with_key-length k (j ∷ js) = by_tests (key_eq k j) (key_before k j) (with_key-length k js)
  where
    by_tests : (a b : Bool) → length (with_key k js) ≤ suc (length js) → length (cond a (j ∷ js) (cond b (k ∷ j ∷ js) (j ∷ with_key k js))) ≤ suc (suc (length js))
    by_tests true b h = omega arith
    by_tests false true h = omega arith
    by_tests false false h = omega arith

ordered-length : (keys done : List Key) → length (fold (λ (d : List Key) (k : Key). with_key k d) done keys) ≤ length done + length keys
ordered-length [] done = omega arith
ordered-length (k ∷ keys) done = let rest = ordered-length keys (with_key k done) in let one = with_key-length k done in omega (arith, rest, one)

both-length : {A B C : Type 0} (f : A → C) (g : B → C) (xs : List A) (ys : List B) → length (map f xs ++ map g ys) ≡ length xs + length ys
both-length f g [] [] = refl
both-length f g [] (y ∷ ys) = ap suc (both-length f g [] ys) ∙ (let e : suc (0 + length ys) ≡ 0 + suc (length ys) = omega arith in e)
both-length f g (x ∷ xs) ys = ap suc (both-length f g xs ys) ∙ (let e : suc (length xs + length ys) ≡ suc (length xs) + length ys = omega arith in e)

binary-few : (op : BinaryOperator) → length (binary_flags op) ≤ 2
binary-few UnsignedAdd = omega arith
binary-few UnsignedAddCarry = omega arith
binary-few UnsignedSubtract = omega arith
binary-few SignedAdd = omega arith
binary-few SignedSubtract = omega arith
binary-few UnsignedMultiply = omega arith
binary-few SignedMultiply = omega arith
binary-few Truncate = omega arith
binary-few Remainder = omega arith
binary-few _ = omega arith

unary-few : (op : UnaryOperator) → length (unary_flags op) ≤ 2
unary-few Negate = omega arith
unary-few BitNot = omega arith
unary-few Move = omega arith

combiner-few : (op : Combiner) → length (combiner_flags op) ≤ 2
combiner-few Sum = omega arith
combiner-few _ = omega arith

targets-few : (i : Action Operand ℕ) → length (target_fields i) + length (target_flags i) ≤ 3
targets-few (OnSelected (Binary op D A B L)) = let few = binary-few op in omega (arith, few)
targets-few (OnSelected (Unary op D A L)) = let few = unary-few op in omega (arith, few)
targets-few (OnSelected (MoveConstant D K L)) = omega arith
targets-few (OnSelected (Resize sign D A L M)) = omega arith
targets-few (OnSelected (Compare op A B L)) = omega arith
targets-few (OnSelected (MyCoordinate D X L)) = omega arith
targets-few (OnSelected (MyAddress D L)) = omega arith
targets-few (OnSelected (SetTest s)) = omega arith
targets-few (OnSelected (ClearTest s)) = omega arith
targets-few (OnSelected (LoadTest F)) = omega arith
targets-few (OnSelected (StoreTest F)) = omega arith
targets-few (OnAll (MoveAlways D A L)) = omega arith
targets-few (OnAll (StoreContext F)) = omega arith
targets-few (OnAll _) = omega arith
targets-few (ByNews i) = omega arith
targets-few (AlongLine (Scan op D A X L direction _ G)) = let few = combiner-few op in omega (arith, few)
targets-few (AlongLine (CopyScan D A X L direction G)) = omega arith
targets-few (AlongLine (Spread op D A X L)) = let few = combiner-few op in omega (arith, few)
targets-few (AlongLine (CopySpread D A X L C)) = omega arith
targets-few (AlongLine (Reduce op D A X L C)) = let few = combiner-few op in omega (arith, few)
targets-few (ByMail (Get D B A L)) = omega arith
targets-few (ByMail (Send D B A L None)) = omega arith
targets-few (ByMail (Send D B A L (Some N))) = omega arith
targets-few (ByMail (CombiningSend op D B A L None)) = omega arith
targets-few (ByMail (CombiningSend op D B A L (Some N))) = omega arith

pub writes-few : (p : Plan) → length (writes p) ≤ 3
unfolding writes
writes-few p =
    let ordered = ordered-length (target_keys p.set_no p.action) [] in
    let both = both-length (λ (o : Operand). Rattle.paris_names.specs.declared.keys.Key.TheVariants.Field o.field) (Rattle.paris_names.specs.declared.keys.Key.TheVariants.Flag p.set_no) (target_fields p.action) (target_flags p.action) in
    let few = targets-few p.action in
    omega (arith, ordered, both, few)
