use Rattle.std.proofs.Common.{◌≡◌, ℕ, ◌+◌, ◌-◌, ◌++◌, ◌∙◌, [], ◌∷◌, ap, append_assoc, arith, length, List, Bool, replicate, sym}
use Rattle.std.proofs.lemmas.List.{replicate_more}
use Rattle.paris_alu.proofs.planes.extended_planes.Goals as goal

extended_more : (xs ps ps' : List (List Bool)) (r r' : List Bool) (k m : ℕ) → m ≡ k + 1 → r' ≡ r → ps ≡ xs ++ replicate k r → ps' ≡ ps ++ r' ∷ [] → ps' ≡ xs ++ replicate m r
extended_more xs ps ps' r r' k m next copied before pushed =
    pushed ∙ ap (λ l. l ++ r' ∷ []) before ∙ ap (λ p. (xs ++ replicate k r) ++ p ∷ []) copied ∙ append_assoc xs (replicate k r) (r ∷ [])
    ∙ ap (λ l. xs ++ l) (replicate_more k r ∙ ap (λ j. replicate j r) (sym next))

pub loop-preserved : goal.loop-preserved
loop-preserved c =
    extended_more c.args.x.now c.loop.planes.items c.push.new.self.items c.args.rest.now c.in_ok-copy.field-0 (c.loop.counter - length c.args.x.now) (c.loop.counter + 1 - length c.args.x.now) (omega arith) c.in_ok-copy.ensures c.loop.invariant c.in_ok-push.ensures.items

pub returns : goal.returns
returns c = c.loop.invariant ∙ ap (λ (k : ℕ). c.args.x.now ++ replicate (k - length c.args.x.now) c.args.rest.now) (omega arith)
