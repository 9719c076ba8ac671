use Rattle.std.proofs.Common.{◌≡◌, ℕ, ◌-◌, List, ◌++◌, rules, length, take, drop, sym, ap, ◌∙◌, append_assoc, take-append-drop}
use Rattle.std.proofs.lemmas.List.{take_rest}
use Rattle.std.proofs.KnownBytes.{Appends-trans}
use Rattle.paris_session.proofs.texts.write_out.Goals as goal

moves_front : (all done rest : List ℕ) (n : ℕ) → all ≡ done ++ rest → all ≡ (done ++ take n rest) ++ take (length rest - n) (drop n rest)
moves_front all done rest n e =
    e ∙ ap (λ l. done ++ l) (sym (take-append-drop n rest)) ∙ sym (append_assoc done (take n rest) (drop n rest)) ∙ ap (λ l. (done ++ take n rest) ++ l) (sym (take_rest rest n))

pub loop-preserved-in-Bytes : goal.loop-preserved-in-Bytes
loop-preserved-in-Bytes g c =
    let (done, appended, split) = c.loop.invariant.2 in
    let rest = c.loop.rest.now in
    let n = c.in-Bytes.n in
    (tt, tt, (done ++ take n rest, Appends-trans _ _ _ _ _ appended c.in-Bytes.ensures.bytes.2, moves_front _ done rest n split), search rules)
