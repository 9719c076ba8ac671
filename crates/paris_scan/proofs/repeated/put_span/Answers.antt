use Rattle.std.proofs.Common.{◌≡◌, ℕ, ◌+◌, ◌-◌, ◌*◌, ◌/◌, ◌<◌, ◌∙◌, List, Bool, length, arith, ap, sym, inl, inr}
use Rattle.std.proofs.lemmas.Bool.{cases_eq}
use Rattle.paris_field.specs.Numbers.{has}
use Rattle.paris_scan.proofs.repeated.put_span.Goals as goal

pub loop-i-preserved : goal.loop-i-preserved
loop-i-preserved c =
    let i : ℕ = c.loop-i.i in
    let b : ℕ = c.args.start / 64 + i in
    let s : ℕ = c.args.start in
    let plane : List Bool = c.loop-i.plane in
    let n : length plane ≡ length c.args.plane.now = c.loop-i.invariant.long in
    let at : s + 64 * i ≡ 64 * b = omega (arith, c.requires.start) in
    let new : (v : ℕ) → v < length c.args.plane.now → v / 64 ≡ b → has c.set_word.new.self v ≡ c.args.bit = λ v h e.
    let j : ℕ = v - 64 * b in
    let q : 64 * b + j ≡ v = omega (arith, e) in
    let small : j < 64 = omega (arith, e) in
    ap (has c.set_word.new.self) (sym q) ∙ c.set_word.ensures.bits j small (omega (arith, q, h, n)) ∙ c.word_of-word.ensures j small in
    let old : (v : ℕ) → v < length c.args.plane.now → (v / 64 ≡ b → ⊥) → has c.set_word.new.self v ≡ has plane v = λ v h e. c.set_word.ensures.others v (omega (arith, h, n)) e in
    record {
      long = c.set_word.ensures.long ∙ n;
      put = λ v l u.
          elim (cases_eq (v / 64) b) [
            | inl e ↦ new v (omega (arith, u, c.requires, c.loop-i-test.true)) e
            | inr e ↦ old v (omega (arith, u, c.requires, c.loop-i-test.true)) e ∙ c.loop-i.invariant.put v l (omega (arith, u, e, at))
          ];
      others = λ v h. (
        λ l. old v h (λ e. omega (arith, l, e, at)) ∙ (c.loop-i.invariant.others v h).0 l,
        λ l. old v h (λ e. omega (arith, l, e, at)) ∙ (c.loop-i.invariant.others v h).1 (omega (arith, l)),
      );
    }
