use Rattle.std.proofs.Common.{◌≡◌, ℕ, ◌+◌, ◌-◌, ◌*◌, ◌/◌, ◌<◌, ◌&&◌, ◌∙◌, List, Bool, length, arith, ap, sym, refl, inl, inr}
use Rattle.std.proofs.lemmas.Bool.{cases_eq}
use Rattle.paris_plane.specs.Bits.{word_bit}
use Rattle.paris_plane.specs.Laws.{and_by_bit}
use Rattle.paris_field.specs.Numbers.{has}
use Rattle.paris_counts.proofs.counts.keep_with.Goals as goal

pub loop-i-init : goal.loop-i-init
loop-i-init c = record { long = refl; kept = λ v l u. absurd (omega (arith, l, u)); behind = λ v l u. refl }

pub word-requires : goal.word-requires
word-requires c = omega (arith, c.requires, c.loop-i.invariant.long)

pub set_word-requires : goal.set_word-requires
set_word-requires c = omega (arith, c.requires, c.loop-i.invariant.long)

pub loop-i-preserved : goal.loop-i-preserved
loop-i-preserved c =
    let i : ℕ = c.loop-i.i in
    let b : ℕ = c.args.start / 64 + i in
    let s : ℕ = c.args.start in
    let cand : List Bool = c.loop-i.candidates in
    let x : List Bool = c.args.x.now in
    let wc : ℕ = c.word.result in
    let wx : ℕ = c.word-in-loop-i.result in
    let n : length cand ≡ length c.args.candidates.now = c.loop-i.invariant.long in
    let at : s + 64 * i ≡ 64 * b = omega (arith, c.requires.start) in
    let new : (v : ℕ) → v < length c.args.candidates.now → v / 64 ≡ b → has c.set_word.new.self v ≡ (has c.args.candidates.now v && has x v) = λ v h e.
    let j : ℕ = v - 64 * b in
    let q : 64 * b + j ≡ v = omega (arith, e) in
    let small : j < 64 = omega (arith, e) in
    let here : 64 * b + j < length cand = omega (arith, q, h, n) in
    ap (has c.set_word.new.self) (sym q) ∙ c.set_word.ensures.bits j small here ∙ and_by_bit wc wx j
    ∙ ap (λ p. p && word_bit wx j) (c.word.ensures j small here ∙ ap (has cand) q ∙ c.loop-i.invariant.behind v (omega (arith, e, at)) h)
    ∙ ap (λ p. has c.args.candidates.now v && p) (c.word-in-loop-i.ensures j small (omega (arith, q, h, c.requires.same)) ∙ ap (has x) q) in
    let old : (v : ℕ) → v < length c.args.candidates.now → (v / 64 ≡ b → ⊥) → has c.set_word.new.self v ≡ has cand v = λ v h e. c.set_word.ensures.others v (omega (arith, h, n)) e in
    record {
      long = c.set_word.ensures.long ∙ n;
      kept = λ v l u.
          elim (cases_eq (v / 64) b) [
            | inl e ↦ new v (omega (arith, u, c.requires, c.loop-i-test.true)) e
            | inr e ↦ old v (omega (arith, u, c.requires, c.loop-i-test.true)) e ∙ c.loop-i.invariant.kept v l (omega (arith, u, e, at))
          ];
      behind = λ v l u.
          old v u (λ e. omega (arith, l, e, at)) ∙ c.loop-i.invariant.behind v (omega (arith, l)) u;
    }

pub returns-clause-long : goal.returns-clause-long
returns-clause-long c = c.loop-i.invariant.long

pub returns-clause-kept : goal.returns-clause-kept
returns-clause-kept c = λ v l u. c.loop-i.invariant.kept v l (omega (arith, u, c.requires.whole, c.loop-i-test.false, c.loop-i.auto))

pub returns-clause-behind : goal.returns-clause-behind
returns-clause-behind c = λ v l u. c.loop-i.invariant.behind v (omega (arith, l, c.requires.whole, c.loop-i-test.false, c.loop-i.auto)) u
