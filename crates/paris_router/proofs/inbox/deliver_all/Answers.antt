use Rattle.std.proofs.Common.{◌≡◌, ℕ, Bool, ◌+◌, ◌-◌, ◌*◌, ◌∙◌, Option, ap, arith, min, refl, subst, sym}
use Rattle.std.specs.Prelude.{◌&&◌, find, nat_le}
use Rattle.std.specs.List.{range_with_len}
use Rattle.paris_geometry.specs.Geometry.{numbers_below}
use Rattle.paris_model.specs.Mail.{messages}
use Rattle.paris_field.specs.Numbers.{has, number_at}
use Rattle.paris_router.proofs.Least.{quad_least, quad_passed}
use Rattle.paris_router.proofs.inbox.deliver_all.Goals as goal

pub loop-quad-init : goal.loop-quad-init
loop-quad-init g c =
    let n : ℕ = g.I.Inbox.count c.args.inbox.now in
    let selected : ℕ → Bool = has c.args.selected.now in
    let address : ℕ → ℕ = number_at c.args.addresses.now in
    let value : ℕ → ℕ = number_at c.args.x.now in
    let test : ℕ → Bool = λ v. selected v && nat_le n (address v) in
    let whole : n ≡ n - 256 * 0 = omega arith in
    let none : 0 ≡ min (256 * 0) n = omega arith in
    record {
      whole = c.requires.whole;
      count = refl;
      least = ap (λ k. find test (range_with_len 0 k)) whole;
      come = λ start h. subst (λ k. g.I.Inbox.HasHad start (messages k selected address value) c.args.inbox.now) none h;
    }

pub returns-in-Some-clause-bad : goal.returns-in-Some-clause-bad
returns-in-Some-clause-bad g c =
    let n : ℕ = g.I.Inbox.count c.args.inbox.now in
    let b : ℕ = c.loop-quad.quad in
    let selected : ℕ → Bool = has c.args.selected.now in
    let address : ℕ → ℕ = number_at c.args.addresses.now in
    let test : ℕ → Bool = λ v. selected v && nat_le n (address v) in
    let in_quad : ℕ → Option ℕ = λ m. find (λ i. selected (256 * b + i) && nat_le m (address (256 * b + i))) (numbers_below (min (m - 256 * b) 256)) in
    sym (c.loop-quad.invariant.least ∙ quad_least test b n c.in-Some.i (sym (c.deliver_quad.ensures.bad ∙ ap in_quad c.loop-quad.invariant.count) ∙ c.in-Some.is))

pub loop-quad-preserved : goal.loop-quad-preserved
loop-quad-preserved g c =
    let n : ℕ = g.I.Inbox.count c.args.inbox.now in
    let b : ℕ = c.loop-quad.quad in
    let selected : ℕ → Bool = has c.args.selected.now in
    let address : ℕ → ℕ = number_at c.args.addresses.now in
    let value : ℕ → ℕ = number_at c.args.x.now in
    let test : ℕ → Bool = λ v. selected v && nat_le n (address v) in
    let in_quad : ℕ → Option ℕ = λ m. find (λ i. selected (256 * b + i) && nat_le m (address (256 * b + i))) (numbers_below (min (m - 256 * b) 256)) in
    let same = c.loop-quad.invariant.count in
    let inside : min (256 * b) n ≡ 256 * b = omega (arith, c.len.ensures) in
    let next : min (256 * b + 256) (g.I.Inbox.count c.loop-quad.inbox) ≡ min (256 * (b + 1)) n = omega (arith, same) in
    record {
      whole = c.deliver_quad.ensures.whole;
      count = c.deliver_quad.ensures.count ∙ same;
      least = c.loop-quad.invariant.least ∙ quad_passed test b n (sym (c.deliver_quad.ensures.bad ∙ ap in_quad same) ∙ c.in_default.is);
      come = λ start h.
          let here = subst (λ k. g.I.Inbox.HasHad start (messages k selected address value) c.loop-quad.inbox) inside (c.loop-quad.invariant.come start h) in
          subst (λ k. g.I.Inbox.HasHad start (messages k selected address value) c.deliver_quad.new.inbox) next (c.deliver_quad.ensures.come c.in_default.is start here);
    }
