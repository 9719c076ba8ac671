use Rattle.std.proofs.Common.{◌≡◌, ◌∙◌, ◌+◌, ◌*◌, ◌^◌, ◌<◌, ap, sym, arith, length, refl, List, ℕ, subst}
use Rattle.std.specs.Int.{IsPowerOfTwo}
use Rattle.paris_plane.specs.Digits.{digit}
use Rattle.paris_geometry.specs.Geometry.{axis_length, processor_count, stride}
use Rattle.paris_geometry.proofs.Powers.{block_doubles, power_times, stride_power}
use Rattle.paris_geometry.proofs.Strides.{length_positive, geometry_powers}
use Rattle.paris_field.specs.Numbers.{number_at}
use Rattle.paris_scan.specs.Blocks.{block}
use Rattle.paris_scan.proofs.Gathered.{Turn, block_one, gathered_twice}
use Rattle.paris_scan.proofs.butterfly.gather.Goals as goal

pub loop-places-init : goal.loop-places-init
loop-places-init g c =
    let axes : List ℕ = c.args.geometry in
    let some : 0 < axis_length axes c.args.axis = length_positive axes c.args.axis (geometry_powers axes c.stride-stride.ensures.sound) c.requires.axis in
    record {
      power = (0, refl);
      some = omega arith;
      room = omega (arith, some, c.len-length.ensures);
      long = c.requires.state;
      brought_long = c.requires.brought;
      spare_long = c.requires.spare;
      lines = λ L own count fits shown v h. shown v h ∙ ap (g.C.Combine.shows L) (sym (block_one own (stride axes c.args.axis) v));
    }

pub join-requires-clause-partner : goal.join-requires-clause-partner
join-requires-clause-partner g c =
    power_times c.loop-places.places c.stride-stride.result c.loop-places.invariant.power
    (subst IsPowerOfTwo (sym c.stride-stride.ensures.value) (stride_power c.args.geometry c.args.axis c.stride-stride.ensures.sound))

pub loop-places-preserved : goal.loop-places-preserved
loop-places-preserved g c =
    let axes : List ℕ = c.args.geometry in
    let n : ℕ = c.loop-places.places in
    let s : ℕ = stride axes c.args.axis in
    let N : ℕ = processor_count axes in
    let old : ℕ → ℕ = number_at c.loop-places.state in
    let is : n * c.stride-stride.result ≡ n * s = ap (λ (x : ℕ). n * x) c.stride-stride.ensures.value in
    let ns : length c.loop-places.spare ≡ N = c.loop-places.invariant.spare_long in
    let below : n < axis_length axes c.args.axis = omega (arith, c.len-length.ensures) in
    let twice = block_doubles axes c.args.axis n c.stride-stride.ensures.sound c.requires.axis c.loop-places.invariant.power below in
    record {
      power = twice.power;
      some = (let y : 0 < n = c.loop-places.invariant.some in omega arith);
      room = omega (arith, twice.room, c.len-length.ensures);
      long = λ k h. c.join.ensures.long k h ∙ ns;
      brought_long = λ k h. c.join.ensures.brought k h ∙ ns;
      spare_long = c.join.ensures.spare ∙ ns;
      lines = λ L own count fits shown v h.
          let turn : Turn (g.C.Combine.shows L) (λ x. x < 2 ^ L) own s n N old = record {
            some = c.stride-stride.ensures.positive;
            more = c.loop-places.invariant.some;
            whole = twice.whole;
            swapped = g.met.C.Commute.swapped L;
            fits = fits;
            olds = c.loop-places.invariant.lines L own count fits shown;
          } in
          gathered_twice turn (number_at c.join.new.state) v
          (λ xs ys hx hy ex ey. c.join.ensures.joined L v xs ys (omega (arith, count, c.requires.same)) (omega (arith, h, ns)) hx hy
          (λ x comes. ex x (
            λ e there. comes.0 (ap (λ (d : ℕ). digit d v) is ∙ e) (omega (arith, there, ns, is)) ∙ ap (λ (d : ℕ). old (v + d)) is,
            λ u e place. comes.1 u (ap (λ (d : ℕ). digit d u) is ∙ e) (place ∙ ap (λ (d : ℕ). u + d) (sym is)),
          ))
          ey)
          h;
    }

pub returns-clause-lines : goal.returns-clause-lines
returns-clause-lines g c =
    λ L own count fits shown v h.
    let whole : c.loop-places.places ≡ axis_length c.args.geometry c.args.axis = omega (arith, c.len-length.ensures) in
    c.loop-places.invariant.lines L own count fits shown v h
    ∙ ap (λ n. g.C.Combine.shows L (block own (stride c.args.geometry c.args.axis) n v)) whole
