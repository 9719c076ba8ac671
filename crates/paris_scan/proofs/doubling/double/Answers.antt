use Rattle.std.proofs.Common.{◌≡◌, ◌∙◌, ◌*◌, ◌^◌, ◌<◌, ◌≤◌, ◌||◌, ap, sym, arith, length, get_or, false, Bool, List, ℕ, subst}
use Rattle.std.proofs.lemmas.Simd.{length-zip2}
use Rattle.paris_geometry.specs.Geometry.{axis_length, processor_count, stride}
use Rattle.paris_field.specs.Numbers.{number_at}
use Rattle.paris_scan.specs.Runs.{Reaches}
use Rattle.paris_scan.proofs.Twice.{begun_one, run_one}
use Rattle.paris_scan.proofs.Turns.{Walk, begun_doubled, run_doubled, run_ended}
use Rattle.paris_scan.proofs.doubling.double.Goals as goal

pub loop-places-init : goal.loop-places-init
loop-places-init g c =
    let f : ℕ → Bool = λ u. get_or c.args.begun.now u false in
    record {
      some = omega arith;
      begun_long = c.requires.begun;
      long = c.requires.state;
      brought_long = c.requires.brought;
      spare_long = c.requires.spare;
      within = λ v h. sym (begun_one f c.args.direction (stride c.args.geometry c.args.axis) v);
      runs = λ L own count fits shown v h. shown v h ∙ ap (g.C.Combine.shows L) (sym (run_one f own c.args.direction (stride c.args.geometry c.args.axis) v));
    }

pub loop-places-preserved : goal.loop-places-preserved
loop-places-preserved g c =
    let axes : List ℕ = c.args.geometry in
    let f : ℕ → Bool = λ u. get_or c.args.begun.now u false in
    let w : Walk axes c.args.axis c.args.direction f = record { sound = c.stride-stride.ensures.sound; within = c.requires.axis; starts = c.requires.starts } in
    let m : ℕ = c.loop-places.places in
    let by : ℕ = m * c.stride-stride.result in
    let is : by ≡ m * stride axes c.args.axis = ap (λ (x : ℕ). m * x) c.stride-stride.ensures.value in
    let nb : length c.loop-places.begun ≡ processor_count axes = c.loop-places.invariant.begun_long in
    let ns : length c.join.new.spare ≡ processor_count axes = c.join.ensures.spare ∙ c.loop-places.invariant.spare_long in
    let no : length c.move_plane.new.out ≡ processor_count axes = c.move_plane.ensures.long ∙ ns in
    record {
      some = (let y : 0 < m = c.loop-places.invariant.some in omega arith);
      begun_long = ap length c.or_in.ensures ∙ length-zip2 (λ x y. x || y) c.loop-places.begun c.move_plane.new.out (nb ∙ sym no) ∙ nb;
      long = λ k h. c.join.ensures.long k h ∙ c.loop-places.invariant.spare_long;
      brought_long = λ k h. c.join.ensures.brought k h ∙ c.loop-places.invariant.spare_long;
      spare_long = no;
      within = λ v h.
          begun_doubled w m by c.loop-places.begun c.move_plane.new.out c.or_in.new.self v is nb no c.loop-places.invariant.within
          (λ u below reach. c.move_plane.ensures.at u (omega (arith, below, nb)) (subst (λ n. Reaches c.args.direction by n u) (sym nb) reach))
          c.or_in.ensures h;
      runs = λ L own count fits shown v h.
          run_doubled w (g.C.Combine.shows L) (λ x. x < 2 ^ L) own m by c.loop-places.begun (number_at c.loop-places.state) (number_at c.join.new.state) v
          (g.met.C.Combine.none L) fits is c.loop-places.invariant.within (c.loop-places.invariant.runs L own count fits shown)
          (λ xs ys hx hy ex ey. c.join.ensures.joined L v xs ys (omega (arith, count, c.requires.same)) (omega (arith, h, c.loop-places.invariant.spare_long)) hx hy
          (λ x comes. ex x (comes.0, λ e reach. comes.1 e (subst (λ k. Reaches c.args.direction by k v) (sym c.loop-places.invariant.spare_long) reach)))
          ey)
          h;
    }

pub returns-clause-runs : goal.returns-clause-runs
returns-clause-runs g c =
    λ L own count fits shown v h.
    let axes : List ℕ = c.args.geometry in
    let f : ℕ → Bool = λ u. get_or c.args.begun.now u false in
    let w : Walk axes c.args.axis c.args.direction f = record { sound = c.stride-stride.ensures.sound; within = c.requires.axis; starts = c.requires.starts } in
    let enough : axis_length axes c.args.axis ≤ c.loop-places.places = omega (arith, c.len-length.ensures) in
    c.loop-places.invariant.runs L own count fits shown v h
    ∙ ap (g.C.Combine.shows L) (run_ended w own c.loop-places.places v enough h)
