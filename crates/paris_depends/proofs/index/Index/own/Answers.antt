use Rattle.std.proofs.Common.{◌≡◌, ℕ, List, Some, sym, ap, ◌∙◌, subst, slice_get}
use Rattle.paris_names.specs.declared.keys.Key.{Key}
use Rattle.paris_program.specs.Program.{place_of}
use Rattle.paris_program.proofs.CallerLemmas.{row_there}
use Rattle.paris_depends.specs.Index.{Footprint}
use Rattle.paris_depends.specs.Lists.{HasRoomFor}
use Rattle.paris_depends.proofs.CallerLemmas.{place_at}
use Rattle.paris_depends.proofs.Slots.{on_ok}
use Rattle.paris_depends.proofs.index.Index.own.Goals as goal

pub returns-clause-ok : goal.returns-clause-ok
returns-clause-ok g c =
    let rows : List (ℕ × Footprint) = c.own.new.self.rows in
    let place = c.unwrap-place.result in
    let at : place_of rows c.args.id.0 ≡ Some place = ap (λ (l : List (ℕ × Footprint)). place_of l c.args.id.0) c.in_ok-own.ensures.rows ∙ sym c.place_of.ensures.value ∙ c.unwrap-place.ensures in
    let own = ap (λ (n : ℕ). slice_get c.own.new.self.own n) (place_at rows c.args.id.0 place at) ∙ c.in_ok-own.ensures.ok in
    let there = row_there rows c.args.id.0 place at in
    let writers = subst (λ (ks : List Key). HasRoomFor c.room_for.new.lists ks) c.keys_on.ensures c.in_ok-room_for.ensures.ok in
    on_ok _ (HasRoomFor c.room_for-2.new.lists c.keys_on-2.result.now) _ (λ ready.
    let readers = subst (λ (ks : List Key). HasRoomFor c.room_for-2.new.lists ks) c.keys_on-2.ensures ready in
    let row : c.at-row.result.now ≡ (c.args.id.0, there.0) = (let e = c.at-row.ensures in let f = there.1 in cc) in
    record {
      own = own;
      lists = λ f is.
          let same : c.at-row.result.now.1 ≡ f = (let g = there.2 in let h : there.0 ≡ f = cc in ap (λ (r : ℕ × Footprint). r.1) row ∙ h) in
          record {
            writers = subst (λ (x : Footprint). HasRoomFor c.room_for.new.lists x.written) same writers;
            readers = subst (λ (x : Footprint). HasRoomFor c.room_for-2.new.lists x.read) same readers;
          };
    }) c.room_for-2.ensures.ok
