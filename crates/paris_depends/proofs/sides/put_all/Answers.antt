use Rattle.std.proofs.Common.{ℕ, List, inr, sym, ap, ◌∙◌, cond, subst}
use Rattle.std.proofs.lemmas.List.{take_all}
use Rattle.std.specs.List.{IsDistinct}
use Rattle.std.specs.Prelude.{insert, remove}
use Rattle.paris_names.specs.declared.keys.Key.{Key}
use Rattle.paris_names.specs.Keys.{has_key, key_eq}
use Rattle.paris_depends.specs.Index.{Footprint}
use Rattle.paris_depends.specs.Lists.{HasRoomFor, list_at, room_at}
use Rattle.paris_depends.specs.Places.{count_to}
use Rattle.paris_depends.specs.Sides.{entries, keys_on, test_of}
use Rattle.paris_depends.proofs.Edited.{entries-back, entries-kept}
use Rattle.paris_depends.proofs.KeyTurns.{has_key-at, new-once, room-left, turned-more}
use Rattle.paris_depends.proofs.Kept.{all-at}
use Rattle.paris_depends.proofs.sides.put_all.Goals as goal

pub loop-key-init : goal.loop-key-init
loop-key-init g c =
    let room = c.requires.room c.at-row.result.now c.at-row.ensures in
    record {
      lists = c.requires.lists;
      room = subst (λ (ks : List Key). HasRoomFor c.args.lists.now ks) (sym c.keys_on-key-items.ensures) room;
    }

pub loop-key-preserved : goal.loop-key-preserved
loop-key-preserved g c =
    let keys : List Key = c.keys_on-key-items.result.now in
    let i : ℕ = c.loop-key.key-index in
    let key : Key = c.key-item.result in
    let rows : List (ℕ × Footprint) = c.args.rows.now.rows in
    let row : ℕ × Footprint = c.at-row.result.now in
    let once = all-at (λ (r : ℕ × Footprint). IsDistinct key_eq (keys_on c.args.side r.1)) rows c.args.place row c.requires.once c.at-row.ensures in
    let each = subst (λ (ks : List Key). IsDistinct key_eq ks) (sym c.keys_on-key-items.ensures) once in
    let old : Key → List ℕ = entries c.args.side (remove rows c.args.place) in
    let new : Key → List ℕ = entries c.args.side rows in
    let there = c.loop-key.invariant.lists key ∙ ap (λ b. cond b (new key) (old key)) (new-once keys i key each c.loop-key-test.true c.key-item.is) in
    let rank = c.rank-i.ensures.rank rows c.args.side key c.requires.of (inr (ap (list_at c.loop-key.lists) c.slot.ensures.value ∙ there)) c.requires.within in
    let has = ap (λ ks. has_key ks key) (sym c.keys_on-key-items.ensures) ∙ has_key-at keys i key c.loop-key-test.true c.key-item.is in
    let back = entries-back c.args.side rows c.args.place row key c.at-row.ensures ∙ ap (λ b. cond b (insert (old key) (count_to (test_of c.args.side key) rows c.args.place) row.0) (old key)) has in
    let id = c.id.ensures in
    record {
      lists = turned-more keys i key c.loop-key-test.true c.key-item.is c.slot-in-loop-key.result (list_at c.loop-key.lists) (list_at c.put.new.self) (λ s. insert (list_at c.loop-key.lists s) c.rank-i.result c.id.result.0) new old
          c.slot-in-loop-key.ensures.value c.put.ensures.ids
          (ap (λ l. insert l c.rank-i.result c.id.result.0) there ∙ ap (λ n. insert (old key) n c.id.result.0) rank ∙ ap (λ n. insert (old key) (count_to (test_of c.args.side key) rows c.args.place) n) id ∙ sym back)
          c.loop-key.invariant.lists;
      room = room-left keys i key c.loop-key-test.true c.key-item.is c.slot-in-loop-key.result (room_at c.loop-key.lists) (room_at c.put.new.self) c.slot-in-loop-key.ensures.value each c.put.ensures.rooms c.loop-key.invariant.room;
    }

pub returns : goal.returns
returns g c = λ k.
    let rows : List (ℕ × Footprint) = c.args.rows.now.rows in
    c.loop-key.invariant.lists k
    ∙ ap (λ ks. cond (has_key ks k) (entries c.args.side rows k) (entries c.args.side (remove rows c.args.place) k)) (take_all c.loop-key.key-index c.keys_on-key-items.result.now c.loop-key-test.false ∙ c.keys_on-key-items.ensures)
    ∙ entries-kept c.args.side rows c.args.place c.at-row.result.now k c.at-row.ensures
