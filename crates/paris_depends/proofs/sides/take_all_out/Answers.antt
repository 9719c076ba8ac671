use Rattle.std.proofs.Common.{ℕ, List, inl, sym, ap, ◌∙◌, cond, arith, subst}
use Rattle.std.proofs.lemmas.List.{take_all}
use Rattle.std.specs.List.{IsDistinct}
use Rattle.std.specs.Prelude.{remove}
use Rattle.paris_names.specs.declared.keys.Key.{Key}
use Rattle.paris_names.specs.Keys.{has_key, key_eq}
use Rattle.paris_depends.specs.Index.{Footprint}
use Rattle.paris_depends.specs.Lists.{list_at, room_at}
use Rattle.paris_depends.specs.Places.{count_to}
use Rattle.paris_depends.specs.Sides.{entries, keys_on, test_of}
use Rattle.paris_depends.proofs.KeyTurns.{has_key-at, new-once, turned-more}
use Rattle.paris_depends.proofs.Kept.{all-at, entries-remove, entry-within}
use Rattle.paris_depends.proofs.sides.take_all_out.Goals as goal

pub take_out-requires : goal.take_out-requires
take_out-requires g c =
    let keys : List Key = c.keys_on-key-items.result.now in
    let key : Key = c.key-item.result in
    let rows : List (ℕ × Footprint) = c.args.rows.now.rows in
    let row : ℕ × Footprint = c.at-row.result.now in
    let there = c.at-row.ensures in
    let once = all-at (λ (r : ℕ × Footprint). IsDistinct key_eq (keys_on c.args.side r.1)) rows c.args.place row c.requires.once there in
    let each = subst (λ (ks : List Key). IsDistinct key_eq ks) (sym c.keys_on-key-items.ensures) once in
    let old = c.loop-key.invariant.lists key
    ∙ ap (λ b. cond b (remove (entries c.args.side rows key) (count_to (test_of c.args.side key) rows c.args.place)) (entries c.args.side rows key)) (new-once keys c.loop-key.key-index key each c.loop-key-test.true c.key-item.is)
    in
    let here = ap (list_at c.loop-key.lists) c.slot.ensures.value ∙ old in
    let here' = ap (list_at c.loop-key.lists) c.slot-in-loop-key.ensures.value ∙ old in
    let rank = c.rank-i.ensures.rank rows c.args.side key c.requires.of (inl here) c.requires.within in
    let has = ap (λ ks. has_key ks key) (sym c.keys_on-key-items.ensures) ∙ has_key-at keys c.loop-key.key-index key c.loop-key-test.true c.key-item.is in
    let below = entry-within c.args.side rows c.args.place row key there has in
    let room = c.requires.room row there key has in
    let slot = ap (room_at c.args.lists.now) c.slot-in-loop-key.ensures.value in
    let more = c.loop-key.invariant.more c.slot-in-loop-key.result in
    record { there = rw (here', rank) below; room = omega (arith, room, slot, more) }

pub loop-key-preserved : goal.loop-key-preserved
loop-key-preserved g c =
    let keys : List Key = c.keys_on-key-items.result.now in
    let i : ℕ = c.loop-key.key-index in
    let key : Key = c.key-item.result in
    let rows : List (ℕ × Footprint) = c.args.rows.now.rows in
    let row : ℕ × Footprint = c.at-row.result.now in
    let once = all-at (λ (r : ℕ × Footprint). IsDistinct key_eq (keys_on c.args.side r.1)) rows c.args.place row c.requires.once c.at-row.ensures in
    let each = subst (λ (ks : List Key). IsDistinct key_eq ks) (sym c.keys_on-key-items.ensures) once in
    let old : Key → List ℕ = entries c.args.side rows in
    let new : Key → List ℕ = λ k. remove (old k) (count_to (test_of c.args.side k) rows c.args.place) in
    let there = c.loop-key.invariant.lists key ∙ ap (λ b. cond b (new key) (old key)) (new-once keys i key each c.loop-key-test.true c.key-item.is) in
    let rank = c.rank-i.ensures.rank rows c.args.side key c.requires.of (inl (ap (list_at c.loop-key.lists) c.slot.ensures.value ∙ there)) c.requires.within in
    record {
      lists = turned-more keys i key c.loop-key-test.true c.key-item.is c.slot-in-loop-key.result (list_at c.loop-key.lists) (list_at c.take_out.new.self) (λ s. remove (list_at c.loop-key.lists s) c.rank-i.result) new old
          c.slot-in-loop-key.ensures.value c.take_out.ensures.ids
          (ap (λ l. remove l c.rank-i.result) there ∙ ap (remove (old key)) rank)
          c.loop-key.invariant.lists;
      more = λ s. omega (arith, c.loop-key.invariant.more s, c.take_out.ensures.more s);
    }

pub returns-clause-ids : goal.returns-clause-ids
returns-clause-ids g c = λ k.
    let rows : List (ℕ × Footprint) = c.args.rows.now.rows in
    let old : List ℕ = entries c.args.side rows k in
    c.loop-key.invariant.lists k
    ∙ ap (λ ks. cond (has_key ks k) (remove old (count_to (test_of c.args.side k) rows c.args.place)) old) (take_all c.loop-key.key-index c.keys_on-key-items.result.now c.loop-key-test.false ∙ c.keys_on-key-items.ensures)
    ∙ sym (entries-remove c.args.side rows c.args.place c.at-row.result.now k c.at-row.ensures)
