use Rattle.std.proofs.Common.{◌≡◌, ℕ, ◌∙◌, sym, subst, ap, refl, arith, length}
use Rattle.std.proofs.lemmas.List.{length-map}
use Rattle.paris_model.specs.Instructions.{Plan}
use Rattle.std.specs.Prelude.{insert}
use Rattle.paris_program.specs.Program.{Inserts, place_in}
use Rattle.paris_depends.specs.Index.{CanAdd, Footprint, footprint}
use Rattle.paris_depends.proofs.CallerLemmas.{place_at}
use Rattle.paris_tests.proofs.Indexed.{held, held_on, indexed_more, others, placed}
use Rattle.paris_tests.specs.declared.depends.Planned.{Planned}
use Rattle.paris_tests.proofs.depends.Rows.put.Goals as goal

-- a plan as the data of a row
abbrev planned : Plan → Planned
planned plan = record { plan = plan }

pub room-requires : goal.room-requires
room-requires g c =
    let long = ap length c.args.self.now.indexed in
    omega (arith, c.len.ensures.value, long, length-map {B = ℕ × Footprint} c.args.self.now.program.rows (λ (r : ℕ × Planned). (r.0, footprint r.1.plan)))

pub add-requires-clause-there : goal.add-requires-clause-there
add-requires-clause-there g c =
    let inserts = held c.insert_at.result c.ok-5.result c.expect-id.result (Inserts c.args.self.now.program c.insert_at.new.self c.args.place (planned c.expect-copy.result)) c.ok-5.ensures.value c.expect-id.ensures c.insert_at.ensures.ok in
    let at = placed (λ (r : Planned). r.plan) c.args.self.now.program c.insert_at.new.self c.args.place (planned c.expect-copy.result) c.expect-id.result c.args.self.now.index.rows inserts (omega (arith, c.len.ensures.value)) c.next_id.ensures.sound c.args.self.now.indexed in
    rw at refl

pub add-requires-clause-others : goal.add-requires-clause-others
add-requires-clause-others g c =
    let inserts = held c.insert_at.result c.ok-5.result c.expect-id.result (Inserts c.args.self.now.program c.insert_at.new.self c.args.place (planned c.expect-copy.result)) c.ok-5.ensures.value c.expect-id.ensures c.insert_at.ensures.ok in
    others (λ (r : Planned). r.plan) c.args.self.now.program c.insert_at.new.self c.args.place (planned c.expect-copy.result) c.expect-id.result c.room.new.self.rows inserts (omega (arith, c.len.ensures.value)) c.next_id.ensures.sound (c.args.self.now.indexed ∙ sym c.room.ensures.rows)

pub add-requires-clause-room : goal.add-requires-clause-room
add-requires-clause-room g c =
    let inserts = held c.insert_at.result c.ok-5.result c.expect-id.result (Inserts c.args.self.now.program c.insert_at.new.self c.args.place (planned c.expect-copy.result)) c.ok-5.ensures.value c.expect-id.ensures c.insert_at.ensures.ok in
    let at = placed (λ (r : Planned). r.plan) c.args.self.now.program c.insert_at.new.self c.args.place (planned c.expect-copy.result) c.expect-id.result c.args.self.now.index.rows inserts (omega (arith, c.len.ensures.value)) c.next_id.ensures.sound c.args.self.now.indexed in
    let other = held c.copy-2.result c.ok-2.result c.expect-other.result (λ (p : Plan). p ≡ c.args.plan.now) c.ok-2.ensures.value c.expect-other.ensures c.copy-2.ensures in
    let shared = held c.new.result c.ok-3.result c.expect-shared.result (λ (p : Plan). p ≡ c.expect-other.result) c.ok-3.ensures.value c.expect-shared.ensures c.new.ensures.ok in
    let room = held_on c.room.result c.ok-4.result c.expect.result (CanAdd c.room.new.self.room c.args.place (footprint c.args.plan.now)) c.ok-4.ensures.value c.expect.ensures c.room.ensures.ok in
    let asked = subst (λ (p : Plan). CanAdd c.room.new.self.room c.args.place (footprint p)) (sym (shared ∙ other)) room in
    subst (λ (n : ℕ). CanAdd c.room.new.self.room n (footprint c.expect-shared.result)) (sym (place_at c.insert_at.new.self.rows c.expect-id.result.0 c.args.place at)) asked

pub invariant_of-self : goal.invariant_of-self
invariant_of-self g c =
    let copied = held c.copy.result c.ok.result c.expect-copy.result (λ (p : Plan). p ≡ c.args.plan.now) c.ok.ensures.value c.expect-copy.ensures c.copy.ensures in
    let inserts = held c.insert_at.result c.ok-5.result c.expect-id.result (Inserts c.args.self.now.program c.insert_at.new.self c.args.place (planned c.expect-copy.result)) c.ok-5.ensures.value c.expect-id.ensures c.insert_at.ensures.ok in
    let other = held c.copy-2.result c.ok-2.result c.expect-other.result (λ (p : Plan). p ≡ c.args.plan.now) c.ok-2.ensures.value c.expect-other.ensures c.copy-2.ensures in
    let shared = held c.new.result c.ok-3.result c.expect-shared.result (λ (p : Plan). p ≡ c.expect-other.result) c.ok-3.ensures.value c.expect-shared.ensures c.new.ensures.ok in
    let same = ap (λ (p : Plan). insert c.room.new.self.rows (place_in c.insert_at.new.self.rows c.expect-id.result.0) (c.expect-id.result.0, footprint p)) (shared ∙ other ∙ sym copied) in
    record {
      indexed = indexed_more (λ (r : Planned). r.plan) c.args.self.now.program c.insert_at.new.self c.args.place (planned c.expect-copy.result) c.expect-id.result c.room.new.self.rows inserts (omega (arith, c.len.ensures.value)) c.next_id.ensures.sound (c.args.self.now.indexed ∙ sym c.room.ensures.rows) c.add.new.self.rows (c.add.ensures ∙ same);
    }
