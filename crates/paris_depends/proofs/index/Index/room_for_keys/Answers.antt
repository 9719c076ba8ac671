use Rattle.paris_depends.specs.Index.{CanChange}
use Rattle.paris_depends.proofs.Edited.{room_kept}
use Rattle.paris_depends.proofs.index.Index.room_for_keys.Goals as goal

pub returns-in_err-room_for-clause-kept : goal.returns-in_err-room_for-clause-kept
returns-in_err-room_for-clause-kept c = λ id can.
    let old : CanChange _ id = rw (← c.self.view_is) at can in
    record {
      own = old.own;
      lists = λ f is.
          let room = old.lists f is in
          record { writers = room_kept c.self.inside.writers c.room_for.new.lists f.written c.room_for.ensures.more room.writers; readers = room.readers };
    }

pub returns-clause-kept : goal.returns-clause-kept
returns-clause-kept c = λ id can.
    let old : CanChange _ id = rw (← c.self.view_is) at can in
    record {
      own = old.own;
      lists = λ f is.
          let room = old.lists f is in
          record {
            writers = room_kept c.self.inside.writers c.room_for.new.lists f.written c.room_for.ensures.more room.writers;
            readers = room_kept c.self.inside.readers c.room_for-2.new.lists f.read c.room_for-2.ensures.more room.readers;
          };
    }
