-- What C holds may go to another thread as the box that it holds may.
use Rattle.std.specs.Prelude.{Option, None, Some}
use mir.Raw.{raw}
use base.Shift.{Keyless}
use denote.RattleType.{RattleType}
use denote.Memory.{lone}
use denote.RawPtr.{Ptr}
use denote.Builtin.{RawPtr}
use denote.Struct.Struct.{exits_of}
use denote.Struct.Owning.{shape, fields, to}
use denote.Param.Send.{IsSend, AllSend, owning_send, struct_send, sendable}
use Rattle.keep.proofs.Names.{lies, quiet}
use Rattle.std.proofs.Crossing.{frees}
use Rattle.std.proofs.alloc.Global.TheSendSync as heap_crosses
use Rattle.std.specs.contracts.alloc.Global as global
use Rattle.std.specs.contracts.impls.GlobalAllocator.TheImpl as heap
use Rattle.paris_c.specs.Holding.{holds}
use Rattle.paris_c.specs.contracts.contents.Contents as contents
use Rattle.paris_c.specs.contracts.order_state.OrderState as order_state
use Rattle.paris_c.specs.contracts.seating.DeskContents as desk_contents
use Rattle.paris_c.specs.contracts.seating.SeatContents as seat_contents
use Rattle.paris_c.specs.contracts.handle.Kept as kept
use Rattle.paris_c.specs.contracts.desk_handle.KeptDesk as kept_desk
use Rattle.paris_c.specs.contracts.seat_handle.KeptSeat as kept_seat
use Rattle.paris_c.specs.contracts.order_handle.KeptOrder as kept_order

pointer_send : IsSend RawPtr
pointer_send = search sendable

held : (R : RattleType) → IsSend R → (a : global.the_row.Denot) (p : Ptr) (v : Option R.Denot) → Keyless (holds (heap.ghosts.dealloc_token a) R p v)
held R s a p None = tt
held R s a p (Some x) = (lies R s p x, frees.frees a (raw (lone R.mir)) p)

pub kept_send : IsSend contents.the_row → IsSend kept.the_row
kept_send s =
    let O = kept.the_type in
    let all : AllSend (fields O) = (pointer_send, (heap_crosses.the_field_send, tt)) in
    owning_send O all (λ d. held contents.the_row s d.alloc d.at d.value) (λ k. quiet (to O) (exits_of k (fields O)) ((struct_send (shape O) all).leaving k))

pub kept_order_send : IsSend order_state.the_row → IsSend kept_order.the_row
kept_order_send s =
    let O = kept_order.the_type in
    let all : AllSend (fields O) = (pointer_send, (heap_crosses.the_field_send, tt)) in
    owning_send O all (λ d. held order_state.the_row s d.alloc d.at d.value) (λ k. quiet (to O) (exits_of k (fields O)) ((struct_send (shape O) all).leaving k))

pub kept_desk_send : IsSend desk_contents.the_row → IsSend kept_desk.the_row
kept_desk_send s =
    let O = kept_desk.the_type in
    let all : AllSend (fields O) = (pointer_send, (heap_crosses.the_field_send, tt)) in
    owning_send O all (λ d. held desk_contents.the_row s d.alloc d.at d.value) (λ k. quiet (to O) (exits_of k (fields O)) ((struct_send (shape O) all).leaving k))

pub kept_seat_send : IsSend seat_contents.the_row → IsSend kept_seat.the_row
kept_seat_send s =
    let O = kept_seat.the_type in
    let all : AllSend (fields O) = (pointer_send, (heap_crosses.the_field_send, tt)) in
    owning_send O all (λ d. held seat_contents.the_row s d.alloc d.at d.value) (λ k. quiet (to O) (exits_of k (fields O)) ((struct_send (shape O) all).leaving k))
