use denote.Param.Send.{IsSend}
use Rattle.paris_c.proofs.SendSync.{kept_seat_send}
use Rattle.paris_c.proofs.seating.SeatContents.TheSendSync.{the_send}
use Rattle.paris_c.specs.contracts.seat_handle.KeptSeat.{the_row}

pub send : IsSend the_row
send = kept_seat_send the_send
