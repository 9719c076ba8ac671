use denote.Param.Send.{IsSend}
use Rattle.paris_c.proofs.SendSync.{kept_desk_send}
use Rattle.paris_c.proofs.seating.DeskContents.TheSendSync.{the_send}
use Rattle.paris_c.specs.contracts.desk_handle.KeptDesk.{the_row}

pub send : IsSend the_row
send = kept_desk_send the_send
