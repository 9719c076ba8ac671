use denote.Param.Send.{IsSend}
use Rattle.paris_c.proofs.SendSync.{kept_send}
use Rattle.paris_c.proofs.contents.Contents.TheSendSync.{the_send}
use Rattle.paris_c.specs.contracts.handle.Kept.{the_row}

pub send : IsSend the_row
send = kept_send the_send
