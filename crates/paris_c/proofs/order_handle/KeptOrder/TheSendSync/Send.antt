use denote.Param.Send.{IsSend}
use Rattle.paris_c.proofs.SendSync.{kept_order_send}
use Rattle.paris_c.proofs.order_state.OrderState.TheSendSync.{the_send}
use Rattle.paris_c.specs.contracts.order_handle.KeptOrder.{the_row}

pub send : IsSend the_row
send = kept_order_send the_send
