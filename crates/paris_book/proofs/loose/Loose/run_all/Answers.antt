use Rattle.std.proofs.Common.{sym, subst}
use Rattle.paris_book.specs.Rounds.{Advances}
use Rattle.paris_book.proofs.Advancing.{advances_none, advances_more}
use Rattle.paris_book.proofs.loose.Loose.run_all.Goals as goal
use Rattle.paris_book.proofs.loose.Loose.run_all.Goals.{then-workers-gt1+in_ok-ran, else-workers-gt1}

pub run_in_order-requires : goal.run_in_order-requires
run_in_order-requires g c =
    elim c.if-workers-gt1.branch [
      | then-workers-gt1+in_ok-ran w ↦ (subst (Advances w.in_ok-ran.ran c.args.self.now) (sym w.self-is) w.in_ok-ran.ensures).idle c.requires.idle
      | else-workers-gt1 w ↦ (advances_none c.args.self.now c.if-workers-gt1.self w.self-is).idle c.requires.idle
    ]

pub returns-in-Ok-clause-advances : goal.returns-in-Ok-clause-advances
returns-in-Ok-clause-advances g c =
    let first = c.args.self.now in
    let next = c.if-workers-gt1.self in
    let levels : Advances c.if-workers-gt1.ran first next = elim c.if-workers-gt1.branch [
      | then-workers-gt1+in_ok-ran w ↦ subst (λ n. Advances n first next) (sym w.ran-is) (subst (Advances w.in_ok-ran.ran first) (sym w.self-is) w.in_ok-ran.ensures)
      | else-workers-gt1 w ↦ subst (λ n. Advances n first next) (sym w.ran-is) (advances_none first next w.self-is)
    ] in
    advances_more c.if-workers-gt1.ran c.in-Ok.more first next c.run_in_order.new.self levels c.in-Ok.ensures.advances

pub returns-in-Err-clause-advances : goal.returns-in-Err-clause-advances
returns-in-Err-clause-advances g c =
    let first = c.args.self.now in
    let next = c.if-workers-gt1.self in
    let levels : Advances c.if-workers-gt1.ran first next = elim c.if-workers-gt1.branch [
      | then-workers-gt1+in_ok-ran w ↦ subst (λ n. Advances n first next) (sym w.ran-is) (subst (Advances w.in_ok-ran.ran first) (sym w.self-is) w.in_ok-ran.ensures)
      | else-workers-gt1 w ↦ subst (λ n. Advances n first next) (sym w.ran-is) (advances_none first next w.self-is)
    ] in
    advances_more c.if-workers-gt1.ran c.in-Err.fault.ran first next c.run_in_order.new.self levels c.in-Err.ensures.advances
