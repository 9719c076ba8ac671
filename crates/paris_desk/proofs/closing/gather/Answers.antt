use Rattle.std.proofs.Common.{◌≡◌, ◌≤◌, ◌∙◌, sym, ap, arith, length, subst, ℕ, List}
use mathlib.Core.List.{IsPrefix}
use borrow.Author.Count.{below_more}
use Rattle.paris_records.proofs.Counting.{part_grows}
use Rattle.paris_records.specs.declared.records.Entry.{Entry}
use Rattle.paris_records.specs.declared.records.Receipt.{Receipt}
use Rattle.paris_records.specs.Receipts.{IsPart}
use Rattle.paris_desk.proofs.Gathering.{one_more, sum_more}
use Rattle.paris_desk.specs.Closing.{past_of, receipts_of}
use Rattle.paris_desk.specs.Seats.{SeatState}
use Rattle.paris_desk.proofs.closing.gather.Goals as goal

pub take_out-requires : goal.take_out-requires
take_out-requires g c =
    let i = c.loop-number.invariant in
    let n = c.loop-number.number in
    (i.6 n (omega arith)).0 ∙ c.requires.here n (omega arith)

pub loop-number-preserved : goal.loop-number-preserved
loop-number-preserved g c =
    let i = c.loop-number.invariant in
    let n = c.loop-number.number in
    let ss = c.args.seats.items in
    let h = c.args.known.now in
    let v = c.own.invariant in
    let same = i.6 n (omega arith) in
    let own : c.own.inside.receipts.items ≡ receipts_of n ss = ap (λ (s : SeatState). s.receipts) c.own.view_is ∙ c.take_out.ensures.receipts ∙ same.1 in
    let number : c.own.inside.number ≡ n = ap (λ (s : SeatState). s.number) c.own.view_is ∙ c.take_out.ensures.number in
    let past : c.own.inside.known ≡ past_of n ss = ap (λ (s : SeatState). s.past) c.own.view_is ∙ c.take_out.ensures.past ∙ same.2 in
    let short : length c.own.inside.known ≤ length h = subst (λ (es : List Entry). length es ≤ length h) (sym past) (c.requires.within n (omega arith)) in
    let begins : IsPrefix c.own.inside.known h = c.compare.ensures short in
    let part : IsPart c.own.inside.number 0 c.own.inside.receipts.items h = part_grows c.own.inside.number 0 c.own.inside.receipts.items c.own.inside.known h begins v.3 in
    let part' : IsPart n 0 (receipts_of n ss) h = subst (λ (rs : List Receipt). IsPart n 0 rs h) own (subst (λ (k : ℕ). IsPart k 0 c.own.inside.receipts.items h) number part) in (
      omega (arith, v.0, c.merge.ensures.parts, i.0),
      sum_more n ss c.loop-number.whole.amount c.own.inside.share.amount c.merge.new.self.amount i.1 (v.1 ∙ ap length own) c.merge.ensures.amount,
      one_more n ss c.loop-number.receipts.items c.push_reserved.new.self.items c.own.inside.receipts c.push_reserved.ensures.items own i.2,
      omega (arith, c.push_reserved.ensures.capacity, i.3),
      omega (arith, c.push_reserved.ensures.len, i.4),
      omega (arith, c.take_out.ensures.len, i.5),
      (λ m le. let o = c.take_out.ensures.others m (λ e. absurd (omega arith)) in let e = i.6 m (omega arith) in (o.0 ∙ e.0, o.1 ∙ e.1, o.2 ∙ e.2)),
      below_more (λ (k : ℕ). IsPrefix (past_of k ss) h) n i.7 (subst (λ (es : List Entry). IsPrefix es h) past begins),
      below_more (λ (k : ℕ). IsPart k 0 (receipts_of k ss) h) n i.8 part',
    )
