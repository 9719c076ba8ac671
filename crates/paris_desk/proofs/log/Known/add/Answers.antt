use Rattle.std.proofs.Common.{◌≡◌, ◌+◌, List, [], ◌∷◌, ◌++◌, length, sym, ◌∙◌, ap, subst, arith, length-append}
use Rattle.paris_records.specs.declared.records.Entry.{Entry}
use Rattle.paris_records.specs.History.{Legal}
use Rattle.paris_desk.specs.Rules.{MayFollow}
use Rattle.paris_desk.proofs.Histories.{legal_more}
use Rattle.paris_desk.proofs.Adding.{added, adds_moves}
use Rattle.paris_desk.proofs.log.Known.add.Goals as goal

pub compare_exchange-found-requires : goal.compare_exchange-found-requires
compare_exchange-found-requires g c =
    let h = c.args.head.now.head_is in
    let again = c.again-seen.ensures in
    let offer = c.plain-offer.ensures in
    let pen = c.no_pen-pen.ensures in
    let book = ap (λ s. s.book) again ∙ c.self.invariant.1 ∙ sym (ap (λ w. w.book) h) in (
      ap (λ w. w.tracked) h,
      book,
      pen.0 ∙ book,
      offer.0,
      rw (ap (λ w. w.key) h, ap (λ s. s.log) again, pen.1, offer.1, offer.3) (adds_moves c.self.inside.seen.log c.args.entry.now c.self.inside.count (sym c.self.invariant.0)),
    )

pub invariant_of-result : goal.invariant_of-result
invariant_of-result g c =
    let again = c.again-seen.ensures in
    let done = c.compare_exchange-found.ensures in
    let before = c.self.inside.seen.log in
    let e = c.args.entry.now in
    let grown : c.compare_exchange-found.new.seen.log ≡ before ++ e ∷ [] =
    added c.again-seen.result.log _ c.plain-offer.result.ask _ c.self.inside.count done.7 c.if-found-count.false
    ∙ ap (λ (l : List Entry). l ++ c.plain-offer.result.ask ∷ []) (ap (λ s. s.log) again)
    ∙ ap (λ (x : Entry). before ++ x ∷ []) c.plain-offer.ensures.1 in
    let long : length c.compare_exchange-found.new.seen.log ≡ length before + 1 = ap length grown ∙ length-append before (e ∷ []) in
    let may = subst (λ (h : List Entry). MayFollow g.L.Office.profile h e) (sym c.self.view_is) c.requires.legal in (
      omega (arith, long, c.self.invariant.0),
      done.0 ∙ ap (λ s. s.book) again ∙ c.self.invariant.1,
      subst (Legal g.L.Office.profile) (sym grown) (legal_more g.L.Office.profile before e c.self.invariant.2 may),
    )
