use Rattle.std.proofs.Common.{◌≡◌, ◌<◌, ◌∙◌, List, Some, ap, sym, subst, arith, length, slice_get, true}
use Rattle.std.proofs.Math.Path.{ap₂}
use Rattle.paris_names.specs.declared.keys.Key.{Key}
use Rattle.paris_names.specs.Keys.{has_key}
use Rattle.paris_names.specs.declared.profiles.Profile.TheVariants.{One}
use Rattle.paris_board.specs.Board.{empty_board}
use Rattle.paris_model.specs.Frame.{World}
use Rattle.paris_model.specs.Instructions.{reads}
use Rattle.paris_field.specs.Fields.{FieldNumbers, field_eq}
use Rattle.paris_exec.specs.Tasks.{field_of}
use Rattle.paris_events.specs.Show.{now, origin_at}
use Rattle.paris_events.specs.Orders.{is_firm as is_firm_origin}
use Rattle.paris_book.specs.Among.{inputs_of, shared_shown, LookFits}
use Rattle.paris_book.specs.Entries.{seen, rows_seen}
use Rattle.paris_book.specs.Whole.{shape_in}
use Rattle.paris_book.proofs.Naming.{get_at, sources_more, passed_over, field_eq_self}
use Rattle.paris_book.proofs.Shows.{firm_lends, firm_seen, has_at, look_seen, now_is, settled_firm}
use Rattle.paris_book.proofs.looks.sources_if_same.Goals as goal
use Rattle.paris_book.proofs.looks.sources_if_same.Goals.{else-not-is_known_at-via-then-not-is_known_at+else-not-equals, else-not-is_known_at-via-else-not-is_known_at}

pub loop-i-preserved : goal.loop-i-preserved
loop-i-preserved c =
    let inputs = inputs_of c.args.inputs.now in
    let rows = c.args.rows.now.rows in
    let keys : List Key = c.reads-keys.result.now in
    let i = c.loop-i.i in
    let k : Key = c.index-keys-i.result in
    let within : i < length keys = omega arith in
    let at : slice_get keys i ≡ Some k = get_at keys i k within c.index-keys-i.is in
    let f : Key → FieldNumbers = λ j. field_of c.args.plan.now j (now (seen inputs rows) c.args.place j) in
    let v = c.in-Settled.value.now in
    let shown = sym (ap shared_shown c.in-Settled.is) ∙ c.find_at-found.ensures.shown ∙ look_seen inputs rows k c.args.place in
    let here = settled_firm inputs rows k c.args.place v shown in
    let firm : is_firm_origin (origin_at (rows_seen rows) c.args.place k) ≡ true = firm_seen rows c.args.place k ∙ here in
    let read : has_key (reads c.args.plan.now) k ≡ true = ap (λ ks. has_key ks k) (sym c.reads-keys.ensures) ∙ has_at keys i k within c.index-keys-i.is in
    let fits = subst (λ l. LookFits l (shape_in inputs k)) c.in-Settled.is c.find_at-found.ensures.fits in
    let value : v ≡ f k = (firm_lends inputs rows k c.args.place c.args.plan.now v here shown fits c.requires.plan_fitted read).0
    ∙ ap (λ (u : World). field_of c.args.plan.now k (u k)) (sym (now_is (empty_board One) 0 1 inputs rows c.args.place)) in
    record {
      same = c.loop-i.invariant.same ∙ elim c.else-not-is_known_at.branch [
        | else-not-is_known_at-via-then-not-is_known_at+else-not-equals w ↦ (
            let x : FieldNumbers = w.index-values-i.result in
            let equal : field_eq (f k) x ≡ true = ap₂ field_eq (sym value ∙ sym w.get.ensures) (sym w.get-then-not-is_known_at.ensures) ∙ sym w.if-not-equals.ensures.value in
            passed_over (λ j. is_firm_origin (origin_at (rows_seen rows) c.args.place j)) f keys c.args.values.now i k x at (get_at c.args.values.now i x (omega arith) w.index-values-i.is) firm equal)
        | else-not-is_known_at-via-else-not-is_known_at w ↦ (
            let there = c.requires.known i k c.find_at-found.result.source (c.is_known_at.ensures w.if-not-is_known_at.false) c.find_at-found.ensures.source (ap (λ (l : List Key). slice_get l i) (sym c.reads-keys.ensures) ∙ at) in
            passed_over (λ j. is_firm_origin (origin_at (rows_seen rows) c.args.place j)) f keys c.args.values.now i k (f k) at there firm (field_eq_self (f k)))
      ];
      sources = sources_more inputs rows c.args.place keys i k c.find_at-found.result.source c.loop-i.sources.keys c.put.new.self.keys at c.find_at-found.ensures.source c.put.ensures c.loop-i.invariant.sources;
    }
