use Rattle.std.proofs.Common.{◌≡◌, ◌<◌, ◌∙◌, ap, sym, subst, arith, length, map, take, true, false, cond, Some, None, ◌++◌, ◌∷◌, []}
use Rattle.std.proofs.lemmas.List.{take_all}
use Rattle.std.specs.List.{list_all}
use Rattle.paris_names.specs.Keys.{has_key}
use Rattle.paris_model.specs.Instructions.{reads}
use Rattle.paris_book.specs.Among.{inputs_of, shared_shown, LookFits}
use Rattle.paris_events.specs.Orders.{inputs_now}
use Rattle.paris_exec.specs.Tasks.{field_of}
use Rattle.paris_book.specs.Kept.{present}
use Rattle.paris_book.specs.Entries.{seen}
use Rattle.paris_book.specs.Sources.{AreSources}
use Rattle.paris_book.specs.Whole.{shape_in}
use Rattle.paris_book.proofs.Among.{firm_among, inputs_among}
use Rattle.paris_book.proofs.Naming.{get_at, sources_more}
use Rattle.paris_book.proofs.Shows.{inputs_more, firm_lends, settled_firm, pending_loose, has_at, all_with, not_all, look_seen, all_firm_seen, inputs_seen}
use Rattle.paris_book.proofs.looks.present_inputs.Goals as goal

pub loop-number-preserved : goal.loop-number-preserved
loop-number-preserved c =
    let inputs = inputs_of c.args.inputs.now in
    let rows = c.args.rows.now.rows in
    let keys = c.reads-keys.result.now in
    let i = c.loop-number.number in
    let k = c.index-keys-number.result in
    let within : i < length keys = omega arith in
    let v = c.in-Settled.value.now in
    let shown = sym (ap shared_shown c.in-Settled.is) ∙ c.find_at-found.ensures.shown ∙ look_seen inputs rows k c.args.place in
    let here = settled_firm inputs rows k c.args.place v shown in
    let read : has_key (reads c.args.plan.now) k ≡ true = ap (λ ks. has_key ks k) (sym c.reads-keys.ensures) ∙ has_at keys i k within c.index-keys-number.is in
    let fits = subst (λ l. LookFits l (shape_in inputs k)) c.in-Settled.is c.find_at-found.ensures.fits in
    let lends = firm_lends inputs rows k c.args.place c.args.plan.now v here shown fits c.requires.plan_fitted read in
    let more = inputs_more inputs rows c.args.place c.args.plan.now keys c.loop-number.values.items _ i k v within c.index-keys-number.is lends
    (c.in_ok-push-in-Settled.ensures.items ∙ ap (λ v. c.loop-number.values.items ++ v ∷ []) c.in_ok-copy-in-Settled.ensures) c.loop-number.invariant.same c.loop-number.invariant.fit in
    record {
      firm = all_with (firm_among rows c.args.place) keys i k within c.index-keys-number.is c.loop-number.invariant.firm here;
      same = more.0;
      fit = more.1;
      sources = sources_more inputs rows c.args.place keys i k c.find_at-found.result.source c.loop-number.sources.keys c.put.new.self.keys (get_at keys i k within c.index-keys-number.is) c.find_at-found.ensures.source c.put.ensures c.loop-number.invariant.sources;
    }

pub returns-in-Pending-clause-values : goal.returns-in-Pending-clause-values
returns-in-Pending-clause-values c =
    let inputs = inputs_of c.args.inputs.now in
    let rows = c.args.rows.now.rows in
    let keys = c.reads-keys.result.now in
    let i = c.loop-number.number in
    let k = c.index-keys-number.result in
    let within : i < length keys = omega arith in
    let loose = pending_loose inputs rows k c.args.place _ (sym (ap shared_shown c.in-Pending.is) ∙ c.find_at-found.ensures.shown ∙ look_seen inputs rows k c.args.place) in
    let not : list_all (firm_among rows c.args.place) (reads c.args.plan.now) ≡ false =
    ap (list_all (firm_among rows c.args.place)) (sym c.reads-keys.ensures)
    ∙ not_all (firm_among rows c.args.place) keys i k within c.index-keys-number.is loose in
    ap (λ b. cond b (Some (inputs_now (seen inputs rows) c.args.place c.args.plan.now)) None) (sym (all_firm_seen rows c.args.place (reads c.args.plan.now) ∙ not))

pub returns-clause-values : goal.returns-clause-values
returns-clause-values c =
    let inputs = inputs_of c.args.inputs.now in
    let rows = c.args.rows.now.rows in
    let p = c.args.plan.now in
    let keys : take c.loop-number.number c.reads-keys.result.now ≡ reads p = take_all c.loop-number.number c.reads-keys.result.now (omega arith) ∙ c.reads-keys.ensures in
    let all : list_all (firm_among rows c.args.place) (reads p) ≡ true = ap (list_all (firm_among rows c.args.place)) (sym keys) ∙ c.loop-number.invariant.firm in
    let same : c.loop-number.values.items ≡ inputs_among inputs rows c.args.place p = c.loop-number.invariant.same ∙ ap (map (λ k. field_of p k (present inputs rows c.args.place k))) keys in
    ap Some (same ∙ sym (inputs_seen inputs rows c.args.place p))
    ∙ ap (λ b. cond b (Some (inputs_now (seen inputs rows) c.args.place p)) None) (sym (all_firm_seen rows c.args.place (reads p) ∙ all))

pub returns-clause-sources : goal.returns-clause-sources
returns-clause-sources c =
    subst (λ ks. AreSources (inputs_of c.args.inputs.now) c.args.rows.now.rows c.args.place ks c.loop-number.sources.keys) (take_all c.loop-number.number c.reads-keys.result.now (omega arith) ∙ c.reads-keys.ensures) c.loop-number.invariant.sources
