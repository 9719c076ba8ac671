use Rattle.std.proofs.Common.{◌≡◌, ◌<◌, ◌∙◌, ap, sym, subst, arith, length, take}
use Rattle.std.proofs.lemmas.List.{take_all}
use Rattle.std.specs.Option.{unwrap_or}
use Rattle.paris_model.specs.Instructions.{reads}
use Rattle.paris_book.specs.Among.{inputs_of}
use Rattle.paris_book.specs.Entries.{Entry}
use Rattle.paris_book.specs.Sources.{AreSources}
use Rattle.paris_book.proofs.Naming.{get_at, sources_more}
use Rattle.paris_book.proofs.looks.present_sources.Goals as goal

pub loop-number-preserved : goal.loop-number-preserved
loop-number-preserved c =
    let within : c.loop-number.number < length c.reads-keys.result.now = omega arith in
    sources_more (inputs_of c.args.inputs.now) c.args.rows.now.rows c.args.place c.reads-keys.result.now c.loop-number.number c.index-keys-number.result c.source_at.result c.loop-number.sources.keys c.put.new.self.keys
    (get_at c.reads-keys.result.now c.loop-number.number c.index-keys-number.result within c.index-keys-number.is) c.source_at.ensures c.put.ensures c.loop-number.invariant

pub returns : goal.returns
returns c = λ e at.
    (let row : e ≡ (c.at.result.0.0, c.at.result.1.now) = ap (λ o. unwrap_or o e) (sym at ∙ c.at.ensures.value) in
    let keys : take c.loop-number.number c.reads-keys.result.now ≡ reads e.1.plan =
    take_all c.loop-number.number c.reads-keys.result.now (omega arith) ∙ c.reads-keys.ensures ∙ ap reads c.plan.ensures ∙ ap (λ (x : Entry). reads x.1.plan) (sym row) in
    subst (λ ks. AreSources (inputs_of c.args.inputs.now) c.args.rows.now.rows c.args.place ks c.loop-number.sources.keys) keys c.loop-number.invariant)
