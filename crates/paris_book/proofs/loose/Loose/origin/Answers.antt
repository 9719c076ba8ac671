use Rattle.std.proofs.Common.{◌≡◌, ap, ◌∙◌, sym, refl}
use Rattle.std.specs.Prelude.{ℕ, Ok, Some, None, Option}
use Rattle.std.specs.Option.{option_map}
use Rattle.paris_names.specs.declared.ids.RowId.{RowId}
use Rattle.paris_board.specs.Board.{key_named}
use Rattle.paris_events.specs.State.{State}
use Rattle.paris_events.specs.Show.{origin_at}
use Rattle.paris_book.proofs.Among.{origin_among}
use Rattle.paris_book.specs.Entries.{Entry, machine_row}
use Rattle.paris_book.specs.Origins.{origin_key, origin_from}
use Rattle.paris_book.proofs.Shows.{origin_seen}
use Rattle.paris_book.proofs.Wanting.{named_by}
use Rattle.paris_book.proofs.loose.Loose.origin.Goals as goal

by_origin : (found : Option RowId) (o : Option Entry) → option_map (λ (id : RowId). id.0) found ≡ option_map (λ (e : Entry). e.0) o → found ≡ option_map (λ r. r.id) (option_map machine_row o)
by_origin None None e = refl
by_origin None (Some x) e = absurd (cc)
by_origin (Some id) None e = absurd (cc)
by_origin (Some id) (Some x) e = let same : id.0 ≡ x.0 = cc in ap (λ (i : ℕ). let r : RowId = record { 0 = i } in Some r) same

pub returns : goal.returns
returns c =
    let s = c.args.self.now in
    let es = c.self.inside.rows.rows in
    let name : key_named s.board c.args.name ≡ Some c.in_ok-key.key = ap (λ (z : State). key_named z.board c.args.name) (sym c.self.view_is) ∙ named_by (key_named c.self.inside.board c.args.name) c.in_ok-key.key _ c.in_ok-key.ensures.value in
    ap Ok (by_origin c.origin.result (origin_among es c.in_ok-place.place c.in_ok-key.key) c.origin.ensures
    ∙ ap (option_map (λ r. r.id)) (sym (origin_seen es c.in_ok-place.place c.in_ok-key.key))
    ∙ ap (λ (z : State). option_map (λ r. r.id) (origin_at z c.in_ok-place.place c.in_ok-key.key)) c.self.view_is)
    ∙ ap (origin_from s c.in_ok-key.key) (sym c.in_ok-place.ensures.ok)
    ∙ ap (origin_key s c.args.spot) (sym name)
