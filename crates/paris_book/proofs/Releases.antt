-- A book of which no order is out any more is as whole as it was.
use Rattle.std.proofs.Common.{◌≡◌, ℕ, inl, List, [], ◌∷◌, Bool, true, cond, refl, sym, ap, ◌∙◌, arith, map}
use Rattle.std.proofs.lemmas.Map.Made.{keys_of-map_values}
use Rattle.paris_names.specs.declared.keys.Key.{Key}
use Rattle.paris_names.specs.Keys.{has_key}
use Rattle.paris_board.specs.Board.{Board}
use Rattle.paris_model.specs.Frame.{World}
use Rattle.paris_model.specs.Instructions.{writes, one}
use Rattle.paris_edits.specs.Rows.{is_settled}
use Rattle.paris_events.specs.State.{Row, Inputs, State, start_world}
use Rattle.paris_events.specs.Orders.{recalled_status, recalled_row, after_release}
use Rattle.paris_book.specs.Kept.{ripen, Sound}
use Rattle.paris_book.specs.Whole.{RowsBelow, AllFitted, IsWhole}
use Rattle.paris_book.specs.Entries.{Entry, machine_row, with_data}
use Rattle.paris_book.specs.Marks.{recalled_data}
use Rattle.paris_edits.specs.declared.rows.Status.{Status}
use Rattle.paris_edits.specs.declared.rows.Status.TheVariants.{Waiting, Out, Settled}
use Rattle.paris_book.proofs.Inserts.{state_of}
use Rattle.paris_book.proofs.Settling.{sound_more}
use Rattle.paris_book.proofs.Sourced.{Comes, Every, Stands, all_stand, no_news, sourced_from}

-- what is settled stays so, and nothing else becomes so
pub settled_same : (s : Status) → is_settled (recalled_status s) ≡ is_settled s
settled_same Waiting = refl
settled_same Out = refl
settled_same Settled = refl

ripen_same : (h : Key → Bool) (e : Entry) (f : Key) → ripen h (with_data recalled_data e) f ≡ ripen h e f
unfolding ripen
ripen_same h e f = ap (λ b. cond (has_key (writes e.1.plan) f) b (h f)) (settled_same e.1.status)

sound_recalled : (w : World) (h : Key → Bool) (es : List Entry) → Sound w h es → Sound w h (map (with_data recalled_data) es)
sound_recalled w h [] s = tt
sound_recalled w h (e ∷ es) s =
    let same = settled_same e.1.status in (
      record { kept = λ t. s.0.kept (sym same ∙ t); origins = λ t. s.0.origins (sym same ∙ t) },
      sound_more (one e.1.plan w) (ripen h e) (ripen h (with_data recalled_data e)) (λ f t. ripen_same h e f ∙ t) (map (with_data recalled_data) es) (sound_recalled (one e.1.plan w) (ripen h e) es s.1),
    )

rows_recalled : (n m : ℕ) (es : List Entry) → RowsBelow n m es → RowsBelow n m (map (with_data recalled_data) es)
rows_recalled n m [] r = tt
rows_recalled n m (e ∷ es) r = (r.0, r.1, rows_recalled n m es r.2)

fitted_recalled : (inputs : Inputs) (es : List Entry) → AllFitted inputs es → AllFitted inputs (map (with_data recalled_data) es)
fitted_recalled inputs [] f = tt
fitted_recalled inputs (e ∷ es) f = (f.0, fitted_recalled inputs es f.1)

every_recalled : (n : ℕ) (es xs : List Entry) → Every (Stands es) xs → Every (Comes n n es) (map (with_data recalled_data) xs)
every_recalled n es [] all = tt
every_recalled n es (x ∷ xs) all =
    (inl (record { place = all.0.place; e = x; at = all.0.at; id = refl; done = refl; sources = refl; edition = inl (refl, λ u. sym (settled_same x.1.status) ∙ u) }), every_recalled n es xs all.1)

pub release_whole : (b : Board) (n m : ℕ) (inputs : Inputs) (es : List Entry) → IsWhole b n m inputs es → IsWhole b n m inputs (map (with_data recalled_data) es)
release_whole b n m inputs es w = record {
  next_few = w.next_few;
  edits_few = w.edits_few;
  as_many_fields = w.as_many_fields;
  as_many_flags = w.as_many_flags;
  shaped = w.shaped;
  inputs_below = w.inputs_below;
  rows_below = rows_recalled n m es w.rows_below;
  ids_apart = rw (keys_of-map_values recalled_data es) w.ids_apart;
  fitted = fitted_recalled inputs es w.fitted;
  sound = sound_recalled (start_world inputs) (λ _. true) es w.sound;
  sourced = sourced_from n n inputs inputs es (map (with_data recalled_data) es) (omega arith) (every_recalled n es es (all_stand es)) (no_news n inputs) w.sourced;
}

view_recalled : (es : List Entry) → map machine_row (map (with_data recalled_data) es) ≡ map recalled_row (map machine_row es)
view_recalled [] = refl
view_recalled (e ∷ es) = ap (λ rs. recalled_row (machine_row e) ∷ rs) (view_recalled es)

pub release_view : (b : Board) (n m : ℕ) (inputs : Inputs) (es zs : List Entry) (s : State) → zs ≡ map (with_data recalled_data) es → state_of b n m inputs es ≡ s → state_of b n m inputs zs ≡ after_release s
release_view b n m inputs es zs s z y =
    ap (λ (rs : List Row). record { board = b; edits = n; inputs = inputs; next = m; rows = rs }) (ap (map machine_row) z ∙ view_recalled es)
    ∙ ap after_release y
