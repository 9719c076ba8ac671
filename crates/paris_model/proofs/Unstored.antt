-- A processor that doesn't store keeps its number.
use Rattle.std.proofs.Common.{◌≡◌, ℕ, ◌<◌, Bool, true, false, cond, List, slice_index, Option, Some, None, refl, ap, ◌∙◌}
use Rattle.std.specs.Prelude.{◌==◌}
use Rattle.paris_names.specs.declared.keys.Key.{Key}
use Rattle.paris_names.specs.declared.keys.Key.TheVariants.{Field, Flag}
use Rattle.paris_names.specs.Keys.{has_key}
use Rattle.paris_geometry.specs.Geometry.{processor_count}
use Rattle.paris_model.specs.declared.actions.Refusal.{Refusal}
use Rattle.paris_model.specs.declared.actions.Operand.{Operand}
use Rattle.paris_model.specs.declared.actions.Conditional.{Conditional}
use Rattle.paris_model.specs.declared.actions.Conditional.TheVariants.{Binary, Unary, MoveConstant, Resize, Compare, MyCoordinate, MyAddress, SetTest, ClearTest, LoadTest, StoreTest}
use Rattle.paris_model.specs.declared.actions.News.{News}
use Rattle.paris_model.specs.declared.actions.Line.{Line}
use Rattle.paris_model.specs.declared.actions.Mail.{Mail}
use Rattle.paris_model.specs.declared.actions.Action.{Action}
use Rattle.paris_model.specs.declared.actions.Action.TheVariants.{OnSelected, OnAll, ByNews, AlongLine, ByMail}
use Rattle.paris_model.specs.Store.{put}
use Rattle.paris_model.specs.Frame.{Frame, World, put_where, is_selected, at}
use Rattle.paris_model.specs.Conditional.{conditional_after}
use Rattle.paris_model.specs.News.{news_after}
use Rattle.paris_model.specs.Lines.{line_after, line_length, stores_on_line}
use Rattle.paris_model.specs.Mail.{mail_after, mail_of, delivered, notified, gets_mail}
use Rattle.paris_model.specs.Instructions.{Plan, writes, stores_all_bits, frame_of, refusal, after_in, one}
use Rattle.paris_model.specs.Laws.{stores, stores_by_news, stores_by_mail}
use Rattle.paris_model.proofs.Stores.{everywhere-at}
use Rattle.paris_model.proofs.Direct.{one_direct_kept, refused_leaves}

put_unstored : (m : Frame) (who : ℕ → Bool) (k : Key) (L : ℕ) (new : ℕ → ℕ) (v : ℕ) → v < processor_count m.axes → who v ≡ false → slice_index (put_where m who k L new) v ≡ slice_index (m.world k) v
put_unstored m who k L new v below unstored = everywhere-at (processor_count m.axes) _ v below ∙ ap (λ b. cond b (put (at m k v) (new v) L) (at m k v)) unstored

conditional_unstored : (m : Frame) (i : Conditional Operand ℕ) (k : Key) (v : ℕ) → v < processor_count m.axes → is_selected m v ≡ false → slice_index (conditional_after m i k) v ≡ slice_index (m.world k) v
conditional_unstored m i (Flag s flag) v below unstored = put_unstored m (is_selected m) (Flag s flag) 1 _ v below unstored
conditional_unstored m (Binary op D A B L) (Field f) v below unstored = put_unstored m (is_selected m) (Field f) L _ v below unstored
conditional_unstored m (Unary op D A L) (Field f) v below unstored = put_unstored m (is_selected m) (Field f) L _ v below unstored
conditional_unstored m (MoveConstant D K L) (Field f) v below unstored = put_unstored m (is_selected m) (Field f) L (λ u. K) v below unstored
conditional_unstored m (Resize sign D A L M) (Field f) v below unstored = put_unstored m (is_selected m) (Field f) L _ v below unstored
conditional_unstored m (MyCoordinate D X L) (Field f) v below unstored = put_unstored m (is_selected m) (Field f) L _ v below unstored
conditional_unstored m (MyAddress D L) (Field f) v below unstored = put_unstored m (is_selected m) (Field f) L (λ u. u) v below unstored
conditional_unstored m (StoreTest F) (Field f) v below unstored = put_unstored m (is_selected m) (Field f) 1 _ v below unstored
conditional_unstored m (Compare op A B L) (Field f) v below unstored = refl
conditional_unstored m (SetTest s) (Field f) v below unstored = refl
conditional_unstored m (ClearTest s) (Field f) v below unstored = refl
conditional_unstored m (LoadTest F) (Field f) v below unstored = refl

news_unstored : (m : Frame) (i : News Operand) (k : Key) (v : ℕ) → v < processor_count m.axes → stores_by_news m i v ≡ false → slice_index (news_after m i k) v ≡ slice_index (m.world k) v
news_unstored m (News.Get D A X direction L) k v below unstored = put_unstored m _ k L _ v below unstored
news_unstored m (News.Send D A X direction L) k v below unstored = put_unstored m _ k L _ v below unstored

line_unstored : (m : Frame) (i : Line Operand) (k : Key) (v : ℕ) → v < processor_count m.axes → stores_on_line m i v ≡ false → slice_index (line_after m i k) v ≡ slice_index (m.world k) v
line_unstored m i (Field f) v below unstored = put_unstored m (stores_on_line m i) (Field f) (line_length i) _ v below unstored
line_unstored m i (Flag s flag) v below unstored = put_unstored m (stores_on_line m i) (Flag s flag) 1 _ v below unstored

delivered_unstored : (m : Frame) (mail : List (ℕ × ℕ)) (D : Operand) (L : ℕ) (value : ℕ → ℕ) (f v : ℕ) → v < processor_count m.axes → cond (f == D.field) (gets_mail mail v) true ≡ false → slice_index (delivered m mail D L value f) v ≡ slice_index (m.world (Field f)) v
delivered_unstored m mail D L value f v below unstored = by_test (f == D.field) unstored
  where
    by_test : (b : Bool) → cond b (gets_mail mail v) true ≡ false → slice_index (cond b (put_where m (gets_mail mail) (Field f) L value) (notified (processor_count m.axes) mail)) v ≡ slice_index (m.world (Field f)) v
    by_test true e = put_unstored m (gets_mail mail) (Field f) L value v below e
    by_test false e = absurd (let x : true ≡ false = e in cc)

mail_unstored : (m : Frame) (i : Mail Operand) (k : Key) (v : ℕ) → v < processor_count m.axes → stores_by_mail m i k v ≡ false → slice_index (mail_after m i k) v ≡ slice_index (m.world k) v
mail_unstored m (Mail.Get D B A L) (Field f) v below unstored = put_unstored m _ (Field f) L _ v below unstored
mail_unstored m (Mail.Send D B A L N) (Field f) v below unstored = delivered_unstored m (mail_of m B A L) D L _ f v below unstored
mail_unstored m (Mail.CombiningSend op D B A L N) (Field f) v below unstored = delivered_unstored m (mail_of m B A L) D L _ f v below unstored
mail_unstored m (Mail.Get D B A L) (Flag s flag) v below unstored = refl
mail_unstored m (Mail.Send D B A L N) (Flag s flag) v below unstored = refl
mail_unstored m (Mail.CombiningSend op D B A L N) (Flag s flag) v below unstored = refl

action_unstored : (m : Frame) (i : Action Operand ℕ) (k : Key) (v : ℕ) → v < processor_count m.axes → stores m i k v ≡ false → slice_index (after_in m i k) v ≡ slice_index (m.world k) v
action_unstored m (OnSelected i) k v below unstored = conditional_unstored m i k v below unstored
action_unstored m (OnAll i) k v below unstored = absurd (let x : true ≡ false = unstored in cc)
action_unstored m (ByNews i) k v below unstored = news_unstored m i k v below unstored
action_unstored m (AlongLine i) k v below unstored = line_unstored m i k v below unstored
action_unstored m (ByMail i) k v below unstored = mail_unstored m i k v below unstored

-- an instruction that stores all bits stores in every processor
some_unstored : (m : Frame) (i : Action Operand ℕ) (k : Key) (v : ℕ) → stores m i k v ≡ false → stores_all_bits i ≡ false
some_unstored m (OnSelected i) k v unstored = refl
some_unstored m (OnAll i) k v unstored = absurd (let x : true ≡ false = unstored in cc)
some_unstored m (ByNews i) k v unstored = refl
some_unstored m (AlongLine i) k v unstored = refl
some_unstored m (ByMail i) k v unstored = refl

pub leaves_unstored : (p : Plan) (w : World) (k : Key) (v : ℕ) → has_key (writes p) k ≡ true → v < processor_count p.axes → stores (frame_of p w) p.action k v ≡ false → slice_index (one p w k) v ≡ slice_index (w k) v
leaves_unstored p w k v t below unstored = by_refusal (refusal p w) refl
  where
    by_refusal : (o : Option Refusal) → refusal p w ≡ o → slice_index (one p w k) v ≡ slice_index (w k) v
    by_refusal (Some cause) e = ap (λ xs. slice_index xs v) (refused_leaves p w cause e k)
    by_refusal None e = ap (λ xs. slice_index xs v) (one_direct_kept p w (some_unstored (frame_of p w) p.action k v unstored) e k t) ∙ action_unstored (frame_of p w) p.action k v below unstored
