-- What an action leaves at a key that it writes has one number for each processor.
use Rattle.std.proofs.Common.{◌≡◌, ℕ, ◌==◌, Bool, true, false, List, length, cond, Some, None, sym, ◌∙◌}
use Rattle.paris_names.specs.declared.keys.Key.{Key}
use Rattle.paris_names.specs.declared.keys.Key.TheVariants.{Field, Flag}
use Rattle.paris_names.specs.Keys.{has_key}
use Rattle.paris_geometry.specs.Geometry.{processor_count}
use Rattle.paris_model.specs.declared.actions.Operand.{Operand}
use Rattle.paris_model.specs.declared.actions.Conditional.{Conditional}
use Rattle.paris_model.specs.declared.actions.Conditional.TheVariants.{Binary, Unary, MoveConstant, Resize, Compare, MyCoordinate, MyAddress, SetTest, ClearTest, LoadTest, StoreTest}
use Rattle.paris_model.specs.declared.actions.News.{News}
use Rattle.paris_model.specs.declared.actions.Mail.{Mail}
use Rattle.paris_model.specs.declared.actions.Action.{Action}
use Rattle.paris_model.specs.declared.actions.Action.TheVariants.{OnSelected, OnAll, ByNews, AlongLine, ByMail}
use Rattle.paris_model.specs.Frame.{Frame, World, put_where}
use Rattle.paris_model.specs.Conditional.{conditional_after}
use Rattle.paris_model.specs.News.{news_after}
use Rattle.paris_model.specs.Mail.{mail_after, mail_of, delivered, gets_mail, notified}
use Rattle.paris_model.specs.Instructions.{Plan, writes, target_keys, after_plan, after_in, frame_of}
use Rattle.paris_model.proofs.Stores.{length-everywhere}
use Rattle.paris_model.proofs.Worlds.{writes_targets}

conditional_count : (m : Frame) (i : Conditional Operand ℕ) (k : Key) → has_key (target_keys m.set_no (OnSelected i)) k ≡ true → length (conditional_after m i k) ≡ processor_count m.axes
conditional_count m i (Flag s flag) t = length-everywhere (processor_count m.axes) _
conditional_count m (Binary op D A B L) (Field f) t = length-everywhere (processor_count m.axes) _
conditional_count m (Unary op D A L) (Field f) t = length-everywhere (processor_count m.axes) _
conditional_count m (MoveConstant D K L) (Field f) t = length-everywhere (processor_count m.axes) _
conditional_count m (Resize sign D A L M) (Field f) t = length-everywhere (processor_count m.axes) _
conditional_count m (MyCoordinate D X L) (Field f) t = length-everywhere (processor_count m.axes) _
conditional_count m (MyAddress D L) (Field f) t = length-everywhere (processor_count m.axes) _
conditional_count m (StoreTest F) (Field f) t = length-everywhere (processor_count m.axes) _
conditional_count m (Compare op A B L) (Field f) t = absurd (let x : false ≡ true = t in cc)
conditional_count m (SetTest s) (Field f) t = absurd (let x : false ≡ true = t in cc)
conditional_count m (ClearTest s) (Field f) t = absurd (let x : false ≡ true = t in cc)
conditional_count m (LoadTest F) (Field f) t = absurd (let x : false ≡ true = t in cc)

news_count : (m : Frame) (i : News Operand) (k : Key) → length (news_after m i k) ≡ processor_count m.axes
news_count m (News.Get D A X direction L) k = length-everywhere (processor_count m.axes) _
news_count m (News.Send D A X direction L) k = length-everywhere (processor_count m.axes) _

delivered_count : (m : Frame) (mail : List (ℕ × ℕ)) (D : Operand) (L : ℕ) (value : ℕ → ℕ) (f : ℕ) → length (delivered m mail D L value f) ≡ processor_count m.axes
delivered_count m mail D L value f = by_target (f == D.field)
  where
    by_target : (b : Bool) → length (cond b (put_where m (gets_mail mail) (Field f) L value) (notified (processor_count m.axes) mail)) ≡ processor_count m.axes
    by_target true = length-everywhere (processor_count m.axes) _
    by_target false = length-everywhere (processor_count m.axes) _

mail_count : (m : Frame) (i : Mail Operand) (k : Key) → has_key (target_keys m.set_no (ByMail i)) k ≡ true → length (mail_after m i k) ≡ processor_count m.axes
mail_count m (Mail.Get D B A L) (Field f) t = length-everywhere (processor_count m.axes) _
mail_count m (Mail.Send D B A L N) (Field f) t = delivered_count m (mail_of m B A L) D L _ f
mail_count m (Mail.CombiningSend op D B A L N) (Field f) t = delivered_count m (mail_of m B A L) D L _ f
mail_count m (Mail.Get D B A L) (Flag s flag) t = absurd (let x : false ≡ true = t in cc)
mail_count m (Mail.Send D B A L None) (Flag s flag) t = absurd (let x : false ≡ true = t in cc)
mail_count m (Mail.Send D B A L (Some N)) (Flag s flag) t = absurd (let x : false ≡ true = t in cc)
mail_count m (Mail.CombiningSend op D B A L None) (Flag s flag) t = absurd (let x : false ≡ true = t in cc)
mail_count m (Mail.CombiningSend op D B A L (Some N)) (Flag s flag) t = absurd (let x : false ≡ true = t in cc)

action_count : (m : Frame) (i : Action Operand ℕ) (k : Key) → has_key (target_keys m.set_no i) k ≡ true → length (after_in m i k) ≡ processor_count m.axes
action_count m (OnSelected i) k t = conditional_count m i k t
action_count m (OnAll i) k t = length-everywhere (processor_count m.axes) _
action_count m (ByNews i) k t = news_count m i k
action_count m (AlongLine i) (Field f) t = length-everywhere (processor_count m.axes) _
action_count m (AlongLine i) (Flag s flag) t = length-everywhere (processor_count m.axes) _
action_count m (ByMail i) k t = mail_count m i k t

pub after_count : (p : Plan) (w : World) (k : Key) → has_key (writes p) k ≡ true → length (after_plan p w k) ≡ processor_count p.axes
after_count p w k t = action_count (frame_of p w) p.action k (sym (writes_targets p k) ∙ t)
