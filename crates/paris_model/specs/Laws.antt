-- Laws of the definitions, in the words of the subject.
use Rattle.std.specs.Prelude.{◌≡◌, ℕ, ◌^◌, ◌<◌, ◌==◌, ◌++◌, List, [], ◌∷◌, All, length, slice_index, Bool, false, map, take, drop, ◌||◌, if◌then◌else◌, Some, None, Err, true}
use Rattle.paris_names.specs.declared.keys.Key.{Key}
use Rattle.paris_names.specs.declared.keys.Key.TheVariants.{Field}
use Rattle.paris_names.specs.Keys.{has_key, key_eq}
use Rattle.paris_model.specs.declared.actions.Refusal.{Refusal}
use Rattle.paris_geometry.specs.declared.direction.Direction.{Direction}
use Rattle.paris_geometry.specs.Geometry.{processor_count}
use Rattle.paris_model.specs.declared.operators.Combiner.{Combiner}
use Rattle.paris_model.specs.declared.operators.Inclusion.{Inclusion}
use Rattle.paris_model.specs.declared.actions.Operand.{Operand}
use Rattle.paris_model.specs.declared.actions.News.{News}
use Rattle.paris_model.specs.declared.actions.Line.TheVariants.{Scan, CopyScan}
use Rattle.paris_model.specs.declared.actions.Mail.{Mail}
use Rattle.paris_model.specs.declared.actions.Action.{Action}
use Rattle.paris_model.specs.declared.actions.Action.TheVariants.{OnSelected, OnAll, ByNews, AlongLine, ByMail}
use Rattle.paris_model.specs.Combine.{combine, unit}
use Rattle.paris_model.specs.Frame.{Frame, World, is_selected}
use Rattle.paris_model.specs.News.{news_sender}
use Rattle.paris_model.specs.Lines.{combined_values, stores_on_line}
use Rattle.paris_model.specs.Mail.{gets_mail, mail_of}
use Rattle.paris_model.specs.Fits.{IsFit}
use Rattle.paris_model.specs.Instructions.{Plan, reads, writes, key_width, frame_of, outcome, given, one, after_plan, refusal}
use Rattle.paris_model.specs.Run.{run, direct_run}
use Rattle.paris_model.specs.Recipe.{Recipe, past}
use Rattle.paris_model.specs.Recipe.Recipe.{Start, Made, End, And}

-- a plan leaves every key that it doesn't write
abbrev pub LeavesOthers : Type 0
LeavesOthers = (p : Plan) (w : World) (k : Key) → has_key (writes p) k ≡ false → one p w k ≡ w k

-- a plan that is refused reads all that it writes
abbrev pub RefusedReadsWrites : Type 0
RefusedReadsWrites = (p : Plan) (inputs : List (List ℕ)) (cause : Refusal) (k : Key) → outcome p inputs ≡ Err cause → has_key (writes p) k ≡ true → has_key (reads p) k ≡ true

-- in a world, the numbers at a key fit its width in the plan: each is below 2 to the power of it
abbrev pub FitsAt : Plan → World → Key → Type 0
FitsAt p w k = All (λ x. x < 2 ^ key_width p k) (w k)

-- the numbers fit at each key that the plan reads
abbrev pub ReadsFit : Plan → World → Type 0
ReadsFit p w = (k : Key) → has_key (reads p) k ≡ true → FitsAt p w k

-- they fit at each key that it writes and doesn't read, as where nothing stands there
abbrev pub UnreadFit : Plan → World → Type 0
UnreadFit p w = (k : Key) → has_key (writes p) k ≡ true → has_key (reads p) k ≡ false → FitsAt p w k

-- where numbers fit, a fit plan leaves one for each processor at each key that it writes, and they fit
abbrev pub StaysBelow : Type 0
StaysBelow = (p : Plan) (w : World) → IsFit p.axes p.action → ReadsFit p w → UnreadFit p w
    → (k : Key) → has_key (writes p) k ≡ true → FitsAt p (after_plan p w) k × (length (after_plan p w k) ≡ processor_count p.axes)

-- two worlds have the same numbers at each key that the plan reads
abbrev pub AgreeOnReads : Plan → World → World → Type 0
AgreeOnReads p w w' = (k : Key) → has_key (reads p) k ≡ true → w k ≡ w' k

-- whether and why a plan is refused hangs on what it reads alone
abbrev pub RefusalDependsOnReads : Type 0
RefusalDependsOnReads = (p : Plan) (w w' : World) → AgreeOnReads p w w' → refusal p w ≡ refusal p w'

-- and so does what a fit plan leaves at the keys that it writes, where the numbers that it overwrites fit
abbrev pub DependsOnReads : Type 0
DependsOnReads = (p : Plan) (w w' : World) → IsFit p.axes p.action → AgreeOnReads p w w' → UnreadFit p w → UnreadFit p w'
    → (k : Key) → has_key (writes p) k ≡ true → after_plan p w k ≡ after_plan p w' k

-- where numbers fit, a fit plan that isn't refused leaves at each key that it writes what its instruction gives in that very world
abbrev pub OneIsDirect : Type 0
OneIsDirect = (p : Plan) (w : World) → IsFit p.axes p.action → UnreadFit p w → refusal p w ≡ None → (k : Key) → has_key (writes p) k ≡ true → one p w k ≡ after_plan p w k

-- a plan that is refused leaves every key
abbrev pub RefusedLeavesAll : Type 0
RefusedLeavesAll = (p : Plan) (w : World) (cause : Refusal) → refusal p w ≡ Some cause → (k : Key) → one p w k ≡ w k

-- the numbers of a world fit these widths
abbrev pub WorldFits : (Key → ℕ) → World → Type 0
WorldFits width w = (k : Key) → All (λ x. x < 2 ^ width k) (w k)

-- a plan is fit, and the keys that it reads and writes have these widths
pub record PlanFits (width : Key → ℕ) (p : Plan) : Type 0 where
  pub action : IsFit p.axes p.action
  pub widths : (k : Key) → (has_key (reads p) k || has_key (writes p) k) ≡ true → key_width p k ≡ width k

abbrev pub PlansFit : (Key → ℕ) → List Plan → Type 0
PlansFit width [] = Unit {0}
PlansFit width (p ∷ ps) = PlanFits width p × PlansFit width ps

-- where plans and the numbers at the start fit the widths of the keys, a run leaves at each key what the same run leaves in which each instruction sees the whole world
abbrev pub RunIsDirect : Type 0
RunIsDirect = (width : Key → ℕ) (w : World) (plans : List Plan) → WorldFits width w → PlansFit width plans → (k : Key) → run w plans k ≡ direct_run w plans k

-- whether a processor stores what news brings: a get goes by its own context, and a send by that of the sender
abbrev pub stores_by_news : Frame → News Operand → ℕ → Bool
stores_by_news m (News.Get D A X direction L) v = is_selected m v
stores_by_news m (News.Send D A X direction L) v = is_selected m (news_sender m.axes X direction v)

-- whether a processor stores at a key what mail brings: a get goes by its own context, a send's destination by what arrives, and a notify field is stored everywhere
abbrev pub stores_by_mail : Frame → Mail Operand → Key → ℕ → Bool
stores_by_mail m (Mail.Get D B A L) k v = is_selected m v
stores_by_mail m (Mail.Send D B A L N) k v = if key_eq k (Field D.field) then gets_mail (mail_of m B A L) v else true
stores_by_mail m (Mail.CombiningSend op D B A L N) k v = if key_eq k (Field D.field) then gets_mail (mail_of m B A L) v else true

-- whether a processor stores at a key that the action writes
abbrev pub stores : Frame → Action Operand ℕ → Key → ℕ → Bool
stores m (OnSelected i) k v = is_selected m v
stores m (OnAll i) k v = true
stores m (ByNews i) k v = stores_by_news m i v
stores m (AlongLine i) k v = stores_on_line m i v
stores m (ByMail i) k v = stores_by_mail m i k v

-- a processor that doesn't store keeps its number
abbrev pub LeavesUnstored : Type 0
LeavesUnstored = (p : Plan) (w : World) (k : Key) (v : ℕ) → has_key (writes p) k ≡ true → v < processor_count p.axes → stores (frame_of p w) p.action k v ≡ false
    → slice_index (one p w k) v ≡ slice_index (w k) v

-- two numbers of L bits combine to one of L bits
abbrev pub CombinedFit : Type 0
CombinedFit = (op : Combiner) (L x y : ℕ) → x < 2 ^ L → y < 2 ^ L → combine op L x y < 2 ^ L

-- they combine in either order
abbrev pub CombinersCommute : Type 0
CombinersCommute = (op : Combiner) (L x y : ℕ) → combine op L x y ≡ combine op L y x

-- and in any grouping
abbrev pub CombinersAssociate : Type 0
CombinersAssociate = (op : Combiner) (L x y z : ℕ) → combine op L (combine op L x y) z ≡ combine op L x (combine op L y z)

-- the unit changes no number of L bits
abbrev pub UnitsChangeNothing : Type 0
UnitsChangeNothing = (op : Combiner) (L x : ℕ) → x < 2 ^ L → combine op L (unit op L) x ≡ x

-- a field is 1 nowhere
abbrev pub IsOneNowhere : Frame → Operand → Type 0
IsOneNowhere m G = All (λ x. (x == 1) ≡ false) (m.world (Field G.field))

-- a scan with a segment field that is 1 nowhere combines the same values as one without
abbrev pub ScanIsUncut : Type 0
ScanIsUncut = (m : Frame) (op : Combiner) (D A G : Operand) (X L : ℕ) (direction : Direction) (kind : Inclusion) (v : ℕ) → IsOneNowhere m G
    → combined_values m (Scan op D A X L direction kind (Some G)) v ≡ combined_values m (Scan op D A X L direction kind None) v

-- and so does a copy scan
abbrev pub CopyScanIsUncut : Type 0
CopyScanIsUncut = (m : Frame) (D A G : Operand) (X L : ℕ) (direction : Direction) (v : ℕ) → IsOneNowhere m G
    → combined_values m (CopyScan D A X L direction (Some G)) v ≡ combined_values m (CopyScan D A X L direction None) v

-- a row of a program: its id, the number of the edit that set its instruction, and its plan
pub record EditedRow : Type 0 where
  pub id : ℕ
  pub number : ℕ
  pub plan : Plan

-- a book of edits: the plan that each edit gave a row, and the numbers that each edit gave a key
pub record Edits : Type 0 where
  pub plan : ℕ → ℕ → Plan
  pub numbers : ℕ → Key → List ℕ

-- what a recipe gives at keys, by the edits that it names
abbrev pub recipe_values : Edits → Recipe → List Key → List (List ℕ)
recipe_values b (Start n) ks = map (b.numbers n) ks
recipe_values b (Made i s c) ks = map (given (b.plan i s) (recipe_values b c (reads (b.plan i s)))) ks
recipe_values b End ks = []
recipe_values b (And a c) ks = recipe_values b a (take 1 ks) ++ recipe_values b c (drop 1 ks)

-- the recipes of the keys give the world
abbrev pub RecipesGive : Edits → (Key → Recipe) → World → Type 0
RecipesGive b q w = (k : Key) → recipe_values b (q k) (k ∷ []) ≡ w k ∷ []

-- the edits gave the rows their plans
abbrev pub Explains : Edits → List EditedRow → Type 0
Explains b [] = Unit {0}
Explains b (r ∷ rs) = (b.plan r.id r.number ≡ r.plan) × Explains b rs

-- the recipe of each key after rows
abbrev pub past_rows : (Key → Recipe) → List EditedRow → Key → Recipe
past_rows q [] = q
past_rows q (r ∷ rs) = past_rows (past q r.id r.number r.plan) rs

abbrev pub plans_of : List EditedRow → List Plan
plans_of rows = map (λ (r : EditedRow). r.plan) rows

-- the same recipe gives the same numbers: in two programs that one book of edits explains, a key has the same numbers wherever its recipes are the same
abbrev pub SameRecipeSameValue : Type 0
SameRecipeSameValue = (b : Edits) (q q' : Key → Recipe) (w w' : World) (rows rows' : List EditedRow) → RecipesGive b q w → RecipesGive b q' w' → Explains b rows → Explains b rows'
    → (k : Key) → past_rows q rows k ≡ past_rows q' rows' k → run w (plans_of rows) k ≡ run w' (plans_of rows') k
