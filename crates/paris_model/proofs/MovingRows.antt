-- Worked rows of instructions that move values between processors, by computing. Fields are numbered in the order in which a row names them.
use Rattle.std.proofs.Common.{◌≡◌, List, [], ◌∷◌, refl, Some, None}
use Rattle.paris_names.specs.declared.keys.FlagName.TheVariants.{Context, Overflow}
use Rattle.paris_names.specs.declared.keys.Key.TheVariants.{Field, Flag}
use Rattle.paris_geometry.specs.declared.direction.Direction.TheVariants.{Upward, Downward}
use Rattle.paris_model.specs.declared.actions.Refusal.TheVariants.{Collision, BadAddress}
use Rattle.paris_model.specs.declared.actions.Action.TheVariants.{OnSelected, ByNews, AlongLine, ByMail}
use Rattle.paris_model.specs.declared.actions.Conditional.TheVariants.{Unary}
use Rattle.paris_model.specs.declared.actions.News.TheVariants as News
use Rattle.paris_model.specs.declared.actions.Line.TheVariants.{Scan, CopyScan, Spread, CopySpread, Reduce}
use Rattle.paris_model.specs.declared.actions.Mail.TheVariants as Mail
use Rattle.paris_model.specs.declared.operators.UnaryOperator.TheVariants.{Move}
use Rattle.paris_model.specs.declared.operators.Combiner.TheVariants as Combiner
use Rattle.paris_model.specs.declared.operators.Inclusion.TheVariants.{Inclusive, Exclusive}
use Rattle.paris_model.specs.Frame.{World}
use Rattle.paris_model.specs.Instructions.{Plan, reads, writes, value_at, outcome, one}
use Rattle.paris_model.specs.Run.{run, cause}
use Rattle.paris_model.proofs.Rows.{wide, on}

-- get-from-news-1L d v 0 upward 8 (v 8 bits, d 8 bits)
abbrev get-from-news-plans : List Plan
get-from-news-plans = on (4 ∷ []) (ByNews (News.Get (wide 1 8) (wide 0 8) 0 Upward 8)) ∷ []

abbrev get-from-news-start : World
get-from-news-start = value_at (Field 0 ∷ Flag 0 Context ∷ []) ((1 ∷ 2 ∷ 3 ∷ 4 ∷ []) ∷ (1 ∷ 1 ∷ 1 ∷ 1 ∷ []) ∷ [])

get-from-news-wraps-round : run get-from-news-start get-from-news-plans (Field 1) ≡ (2 ∷ 3 ∷ 4 ∷ 1 ∷ [])
unfolding one outcome reads writes
get-from-news-wraps-round = refl

-- get-from-news-1L d v 0 upward 8 (v 8 bits, d 8 bits, one processor)
abbrev lone-get-from-news-plans : List Plan
lone-get-from-news-plans = on (1 ∷ []) (ByNews (News.Get (wide 1 8) (wide 0 8) 0 Upward 8)) ∷ []

abbrev lone-get-from-news-start : World
lone-get-from-news-start = value_at (Field 0 ∷ Flag 0 Context ∷ []) ((7 ∷ []) ∷ (1 ∷ []) ∷ [])

alone-on-its-axis-it-is-its-own-neighbour : run lone-get-from-news-start lone-get-from-news-plans (Field 1) ≡ (7 ∷ [])
unfolding one outcome reads writes
alone-on-its-axis-it-is-its-own-neighbour = refl

-- get-from-news-1L d v 1 upward 8 (v 8 bits, d 8 bits, on axes 2x2)
abbrev get-along-second-axis-plans : List Plan
get-along-second-axis-plans = on (2 ∷ 2 ∷ []) (ByNews (News.Get (wide 1 8) (wide 0 8) 1 Upward 8)) ∷ []

abbrev get-along-second-axis-start : World
get-along-second-axis-start = value_at (Field 0 ∷ Flag 0 Context ∷ []) ((1 ∷ 2 ∷ 3 ∷ 4 ∷ []) ∷ (1 ∷ 1 ∷ 1 ∷ 1 ∷ []) ∷ [])

get-from-news-along-the-second-axis : run get-along-second-axis-start get-along-second-axis-plans (Field 1) ≡ (3 ∷ 4 ∷ 1 ∷ 2 ∷ [])
unfolding one outcome reads writes
get-from-news-along-the-second-axis = refl

-- send-to-news-1L d v 0 upward 8 (v 8 bits, d 8 bits)
abbrev send-to-news-plans : List Plan
send-to-news-plans = on (4 ∷ []) (ByNews (News.Send (wide 1 8) (wide 0 8) 0 Upward 8)) ∷ []

abbrev send-to-news-start : World
send-to-news-start = value_at (Flag 0 Context ∷ Field 0 ∷ Field 1 ∷ []) ((1 ∷ 0 ∷ 1 ∷ 1 ∷ []) ∷ (1 ∷ 2 ∷ 3 ∷ 4 ∷ []) ∷ (0 ∷ 0 ∷ 0 ∷ 0 ∷ []) ∷ [])

send-to-news-goes-by-the-sender : run send-to-news-start send-to-news-plans (Field 1) ≡ (4 ∷ 1 ∷ 0 ∷ 3 ∷ [])
unfolding one outcome reads writes
send-to-news-goes-by-the-sender = refl

-- scan-with-u-add-1L d v 0 8 upward inclusive none (v 8 bits, d 8 bits)
abbrev scan-plans : List Plan
scan-plans = on (4 ∷ []) (AlongLine (Scan Combiner.Sum (wide 1 8) (wide 0 8) 0 8 Upward Inclusive None)) ∷ []

abbrev scan-start : World
scan-start = value_at (Flag 0 Context ∷ Field 0 ∷ Field 1 ∷ []) ((1 ∷ 0 ∷ 1 ∷ 1 ∷ []) ∷ (1 ∷ 2 ∷ 3 ∷ 4 ∷ []) ∷ (0 ∷ 0 ∷ 0 ∷ 0 ∷ []) ∷ [])

scan-passes-over-the-unselected : run scan-start scan-plans (Field 1) ≡ (1 ∷ 0 ∷ 4 ∷ 8 ∷ [])
unfolding one outcome reads writes
scan-passes-over-the-unselected = refl

-- scan-with-u-add-1L d v 0 8 upward inclusive g (v 8 bits, d 8 bits, g 1 bit)
abbrev upward-scan-plans : List Plan
upward-scan-plans = on (4 ∷ []) (AlongLine (Scan Combiner.Sum (wide 1 8) (wide 0 8) 0 8 Upward Inclusive (Some (wide 2 1)))) ∷ []

abbrev segments-start : World
segments-start = value_at (Field 0 ∷ Field 2 ∷ Flag 0 Context ∷ []) ((1 ∷ 2 ∷ 3 ∷ 4 ∷ []) ∷ (0 ∷ 0 ∷ 1 ∷ 0 ∷ []) ∷ (1 ∷ 1 ∷ 1 ∷ 1 ∷ []) ∷ [])

scan-restarts-at-a-segment : run segments-start upward-scan-plans (Field 1) ≡ (1 ∷ 3 ∷ 3 ∷ 7 ∷ [])
unfolding one outcome reads writes
scan-restarts-at-a-segment = refl

-- scan-with-u-add-1L d v 0 8 downward inclusive g (v 8 bits, d 8 bits, g 1 bit)
abbrev downward-scan-plans : List Plan
downward-scan-plans = on (4 ∷ []) (AlongLine (Scan Combiner.Sum (wide 1 8) (wide 0 8) 0 8 Downward Inclusive (Some (wide 2 1)))) ∷ []

downward-scan-restarts-at-a-segment : run segments-start downward-scan-plans (Field 1) ≡ (6 ∷ 5 ∷ 3 ∷ 4 ∷ [])
unfolding one outcome reads writes
downward-scan-restarts-at-a-segment = refl

-- scan-with-u-add-1L d v 0 8 upward exclusive g (v 8 bits, d 8 bits, g 1 bit)
abbrev exclusive-scan-plans : List Plan
exclusive-scan-plans = on (4 ∷ []) (AlongLine (Scan Combiner.Sum (wide 1 8) (wide 0 8) 0 8 Upward Exclusive (Some (wide 2 1)))) ∷ []

exclusive-scan-leaves-its-own-value-out : run segments-start exclusive-scan-plans (Field 1) ≡ (0 ∷ 1 ∷ 0 ∷ 3 ∷ [])
unfolding one outcome reads writes
exclusive-scan-leaves-its-own-value-out = refl

-- scan-with-u-min-1L d v 0 8 upward exclusive none (v 8 bits, d 8 bits)
abbrev scan-from-the-unit-plans : List Plan
scan-from-the-unit-plans = on (4 ∷ []) (AlongLine (Scan Combiner.Minimum (wide 1 8) (wide 0 8) 0 8 Upward Exclusive None)) ∷ []

abbrev scan-from-the-unit-start : World
scan-from-the-unit-start = value_at (Flag 0 Context ∷ Field 0 ∷ Field 1 ∷ []) ((0 ∷ 1 ∷ 1 ∷ 1 ∷ []) ∷ (9 ∷ 5 ∷ 7 ∷ 3 ∷ []) ∷ (0 ∷ 0 ∷ 0 ∷ 0 ∷ []) ∷ [])

exclusive-scan-starts-from-the-unit : run scan-from-the-unit-start scan-from-the-unit-plans (Field 1) ≡ (0 ∷ 255 ∷ 5 ∷ 5 ∷ [])
unfolding one outcome reads writes
exclusive-scan-starts-from-the-unit = refl

-- scan-with-copy-1L d v 0 8 upward g (v 8 bits, d 8 bits, g 1 bit)
abbrev copy-scan-plans : List Plan
copy-scan-plans = on (4 ∷ []) (AlongLine (CopyScan (wide 1 8) (wide 0 8) 0 8 Upward (Some (wide 2 1)))) ∷ []

abbrev copy-scan-start : World
copy-scan-start = value_at (Flag 0 Context ∷ Field 0 ∷ Field 2 ∷ Field 1 ∷ []) ((1 ∷ 0 ∷ 1 ∷ 1 ∷ []) ∷ (9 ∷ 2 ∷ 3 ∷ 4 ∷ []) ∷ (0 ∷ 1 ∷ 0 ∷ 0 ∷ []) ∷ (0 ∷ 0 ∷ 0 ∷ 0 ∷ []) ∷ [])

copy-scan-gives-the-first-selected-value : run copy-scan-start copy-scan-plans (Field 1) ≡ (9 ∷ 0 ∷ 3 ∷ 3 ∷ [])
unfolding one outcome reads writes
copy-scan-gives-the-first-selected-value = refl

-- scan-with-u-add-1L d v 0 8 upward inclusive none (v 8 bits, d 8 bits)
abbrev long-scan-plans : List Plan
long-scan-plans = on (4 ∷ []) (AlongLine (Scan Combiner.Sum (wide 1 8) (wide 0 8) 0 8 Upward Inclusive None)) ∷ []

abbrev long-scan-start : World
long-scan-start = value_at (Field 0 ∷ Flag 0 Context ∷ []) ((200 ∷ 100 ∷ 1 ∷ 2 ∷ []) ∷ (1 ∷ 1 ∷ 1 ∷ 1 ∷ []) ∷ [])

scan-wraps : run long-scan-start long-scan-plans (Field 1) ≡ (200 ∷ 44 ∷ 45 ∷ 47 ∷ [])
unfolding one outcome reads writes
scan-wraps = refl

scan-overflow-is-that-of-the-plain-sum : run long-scan-start long-scan-plans (Flag 0 Overflow) ≡ (0 ∷ 1 ∷ 1 ∷ 1 ∷ [])
unfolding one outcome reads writes
scan-overflow-is-that-of-the-plain-sum = refl

-- spread-with-u-add-1L d v 0 8 (v 8 bits, d 8 bits)
abbrev spread-plans : List Plan
spread-plans = on (4 ∷ []) (AlongLine (Spread Combiner.Sum (wide 1 8) (wide 0 8) 0 8)) ∷ []

abbrev middle-start : World
middle-start = value_at (Flag 0 Context ∷ Field 0 ∷ Field 1 ∷ []) ((0 ∷ 1 ∷ 1 ∷ 0 ∷ []) ∷ (1 ∷ 2 ∷ 3 ∷ 4 ∷ []) ∷ (0 ∷ 0 ∷ 0 ∷ 0 ∷ []) ∷ [])

spread-sums-the-selected : run middle-start spread-plans (Field 1) ≡ (0 ∷ 5 ∷ 5 ∷ 0 ∷ [])
unfolding one outcome reads writes
spread-sums-the-selected = refl

-- spread-with-copy-1L d v 0 8 3 (v 8 bits, d 8 bits)
abbrev copy-spread-plans : List Plan
copy-spread-plans = on (4 ∷ []) (AlongLine (CopySpread (wide 1 8) (wide 0 8) 0 8 3)) ∷ []

copy-spread-reads-also-the-unselected : run middle-start copy-spread-plans (Field 1) ≡ (0 ∷ 4 ∷ 4 ∷ 0 ∷ [])
unfolding one outcome reads writes
copy-spread-reads-also-the-unselected = refl

-- reduce-with-u-max-1L d v 0 8 1 (v 8 bits, d 8 bits)
abbrev reduce-plans : List Plan
reduce-plans = on (4 ∷ []) (AlongLine (Reduce Combiner.Maximum (wide 1 8) (wide 0 8) 0 8 1)) ∷ []

reduce-stores-at-its-coordinate : run middle-start reduce-plans (Field 1) ≡ (0 ∷ 3 ∷ 0 ∷ 0 ∷ [])
unfolding one outcome reads writes
reduce-stores-at-its-coordinate = refl

-- reduce-with-u-max-1L d v 0 8 0 (v 8 bits, d 8 bits)
abbrev unselected-reduce-plans : List Plan
unselected-reduce-plans = on (4 ∷ []) (AlongLine (Reduce Combiner.Maximum (wide 1 8) (wide 0 8) 0 8 0)) ∷ []

reduce-stores-only-where-selected : run middle-start unselected-reduce-plans (Field 1) ≡ (0 ∷ 0 ∷ 0 ∷ 0 ∷ [])
unfolding one outcome reads writes
reduce-stores-only-where-selected = refl

-- get-1L d ad v 8 (ad 8 bits, v 8 bits, d 8 bits)
abbrev get-plans : List Plan
get-plans = on (4 ∷ []) (ByMail (Mail.Get (wide 2 8) (wide 0 8) (wide 1 8) 8)) ∷ []

abbrev get-start : World
get-start = value_at (Field 0 ∷ Field 1 ∷ Flag 0 Context ∷ Field 2 ∷ []) ((3 ∷ 3 ∷ 0 ∷ 1 ∷ []) ∷ (1 ∷ 2 ∷ 3 ∷ 4 ∷ []) ∷ (1 ∷ 1 ∷ 0 ∷ 1 ∷ []) ∷ (0 ∷ 0 ∷ 0 ∷ 0 ∷ []) ∷ [])

get-by-address : run get-start get-plans (Field 2) ≡ (4 ∷ 4 ∷ 0 ∷ 2 ∷ [])
unfolding one outcome reads writes
get-by-address = refl

-- send-1L d ad v 8 n; u-move-1L v d 8 (ad 3 bits, v 8 bits, d 8 bits, n 1 bit)
abbrev send-plans : List Plan
send-plans = on (4 ∷ []) (ByMail (Mail.Send (wide 2 8) (wide 0 3) (wide 1 8) 8 (Some (wide 3 1)))) ∷ on (4 ∷ []) (OnSelected (Unary Move (wide 1 8) (wide 2 8) 8)) ∷ []

abbrev meeting-start : World
meeting-start = value_at (Field 0 ∷ Field 1 ∷ Field 2 ∷ Field 3 ∷ Flag 0 Context ∷ []) ((0 ∷ 0 ∷ 1 ∷ 2 ∷ []) ∷ (1 ∷ 2 ∷ 3 ∷ 4 ∷ []) ∷ (10 ∷ 0 ∷ 0 ∷ 0 ∷ []) ∷ (1 ∷ 1 ∷ 1 ∷ 1 ∷ []) ∷ (1 ∷ 1 ∷ 1 ∷ 1 ∷ []) ∷ [])

a-collision-stores-nothing : run meeting-start send-plans (Field 2) ≡ (10 ∷ 0 ∷ 0 ∷ 0 ∷ [])
unfolding one outcome reads writes
a-collision-stores-nothing = refl

a-collision-notifies-nobody : run meeting-start send-plans (Field 3) ≡ (1 ∷ 1 ∷ 1 ∷ 1 ∷ [])
unfolding one outcome reads writes
a-collision-notifies-nobody = refl

after-a-collision-the-next-runs : run meeting-start send-plans (Field 1) ≡ (10 ∷ 0 ∷ 0 ∷ 0 ∷ [])
unfolding one outcome reads writes
after-a-collision-the-next-runs = refl

two-messages-collide : cause meeting-start send-plans 0 ≡ Some (Collision 0)
unfolding one outcome reads writes
two-messages-collide = refl

a-collision-stops-nothing : cause meeting-start send-plans 1 ≡ None
unfolding one outcome reads writes
a-collision-stops-nothing = refl

-- send-with-u-add-1L d ad v 8 n (ad 3 bits, v 8 bits, d 8 bits, n 1 bit)
abbrev combining-send-plans : List Plan
combining-send-plans = on (4 ∷ []) (ByMail (Mail.CombiningSend Combiner.Sum (wide 2 8) (wide 0 3) (wide 1 8) 8 (Some (wide 3 1)))) ∷ []

combining-send-adds-what-arrives : run meeting-start combining-send-plans (Field 2) ≡ (13 ∷ 3 ∷ 4 ∷ 0 ∷ [])
unfolding one outcome reads writes
combining-send-adds-what-arrives = refl

combining-send-notifies-receivers : run meeting-start combining-send-plans (Field 3) ≡ (1 ∷ 1 ∷ 1 ∷ 0 ∷ [])
unfolding one outcome reads writes
combining-send-notifies-receivers = refl

combining-send-has-no-collision : cause meeting-start combining-send-plans 0 ≡ None
unfolding one outcome reads writes
combining-send-has-no-collision = refl

abbrev outside-start : World
outside-start = value_at (Field 0 ∷ Field 1 ∷ Field 2 ∷ Field 3 ∷ Flag 0 Context ∷ []) ((0 ∷ 0 ∷ 4 ∷ 1 ∷ []) ∷ (1 ∷ 2 ∷ 3 ∷ 4 ∷ []) ∷ (10 ∷ 0 ∷ 0 ∷ 0 ∷ []) ∷ (1 ∷ 1 ∷ 1 ∷ 1 ∷ []) ∷ (1 ∷ 1 ∷ 1 ∷ 1 ∷ []) ∷ [])

a-bad-address-stores-nothing : run outside-start send-plans (Field 2) ≡ (10 ∷ 0 ∷ 0 ∷ 0 ∷ [])
unfolding one outcome reads writes
a-bad-address-stores-nothing = refl

a-bad-address-notifies-nobody : run outside-start send-plans (Field 3) ≡ (1 ∷ 1 ∷ 1 ∷ 1 ∷ [])
unfolding one outcome reads writes
a-bad-address-notifies-nobody = refl

after-a-bad-address-the-next-runs : run outside-start send-plans (Field 1) ≡ (10 ∷ 0 ∷ 0 ∷ 0 ∷ [])
unfolding one outcome reads writes
after-a-bad-address-the-next-runs = refl

a-bad-address-comes-before-a-collision : cause outside-start send-plans 0 ≡ Some (BadAddress 2)
unfolding one outcome reads writes
a-bad-address-comes-before-a-collision = refl

a-bad-address-stops-nothing : cause outside-start send-plans 1 ≡ None
unfolding one outcome reads writes
a-bad-address-stops-nothing = refl

-- send-with-logand-1L d ad v 8 none (ad 2 bits, v 8 bits, d 8 bits)
abbrev and-send-plans : List Plan
and-send-plans = on (4 ∷ []) (ByMail (Mail.CombiningSend Combiner.BitAnd (wide 2 8) (wide 0 2) (wide 1 8) 8 None)) ∷ []

abbrev and-send-start : World
and-send-start = value_at (Field 0 ∷ Field 1 ∷ Field 2 ∷ Flag 0 Context ∷ []) ((1 ∷ 1 ∷ 1 ∷ 3 ∷ []) ∷ (6 ∷ 12 ∷ 255 ∷ 7 ∷ []) ∷ (255 ∷ 14 ∷ 255 ∷ 3 ∷ []) ∷ (1 ∷ 1 ∷ 1 ∷ 1 ∷ []) ∷ [])

send-with-and-keeps-common-bits : run and-send-start and-send-plans (Field 2) ≡ (255 ∷ 4 ∷ 255 ∷ 3 ∷ [])
unfolding one outcome reads writes
send-with-and-keeps-common-bits = refl

-- get-1L d ad v 8 (ad 3 bits, v 8 bits, d 8 bits); the second processor isn't selected, and holds an address outside the set
abbrev short-get-plans : List Plan
short-get-plans = on (4 ∷ []) (ByMail (Mail.Get (wide 2 8) (wide 0 3) (wide 1 8) 8)) ∷ []

abbrev unselected-outside-start : World
unselected-outside-start = value_at (Field 0 ∷ Field 1 ∷ Field 2 ∷ Field 3 ∷ Flag 0 Context ∷ []) ((2 ∷ 7 ∷ 3 ∷ 0 ∷ []) ∷ (1 ∷ 2 ∷ 3 ∷ 4 ∷ []) ∷ (10 ∷ 20 ∷ 30 ∷ 40 ∷ []) ∷ (0 ∷ 1 ∷ 0 ∷ 0 ∷ []) ∷ (1 ∷ 0 ∷ 1 ∷ 1 ∷ []) ∷ [])

get-passes-over-an-unselected-address : run unselected-outside-start short-get-plans (Field 2) ≡ (3 ∷ 20 ∷ 4 ∷ 1 ∷ [])
unfolding one outcome reads writes
get-passes-over-an-unselected-address = refl

-- send-1L d ad v 8 n (ad 3 bits, v 8 bits, d 8 bits, n 1 bit)
send-passes-over-an-unselected-address : run unselected-outside-start send-plans (Field 2) ≡ (4 ∷ 20 ∷ 1 ∷ 3 ∷ [])
unfolding one outcome reads writes
send-passes-over-an-unselected-address = refl

an-unselected-address-refuses-no-send : cause unselected-outside-start send-plans 0 ≡ None
unfolding one outcome reads writes
an-unselected-address-refuses-no-send = refl

-- send-with-u-add-1L d ad v 8 n (ad 3 bits, v 8 bits, d 8 bits, n 1 bit)
combining-send-passes-over-an-unselected-address : run unselected-outside-start combining-send-plans (Field 2) ≡ (14 ∷ 20 ∷ 31 ∷ 43 ∷ [])
unfolding one outcome reads writes
combining-send-passes-over-an-unselected-address = refl

combining-send-notifies-by-the-selected : run unselected-outside-start combining-send-plans (Field 3) ≡ (1 ∷ 0 ∷ 1 ∷ 1 ∷ [])
unfolding one outcome reads writes
combining-send-notifies-by-the-selected = refl

-- the second processor isn't selected, and it, the third and the fourth hold addresses outside the set
abbrev selected-outside-start : World
selected-outside-start = value_at (Field 0 ∷ Field 1 ∷ Field 2 ∷ Field 3 ∷ Flag 0 Context ∷ []) ((2 ∷ 7 ∷ 5 ∷ 4 ∷ []) ∷ (1 ∷ 2 ∷ 3 ∷ 4 ∷ []) ∷ (10 ∷ 20 ∷ 30 ∷ 40 ∷ []) ∷ (0 ∷ 1 ∷ 0 ∷ 0 ∷ []) ∷ (1 ∷ 0 ∷ 1 ∷ 1 ∷ []) ∷ [])

a-get-names-the-least-selected-sender : cause selected-outside-start short-get-plans 0 ≡ Some (BadAddress 2)
unfolding one outcome reads writes
a-get-names-the-least-selected-sender = refl

a-send-names-the-least-selected-sender : cause selected-outside-start send-plans 0 ≡ Some (BadAddress 2)
unfolding one outcome reads writes
a-send-names-the-least-selected-sender = refl

a-combining-send-names-the-least-selected-sender : cause selected-outside-start combining-send-plans 0 ≡ Some (BadAddress 2)
unfolding one outcome reads writes
a-combining-send-names-the-least-selected-sender = refl
