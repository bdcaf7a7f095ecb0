-- The shapes of a picture, by what is seen of a run.
use Rattle.std.specs.Prelude.{ℕ, zero, suc, ◌+◌, ◌-◌, ◌*◌, ◌/◌, ◌%◌, ◌==◌, ◌&&◌, ◌||◌, not, List, [], ◌∷◌, ◌++◌, Bool, false, cond, Option, Some}
use Rattle.std.specs.Prelude.{None, codes, decimal, length, max, min, nat_le, nat_lt, option_map, slice_get, unwrap_or}
use Rattle.std.specs.List.{flat_map}
use Rattle.ob_interface.specs.Call.{Reply, Answers, Trapped}
use Rattle.ob_interface.specs.Export.{Signature}
use Rattle.ob_picture.specs.Places.{Band, at, band_height, bands, below, beyond, cell, columns_in, first, height, is_in, is_marked, width, x_of, y_of}
use Rattle.ob_picture.specs.declared.pixels.Frame.{Frame}
use Rattle.ob_picture_chart.specs.Charts.{Chart, Happening, Begun, Mark, Taken, Ended, Sight}
use Rattle.ob_picture_chart.specs.declared.charts.CallRange.{CallRange}
use Rattle.ob_picture_chart.specs.declared.charts.Placed.{Placed}
use Rattle.ob_picture_chart.specs.Bars.{Bar, bar_of}
use Rattle.ob_picture_chart.specs.Labels.{answer_words, call_words, dots, id_words, reply_words, short, short_again, short_call}
use Rattle.ob_picture_chart.specs.Widths.{most_letters, wanted}
use Rattle.ob_picture_chart.specs.Svg.{Shape, Line, Box, Circle, Words, Group, EndGroup, svg_text}
use Rattle.ob_picture_chart.specs.declared.svg.Point.{Point}
use Rattle.wf_history.specs.declared.event.CallId.{CallId}

-- the shapes of 0, of 1 and so on, so many
abbrev pub each : (ℕ → List Shape) → ℕ → List Shape
each f zero = []
each f (suc n) = each f n ++ f n

-- ---- the ground, the events and the processes

-- which calls are shown, of how many
abbrev pub calls_words : (total : ℕ) → CallRange → List ℕ
calls_words total range =
    cond (total == 0) (codes "none") (decimal range.from ++ codes " to " ++ decimal range.to ++ codes " of " ++ decimal total)

-- how many processes there are, and which calls are shown
unfoldable pub heading_words : Chart → List ℕ
heading_words c = codes "processes: " ++ decimal c.processes ++ codes ", calls: " ++ calls_words c.total c.range

-- a column has its time above it where it is the first one of the picture, or its place there can be divided by five
abbrev pub has_tick : (place : ℕ) → Bool
has_tick place = (place == 1) || (place % 5 == 0)

-- the time of a column; 0 where there is no such column
abbrev pub time_of : (times : List ℕ) (column : ℕ) → ℕ
time_of times column = unwrap_or (slice_get times column) 0

-- the number of the event of a column, counted in the band, and a line for it
unfoldable pub tick : (times : List ℕ) → Band → ℕ → List Shape
tick times band index =
    let column = first band.frame band.number + index in let x = x_of band.frame band.number column in
    cond (has_tick (column + 1))
    (Line (codes "tick") (at x (band.top + 20)) (at x (below band - 14))
    ∷ Words (codes "faint middle") (at x (band.top + 14)) (decimal (time_of times column)) ∷ []) []

unfoldable pub ticks : (times : List ℕ) → Band → List Shape
ticks times band = Words (codes "faint") (at 12 (band.top + 14)) (codes "event") ∷ each (tick times band) (columns_in band.frame band.number)

-- the line of a process, with its name at both ends, at the right one behind the words that go on there, and a faint line up to it
abbrev pub name : ℕ → List ℕ
name process = codes "process " ++ decimal process

unfoldable pub row : Band → ℕ → List Shape
row band process =
    let y = y_of band process in let end = x_of band.frame band.number band.frame.columns in
    Words (codes "bold") (at 12 (y + 4)) (name process) ∷ Line (codes "row") (at 100 y) (at end y)
    ∷ Line (codes "tick") (at end y) (at (end + band.spill + 14) y)
    ∷ Words (codes "bold") (at (end + band.spill + 20) (y + 4)) (name process) ∷ []

-- ---- calls

-- the class of what shows a call: the marked one has one class more
abbrev pub class_of : (marked : Bool) (class : List ℕ) → List ℕ
class_of marked class = cond marked (class ++ codes " marked") class

abbrev pub bar_class : Option Reply → List ℕ
bar_class None = codes "open"
bar_class (Some (Answers values)) = codes "done"
bar_class (Some (Trapped k)) = codes "trap"

abbrev pub reply_class : Reply → List ℕ
reply_class (Answers values) = codes "reply"
reply_class (Trapped k) = codes "trapped"

-- what a browser shows of a call: it, and its reply
abbrev pub reply_behind : Option Reply → List ℕ
reply_behind None = codes ""
reply_behind (Some reply) = codes ": " ++ reply_words reply

abbrev pub title : List Signature → Bar → List ℕ
title exports b = call_words exports b.id b.call ++ reply_behind b.reply

-- a call is seen in a band: it begins in it or before, and ends in it or behind
unfoldable pub is_seen : Frame → (band : ℕ) → Bar → Bool
is_seen f band b = nat_lt b.begin (first f band + columns_in f band) && nat_le (first f band) b.end

-- where its bar begins in a band, or goes on
unfoldable pub left : Frame → (band : ℕ) → Bar → ℕ
left f band b = cond (nat_le (first f band) b.begin) (x_of f band b.begin) 104

-- the band has the last column
abbrev pub is_last : Frame → (band : ℕ) → Bool
is_last f band = nat_le f.columns (first f band + columns_in f band)

-- a call goes on in the next band
unfoldable pub goes_on : Frame → (band : ℕ) → Bar → Bool
goes_on f band b = nat_le (first f band + columns_in f band) b.end && not (is_last f band)

-- where its bar ends in a band; one that goes on in the next band reaches a little behind the end of this one
unfoldable pub right : Frame → (band : ℕ) → Bar → ℕ
right f band b = x_of f band b.end + cond (goes_on f band b) 16 0

-- for how many letters there is room: up to the next call, or beyond the end of the band where that doesn't begin in it
unfoldable pub letters : Frame → (band : ℕ) → Bar → ℕ
letters f band b = (x_of f band b.next + cond (is_in f band b.next) 0 beyond - left f band b) / 7 - 1

-- the cross at the end of a bar
unfoldable pub cross : (x y : ℕ) → List Shape
cross x y = Line (codes "cross") (at (x - 8) (y - 8)) (at (x + 8) (y + 8)) ∷ Line (codes "cross") (at (x - 8) (y + 8)) (at (x + 8) (y - 8)) ∷ []

-- the call, which stands again in a band to which it goes on
unfoldable pub label_words : List Signature → Frame → (band : ℕ) → Bar → List ℕ
label_words exports f band b =
    cond (nat_le (first f band) b.begin) (short_call (letters f band b) exports b.id b.call)
    (short_again (letters f band b) exports b.id b.call)

-- the call, above its bar; the reply, below it
abbrev pub label : List Signature → Band → Bar → Shape
label exports band b =
    Words (class_of (is_marked band.marked b.id) (codes "label")) (at (left band.frame band.number b) (y_of band b.id.process - 15)) (label_words exports band.frame band.number b)

abbrev pub answer : Band → Bar → Reply → Shape
answer band b reply =
    Words (class_of (is_marked band.marked b.id) (reply_class reply)) (at (left band.frame band.number b) (y_of band b.id.process + 22))
    (short (letters band.frame band.number b) (answer_words reply))

-- below a bar stands the reply, in the band of the end; a bar without one has a cross at the end of the picture
abbrev pub ending_of : Band → Bar → Option Reply → List Shape
ending_of band b None = cond (is_last band.frame band.number) (cross (x_of band.frame band.number b.end) (y_of band b.id.process)) []
ending_of band b (Some reply) = cond (is_in band.frame band.number b.end) (answer band b reply ∷ []) []

unfoldable pub ending : Band → Bar → List Shape
ending band b = ending_of band b b.reply

-- a bar fades where the call comes from the band before, and where it goes on in the next one
unfoldable pub fade_before : Band → Bar → List Shape
fade_before band b =
    cond (nat_le (first band.frame band.number) b.begin) [] (Box (codes "before") (at 100 (y_of band b.id.process - 11)) (at 28 22) ∷ [])

unfoldable pub fade_behind : Band → Bar → List Shape
fade_behind band b =
    cond (goes_on band.frame band.number b)
    (Box (codes "behind") (at (right band.frame band.number b - 24) (y_of band b.id.process - 11)) (at 25 22) ∷ []) []

-- the bar of a call in a band, with the call above it
unfoldable pub bar : List Signature → Band → Bar → List Shape
bar exports band b =
    let x = left band.frame band.number b in
    cond (is_seen band.frame band.number b)
    (Group (title exports b) ∷ Box (class_of (is_marked band.marked b.id) (bar_class b.reply)) (at x (y_of band b.id.process - 10)) (at (right band.frame band.number b - x) 20)
    ∷ fade_before band b ++ (fade_behind band b ++ (label exports band b ∷ ending band b ++ EndGroup ∷ []))) []

abbrev pub bar_at : List Signature → Band → Sight → Happening → List Sight → List Shape
bar_at exports band s (Begun call) behind = bar exports band (bar_of band.frame.columns s call behind)
bar_at exports band s (Taken number maker) behind = []
bar_at exports band s (Ended reply) behind = []

abbrev pub bars : List Signature → Band → List Sight → List Shape
bars exports band [] = []
bars exports band (s ∷ behind) = bar_at exports band s s.happening behind ++ bars exports band behind

-- ---- where calls take effect

-- another process makes it
abbrev pub is_helped : CallId → (maker : Option ℕ) → Bool
is_helped id None = false
is_helped id (Some maker) = not (maker == id.process)

-- a line from the process whose step it is to the call, where that is of another process
abbrev pub help_of : Band → Sight → Happening → List Shape
help_of band s (Begun call) = []
help_of band s (Taken number None) = []
help_of band s (Taken number (Some maker)) =
    let x = x_of band.frame band.number s.column in
    cond (is_in band.frame band.number s.column && not (maker == s.id.process))
    (Line (codes "help") (at x (y_of band maker)) (at x (y_of band s.id.process)) ∷ Circle (codes "step") (at x (y_of band maker)) 3 ∷ []) []
help_of band s (Ended reply) = []

unfoldable pub help : Band → Sight → List Shape
help band s = help_of band s s.happening

-- the number of the call in the order, in a circle, which is dark where another process makes it
abbrev pub mark_of : Band → Sight → Happening → List Shape
mark_of band s (Begun call) = []
mark_of band s (Taken number maker) =
    let x = x_of band.frame band.number s.column in let y = y_of band s.id.process in
    cond (is_in band.frame band.number s.column)
    (Circle (cond (is_helped s.id maker) (codes "helped") (codes "own")) (at x y) 9
    ∷ Words (cond (is_helped s.id maker) (codes "number light") (codes "number")) (at x (y + 3)) (decimal number) ∷ []) []
mark_of band s (Ended reply) = []

unfoldable pub mark : Band → Sight → List Shape
mark band s = mark_of band s s.happening

-- ---- the bands

-- the step is of this process
abbrev pub is_maker : (process : ℕ) → (maker : Option ℕ) → Bool
is_maker process None = false
is_maker process (Some maker) = maker == process

-- a process has something in a band: a call of its own that is seen there or takes effect, or a step by which another one does
abbrev pub is_busy_at : Frame → (band process : ℕ) → Sight → Happening → List Sight → Bool
is_busy_at f band process s (Begun call) behind = (s.id.process == process) && is_seen f band (bar_of f.columns s call behind)
is_busy_at f band process s (Taken number maker) behind = is_in f band s.column && ((s.id.process == process) || is_maker process maker)
is_busy_at f band process s (Ended reply) behind = false

abbrev pub is_busy : Frame → (band process : ℕ) → List Sight → Bool
is_busy f band process [] = false
is_busy f band process (s ∷ behind) = is_busy_at f band process s s.happening behind || is_busy f band process behind

-- of the first processes, so many, those that have something in a band: each has a row there, and no other process
abbrev pub rows : Frame → (band : ℕ) → List Sight → (processes : ℕ) → List ℕ
rows f band sights zero = []
rows f band sights (suc process) = rows f band sights process ++ cond (is_busy f band process sights) (process ∷ []) []

-- how far the words of a call go on behind the end of a band: at most as many letters as have room there
unfoldable pub overhang : List Signature → Frame → (band : ℕ) → Bar → ℕ
overhang exports f band b =
    cond (is_seen f band b && not (is_in f band b.next))
    (left f band b + 7 * min (letters f band b) (most_letters exports b) - x_of f band f.columns) 0

abbrev pub overhang_at : List Signature → Frame → (band : ℕ) → Sight → Happening → List Sight → ℕ
overhang_at exports f band s (Begun call) behind = overhang exports f band (bar_of f.columns s call behind)
overhang_at exports f band s (Taken number maker) behind = 0
overhang_at exports f band s (Ended reply) behind = 0

-- how far the words of a call do, where it begins
abbrev pub overhang_of : List Signature → Frame → (band : ℕ) → Sight → List Sight → ℕ
overhang_of exports f band s behind = overhang_at exports f band s s.happening behind

abbrev pub spill : List Signature → Frame → (band : ℕ) → List Sight → ℕ
spill exports f band [] = 0
spill exports f band (s ∷ behind) = max (overhang_of exports f band s behind) (spill exports f band behind)

-- from the top: where a band begins, each below the one before it
abbrev pub top_of : Frame → Chart → (band : ℕ) → ℕ
top_of f c zero = 214
top_of f c (suc band) = top_of f c band + band_height (length (rows f band c.sights c.processes))

abbrev pub band_of : List Signature → Frame → Chart → (band : ℕ) → Band
band_of exports f c band =
    record {
      frame = f;
      number = band;
      top = top_of f c band;
      rows = rows f band c.sights c.processes;
      spill = spill exports f band c.sights;
      marked = option_map (λ mark. mark.id) c.mark;
    }

-- what stands in a band: the events, the processes, and then what is seen, the bars above the lines and the marks above the bars
unfoldable pub shapes_in : List Signature → Chart → Band → List Shape
shapes_in exports c band =
    ticks c.times band ++ flat_map (row band) band.rows ++ flat_map (help band) c.sights ++ bars exports band c.sights ++ flat_map (mark band) c.sights

abbrev pub band_shapes : List Signature → Frame → Chart → (band : ℕ) → List Shape
band_shapes exports f c band = shapes_in exports c (band_of exports f c band)

abbrev pub shapes_of_bands : List Signature → Frame → Chart → List Shape
shapes_of_bands exports f c = each (band_shapes exports f c) (bands f)

-- ---- the picture

-- the order: of each call its number and its id
unfoldable pub cell_words : Placed → List ℕ
cell_words p = decimal p.number ++ codes ": " ++ id_words p.id

abbrev pub cells : Frame → (below place : ℕ) → List Placed → List Shape
cells f below place [] = []
cells f below place (p ∷ ps) = Words (codes "cell") (cell f below place) (cell_words p) ∷ cells f below (place + 1) ps

unfoldable pub order_shapes : Frame → (below : ℕ) → List Placed → List Shape
order_shapes f below order = Words (codes "bold") (at 12 (cell f below 0).y) (codes "order") ∷ cells f below 0 order

-- what a bar is, and what the bars are
unfoldable pub bar_key : (class : List ℕ) (y : ℕ) (words : List ℕ) → List Shape
bar_key class y words = Box class (at 12 y) (at 34 20) ∷ Words (codes "key") (at 64 (y + 14)) words ∷ []

unfoldable pub bar_keys : List Shape
bar_keys =
    bar_key (codes "done") 36 (codes "a call, from its begin to its end") ++ bar_key (codes "trap") 64 (codes "a call that trapped")
    ++ bar_key (codes "open") 92 (codes "a call that does not end here") ++ cross 46 102

-- the bar of a call that has no room for its end
unfoldable pub fade_keys : List Shape
fade_keys = bar_key (codes "done") 120 (codes "a call that goes on in the next band") ++ Box (codes "behind") (at 24 119) (at 25 22) ∷ []

-- what words below a bar are, and what dots stand for
unfoldable pub word_keys : List Shape
word_keys =
    Words (codes "reply") (at 12 162) (codes "= 7") ∷ Words (codes "key") (at 64 162) (codes "below it the values of its reply, or done")
    ∷ Words (codes "label") (at 396 162) dots ∷ Words (codes "key") (at 418 162) (codes "cut here; whole in the SVG, as the bar's title") ∷ []

-- what the numbers above the columns are, and which processes have a row
unfoldable pub event_keys : List Shape
event_keys =
    Words (codes "faint middle") (at 400 134) (codes "5") ∷ Words (codes "key") (at 418 134) (codes "each column is one event of the run, here event 5")
    ∷ Words (codes "key") (at 12 190) (codes "A process has a row in those bands alone in which it has a call, or makes one of another process.") ∷ []

-- what a mark is, and what the marks are
unfoldable pub mark_key : (circle numeral : List ℕ) (y number : ℕ) (words : List ℕ) → List Shape
mark_key circle numeral y number words =
    Circle circle (at 400 y) 9 ∷ Words numeral (at 400 (y + 3)) (decimal number) ∷ Words (codes "key") (at 418 (y + 4)) words ∷ []

unfoldable pub helped_keys : List Shape
helped_keys =
    Line (codes "help") (at 400 74) (at 400 106) ∷ Circle (codes "step") (at 400 106) 3
    ∷ Words (codes "key") (at 418 94) (codes "the one at the other end of the line")
    ∷ mark_key (codes "helped") (codes "number light") 74 2 (codes "took effect by a step of another process,")

unfoldable pub mark_keys : List Shape
mark_keys = mark_key (codes "own") (codes "number") 46 1 (codes "took effect, as number 1 of the order") ++ helped_keys

-- what is seen of calls, and what the words of a picture are
unfoldable pub call_keys : List Shape
call_keys = bar_keys ++ fade_keys

unfoldable pub text_keys : List Shape
text_keys = word_keys ++ event_keys

-- why a call is marked, if one is
abbrev pub mark_words : Option Mark → List Shape
mark_words None = []
mark_words (Some mark) = Words (codes "bold marked") (at 12 208) mark.words ∷ []

-- the ground, which is as large as the picture, and what stands above the bands
unfoldable pub head_shapes : Chart → (size : Point) → List Shape
head_shapes c size =
    Box (codes "ground") (at 0 0) size ∷ Words (codes "head") (at 12 22) (heading_words c) ∷ call_keys ++ mark_keys ++ text_keys ++ mark_words c.mark

abbrev pub frame_of : List Signature → Chart → Frame
frame_of exports c =
    record {
      columns = length c.times;
      wanted = wanted exports (length c.times) c.sights;
    }

-- where the bands end, and the order begins
abbrev pub below_bands : Frame → Chart → ℕ
below_bands f c = top_of f c (bands f)

abbrev pub size_in : Frame → Chart → Point
size_in f c = at (width f) (height f (below_bands f c) (length c.order))

abbrev pub size_of : List Signature → Chart → Point
size_of exports c = size_in (frame_of exports c) c

-- all shapes of a picture, one above the other
abbrev pub shapes_of : List Signature → Frame → Chart → List Shape
shapes_of exports f c =
    head_shapes c (size_in f c) ++ shapes_of_bands exports f c ++ order_shapes f (below_bands f c) c.order

abbrev pub shapes : List Signature → Chart → List Shape
shapes exports c = shapes_of exports (frame_of exports c) c

-- the text of a picture
abbrev pub picture_text : List Signature → Chart → List ℕ
picture_text exports c = svg_text (size_of exports c) (shapes exports c)
