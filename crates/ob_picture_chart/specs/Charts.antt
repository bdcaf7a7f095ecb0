-- What a picture shows of a run: which calls, and in which column each thing that happens to them stands.
use Rattle.std.specs.Prelude.{ℕ, ◌+◌, ◌-◌, ◌==◌, List, [], ◌∷◌, ◌++◌, cond, Option, Some, None, filter, map, length, slice_range, min}
use Rattle.std.specs.List.{flat_map}
use Rattle.ob_interface.specs.Call.{ObjectCall, Reply}
use Rattle.ob_picture_chart.specs.declared.charts.CallRange.{CallRange}
use Rattle.ob_picture_chart.specs.declared.charts.Placed.{Placed}
use Rattle.ob_picture_chart.specs.Moments.{Moment, Begins, Takes, Ends, place_in}
use Rattle.ob_picture_chart.specs.Same.{is_among}
use Rattle.wf_history.specs.declared.event.CallId.{CallId}

-- what happens to a call: it begins; it takes effect, as the one of this number in the order, by a step of the process, where it is known;
-- it ends
pub data Happening : Type 0 where
  Begun : ObjectCall → Happening
  Taken : (number : ℕ) (maker : Option ℕ) → Happening
  Ended : Reply → Happening

-- what happens to a call, and in which column
pub record Sight : Type 0 where
  pub column : ℕ
  pub id : CallId
  pub happening : Happening

-- a call that a picture marks, and a line that says why
pub record Mark : Type 0 where
  pub id : CallId
  pub words : List ℕ

-- what a picture shows: of how many processes; how many calls begin in the run, and from which to which of them are shown; what happens to
-- these; the columns in which that is, each with its time in the whole run; and those that took effect, in their order, with their numbers
-- there; and the call that is marked, if one is
pub record Chart : Type 0 where
  pub processes : ℕ
  pub total : ℕ
  pub range : CallRange
  pub sights : List Sight
  pub times : List ℕ
  pub order : List Placed
  pub mark : Option Mark

-- the calls, in the order in which they begin
abbrev pub begun_at : Moment → List CallId
begun_at (Begins id call) = id ∷ []
begun_at (Takes ids maker) = []
begun_at (Ends id reply) = []

abbrev pub begun : List Moment → List CallId
begun = flat_map begun_at

-- the calls of a range, by their places from 1
abbrev pub in_range : CallRange → List CallId → List CallId
in_range range ids = slice_range ids (range.from - 1) range.to

-- of a range the calls that there are; without one all
abbrev pub range_of : ℕ → Option CallRange → CallRange
range_of total None = record { from = 1; to = total }
range_of total (Some range) = record { from = range.from; to = min range.to total }

-- what happens at a moment, in a column
abbrev pub sights_at : (order : List CallId) (column : ℕ) → Moment → List Sight
sights_at order column (Begins id call) = record { column = column; id = id; happening = Begun call } ∷ []
sights_at order column (Takes ids maker) = map (λ id. record { column = column; id = id; happening = Taken (place_in order id) maker }) ids
sights_at order column (Ends id reply) = record { column = column; id = id; happening = Ended reply } ∷ []

-- of these what happens to chosen calls
abbrev pub chosen_at : (order chosen : List CallId) (column : ℕ) → Moment → List Sight
chosen_at order chosen column moment = filter (λ s. is_among chosen s.id) (sights_at order column moment)

-- one thing that happens to a call, if that is chosen
abbrev pub chosen_sight : (chosen : List CallId) (column : ℕ) → CallId → Happening → List Sight
chosen_sight chosen column id happening = filter (λ s. is_among chosen s.id) (record { column = column; id = id; happening = happening } ∷ [])

-- the column behind one in which so much is seen: there is no column where nothing is
abbrev pub column_behind : (column : ℕ) → List Sight → ℕ
column_behind column here = cond (length here == 0) column (column + 1)

-- the moments at which something happens to chosen calls, a column for each, from a column on
abbrev pub sights_from : (order chosen : List CallId) (column : ℕ) → List Moment → List Sight
sights_from order chosen column [] = []
sights_from order chosen column (moment ∷ moments) =
    chosen_at order chosen column moment ++ sights_from order chosen (column_behind column (chosen_at order chosen column moment)) moments

-- the time behind a moment: of the whole run those are counted at which something happens
abbrev pub time_behind : (time : ℕ) → Moment → ℕ
time_behind time (Begins id call) = time + 1
time_behind time (Takes ids maker) = cond (length ids == 0) time (time + 1)
time_behind time (Ends id reply) = time + 1

-- the time of a column, where so much is seen in it
abbrev pub time_here : (time : ℕ) → List Sight → List ℕ
time_here time here = cond (length here == 0) [] (time ∷ [])

-- the times of these columns, from a column and a time on
abbrev pub times_from : (order chosen : List CallId) (column time : ℕ) → List Moment → List ℕ
times_from order chosen column time [] = []
times_from order chosen column time (moment ∷ moments) =
    time_here time (chosen_at order chosen column moment)
    ++ times_from order chosen (column_behind column (chosen_at order chosen column moment)) (time_behind time moment) moments

-- a call of an order, if it is chosen, with its number there
abbrev pub placed_at : (order chosen : List CallId) → CallId → List Placed
placed_at order chosen id = cond (is_among chosen id) (record { number = place_in order id; id = id } ∷ []) []

-- the chosen calls of an order
abbrev pub placed : (order chosen : List CallId) → List Placed
placed order chosen = flat_map (placed_at order chosen) order

-- the chart of the calls of a range
abbrev pub chart_of : (processes : ℕ) → List Moment → (order : List CallId) → CallRange → Chart
chart_of processes moments order range =
    record {
      processes = processes;
      total = length (begun moments);
      range = range;
      sights = sights_from order (in_range range (begun moments)) 0 moments;
      times = times_from order (in_range range (begun moments)) 0 1 moments;
      order = placed order (in_range range (begun moments));
      mark = None;
    }

-- the same of those calls of a range that there are, or of all
abbrev pub chart_of_calls : (processes : ℕ) → List Moment → (order : List CallId) → Option CallRange → Chart
chart_of_calls processes moments order calls = chart_of processes moments order (range_of (length (begun moments)) calls)

-- the same chart, in which this call is marked, or none
abbrev pub marked : Option Mark → Chart → Chart
marked mark c = record c { mark = mark }
