-- What the program's values of this crate stand for, without pointers.
use Rattle.std.specs.Prelude.{map, option_map}
use Rattle.ob_picture_chart.specs.Charts as Charts
use Rattle.ob_picture_chart.specs.Moments as Moments
use Rattle.ob_picture_chart.specs.declared.charts.Chart.{Chart}
use Rattle.ob_picture_chart.specs.declared.charts.Happening.{Happening}
use Rattle.ob_picture_chart.specs.declared.charts.Happening.TheVariants as Happenings
use Rattle.ob_picture_chart.specs.declared.charts.Mark.{Mark}
use Rattle.ob_picture_chart.specs.declared.charts.Sight.{Sight}
use Rattle.ob_picture_chart.specs.declared.moments.Moment.{Moment}
use Rattle.ob_picture_chart.specs.declared.moments.Moment.TheVariants as Rust
use Rattle.wf_history.specs.View.{seen_call, seen_reply}

abbrev pub moment_of : Moment → Moments.Moment
moment_of (Rust.Begins id call) = Moments.Begins id (seen_call call)
moment_of (Rust.Takes ids maker) = Moments.Takes ids.now maker
moment_of (Rust.Ends id reply) = Moments.Ends id (seen_reply reply)

abbrev pub happening_of : Happening → Charts.Happening
happening_of (Happenings.Begun call) = Charts.Begun (seen_call call)
happening_of (Happenings.Taken number maker) = Charts.Taken number maker
happening_of (Happenings.Ended reply) = Charts.Ended (seen_reply reply)

abbrev pub sight_of : Sight → Charts.Sight
sight_of s = record { column = s.column; id = s.id; happening = happening_of s.happening }

abbrev pub mark_of : Mark → Charts.Mark
mark_of m = record { id = m.id; words = m.words.now }

abbrev pub chart_in : Chart → Charts.Chart
chart_in c =
    record {
      processes = c.processes;
      total = c.total;
      range = c.range;
      sights = map sight_of c.sights.items;
      times = c.times.items;
      order = c.order.items;
      mark = option_map mark_of c.mark;
    }
