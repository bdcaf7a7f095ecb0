-- The places are those of the events so far.
use Rattle.std.proofs.Common.{map, take}
use Rattle.ob_object_run.proofs.event_places.places_of.Given as goal
use Rattle.ob_object_run.specs.Noted.{noted_in}
use Rattle.ob_object_run.specs.Places.{ArePlaces}
use Rattle.wf_history.specs.View.{event_of}

abbrev pub invariant-loop-place : goal.invariant-loop-place
invariant-loop-place l = ArePlaces (take l.place (map event_of l.events)) (noted_in l.places.begins) (noted_in l.places.ends)
