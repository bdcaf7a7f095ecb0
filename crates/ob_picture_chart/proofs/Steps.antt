-- One more moment of those behind: what loops over events keep.
use Rattle.std.proofs.Common.{◌≡◌, ℕ, ◌+◌, ◌<◌, List, [], ◌∷◌, ◌++◌, Option, None, length, get_or, map, drop, slice_get, refl, sym, append_assoc, add-one, drop-cons}
use Rattle.ob_picture_chart.specs.Charts.{Chart, Sight, begun, chart_of, in_range, placed, range_of, sights_from, times_from}
use Rattle.ob_picture_chart.specs.Moments.{Moment, seen, seen_from}
use Rattle.ob_picture_chart.specs.declared.charts.CallRange.{CallRange}
use Rattle.ob_picture_chart.specs.declared.charts.Placed.{Placed}
use Rattle.wf_history.specs.View.{event_of}
use Rattle.wf_history.specs.declared.event.CallId.{CallId}
use Rattle.wf_history.specs.declared.event.Event.{Event}

pub drop_here : (events : List Event) (k : ℕ) (e : Event) → k < length events → e ≡ get_or events k e → drop k events ≡ e ∷ drop (k + 1) events
drop_here events k e below here = let h : get_or events k e ≡ e = sym here in rw (add-one, drop-cons events k e, h) refl

pub seen_more : (makers : List ℕ) (events : List Event) (k : ℕ) (done whole : List Moment) (e : Event) → k < length events → e ≡ get_or events k e →
    done ++ seen_from makers k (map event_of (drop k events)) ≡ whole →
    (done ++ seen (event_of e) (slice_get makers k) ∷ []) ++ seen_from makers (k + 1) (map event_of (drop (k + 1) events)) ≡ whole
seen_more makers events k done whole e below here so_far = rw append_assoc (rw (drop_here events k e below here) at so_far)

-- a chart, by its parts
pub charted : (processes : ℕ) (moments : List Moment) (order : List CallId) (calls : Option CallRange) (ids : List CallId) (total : ℕ) (range : CallRange) (sights : List Sight) (times : List ℕ) (ordered : List Placed) →
    ids ≡ begun moments → total ≡ length ids → range ≡ range_of total calls → sights ≡ sights_from order (in_range range ids) 0 moments →
    times ≡ times_from order (in_range range ids) 0 1 moments → ordered ≡ placed order (in_range range ids) →
    let shown : Chart = record { processes = processes; total = total; range = range; sights = sights; times = times; order = ordered; mark = None } in
    shown ≡ chart_of processes moments order (range_of (length (begun moments)) calls)
charted processes moments order calls ids total range sights times ordered i t r s k o = rw (o, k, s, r, t, i) refl
