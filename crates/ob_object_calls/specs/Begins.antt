-- Where calls begin among the events of a history.
use Rattle.std.specs.Prelude.{ℕ, List, Option}
use Rattle.ob_object_run.specs.Places.{BeginsAt, IsPlaceOf}
use Rattle.wf_history.specs.History.{Event}
use Rattle.wf_history.specs.declared.event.CallId.{CallId}

-- the place of the Begin of each call that has one
abbrev pub AreBegins : {Call Reply : Type 0} → List (Event Call Reply) → (CallId → Option ℕ) → Type 0
AreBegins history begins = (id : CallId) → IsPlaceOf (BeginsAt history id) (begins id)
