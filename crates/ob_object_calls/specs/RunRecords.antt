-- Records of runs: what a run's events and order come to where a record tells them.
use Rattle.std.specs.Prelude.{◌≡◌, ℕ, List, [], ◌∷◌}
use Rattle.ob_code_correct.specs.Named.{CallMeans}
use Rattle.ob_interface.specs.Call.{ObjectCall, Reply}
use Rattle.ob_meaning.specs.ByNameObject.{State}
use Rattle.ob_object_calls.specs.Beginnings.{BeginsNamed}
use Rattle.ob_object_calls.specs.Verified.{IsVerified}
use Rattle.ob_text_reading.specs.RecordLines.{IsRecord, Told}
use Rattle.ob_typing.specs.ModuleText.{IsModule}
use Rattle.ob_typing.specs.Program.{Program}
use Rattle.wf_history.specs.History.{Event, Begin, Applied, End}
use Rattle.wf_history.specs.Legal.{IsLegal}

-- the Begin and End events, which are all that a record tells of a run's events
abbrev pub without_applied : {Call Reply : Type 0} → List (Event Call Reply) → List (Event Call Reply)
without_applied [] = []
without_applied (Begin id call ∷ events) = Begin id call ∷ without_applied events
without_applied (Applied ids ∷ events) = without_applied events
without_applied (End id reply ∷ events) = End id reply ∷ without_applied events

-- a record that tells an order, and the Begin and End events of a run for whose events the order is legal, with the budget that it tells,
-- is verified
abbrev pub LegalRunsAreVerified : Type 0
LegalRunsAreVerified =
    (module_text record_text : List ℕ) (program : Program) (opening last : State) (events : List (Event ObjectCall Reply)) (tells : Told) →
    IsModule module_text program → IsRecord program record_text tells → BeginsNamed program tells.carried opening →
    tells.events ≡ without_applied events → IsLegal (CallMeans program tells.budget) opening events tells.order last → IsVerified module_text record_text
