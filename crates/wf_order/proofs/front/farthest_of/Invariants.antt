-- As far as the last one and the first ones go.
use Rattle.std.proofs.Common.{◌≡◌, ◌-◌, ℕ, List, ◌∷◌, Some, length, map, take}
use Rattle.std.specs.List.{slice_get}
use Rattle.ob_interface.specs.Call.{ObjectCall, Reply}
use Rattle.wf_history.specs.History.{Event}
use Rattle.wf_order.specs.Fronts.{AreSized, IsFarthest}
use Rattle.wf_order.specs.Rows.{AreRows}
use Rattle.wf_order.proofs.front.farthest_of.Given as goal

abbrev pub invariant-loop-found : goal.invariant-loop-found
invariant-loop-found g l =
    (history : List (Event ObjectCall Reply)) (processes : ℕ) (last : List ℕ) → AreRows history processes l.rows → AreSized processes (map (λ f. f.counts.items) l.all) →
    slice_get (map (λ f. f.counts.items) l.all) (length l.all - 1) ≡ Some last → IsFarthest history (last ∷ take l.found-index (map (λ f. f.counts.items) l.all)) l.farthest
