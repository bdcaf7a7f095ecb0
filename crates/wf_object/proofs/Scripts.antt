-- Calls of a script, as they begin.
use Rattle.std.proofs.Common.{◌≡◌, ◌<◌, ◌+◌, ℕ, Bool, true, List, length, ap, ap₂, sym, ◌∙◌, arith}
use Rattle.std.specs.Prelude.{Option, Some, None, nat_lt, slice_index_or, if◌then◌else◌}
use Rattle.std.proofs.lemmas.Bool.Decides.{nat_tests}
use Rattle.ob_interface.specs.Call.{ObjectCall, Reply}
use Rattle.wf_history.specs.declared.event.CallId.{CallId}
use Rattle.wf_history.specs.History.{Event, Begin}
use Rattle.wf_table.specs.StepTable.{Process}
use Rattle.wf_table.specs.Object.{began}
use Rattle.wf_records.specs.CallsKept.{no_call}

module _ {Run : Type 0} where
  -- what is seen where the call of this place begins
  pub began_is : (p : ℕ) (q : Process Run) (begun : ℕ) (calls : List ObjectCall) (x : ObjectCall) → q.begun ≡ begun → q.calls ≡ calls → begun < length calls → x ≡ slice_index_or calls begun no_call → began p q ≡ Some (Begin (record { process = p; number = begun + 1 }) x)
  began_is p q begun calls x eb ec lt e =
      let id : ℕ → CallId = λ (k : ℕ). record { process = p; number = k + 1 } in
      let event : ℕ → ObjectCall → Option (Event ObjectCall Reply) = λ (k : ℕ) (y : ObjectCall). Some (Begin (id k) y) in
      let t : nat_lt begun (length calls) ≡ true = grind (arith, nat_tests) in
      ap₂ (λ (k : ℕ) (cs : List ObjectCall). if nat_lt k (length cs) then event k (slice_index_or cs k no_call) else None) eb ec
      ∙ ap (λ (b : Bool). if b then event begun (slice_index_or calls begun no_call) else None) t
      ∙ ap (event begun) (sym e)
