-- A legal order has no fault but want of memory.
use Rattle.std.proofs.Common.{ℕ, List, refl, ◌≡◌}
use Rattle.std.proofs.Math.Logic.{∥∥₁_elim}
use Rattle.ob_interface.specs.Call.{ObjectCall, Reply}
use Rattle.ob_typing.specs.Program.{Program}
use Rattle.ob_meaning.specs.ByPositionStore.{Activation}
use Rattle.ob_object_run.specs.LegalOrder.{IsLegalOrder}
use Rattle.ob_object_run.specs.OrderFaults.{IsOrderFault}
use Rattle.ob_object_run.specs.declared.order_checker.OrderFault.{OrderFault}
use Rattle.ob_object_run.specs.declared.order_checker.OrderFault.TheVariants as Faults
use Rattle.ob_object_run.proofs.Faults.{legal_fault}
use Rattle.wf_history.specs.declared.event.CallId.{CallId}
use Rattle.wf_history.specs.History.{Event, IsHistory}

module _ (program : Program) (budget : ℕ) (opening : Activation) (history : List (Event ObjectCall Reply)) (order : List CallId) (in_turn : IsHistory history) where
  abbrev HasOrder : Type 0
  HasOrder = (last : Activation) × IsLegalOrder program budget opening history order last

  refused : (fault : OrderFault) → ¬ (fault ≡ Faults.NoMemory) → ∥ HasOrder ∥₁ → ¬ IsOrderFault program budget opening history order fault
  refused fault other legal fails =
      ∥∥₁_elim legal (λ a b. absurd a) (λ l. other (legal_fault program budget opening history order in_turn l.0 l.1 fault fails))

  pub only_memory : (fault : OrderFault) → ∥ HasOrder ∥₁ → IsOrderFault program budget opening history order fault → fault ≡ Faults.NoMemory
  only_memory Faults.NoMemory legal fails = refl
  only_memory (Faults.Unknown id) legal fails = absurd (refused (Faults.Unknown id) (λ e. absurd (cc)) legal fails)
  only_memory (Faults.Missing id) legal fails = absurd (refused (Faults.Missing id) (λ e. absurd (cc)) legal fails)
  only_memory (Faults.TooEarly id) legal fails = absurd (refused (Faults.TooEarly id) (λ e. absurd (cc)) legal fails)
  only_memory (Faults.OtherReply id) legal fails = absurd (refused (Faults.OtherReply id) (λ e. absurd (cc)) legal fails)
