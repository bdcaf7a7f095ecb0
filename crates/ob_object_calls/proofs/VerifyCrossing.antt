-- Records by position and by name: their orders are legal, or have a fault, both ways.
use Rattle.std.proofs.Common.{ℕ, List}
use Rattle.ob_meaning.specs.Resolved.{IsResolved}
use Rattle.ob_meaning.specs.Same.{SameState}
use Rattle.ob_code_correct.proofs.Named.{names_simulate, positions_simulate}
use Rattle.ob_code_correct.specs.Compiled.{Fits}
use Rattle.ob_code_correct.specs.Named.{CallMeans}
use Rattle.ob_mean.specs.declared.openings.OpenFault.TheVariants as Open
use Rattle.ob_meaning.specs.ByNameObject.{State}
use Rattle.ob_object_run.specs.LegalOrder.{CallEnds}
use Rattle.ob_object_calls.proofs.VerifyFitting.{calls_fit}
use Rattle.ob_object_calls.proofs.Beginnings.{beginning_named, beginning_placed, record_opened, trap_named, trap_placed}
use Rattle.ob_object_calls.proofs.Simulated.{fault_there, legal_there}
use Rattle.ob_object_calls.specs.Beginnings.{BeginsNamed, BeginsPlaced, TrapsNamed, TrapsPlaced}
use Rattle.ob_object_calls.specs.Verified.{IsLegalRecord}
use Rattle.ob_object_calls.specs.VerifyFaults.{HasRecordFault}
use Rattle.ob_object_calls.specs.declared.verifying.VerifyFault.{VerifyFault}
use Rattle.ob_object_calls.specs.declared.verifying.VerifyFault.TheVariants as Faults
use Rattle.ob_meaning.specs.ByPositionStore.{Activation}
use Rattle.ob_typing.specs.Program.{Program}

module _ (program : Program) (good : IsResolved program) where
  -- a state by position is one by name, and the other way round
  abbrev IsNamed : Activation → State → Type 0
  IsNamed activation state = SameState program state activation

  abbrev IsPlaced : State → Activation → Type 0
  IsPlaced state activation = SameState program state activation

  module _ (text : List ℕ) where
    pub legal_named : IsLegalRecord BeginsPlaced CallEnds program text → IsLegalRecord BeginsNamed CallMeans program text
    legal_named r =
        let o = beginning_named program good r.tells.carried (record_opened program text r.tells r.is_record) r.opening r.begins in
        let fit = calls_fit program text r.tells r.is_record in
        let l = legal_there (Fits program) IsNamed (CallEnds program r.tells.budget) (CallMeans program r.tells.budget) (names_simulate program r.tells.budget good) r.tells.events r.tells.order fit r.opening o.0 o.2 r.last r.legal in
        record { tells = r.tells; is_record = r.is_record; opening = o.0; begins = o.1; last = l.end; legal = l.legal }

    pub legal_placed : IsLegalRecord BeginsNamed CallMeans program text → IsLegalRecord BeginsPlaced CallEnds program text
    legal_placed r =
        let o = beginning_placed program good r.tells.carried r.opening r.begins in
        let fit = calls_fit program text r.tells r.is_record in
        let l = legal_there (Fits program) IsPlaced (CallMeans program r.tells.budget) (CallEnds program r.tells.budget) (positions_simulate program r.tells.budget good) r.tells.events r.tells.order fit r.opening o.0 o.2 r.last r.legal in
        record { tells = r.tells; is_record = r.is_record; opening = o.0; begins = o.1; last = l.end; legal = l.legal }

    pub fault_named : (e : VerifyFault) → HasRecordFault BeginsPlaced TrapsPlaced CallEnds program text e → HasRecordFault BeginsNamed TrapsNamed CallMeans program text e
    fault_named (Faults.Text e) h = h
    fault_named (Faults.Form line) h = h
    fault_named (Faults.Open (Open.Trap k)) h = record { tells = h.tells; is_record = h.is_record; traps = trap_named program good h.tells.carried k h.traps }
    fault_named (Faults.Open Open.NoMemory) h = h
    fault_named (Faults.Order e) h =
        let o = beginning_named program good h.tells.carried (record_opened program text h.tells h.is_record) h.opening h.begins in
        let fit = calls_fit program text h.tells h.is_record in
        record {
          tells = h.tells;
          is_record = h.is_record;
          opening = o.0;
          begins = o.1;
          fails = fault_there (Fits program) IsNamed (CallEnds program h.tells.budget) (CallMeans program h.tells.budget) (names_simulate program h.tells.budget good) h.tells.events h.tells.order fit h.opening o.0 o.2 e h.fails;
        }
    fault_named Faults.NoMemory h = tt

    pub fault_placed : (e : VerifyFault) → HasRecordFault BeginsNamed TrapsNamed CallMeans program text e → HasRecordFault BeginsPlaced TrapsPlaced CallEnds program text e
    fault_placed (Faults.Text e) h = h
    fault_placed (Faults.Form line) h = h
    fault_placed (Faults.Open (Open.Trap k)) h = record { tells = h.tells; is_record = h.is_record; traps = trap_placed program good h.tells.carried k h.traps }
    fault_placed (Faults.Open Open.NoMemory) h = h
    fault_placed (Faults.Order e) h =
        let o = beginning_placed program good h.tells.carried h.opening h.begins in
        let fit = calls_fit program text h.tells h.is_record in
        record {
          tells = h.tells;
          is_record = h.is_record;
          opening = o.0;
          begins = o.1;
          fails = fault_there (Fits program) IsPlaced (CallMeans program h.tells.budget) (CallEnds program h.tells.budget) (positions_simulate program h.tells.budget good) h.tells.events h.tells.order fit h.opening o.0 o.2 e h.fails;
        }
    fault_placed Faults.NoMemory h = tt
