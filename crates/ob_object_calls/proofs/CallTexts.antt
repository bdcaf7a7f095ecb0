-- What is found of a module's text and of a record of its program, as what is answered of both texts.
use Rattle.std.proofs.Common.{◌≡◌, List, ℕ, Result, Ok, Err, IfErr, ◌⊎◌, inl, inr, refl, subst}
use Rattle.ob_check.specs.CheckedText.{IsNumberedText, IsTextFault, TellsTextMemoryApart}
use Rattle.ob_check.specs.declared.module_text.TextFault.{TextFault}
use Rattle.ob_check.specs.declared.module_text.TextFault.TheVariants as Text
use Rattle.ob_object_run.specs.LegalOrder.{CallEnds}
use Rattle.ob_object_calls.proofs.VerifyCrossing.{fault_named, fault_placed, legal_named, legal_placed}
use Rattle.ob_object_calls.proofs.Openings.{module_resolved}
use Rattle.ob_object_calls.specs.Beginnings.{BeginsPlaced, TrapsPlaced}
use Rattle.ob_object_calls.specs.Verified.{IsLegalRecord, IsVerified}
use Rattle.ob_object_calls.specs.VerifyFaults.{HasRecordFault, IsFaultOfRecord, IsNumbered, IsVerifyFault, TellsMemoryApart, of_text}
use Rattle.ob_object_calls.specs.declared.verifying.VerifyFault.{VerifyFault}
use Rattle.ob_object_calls.specs.declared.verifying.VerifyFault.TheVariants as Faults
use Rattle.ob_typing.specs.ModuleText.{IsModule}
use Rattle.ob_typing.specs.Program.{Program}

-- a fault of a text is told as want of memory or has a number
told : (e : TextFault) → TellsTextMemoryApart e → (of_text e ≡ Faults.NoMemory) ⊎ IsNumberedText e
told (Text.Scan e) apart = inr (refl, apart)
told (Text.Parse e) apart = inr (refl, apart)
told (Text.Check e) apart = inr (refl, apart)
told Text.NoMemory apart = inl refl

pub apart_told : (e : TextFault) → TellsTextMemoryApart e → TellsMemoryApart (of_text e)
apart_told (Text.Scan e) apart = inr (refl, apart)
apart_told (Text.Parse e) apart = inr (refl, apart)
apart_told (Text.Check e) apart = inr (refl, apart)
apart_told Text.NoMemory apart = inl refl

-- where only want of memory is told, there is no number
pub no_number : (e : VerifyFault) → e ≡ Faults.NoMemory → IsNumbered e → ⊥
no_number e same numbered = subst (λ (x : VerifyFault). IsNumbered x) same numbered

pub none_by : {X A : Type 0} (r : Result X VerifyFault) → (A → IfErr r (λ e. e ≡ Faults.NoMemory)) → IfErr r (λ e. IsNumbered e → A → ⊥)
none_by (Ok x) lawful = tt
none_by (Err e) lawful = λ numbered a. no_number e (lawful a) numbered

module _ (module_text record_text : List ℕ) where
  pub text_told : (e : TextFault) → IsTextFault module_text e → IsVerifyFault module_text record_text (of_text e)
  text_told (Text.Scan e) h = h
  text_told (Text.Parse e) h = h
  text_told (Text.Check e) h = h
  text_told Text.NoMemory h = tt

  module _ (e : TextFault) (none : IsNumberedText e → (program : Program) → IsModule module_text program → ⊥) (apart : TellsTextMemoryApart e) where
    -- of a module's text only want of memory is told
    memory_alone : (program : Program) → IsModule module_text program → of_text e ≡ Faults.NoMemory
    memory_alone program m = elim (told e apart) [ inl same ↦ same | inr numbered ↦ absurd (none numbered program m) ]

    pub memory_lawful : IsVerified module_text record_text → of_text e ≡ Faults.NoMemory
    memory_lawful r = memory_alone r.program r.is_module

    pub no_run : IsNumbered (of_text e) → IsVerified module_text record_text → ⊥
    no_run numbered r = no_number (of_text e) (memory_lawful r) numbered

    pub memory_only : (fault : VerifyFault) → IsFaultOfRecord module_text record_text fault → (of_text e ≡ fault) ⊎ (of_text e ≡ Faults.NoMemory)
    memory_only fault f = inr (memory_alone f.program f.is_module)

  module _ (program : Program) (is_module : IsModule module_text program) (alone : (other : Program) → IsModule module_text other → other ≡ program) where
    pub verified_by : IsLegalRecord BeginsPlaced CallEnds program record_text → IsVerified module_text record_text
    verified_by r =
        record {
          program = program;
          is_module = is_module;
          is_legal = legal_named program (module_resolved module_text program is_module) record_text r;
        }

    pub record_in : IsVerified module_text record_text → IsLegalRecord BeginsPlaced CallEnds program record_text
    record_in r =
        subst (λ (p : Program). IsLegalRecord BeginsPlaced CallEnds p record_text) (alone r.program r.is_module)
        (legal_placed r.program (module_resolved module_text r.program r.is_module) record_text r.is_legal)

    pub fault_in : (fault : VerifyFault) → IsFaultOfRecord module_text record_text fault → HasRecordFault BeginsPlaced TrapsPlaced CallEnds program record_text fault
    fault_in fault f =
        subst (λ (p : Program). HasRecordFault BeginsPlaced TrapsPlaced CallEnds p record_text fault) (alone f.program f.is_module)
        (fault_placed f.program (module_resolved module_text f.program f.is_module) record_text fault f.fails)

    fault_of : (fault : VerifyFault) → HasRecordFault BeginsPlaced TrapsPlaced CallEnds program record_text fault → IsFaultOfRecord module_text record_text fault
    fault_of fault f =
        record {
          program = program;
          is_module = is_module;
          fails = fault_named program (module_resolved module_text program is_module) record_text fault f;
        }

    pub told_of : (fault : VerifyFault) → HasRecordFault BeginsPlaced TrapsPlaced CallEnds program record_text fault → IsVerifyFault module_text record_text fault
    told_of (Faults.Text e) f = absurd f
    told_of (Faults.Form line) f = fault_of (Faults.Form line) f
    told_of (Faults.Open e) f = fault_of (Faults.Open e) f
    told_of (Faults.Order e) f = fault_of (Faults.Order e) f
    told_of Faults.NoMemory f = tt
