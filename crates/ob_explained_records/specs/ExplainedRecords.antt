-- What is shown of a fault of a module and a record that has a place in one of them.
use Rattle.std.specs.Prelude.{◌≡◌, ℕ, List, Option, None}
use Rattle.ob_explain_sentences.specs.Remarks.{Remark}
use Rattle.ob_explained.specs.Explained.{IsTextExplanation}
use Rattle.ob_explained_records.specs.FormRemarks.{IsFormRemark}
use Rattle.ob_explained_records.specs.OrderRemarks.{IsOrderRemark}
use Rattle.ob_explained.specs.Sources.{Source, shown_in}
use Rattle.ob_object_calls.specs.declared.verifying.VerifyFault.{VerifyFault}
use Rattle.ob_object_calls.specs.declared.verifying.VerifyFault.TheVariants as Faults
use Rattle.ob_explained.specs.Openings.{IsOpenExplanation}

-- the fault of the one stands in the one, and that of the other in the other; of an opening the operation is told that traps
abbrev pub IsRecordExplanation : (object record_file : Source) → VerifyFault → Option (List ℕ) → Type 0
IsRecordExplanation object record_file (Faults.Text e) shown = IsTextExplanation object.name object.text e shown
IsRecordExplanation object record_file (Faults.Form number) shown =
    (remark : Option Remark) × IsFormRemark object.text record_file.text number remark × (shown ≡ shown_in record_file remark)
IsRecordExplanation object record_file (Faults.Open e) shown = IsOpenExplanation object.name object.text e shown
IsRecordExplanation object record_file (Faults.Order e) shown =
    (remark : Option Remark) × IsOrderRemark object.text record_file.text e remark × (shown ≡ shown_in record_file remark)
IsRecordExplanation object record_file Faults.NoMemory shown = shown ≡ None
