-- Answers made of the beginning of a module's text.
use Rattle.std.proofs.Common.{◌≡◌, ◌≢◌, ◌<◌, ◌++◌, ℕ, List, Result, Ok, Err, Option, IfOk, length, codes, subst, sym, refl}
use Rattle.ob_answer.specs.Answers.{IsRecordPictureAnswer, IsVerifyAnswer}
use Rattle.ob_answer.specs.Refusals.{IsNumberedDraw}
use Rattle.ob_answer_files.specs.Printed.{IsRefused, IsTextAnswer, refused}
use Rattle.ob_answer_explained.specs.CommandTexts.{of_text}
use Rattle.ob_answer_files.specs.declared.answered.Answer.{Answer}
use Rattle.ob_answer_explained.proofs.AtOnce.{IsAtOnce, no_module, refused_of_whole, too_long_scan}
use Rattle.ob_answer_explained.proofs.Beginnings.{beginning, of_whole_or_long}
use Rattle.ob_check.specs.declared.module_text.TextFault.TheVariants as Texts
use Rattle.ob_command.specs.CommandLine.{Text}
use Rattle.ob_fault_lines.specs.DrawFaultLines.{draw_record_fault_line}
use Rattle.ob_fault_lines.specs.VerifyFaultLines.{verify_fault_line}
use Rattle.ob_object_compile.specs.Asked.{Asked, TellsAtOnce}
use Rattle.ob_object_compile.specs.declared.compiling.CompileFault.{CompileFault}
use Rattle.ob_object_draw.specs.RecordPictures as RecordPictures
use Rattle.ob_object_draw.specs.RecordPictures.{HasNoPicture, IsDrawRecordFault}
use Rattle.ob_object_draw.specs.declared.record_pictures.DrawRecordFault.{DrawRecordFault}
use Rattle.ob_object_draw.specs.declared.record_pictures.DrawRecordFault.TheVariants as DrawRecord
use Rattle.ob_object_perform.specs.Pictured as Pictured
use Rattle.ob_object_perform.specs.declared.drawing.DrawFault.{DrawFault}
use Rattle.ob_object_perform.specs.declared.drawing.DrawFault.TheVariants as Draw
use Rattle.ob_object_perform.specs.declared.performing.PerformFault.TheVariants as Perform
use Rattle.ob_object_calls.specs.Verified.{IsVerified}
use Rattle.ob_object_calls.specs.VerifyFaults as Verifies
use Rattle.ob_object_calls.specs.VerifyFaults.{IsVerifyFault}
use Rattle.ob_object_calls.specs.declared.verifying.VerifyFault.{VerifyFault}
use Rattle.ob_object_calls.specs.declared.verifying.VerifyFault.TheVariants as Verify
use Rattle.ob_scan.specs.declared.fault.ScanFault.TheVariants as Scan
use Rattle.ob_picture_chart.specs.declared.charts.CallRange.{CallRange}
use Rattle.ob_answer_explained.proofs.RecordRefused.{record_refused}

-- the line of a fault by which texts are refused; `compiling` tells those of an object
pub text_refused : {T F E : Type 0} (compiling : CompileFault → F) (a : Asked) (Says : List ℕ → Text → Type 0) (Refusal : List ℕ → F → Type 0) (Numbered : F → Type 0)
    (line : F → Text) (e : F) (result : Result Answer E)
    → IfOk result (λ x. IsRefused x 1 (line e ++ codes "\n")) → IfOk result (λ _. Numbered e)
    → TellsAtOnce a (λ c. ◌≡◌ {A = Result T F} (Err e) (Err (compiling c)))
    → ((whole : List ℕ) (c : CompileFault) → 65536 < length whole → IsAtOnce (of_text a whole) c → Refusal whole (compiling c))
    → Refusal a.text e
    → IfOk result (λ x. (whole : List ℕ) → a.text ≡ beginning whole → IsTextAnswer (Says whole) (λ f. Refusal whole f × Numbered f) line x)
text_refused compiling a Says Refusal Numbered line e (Ok x) told numbered tells longer_is h =
    λ whole is.
    refused e (refused_of_whole compiling a Refusal e whole is tells (λ c longer at_once _. longer_is whole c longer at_once) h, numbered) told
text_refused compiling a Says Refusal Numbered line e (Err f) told numbered tells longer_is h = tt

-- ---- of a picture

pub numbered_draw : (e : DrawFault) → e ≢ Draw.Run Perform.NoMemory → Pictured.TellsMemoryApart e → IsNumberedDraw e
numbered_draw (Draw.Run (Perform.Compile e)) known apart = (refl, apart)
numbered_draw (Draw.Run (Perform.Script e)) known apart = (refl, apart)
numbered_draw (Draw.Run (Perform.Schedule e)) known apart = (refl, apart)
numbered_draw (Draw.Run (Perform.TooLong item)) known apart = (refl, apart)
numbered_draw (Draw.Run Perform.NoMemory) known apart = absurd (known refl)
numbered_draw (Draw.Calls e) known apart = apart

-- ---- of a record

pub draw_record_refused_made : {E : Type 0} (calls : Option CallRange) (part text : List ℕ) (e : DrawRecordFault) (result : Result Answer E)
    → IfOk result (λ a. IsRefused a 1 (draw_record_fault_line e ++ codes "\n")) → IfOk result (λ _. e ≢ DrawRecord.NoMemory)
    → IsDrawRecordFault part text calls e → RecordPictures.TellsMemoryApart e → (RecordPictures.IsNumbered e → HasNoPicture part text calls)
    → (65536 < length part → e ≡ DrawRecord.Text (Texts.Scan Scan.TooLong))
    → IfOk result (λ a. (whole : List ℕ) → part ≡ beginning whole → IsRecordPictureAnswer calls whole text a)
draw_record_refused_made calls part text e (Ok a) told known stands apart none too_long =
    λ whole is.
    let says = of_whole_or_long (λ t. IsDrawRecordFault t text calls e) part whole is
    (λ long longer. subst (λ (x : DrawRecordFault). IsDrawRecordFault whole text calls x) (sym (too_long long)) (too_long_scan whole longer)) stands in
    let no_picture = of_whole_or_long (λ t. HasNoPicture t text calls) part whole is (λ long longer output p. no_module whole longer p.program p.read.is_module)
    (none (known, apart)) in
    refused e (record { says = says; none = no_picture; numbered = (known, apart) }) told
draw_record_refused_made calls part text e (Err x) told known stands apart none too_long = tt

pub verify_refused_made : {E : Type 0} (part text : List ℕ) (e : VerifyFault) (result : Result Answer E)
    → IfOk result (λ a. IsRefused a 1 (verify_fault_line e ++ codes "\n")) → IfOk result (λ _. e ≢ Verify.NoMemory)
    → IsVerifyFault part text e → Verifies.TellsMemoryApart e → (Verifies.IsNumbered e → IsVerified part text → ⊥)
    → (65536 < length part → e ≡ Verifies.too_long)
    → IfOk result (λ a. (whole : List ℕ) → part ≡ beginning whole → IsVerifyAnswer whole text a)
verify_refused_made part text e (Ok a) told known stands apart none too_long =
    λ whole is. refused e (record_refused part text e known stands apart none too_long whole is) told
verify_refused_made part text e (Err x) told known stands apart none too_long = tt
