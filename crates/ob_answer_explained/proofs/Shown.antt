-- Faults that are shown, of the beginning of a module's text.
use Rattle.std.proofs.Common.{◌≡◌, ◌≢◌, ◌<◌, ℕ, List, Result, Ok, Err, IfOk, length, subst, sym}
use Rattle.std.proofs.lemmas.Result.{IfOk-weaker}
use Rattle.ob_answer_explained.specs.CommandTexts.{CallsTexts, RunTexts, calls_of_text, of_text, run_of_text}
use Rattle.ob_answer_explained.specs.Explains.{AreRecordTrapsExplained, AreTrapsExplained, IsCallsFaultShown, IsExplained, IsModuleFaultShown, IsRecordExplained, IsRecordFaultShown, IsRunFaultShown, record_traps_untold, traps_untold, wrong}
use Rattle.ob_answer_files.specs.declared.answered.Answer.{Answer}
use Rattle.ob_answer_explained.proofs.AtOnce.{IsAtOnce, calls_refused, of_budget, of_processes, of_text_itself, refused_of_whole}
use Rattle.ob_answer_explained.proofs.Beginnings.{beginning, of_whole_or_long}
use Rattle.ob_answer_explained.proofs.RecordRefused.{record_refused}
use Rattle.ob_answer_explained.specs.Refusals.{RefusesRecord}
use Rattle.ob_command.specs.CommandLine.{Text}
use Rattle.ob_object_compile.specs.Asked.{Asked, TellsAtOnce}
use Rattle.ob_object_compile.specs.declared.compiling.CompileFault.{CompileFault}
use Rattle.ob_object_perform.specs.declared.performing.PerformFault.TheVariants as Perform
use Rattle.ob_object_calls.specs.SequentialRun.{IsNumbered, IsSeqRefusal}
use Rattle.ob_object_calls.specs.declared.sequential.SeqTextFault.{SeqTextFault}
use Rattle.ob_object_calls.specs.declared.sequential.SeqTextFault.TheVariants as Runs
use Rattle.ob_object_calls.specs.Verified.{IsVerified}
use Rattle.ob_object_calls.specs.VerifyFaults as Verifies
use Rattle.ob_object_calls.specs.VerifyFaults.{IsVerifyFault}
use Rattle.ob_object_calls.specs.declared.verifying.VerifyFault.{VerifyFault}
use Rattle.ob_object_calls.specs.declared.verifying.VerifyFault.TheVariants as Verify

-- a refusal of the beginning, and what is shown of it, are those of the whole text
pub record RefusedAndShown {F : Type 0} (Refusal : F → Type 0) (Shown : F → Answer → Type 0) (e : F) (x : Answer) : Type 0 where
  pub refusal : Refusal e
  pub shows : Shown e x

module _ {T F : Type 0} (compiling : CompileFault → F) (a : Asked) (Refusal : List ℕ → F → Type 0) (Shown : List ℕ → F → Answer → Type 0) (e : F)
    (tells : TellsAtOnce a (λ c. ◌≡◌ {A = Result T F} (Err e) (Err (compiling c))))
    (longer_is : (whole : List ℕ) (c : CompileFault) → 65536 < length whole → IsAtOnce (of_text a whole) c → Refusal whole (compiling c))
    (longer_shown : (whole : List ℕ) (c : CompileFault) (x : Answer) → IsAtOnce (of_text a whole) c → Shown a.text (compiling c) x → Shown whole (compiling c) x) where
  pub both_of_whole : (x : Answer) → Refusal a.text e → Shown a.text e x → (whole : List ℕ) → a.text ≡ beginning whole
      → RefusedAndShown (Refusal whole) (Shown whole) e x
  both_of_whole x h shown whole is =
      refused_of_whole compiling a (λ t f. RefusedAndShown (Refusal t) (Shown t) f x) e whole is tells
      (λ c longer at_once both. record { refusal = longer_is whole c longer at_once; shows = longer_shown whole c x at_once both.shows })
      (record { refusal = h; shows = shown })

  pub wrong_made : {E : Type 0} (IsRight : List ℕ → Type 0) (Numbered : F → Type 0) (result : Result Answer E)
      → IfOk result (Shown a.text e) → IfOk result (λ _. Numbered e) → Refusal a.text e
      → IfOk result (λ x. (whole : List ℕ) → a.text ≡ beginning whole → IsExplained (IsRight whole) (λ f. Refusal whole f × Numbered f) (Shown whole) x)
  wrong_made IsRight Numbered (Ok x) shown numbered h =
      λ whole is.
      let both = both_of_whole x h shown whole is in
      wrong e (both.refusal, numbered) both.shows
  wrong_made IsRight Numbered (Err f) shown numbered h = tt

-- ---- what is told at once is shown alike of each text

pub module_shown : (name : Text) (a : Asked) (text whole : List ℕ) (c : CompileFault) (x : Answer) → IsAtOnce a c
    → IsModuleFaultShown name text c x → IsModuleFaultShown name whole c x
module_shown name a text whole c x (of_processes h) shown = (shown.0, shown.1, shown.2)
module_shown name a text whole c x (of_budget h) shown = (shown.0, shown.1, shown.2)
module_shown name a text whole c x (of_text_itself h) shown = (shown.0, shown.1, shown.2)

pub calls_shown : (t : CallsTexts) (whole : List ℕ) (c : CompileFault) (x : Answer) → IsAtOnce (of_text t.asked whole) c
    → IsCallsFaultShown t (Runs.Compile c) x → IsCallsFaultShown (calls_of_text t whole) (Runs.Compile c) x
calls_shown t whole c x (of_processes h) shown = (shown.0, shown.1, shown.2)
calls_shown t whole c x (of_budget h) shown = (shown.0, shown.1, shown.2)
calls_shown t whole c x (of_text_itself h) shown = (shown.0, shown.1, shown.2)

pub run_shown : (t : RunTexts) (whole : List ℕ) (c : CompileFault) (x : Answer) → IsAtOnce (of_text t.texts.asked whole) c
    → IsRunFaultShown t (Perform.Compile c) x → IsRunFaultShown (run_of_text t whole) (Perform.Compile c) x
run_shown t whole c x (of_processes h) shown = (shown.0, shown.1, shown.2)
run_shown t whole c x (of_budget h) shown = (shown.0, shown.1, shown.2)
run_shown t whole c x (of_text_itself h) shown = (shown.0, shown.1, shown.2)

-- ---- of traps

pub traps_untold_made : {T E : Type 0} (t : CallsTexts) (e : SeqTextFault) (result : Result Answer E)
    → IfOk result (IsCallsFaultShown t e) → IfOk result (λ _. IsNumbered e)
    → TellsAtOnce t.asked (λ c. ◌≡◌ {A = Result T SeqTextFault} (Err e) (Err (Runs.Compile c))) → IsSeqRefusal t.asked t.script e
    → IfOk result (λ x. (whole : List ℕ) → t.asked.text ≡ beginning whole → AreTrapsExplained (calls_of_text t whole) x)
traps_untold_made {T = T} t e (Ok x) shown numbered tells h =
    λ whole is.
    let both = both_of_whole {T = T} Runs.Compile t.asked (λ text. IsSeqRefusal (of_text t.asked text) t.script) (λ text. IsCallsFaultShown (calls_of_text t text)) e tells
    (λ longer_text. calls_refused (of_text t.asked longer_text) t.script) (λ longer_text c y. calls_shown t longer_text c y) x h shown whole is in
    traps_untold e (both.refusal, numbered) both.shows
traps_untold_made t e (Err f) shown numbered tells h = tt

-- ---- of a record

long_record : (module_name : Text) (part whole : List ℕ) (record_name : Text) (text : List ℕ) (e : VerifyFault) (a : Answer) → e ≡ Verifies.too_long
    → IsRecordFaultShown module_name part record_name text e a → IsRecordFaultShown module_name whole record_name text e a
long_record module_name part whole record_name text e a is told =
    let here = subst (λ (x : VerifyFault). IsRecordFaultShown module_name part record_name text x a) is told in
    subst (λ (x : VerifyFault). IsRecordFaultShown module_name whole record_name text x a) (sym is) (here.0, here.1, here.2)

-- the fault of the beginning is that of the whole text, and so is what is shown of it
record_wrong_both : {E : Type 0} (module_name : Text) (part : List ℕ) (record_name : Text) (text : List ℕ) (e : VerifyFault) (result : Result Answer E)
    → IfOk result (λ a. IsRecordFaultShown module_name part record_name text e a) → IfOk result (λ _. e ≢ Verify.NoMemory)
    → IsVerifyFault part text e → Verifies.TellsMemoryApart e → (Verifies.IsNumbered e → IsVerified part text → ⊥)
    → (65536 < length part → e ≡ Verifies.too_long)
    → IfOk result (λ a. (whole : List ℕ) → part ≡ beginning whole → RefusesRecord whole text e × IsRecordFaultShown module_name whole record_name text e a)
record_wrong_both module_name part record_name text e (Ok a) told known stands apart none too_long =
    λ whole is.
    let shown = of_whole_or_long (λ t. IsRecordFaultShown module_name t record_name text e a) part whole is
    (λ long longer. long_record module_name part whole record_name text e a (too_long long) told) told in
    (record_refused part text e known stands apart none too_long whole is, shown)
record_wrong_both module_name part record_name text e (Err x) told known stands apart none too_long = tt

-- so it is explained, with traps and without
module _ {E : Type 0} (module_name : Text) (part : List ℕ) (record_name : Text) (text : List ℕ) (e : VerifyFault) (result : Result Answer E)
    (told : IfOk result (λ a. IsRecordFaultShown module_name part record_name text e a)) (known : IfOk result (λ _. e ≢ Verify.NoMemory))
    (stands : IsVerifyFault part text e) (apart : Verifies.TellsMemoryApart e) (none : Verifies.IsNumbered e → IsVerified part text → ⊥)
    (too_long : 65536 < length part → e ≡ Verifies.too_long) where
  record_both : IfOk result (λ a. (whole : List ℕ) → part ≡ beginning whole → RefusesRecord whole text e × IsRecordFaultShown module_name whole record_name text e a)
  record_both = record_wrong_both module_name part record_name text e result told known stands apart none too_long

  pub record_wrong_made : IfOk result (λ a. (whole : List ℕ) → part ≡ beginning whole → IsRecordExplained module_name whole record_name text a)
  record_wrong_made = IfOk-weaker result _ _ (λ a both whole is. let h = both whole is in wrong e h.0 h.1) record_both

  pub record_untold_made : IfOk result (λ a. (whole : List ℕ) → part ≡ beginning whole → AreRecordTrapsExplained module_name whole record_name text a)
  record_untold_made = IfOk-weaker result _ _ (λ a both whole is. let h = both whole is in record_traps_untold e h.0 h.1) record_both
