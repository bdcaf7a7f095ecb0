-- From how an object begins to the answer that is made of it.
use Rattle.std.proofs.Common.{◌≡◌, ℕ, Bool, false, List, ◌∷◌, Result, Ok, Err, IfOk, subst}
use Rattle.ob_answer.specs.AllRuns.{AllRuns, IsAllRunsAnswer, shows_all_runs}
use Rattle.ob_answer.specs.Answers.{IsAllRunsMade, IsCallsAnswer, IsCallsMade, IsRunAnswer, IsRunMade, IsServeAnswer, IsServeMade, shows_calls, shows_run}
use Rattle.ob_answer_explained.specs.Beginnings.{Begins, TellsNoneOf, begun, untold}
use Rattle.ob_answer_explained.specs.CommandTexts.{CallsTexts, RunTexts, calls_of_text, calls_texts, first_or_none, of_text, record_file, run_of_text, run_texts_by}
use Rattle.ob_answer_explained.specs.Explains.{IsValuesFaultTold}
use Rattle.ob_answer_files.specs.Reads.{OfWhole}
use Rattle.ob_answer_files.specs.declared.answered.Answer.{Answer}
use Rattle.ob_answer.specs.declared.printed_forms.CallsProduct.{CallsProduct}
use Rattle.ob_answer.specs.declared.printed_forms.Product.{Product}
use Rattle.ob_command.specs.CommandLine.{CallsRequest, RunRequest}
use Rattle.ob_object_compile.specs.Asked.{Beginning}
use Rattle.ob_text_values_reading.specs.ReadValues.{SaysNone}
use Rattle.ob_text_values_reading.specs.declared.value_reading.ValuesFault.{ValuesFault}

-- ---- calls

pub calls_begun : (product : CallsProduct) (calls : CallsRequest) (part whole script : List ℕ) (record_bytes : List (List ℕ)) (beginning : Beginning)
    (t : CallsTexts) (a : Answer) → t ≡ calls_texts calls part script record_bytes beginning → Begins record_bytes beginning
    → IsCallsAnswer product (calls_of_text t whole) a → IsCallsMade product calls (whole ∷ script ∷ record_bytes) a
calls_begun product calls part whole script record_bytes beginning t a is begins h =
    begun beginning begins (subst (λ (u : CallsTexts). IsCallsAnswer product (calls_of_text u whole) a) is h)

pub calls_untold : {E : Type 0} (product : CallsProduct) (calls : CallsRequest) (part script : List ℕ) (record_bytes : List (List ℕ)) (fault : ValuesFault)
    (is_shown : Bool) (record_text : List ℕ) (result : Result Answer E) → is_shown ≡ shows_calls product → record_text ≡ first_or_none record_bytes
    → IfOk result (λ a. IsValuesFaultTold is_shown (record_file calls record_text) fault a) → IfOk result (λ _. SaysNone fault) → TellsNoneOf record_bytes fault
    → IfOk result (OfWhole part (λ whole. IsCallsMade product calls (whole ∷ script ∷ record_bytes)))
calls_untold product calls part script record_bytes fault is_shown record_text (Ok a) shown_is record_is told says none =
    λ whole _.
    untold fault (none says)
    (subst (λ (s : Bool). IsValuesFaultTold s (record_file calls (first_or_none record_bytes)) fault a) shown_is
    (subst (λ (text : List ℕ). IsValuesFaultTold is_shown (record_file calls text) fault a) record_is told))
calls_untold product calls part script record_bytes fault is_shown record_text (Err e) shown is told says none = tt

-- ---- workers

pub serve_begun : (calls : CallsRequest) (part whole script : List ℕ) (record_bytes : List (List ℕ)) (beginning : Beginning) (t : CallsTexts) (a : Answer)
    → t ≡ calls_texts calls part script record_bytes beginning → Begins record_bytes beginning → IsServeAnswer (of_text t.asked whole) t.script a
    → IsServeMade calls (whole ∷ script ∷ record_bytes) a
serve_begun calls part whole script record_bytes beginning t a is begins h =
    begun beginning begins (subst (λ (u : CallsTexts). IsServeAnswer (of_text u.asked whole) u.script a) is h)

pub serve_untold : {E : Type 0} (calls : CallsRequest) (part script : List ℕ) (record_bytes : List (List ℕ)) (fault : ValuesFault)
    (record_text : List ℕ) (result : Result Answer E) → record_text ≡ first_or_none record_bytes
    → IfOk result (λ a. IsValuesFaultTold false (record_file calls record_text) fault a) → IfOk result (λ _. SaysNone fault) → TellsNoneOf record_bytes fault
    → IfOk result (OfWhole part (λ whole. IsServeMade calls (whole ∷ script ∷ record_bytes)))
serve_untold calls part script record_bytes fault record_text (Ok a) record_is told says none =
    λ whole _.
    untold fault (none says) (subst (λ (text : List ℕ). IsValuesFaultTold false (record_file calls text) fault a) record_is told)
serve_untold calls part script record_bytes fault record_text (Err e) is told says none = tt

-- ---- all runs

pub all_runs_begun : (all : AllRuns) (calls : CallsRequest) (part whole script : List ℕ) (record_bytes : List (List ℕ)) (beginning : Beginning)
    (t : CallsTexts) (a : Answer) → t ≡ calls_texts calls part script record_bytes beginning → Begins record_bytes beginning
    → IsAllRunsAnswer all (calls_of_text t whole) a → IsAllRunsMade all calls (whole ∷ script ∷ record_bytes) a
all_runs_begun all calls part whole script record_bytes beginning t a is begins h =
    begun beginning begins (subst (λ (u : CallsTexts). IsAllRunsAnswer all (calls_of_text u whole) a) is h)

pub all_runs_untold : {E : Type 0} (all : AllRuns) (calls : CallsRequest) (part script : List ℕ) (record_bytes : List (List ℕ)) (fault : ValuesFault)
    (is_shown : Bool) (record_text : List ℕ) (result : Result Answer E) → is_shown ≡ shows_all_runs all → record_text ≡ first_or_none record_bytes
    → IfOk result (λ a. IsValuesFaultTold is_shown (record_file calls record_text) fault a) → IfOk result (λ _. SaysNone fault) → TellsNoneOf record_bytes fault
    → IfOk result (OfWhole part (λ whole. IsAllRunsMade all calls (whole ∷ script ∷ record_bytes)))
all_runs_untold all calls part script record_bytes fault is_shown record_text (Ok a) shown_is record_is told says none =
    λ whole _.
    untold fault (none says)
    (subst (λ (s : Bool). IsValuesFaultTold s (record_file calls (first_or_none record_bytes)) fault a) shown_is
    (subst (λ (text : List ℕ). IsValuesFaultTold is_shown (record_file calls text) fault a) record_is told))
all_runs_untold all calls part script record_bytes fault is_shown record_text (Err e) shown is told says none = tt

-- ---- a run

pub run_begun : (product : Product) (run : RunRequest) (part whole script schedule : List ℕ) (record_bytes : List (List ℕ)) (beginning : Beginning)
    (t : RunTexts) (a : Answer) → t ≡ run_texts_by run part script schedule record_bytes beginning → Begins record_bytes beginning
    → IsRunAnswer product (run_of_text t whole) a → IsRunMade product run (whole ∷ script ∷ schedule ∷ record_bytes) a
run_begun product run part whole script schedule record_bytes beginning t a is begins h =
    begun beginning begins (subst (λ (u : RunTexts). IsRunAnswer product (run_of_text u whole) a) is h)

pub run_untold : {E : Type 0} (product : Product) (run : RunRequest) (part script schedule : List ℕ) (record_bytes : List (List ℕ)) (fault : ValuesFault)
    (is_shown : Bool) (record_text : List ℕ) (result : Result Answer E) → is_shown ≡ shows_run product → record_text ≡ first_or_none record_bytes
    → IfOk result (λ a. IsValuesFaultTold is_shown (record_file run.calls record_text) fault a) → IfOk result (λ _. SaysNone fault) → TellsNoneOf record_bytes fault
    → IfOk result (OfWhole part (λ whole. IsRunMade product run (whole ∷ script ∷ schedule ∷ record_bytes)))
run_untold product run part script schedule record_bytes fault is_shown record_text (Ok a) shown_is record_is told says none =
    λ whole _.
    untold fault (none says)
    (subst (λ (s : Bool). IsValuesFaultTold s (record_file run.calls (first_or_none record_bytes)) fault a) shown_is
    (subst (λ (text : List ℕ). IsValuesFaultTold is_shown (record_file run.calls text) fault a) record_is told))
run_untold product run part script schedule record_bytes fault is_shown record_text (Err e) shown is told says none = tt
