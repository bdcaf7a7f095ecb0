-- What the program answers to a request, by what reads of files give.
use Rattle.std.specs.Prelude.{◌≡◌, ◌⊎◌, ◌||◌, ℕ, Bool, List, [], ◌∷◌, ◌++◌, true, false, None, Option, Result, codes, option_map, count_by, MatchBool, nat_lt, if◌then◌else◌}
use Rattle.std.specs.Str.{bytes_eq}
use Rattle.ob_answer_files.specs.declared.answered.Answer.{Answer}
use Rattle.ob_answer_files.specs.declared.files.FileFault.{FileFault}
use Rattle.ob_fault_lines.specs.CompileFaultLines.{compile_line}
use Rattle.ob_fault_lines.specs.DrawFaultLines.{draw_fault_line, draw_record_fault_line}
use Rattle.ob_fault_lines.specs.RunFaultLines.{run_fault_line}
use Rattle.ob_fault_lines.specs.SequentialFaultLines.{seq_fault_line}
use Rattle.ob_fault_lines.specs.ServeFaultLines.{serve_fault_line}
use Rattle.ob_fault_lines.specs.VerifyFaultLines.{verify_fault_line}
use Rattle.ob_fault_pages.specs.Pages.{page_text}
use Rattle.ob_desk_serve.specs.PromisesOfServeTexts.{IsServedPrinted}
use Rattle.ob_object_perform.specs.Numbers.{IsBoundText}
use Rattle.ob_object_compile.specs.Asked.{Asked, ByBody, by_body}
use Rattle.ob_object_compile.specs.Compilation.{IsAny, default_budget}
use Rattle.ob_object_compile.specs.Listed.{IsListing}
use Rattle.ob_object_draw.specs.RecordPictures.{IsRecordPicture}
use Rattle.ob_object_perform.specs.Pictured.{IsPicturePrinted}
use Rattle.ob_object_perform.specs.Printed.{IsPrintedOf, IsRecordPrinted}
use Rattle.ob_object_perform.specs.Texts.{Texts}
use Rattle.ob_picture_chart.specs.declared.charts.CallRange.{CallRange}
use Rattle.ob_object_calls.specs.SequentialRun.{HasObject, IsSequentialRun}
use Rattle.ob_object_calls.specs.DetailedRun.{IsToldRun}
use Rattle.ob_object_calls.specs.declared.details.Details.{Details}
use Rattle.ob_object_draw.specs.Forms.{is_record_form}
use Rattle.ob_object_perform.specs.Spent.{IsPrintedWithSteps}
use Rattle.ob_object_perform.specs.Behind.{IsStatePrinted}
use Rattle.ob_object_perform.specs.TreeRuns.{IsPrintedOfCode}
use Rattle.ob_object_calls.specs.Verified.{IsVerified}
use Rattle.ob_answer_searches.specs.HistoryPictureAnswers.{IsHistoryPictureAnswer}
use Rattle.ob_text_scripts.specs.Chance.{IsOfSteps}
use Rattle.ob_text_scripts.specs.Finish.{IsFinished}
use Rattle.ob_command.specs.CommandLine.{CallsRequest, ChanceRequest, Request, RunRequest, SeqRequest, Text, default_most, Check, Listing, Seq, Live, Run, RunTree, RunSteps, RunFinished, RunByChance, Serve, Draw, DrawHistory, DrawRecord, Outcomes, State, Verify, Order, request}
use Rattle.ob_command.specs.CommandLine.{Explain, ExplainAlways, ExplainCalls, ExplainFault, ExplainTraps, ExplainRun, ExplainRecord, ExplainRecordTraps, ExplainHistory, Bound, Help, Version, Unclear}
use Rattle.ob_command.specs.Commands.{IsMistakeTextOf, calls_request_of, chance_request_of, run_request_of}
use Rattle.ob_command.specs.declared.command.CallNumbers.{CallNumbers}
use Rattle.ob_command.specs.declared.command.CallsCommand.{CallsCommand}
use Rattle.ob_command.specs.declared.command.ChanceCommand.{ChanceCommand}
use Rattle.ob_command.specs.declared.command.RunCommand.{RunCommand}
use Rattle.ob_command.specs.declared.command.RunProduct.{RunProduct}
use Rattle.ob_command.specs.declared.command.RunProduct.TheVariants as RunProducts
use Rattle.ob_answer.specs.AllRuns.{AllRuns, Explained, IsAllRunsAnswer, all_runs_for, shows_all_runs}
use Rattle.ob_answer.specs.declared.printed_forms.CallsProduct.{CallsProduct}
use Rattle.ob_answer.specs.declared.printed_forms.CallsProduct.TheVariants as CallsProducts
use Rattle.ob_answer.specs.declared.printed_forms.Product.{Product}
use Rattle.ob_answer.specs.declared.printed_forms.Product.TheVariants as Products
use Rattle.ob_answer_explained.specs.Beginnings.{WithBeginning}
use Rattle.ob_answer_explained.specs.CommandTexts.{CallsTexts, RunTexts, asked_by, calls_texts, first_or_none, record_file, run_texts_by}
use Rattle.ob_answer_explained.specs.Explains.{AreRecordTrapsExplained, AreTrapsExplained, IsCallsExplained, IsModuleExplained, IsRecordExplained, IsRunExplained, IsValuesFaultTold}
use Rattle.ob_answer_searches.specs.ExplainedOrders.{IsHistoryExplained}
use Rattle.ob_answer_searches.specs.Orders.{IsProductAnswer}
use Rattle.ob_answer_files.specs.Printed.{IsPrinted, IsPrintedBeside, IsRefused, IsTextAnswer}
use Rattle.ob_answer_files.specs.Reads.{IsOutcome, files_of_calls, files_of_run, record_in_calls, record_in_run}
use Rattle.ob_answer_files.specs.declared.file_reading.CallsBytes.{CallsBytes}
use Rattle.ob_answer_files.specs.declared.file_reading.RunBytes.{RunBytes}
use Rattle.ob_answer.specs.Refusals.{RefusesPicture, RefusesRecordPicture, RefusesTreeRun, RefusesWorkers}
use Rattle.ob_answer_explained.specs.Refusals.{RefusesCalls, RefusesObject, RefusesRecord, RefusesRun}

-- the program's name and version, and the logic that it is proved in
abbrev pub version_text : Text
version_text = codes "obl0 0.1.0\nrattle logic dac8208d650f15bf\nMIT OR Apache-2.0\n"

-- the mistake of words that name standard input for two files
abbrev pub input_twice_text : Text
input_twice_text = codes "error: `-`, which is standard input, stands for one file alone\n"

-- what is said of `live` where lines are not heard one by one
abbrev pub live_apart_text : Text
live_apart_text = codes "error: live answers lines as they come, and here whole files alone are read\n"

abbrev pub ok_text : Text
ok_text = codes "ok\n"

-- of a module that has an object, if of one process alone, `ok` is said
abbrev pub SaysOk : List ℕ → Text → Type 0
SaysOk bytes text = HasObject (by_body bytes 1 default_budget) × (text ≡ ok_text)

-- to the bytes of one module: whether it has an object, if of one process alone
abbrev pub IsCheckAnswer : List ℕ → Answer → Type 0
IsCheckAnswer bytes = IsTextAnswer (SaysOk bytes) (RefusesObject (by_body bytes 1 default_budget)) (compile_line ByBody)

-- to the bytes of one module: the listing of its code, as of an object of one process
abbrev pub IsListAnswer : List ℕ → Answer → Type 0
IsListAnswer bytes = IsTextAnswer (IsListing bytes) (RefusesObject (by_body bytes 1 default_budget)) (compile_line ByBody)

-- to the bytes of one module, a number of processes and a budget: the numbers of its object
abbrev pub IsBoundAnswer : (bytes : List ℕ) (processes budget : ℕ) → Answer → Type 0
IsBoundAnswer bytes processes budget =
    IsTextAnswer (IsBoundText bytes processes budget) (RefusesObject (by_body bytes processes budget)) (compile_line ByBody)

-- ---- of an object that is asked for, and the bytes of a script

-- the lines of the sequential run
abbrev pub IsSeqAnswer : Asked → (script_bytes : List ℕ) → Answer → Type 0
IsSeqAnswer a script_bytes = IsTextAnswer (IsSequentialRun a script_bytes) (RefusesCalls a script_bytes) (seq_fault_line a.beginning)

-- the lines of the sequential run, with what is told beside the replies
abbrev pub IsToldAnswer : Details → Asked → (script_bytes : List ℕ) → Answer → Type 0
IsToldAnswer d a script_bytes = IsTextAnswer (IsToldRun d a script_bytes) (RefusesCalls a script_bytes) (seq_fault_line a.beginning)

-- The record of workers, one for each process, whom no gate stops. A fault of the workers rules nothing out.
abbrev pub IsServeAnswer : Asked → (script_bytes : List ℕ) → Answer → Type 0
IsServeAnswer a script_bytes = IsTextAnswer (IsServedPrinted a script_bytes) (RefusesWorkers a script_bytes) (serve_fault_line a.beginning)

-- ---- of the texts of a run

-- the record of the run
abbrev pub IsRecordAnswer : Texts → Answer → Type 0
IsRecordAnswer t = IsTextAnswer (IsRecordPrinted t) (RefusesRun t) (run_fault_line t.asked.beginning)

-- of a run the record is printed, and beside it a line for each call that ended in it
abbrev pub IsToldBeside : Texts → Answer → Type 0
IsToldBeside t answer = (text : Text) × (beside : Text) × IsPrintedWithSteps t text beside × IsPrintedBeside answer text beside

-- the record of the run with the own steps of its calls: where there is none, the line of the fault
abbrev pub IsStepsAnswer : Texts → Answer → Type 0
IsStepsAnswer t answer = IsToldBeside t answer ⊎ IsTextAnswer (λ _. ⊥) (RefusesRun t) (run_fault_line t.asked.beginning) answer

-- of a run over the module's tree the record is printed, which is that of a run over its code, where it has one that is not too long
abbrev pub SaysTreeRecord : Texts → Text → Type 0
SaysTreeRecord t text = IsPrintedOf IsAny t text × IsPrintedOfCode t text

-- the record of the run over the module's tree
abbrev pub IsTreeRecordAnswer : Texts → Answer → Type 0
IsTreeRecordAnswer t = IsTextAnswer (SaysTreeRecord t) (RefusesTreeRun t) (run_fault_line t.asked.beginning)

-- the state behind the run
abbrev pub IsStateAnswer : Texts → Answer → Type 0
IsStateAnswer t = IsTextAnswer (IsStatePrinted t) (RefusesRun t) (run_fault_line t.asked.beginning)

-- the calls of a picture that words name
abbrev pub range_of : Option CallNumbers → Option CallRange
range_of = option_map (λ calls. record { from = calls.from; to = calls.to })

-- the picture of some calls of the run, or of all
abbrev pub IsPictureAnswer : Option CallRange → Texts → Answer → Type 0
IsPictureAnswer calls t = IsTextAnswer (IsPicturePrinted t calls) (RefusesPicture t calls) (draw_fault_line t.asked.beginning)

-- ---- of the bytes of a module and of a record

-- the picture of some calls of the record, or of all
abbrev pub IsRecordPictureAnswer : Option CallRange → (module_bytes record_bytes : List ℕ) → Answer → Type 0
IsRecordPictureAnswer calls module_bytes record_bytes =
    IsTextAnswer (IsRecordPicture module_bytes record_bytes calls) (RefusesRecordPicture module_bytes record_bytes calls) draw_record_fault_line

-- what was seen of an object, a record or a history: a text that has the form of a record is drawn as one, and any other as a history
abbrev pub IsSeenPictureAnswer : Option CallRange → (module_bytes seen_bytes : List ℕ) → Answer → Type 0
IsSeenPictureAnswer calls module_bytes seen_bytes answer =
    MatchBool (is_record_form seen_bytes) (IsRecordPictureAnswer calls module_bytes seen_bytes answer)
    (IsHistoryPictureAnswer calls module_bytes seen_bytes None default_most answer)

-- `ok` where the record's order is a legal one
abbrev pub SaysVerified : (module_bytes record_bytes : List ℕ) → Text → Type 0
SaysVerified module_bytes record_bytes text = IsVerified module_bytes record_bytes × (text ≡ ok_text)

abbrev pub IsVerifyAnswer : (module_bytes record_bytes : List ℕ) → Answer → Type 0
IsVerifyAnswer module_bytes record_bytes =
    IsTextAnswer (SaysVerified module_bytes record_bytes) (RefusesRecord module_bytes record_bytes) verify_fault_line

-- ---- of the files of a request

-- what is printed of calls: their replies, or these with what is told beside them; or what is wrong is shown, or the traps of the calls are
abbrev pub IsCallsAnswer : CallsProduct → CallsTexts → Answer → Type 0
IsCallsAnswer CallsProducts.Replies t = IsSeqAnswer t.asked t.script
IsCallsAnswer (CallsProducts.Told d) t = IsToldAnswer d t.asked t.script
IsCallsAnswer CallsProducts.Explanation t = IsCallsExplained t
IsCallsAnswer CallsProducts.Traps t = AreTrapsExplained t

-- the faults of a command are shown to people
abbrev pub shows_calls : CallsProduct → Bool
shows_calls CallsProducts.Replies = false
shows_calls (CallsProducts.Told d) = false
shows_calls CallsProducts.Explanation = true
shows_calls CallsProducts.Traps = true

-- what is printed of calls that are made one at a time: the replies alone, where nothing is to be told beside them
abbrev pub sequence_product : SeqRequest → CallsProduct
sequence_product s = if s.state || s.turns then CallsProducts.Told (record { state = s.state; turns = s.turns }) else CallsProducts.Replies

-- what is printed of a run: its record, by the code or by the tree of the module, or with the own steps of its calls, the state behind it, or
-- a picture of it; or what is wrong is shown
abbrev pub IsRunAnswer : Product → RunTexts → Answer → Type 0
IsRunAnswer Products.Record t = IsRecordAnswer t.texts
IsRunAnswer Products.TreeRecord t = IsTreeRecordAnswer t.texts
IsRunAnswer Products.RecordWithSteps t = IsStepsAnswer t.texts
IsRunAnswer Products.State t = IsStateAnswer t.texts
IsRunAnswer (Products.Picture calls) t = IsPictureAnswer calls t.texts
IsRunAnswer Products.Explanation t = IsRunExplained t

abbrev pub shows_run : Product → Bool
shows_run Products.Explanation = true
shows_run _ = false

-- the answer that is made of the bytes of the files of calls, and of those of a run
abbrev pub IsCallsMade : CallsProduct → CallsRequest → List (List ℕ) → Answer → Type 0
IsCallsMade product calls (module_bytes ∷ script_bytes ∷ record_bytes) answer =
    WithBeginning record_bytes (IsValuesFaultTold (shows_calls product) (record_file calls (first_or_none record_bytes)))
    (λ beginning. IsCallsAnswer product (calls_texts calls module_bytes script_bytes record_bytes beginning)) answer
IsCallsMade product calls _ answer = ⊥

-- the record of workers that make the calls, of the bytes of their files
abbrev pub IsServeMade : CallsRequest → List (List ℕ) → Answer → Type 0
IsServeMade calls (module_bytes ∷ script_bytes ∷ record_bytes) answer =
    WithBeginning record_bytes (IsValuesFaultTold false (record_file calls (first_or_none record_bytes)))
    (λ beginning. IsServeAnswer (asked_by calls module_bytes beginning) script_bytes) answer
IsServeMade calls _ answer = ⊥

abbrev pub IsAllRunsMade : AllRuns → CallsRequest → List (List ℕ) → Answer → Type 0
IsAllRunsMade all calls (module_bytes ∷ script_bytes ∷ record_bytes) answer =
    WithBeginning record_bytes (IsValuesFaultTold (shows_all_runs all) (record_file calls (first_or_none record_bytes)))
    (λ beginning. IsAllRunsAnswer all (calls_texts calls module_bytes script_bytes record_bytes beginning)) answer
IsAllRunsMade all calls _ answer = ⊥

abbrev pub IsRunMade : Product → RunRequest → List (List ℕ) → Answer → Type 0
IsRunMade product run (module_bytes ∷ script_bytes ∷ schedule_bytes ∷ record_bytes) answer =
    WithBeginning record_bytes (IsValuesFaultTold (shows_run product) (record_file run.calls (first_or_none record_bytes)))
    (λ beginning. IsRunAnswer product (run_texts_by run module_bytes script_bytes schedule_bytes record_bytes beginning)) answer
IsRunMade product run _ answer = ⊥

-- what is printed of a run whose schedule is made
abbrev pub product_of : RunProduct → Product
product_of RunProducts.Record = Products.Record
product_of RunProducts.TreeRecord = Products.TreeRecord
product_of RunProducts.RecordWithSteps = Products.RecordWithSteps

-- the same of a schedule that goes on from that of the file until each call has ended
abbrev pub IsFinishedMade : RunProduct → RunRequest → List (List ℕ) → Answer → Type 0
IsFinishedMade product run (module_bytes ∷ script_bytes ∷ schedule_bytes ∷ record_bytes) answer =
    (finished : List ℕ) × IsFinished schedule_bytes script_bytes finished
    × IsRunMade (product_of product) run (module_bytes ∷ script_bytes ∷ finished ∷ record_bytes) answer
IsFinishedMade product run _ answer = ⊥

-- a schedule by chance, of as many steps as are asked for; and one that goes on from such a schedule until each call has ended
abbrev pub IsOfChance : ChanceRequest → (schedule : List ℕ) → Type 0
IsOfChance run schedule = IsOfSteps run.calls.processes run.steps schedule

abbrev pub IsChanceSchedule : ChanceRequest → (script_bytes schedule : List ℕ) → Type 0
IsChanceSchedule run script_bytes schedule =
    MatchBool run.finish ((first : List ℕ) × IsOfChance run first × IsFinished first script_bytes schedule) (IsOfChance run schedule)

-- the run by it, whose schedule is that of no file
abbrev pub run_by_chance : ChanceRequest → RunRequest
run_by_chance run = record { calls = run.calls; schedule_name = [] }

-- the same of the bytes of the files of its calls
abbrev pub IsChanceMade : RunProduct → ChanceRequest → List (List ℕ) → Answer → Type 0
IsChanceMade product run (module_bytes ∷ script_bytes ∷ record_bytes) answer =
    (schedule : List ℕ) × IsChanceSchedule run script_bytes schedule
    × IsRunMade (product_of product) (run_by_chance run) (module_bytes ∷ script_bytes ∷ schedule ∷ record_bytes) answer
IsChanceMade product run _ answer = ⊥

-- the same of the bytes that were read, with the whole text of the module
abbrev pub IsMadeOfCalls : CallsProduct → CallsCommand → CallsBytes → (whole : List ℕ) → Answer → Type 0
IsMadeOfCalls product calls bytes whole = IsCallsMade product (calls_request_of calls) (whole ∷ bytes.script.items ∷ record_in_calls bytes)

abbrev pub IsMadeOfServe : CallsCommand → CallsBytes → (whole : List ℕ) → Answer → Type 0
IsMadeOfServe calls bytes whole = IsServeMade (calls_request_of calls) (whole ∷ bytes.script.items ∷ record_in_calls bytes)

abbrev pub IsMadeOfAllRuns : AllRuns → CallsCommand → CallsBytes → (whole : List ℕ) → Answer → Type 0
IsMadeOfAllRuns all calls bytes whole = IsAllRunsMade all (calls_request_of calls) (whole ∷ bytes.script.items ∷ record_in_calls bytes)

abbrev pub IsMadeOfRun : Product → RunCommand → RunBytes → (whole : List ℕ) → Answer → Type 0
IsMadeOfRun product run bytes whole = IsRunMade product (run_request_of run) (whole ∷ bytes.script.items ∷ bytes.schedule.items ∷ record_in_run bytes)

abbrev pub IsFinishedOfRun : RunProduct → RunCommand → RunBytes → (whole : List ℕ) → Answer → Type 0
IsFinishedOfRun product run bytes whole =
    IsFinishedMade product (run_request_of run) (whole ∷ bytes.script.items ∷ bytes.schedule.items ∷ record_in_run bytes)

abbrev pub IsChanceOfCalls : RunProduct → ChanceCommand → CallsBytes → (whole : List ℕ) → Answer → Type 0
IsChanceOfCalls product run bytes whole = IsChanceMade product (chance_request_of run) (whole ∷ bytes.script.items ∷ record_in_calls bytes)

-- the files that a request names, in the order of its words
abbrev pub files_of : Request → List Text
files_of (Check module_name) = module_name ∷ []
files_of (Listing module_name) = module_name ∷ []
files_of (Seq sequence) = files_of_calls sequence.calls
files_of (Run run) = files_of_run run
files_of (RunTree run) = files_of_run run
files_of (RunSteps run) = files_of_run run
files_of (RunFinished product run) = files_of_run run
files_of (RunByChance product run) = files_of_calls run.calls
files_of (Serve calls) = files_of_calls calls
files_of (Draw run range) = files_of_run run
files_of (State run) = files_of_run run
files_of (DrawRecord module_name record_name range) = module_name ∷ record_name ∷ []
files_of (DrawHistory seen) = seen.module_name ∷ seen.history_name ∷ []
files_of (Outcomes outcomes) = files_of_calls outcomes.calls
files_of (Verify module_name record_name) = module_name ∷ record_name ∷ []
files_of (Order order) = order.module_name ∷ order.history_name ∷ []
files_of (Explain module_name budget) = module_name ∷ []
files_of (ExplainCalls calls) = files_of_calls calls
files_of (ExplainTraps calls) = files_of_calls calls
files_of (ExplainRun run) = files_of_run run
files_of (ExplainAlways asked) = files_of_calls asked.calls
files_of (ExplainRecord module_name record_name) = module_name ∷ record_name ∷ []
files_of (ExplainRecordTraps module_name record_name) = module_name ∷ record_name ∷ []
files_of (ExplainHistory module_name history_name) = module_name ∷ history_name ∷ []
files_of (Bound module_name processes budget) = module_name ∷ []
files_of _ = []

-- the answer that is made of the bytes of these files
abbrev pub IsMade : Request → List (List ℕ) → Answer → Type 0
IsMade (Check module_name) (module_bytes ∷ []) answer = IsCheckAnswer module_bytes answer
IsMade (Listing module_name) (module_bytes ∷ []) answer = IsListAnswer module_bytes answer
IsMade (Seq sequence) bytes answer = IsCallsMade (sequence_product sequence) sequence.calls bytes answer
IsMade (Run run) bytes answer = IsRunMade Products.Record run bytes answer
IsMade (RunTree run) bytes answer = IsRunMade Products.TreeRecord run bytes answer
IsMade (RunSteps run) bytes answer = IsRunMade Products.RecordWithSteps run bytes answer
IsMade (RunFinished product run) bytes answer = IsFinishedMade product run bytes answer
IsMade (RunByChance product run) bytes answer = IsChanceMade product run bytes answer
IsMade (Serve calls) bytes answer = IsServeMade calls bytes answer
IsMade (Draw run range) bytes answer = IsRunMade (Products.Picture (range_of range)) run bytes answer
IsMade (State run) bytes answer = IsRunMade Products.State run bytes answer
IsMade (DrawRecord module_name record_name range) (module_bytes ∷ record_bytes ∷ []) answer =
    IsSeenPictureAnswer (range_of range) module_bytes record_bytes answer
IsMade (DrawHistory seen) (module_bytes ∷ history_bytes ∷ []) answer =
    IsHistoryPictureAnswer (range_of seen.calls) module_bytes history_bytes seen.budget seen.most answer
IsMade (Outcomes outcomes) bytes answer = IsAllRunsMade (all_runs_for outcomes) outcomes.calls bytes answer
IsMade (Verify module_name record_name) (module_bytes ∷ record_bytes ∷ []) answer = IsVerifyAnswer module_bytes record_bytes answer
IsMade (Order order) (module_bytes ∷ history_bytes ∷ []) answer =
    IsProductAnswer order.product module_bytes history_bytes order.budget order.most answer
IsMade (Explain module_name budget) (module_bytes ∷ []) answer = IsModuleExplained module_name module_bytes answer
IsMade (ExplainFault name) [] answer = IsPrinted answer (page_text name)
IsMade (ExplainCalls calls) bytes answer = IsCallsMade CallsProducts.Explanation calls bytes answer
IsMade (ExplainTraps calls) bytes answer = IsCallsMade CallsProducts.Traps calls bytes answer
IsMade (ExplainRun run) bytes answer = IsRunMade Products.Explanation run bytes answer
IsMade (ExplainAlways asked) bytes answer = IsAllRunsMade (Explained asked.name) asked.calls bytes answer
IsMade (ExplainRecord module_name record_name) (module_bytes ∷ record_bytes ∷ []) answer =
    IsRecordExplained module_name module_bytes record_name record_bytes answer
IsMade (ExplainRecordTraps module_name record_name) (module_bytes ∷ record_bytes ∷ []) answer =
    AreRecordTrapsExplained module_name module_bytes record_name record_bytes answer
IsMade (ExplainHistory module_name history_name) (module_bytes ∷ history_bytes ∷ []) answer =
    IsHistoryExplained module_name module_bytes history_name history_bytes answer
IsMade (Bound module_name processes budget) (module_bytes ∷ []) answer = IsBoundAnswer module_bytes processes budget answer
IsMade (Live calls) [] answer = IsRefused answer 2 live_apart_text
IsMade Help [] answer = (text : Text) × IsPrinted answer text
IsMade Version [] answer = IsPrinted answer version_text
IsMade Unclear [] answer = (text : Text) × IsRefused answer 2 text
IsMade _ _ answer = ⊥

-- what is wrong with words that are no command, as their definitions allow
abbrev pub TellsMistake : (words : List Text) → Answer → Type 0
TellsMistake words answer = (text : Text) × IsMistakeTextOf words text × IsRefused answer 2 text

-- the name of standard input
abbrev pub input_name : Text
input_name = codes "-"

-- standard input can be read but once
abbrev pub reads_input_twice : List Text → Bool
reads_input_twice names = nat_lt 1 (count_by (λ name. bytes_eq name input_name) names)

module _ {F : Type 0} (Reads : F → Text → Result (List ℕ) FileFault → F → Type 0) where
  -- the outcome of the files of calls, and of those of a run
  abbrev pub IsCallsObeyed : CallsProduct → CallsRequest → F → Answer → F → Type 0
  IsCallsObeyed product calls = IsOutcome Reads (files_of_calls calls) (IsCallsMade product calls)

  abbrev pub IsServeObeyed : CallsRequest → F → Answer → F → Type 0
  IsServeObeyed calls = IsOutcome Reads (files_of_calls calls) (IsServeMade calls)

  abbrev pub IsAllRunsObeyed : AllRuns → CallsRequest → F → Answer → F → Type 0
  IsAllRunsObeyed all calls = IsOutcome Reads (files_of_calls calls) (IsAllRunsMade all calls)

  abbrev pub IsRunObeyed : Product → RunRequest → F → Answer → F → Type 0
  IsRunObeyed product run = IsOutcome Reads (files_of_run run) (IsRunMade product run)

  abbrev pub IsFinishedObeyed : RunProduct → RunRequest → F → Answer → F → Type 0
  IsFinishedObeyed product run = IsOutcome Reads (files_of_run run) (IsFinishedMade product run)

  abbrev pub IsChanceObeyed : RunProduct → ChanceRequest → F → Answer → F → Type 0
  IsChanceObeyed product run = IsOutcome Reads (files_of_calls run.calls) (IsChanceMade product run)

  -- the outcome of the files that a request names
  abbrev pub IsObeyed : Request → F → Answer → F → Type 0
  IsObeyed request = IsOutcome Reads (files_of request) (IsMade request)

  -- the answer to a request: where it names standard input for two files, its words are a mistake, and nothing is read
  abbrev pub IsAnswerTo : Request → F → Answer → F → Type 0
  IsAnswerTo request before answer after =
      MatchBool (reads_input_twice (files_of request)) (IsRefused answer 2 input_twice_text × (after ≡ before)) (IsObeyed request before answer after)

  -- the answer to words: that to what they ask for; where they are no command, it says what is wrong with them
  abbrev pub IsAnswer : (words : List Text) → F → Answer → F → Type 0
  IsAnswer words before answer after =
      IsAnswerTo (request words) before answer after × (request words ≡ Unclear → TellsMistake words answer)
