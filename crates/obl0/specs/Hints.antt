-- What a terminal is told behind a fault.
use Rattle.std.specs.Prelude.{ℕ, ◌==◌, ◌&&◌, ◌||◌, ◌++◌, nat_eq, nat_le, Bool, true, false, not, [], ◌∷◌, Option, Some, None, is_some, codes, if◌then◌else◌}
use Rattle.std.specs.Char.{is_ascii_alphanumeric, is_ascii_digit, is_ascii_uppercase}
use Rattle.std.specs.Fmt.{decimal}
use Rattle.std.specs.List.{after_first, before_first, list_all, starts_with}
use Rattle.std.specs.Str.{bytes_eq}
use Rattle.std.specs.declared.io.ErrorKind.{ErrorKind}
use Rattle.std.specs.declared.io.ErrorKind.TheVariants as Kind
use Rattle.ob_command.specs.CommandLine.{Text, CallsRequest, OrderRequest, OutcomesRequest, Request, RunRequest, SeenRequest, Check, Listing, Seq, Live, Run, RunTree, RunSteps, RunFinished, RunByChance, Serve, Draw, DrawRecord, DrawHistory, Outcomes, State, Verify, Order}
use Rattle.ob_command.specs.CommandLine.{Explain, ExplainAlways, ExplainCalls, ExplainFault, ExplainTraps, ExplainRun, ExplainRecord, ExplainRecordTraps, ExplainHistory, Bound, default_budget, default_most, default_most_reached}
use Rattle.ob_command.specs.declared.command.OrderProduct.{OrderProduct}
use Rattle.ob_command.specs.declared.command.RunProduct.{RunProduct}
use Rattle.ob_command.specs.declared.command.RunProduct.TheVariants as products
use Rattle.ob_command.specs.declared.command.OrderProduct.TheVariants.{Apart}

-- the exit status of a fault with a number
abbrev pub is_fault : (status : ℕ) → Bool
is_fault status = status == 1

-- the line of a fault begins so
abbrev pub begins : (number line : Text) → Bool
begins number line = starts_with nat_eq line number

-- ---- the form of `explain` that tells more

-- a letter, a digit, or one of `-`, `.`, `/` and `_`
abbrev pub is_plain_byte : ℕ → Bool
is_plain_byte b = is_ascii_alphanumeric b || (b == 45 || (b == 46 || (b == 47 || b == 95)))

-- The name of a file as it can be typed again: of such characters, and not with a `-` at its beginning, as options have and standard
-- input.
abbrev pub is_plain : (name : Text) → Bool
is_plain [] = false
is_plain (b ∷ rest) = not (b == 45) && (is_plain_byte b && list_all is_plain_byte rest)

-- the name of a file, or in place of one that is not plain what the file is
abbrev pub named : (what name : Text) → Text
named what name = if is_plain name then name else what

-- the name as a word behind others
abbrev pub name_word : (what name : Text) → Text
name_word what name = codes " " ++ named what name

-- a budget behind its option, where it is not the one that there is where nothing is said of it
abbrev pub budget_words : (budget : ℕ) → Text
budget_words budget = if budget == default_budget then [] else codes " -b " ++ decimal budget

-- a number of processes behind its option
abbrev pub count_words : (processes : ℕ) → Text
count_words processes = codes " -n " ++ decimal processes

-- `explain` of a module, of a module and a script, and of a run
abbrev pub module_words : (module_name : Text) → Text
module_words module_name = codes "`obl0 explain" ++ name_word (codes "MODULE") module_name

abbrev pub script_words : CallsRequest → Text
script_words calls = module_words calls.module_name ++ name_word (codes "SCRIPT") calls.script_name

abbrev pub run_words : RunRequest → Text
run_words run = (script_words run.calls ++ name_word (codes "SCHEDULE") run.schedule_name) ++ count_words run.calls.processes

-- the record with whose values an object begins behind its option, where one is named
abbrev pub from_words : (from_name : Option Text) → Text
from_words None = []
from_words (Some name) = codes " --from" ++ name_word (codes "RECORD") name

-- the options behind the names of files
abbrev pub option_words : CallsRequest → Text
option_words calls = budget_words calls.budget ++ from_words calls.from_name

-- what is said of such words
abbrev pub telling : Text
telling = codes "` tells more\n"

abbrev pub module_form : (module_name : Text) → Text
module_form module_name = module_words module_name ++ telling

abbrev pub calls_form : CallsRequest → Text
calls_form calls = (script_words calls ++ option_words calls) ++ telling

abbrev pub run_form : RunRequest → Text
run_form run = (run_words run ++ option_words run.calls) ++ telling

-- calls that workers make, and those of a run by a schedule of chance, are explained as a run by a schedule with no items
abbrev pub served : CallsRequest → RunRequest
served calls = record { calls = calls; schedule_name = codes "/dev/null" }

abbrev pub record_form : (module_name record_name : Text) → Text
record_form module_name record_name =
    ((module_words module_name ++ codes " --record") ++ name_word (codes "RECORD") record_name) ++ telling

-- a fault of the module's text: of its tokens, its tree or its rules
abbrev pub is_of_text : (line : Text) → Bool
is_of_text line = begins (codes "S") line || (begins (codes "P") line || begins (codes "C") line)

abbrev pub history_form : (module_name history_name : Text) → Text
history_form module_name history_name =
    ((module_words module_name ++ codes " --history") ++ name_word (codes "HISTORY") history_name) ++ telling

-- Of `draw` of what was seen: without a schedule, which somebody may have left out, its second file is read as a record, or as a history where
-- it has not the form of a record. Which of them it was the line does not say.
abbrev pub either_form : (module_name seen_name : Text) → Text
either_form module_name seen_name =
    (record_form module_name seen_name
    ++ codes "without a SCHEDULE the second file is read as a record, or as a history where it lacks the title or the order of a record, and of that ")
    ++ history_form module_name seen_name

-- the same, and of a fault of the module's text
abbrev pub drawn_form : (module_name seen_name line : Text) → Text
drawn_form module_name seen_name line = if is_of_text line then module_form module_name else either_form module_name seen_name

-- of some calls of a history apart from the others
abbrev pub is_apart : OrderProduct → Bool
is_apart (Apart place) = true
is_apart product = false

-- a search as `explain` makes it too: with the budget of the history, and with no more configurations
abbrev pub is_plain_search : (budget : Option ℕ) (most : ℕ) → Bool
is_plain_search budget most = not (is_some budget) && nat_le most default_most

-- `explain` looks for the same order, and not for those of parts
abbrev pub is_explained : OrderRequest → Bool
is_explained order = is_plain_search order.budget order.most && not (is_apart order.product)

-- what is told of the end of a call where it does not
abbrev pub illegal_end : (line : Text) → Text
illegal_end line = if begins (codes "X1") line then codes "up to the end of this call no order of the calls gives these replies\n" else []

-- of a search for an order, and of a fault of the module's text
abbrev pub search_form : OrderRequest → (line : Text) → Text
search_form order line = if is_explained order then history_form order.module_name order.history_name else illegal_end line

abbrev pub order_form : OrderRequest → (line : Text) → Text
order_form order line = if is_of_text line then module_form order.module_name else search_form order line

-- of `draw` of a history
abbrev pub seen_form : SeenRequest → (line : Text) → Text
seen_form seen line =
    if is_of_text line then module_form seen.module_name
    else if is_plain_search seen.budget seen.most then history_form seen.module_name seen.history_name
    else []

-- of calls of which an export is to answer TRUE always
abbrev pub always_form : CallsRequest → (name : Text) → Text
always_form calls name =
    ((((script_words calls ++ count_words calls.processes) ++ codes " --always") ++ name_word (codes "NAME") name) ++ option_words calls) ++ telling

-- `explain` does not look so far
abbrev pub is_far : OutcomesRequest → (line : Text) → Bool
is_far outcomes line = begins (codes "X3") line && not (nat_le outcomes.most default_most_reached)

-- of all runs: with the name of such an export, or else as calls that workers make
abbrev pub asked_form : Option Text → OutcomesRequest → (line : Text) → Text
asked_form None outcomes line = run_form (served outcomes.calls)
asked_form (Some name) outcomes line = if is_far outcomes line then [] else always_form outcomes.calls name

abbrev pub outcomes_form : OutcomesRequest → (line : Text) → Text
outcomes_form outcomes line = asked_form outcomes.always outcomes line

-- Of a run by the tree that form tells more of faults of the text alone: `explain` makes the module's code, and where that is too long it
-- tells that before any other.
abbrev pub tree_form : RunRequest → (line : Text) → Text
tree_form run line = if is_of_text line then run_form run else []

-- of a run whose schedule is made
abbrev pub made_form : RunProduct → RunRequest → (line : Text) → Text
made_form products.TreeRecord run line = tree_form run line
made_form product run line = run_form run

-- which form of `explain` tells more of the fault of a command with this line; nothing behind `explain` itself
abbrev pub form_about : Request → (line : Text) → Text
form_about (Check module_name) line = module_form module_name
form_about (Listing module_name) line = module_form module_name
form_about (Bound module_name processes budget) line = module_form module_name
form_about (Seq sequence) line = calls_form sequence.calls
form_about (Live calls) line = module_form calls.module_name
form_about (Run run) line = run_form run
form_about (RunTree run) line = tree_form run line
form_about (RunSteps run) line = run_form run
form_about (RunFinished product run) line = made_form product run line
form_about (RunByChance product run) line = made_form product (served run.calls) line
form_about (Draw run range) line = run_form run
form_about (State run) line = run_form run
form_about (Serve calls) line = run_form (served calls)
form_about (Outcomes outcomes) line = outcomes_form outcomes line
form_about (DrawRecord module_name record_name calls) line = drawn_form module_name record_name line
form_about (DrawHistory seen) line = seen_form seen line
form_about (Verify module_name record_name) line = record_form module_name record_name
form_about (Order order) line = order_form order line
form_about request line = []

-- ---- faults of no text

-- what stands between words
abbrev pub is_blank : (b : ℕ) → Bool
is_blank b = b == 32

-- the third word of a line, which is how many calls there are in `I1 of 6 calls`
abbrev pub third_word : (line : Text) → Text
third_word line = before_first is_blank (after_first is_blank (after_first is_blank line))

-- What is told of a picture of calls that there are not: between which places the first one of `--calls` is, by how many calls there are.
abbrev pub first_place : (count : Text) → Text
first_place count =
    if bytes_eq count (codes "0") then codes "no call begins, so there is none for --calls to name\n"
    else codes "behind --calls stands FROM-TO, and FROM is 1 to " ++ count ++ codes " here\n"

-- a search ended before its end
abbrev pub is_of_search : (line : Text) → Bool
is_of_search line = begins (codes "X2") line

-- What is told of any other of `order`: that a search can go on, which argument parts are made by, or which processes a record has.
abbrev pub of_order : (line : Text) → Option Text
of_order line =
    if begins (codes "N1") line then Some (codes "a record has processes 0 to 15; without --record there may be others\n")
    else if is_of_search line then Some (codes "--most says how many configurations are looked at\n")
    else if begins (codes "X4") line then Some (codes "behind --by stands an argument that each call of the history has\n")
    else None

-- And of every other command: what a number of the command line may be, or how many calls a picture has; nothing of a desk's faults.
abbrev pub beside_texts : (line : Text) → Option Text
beside_texts line =
    if begins (codes "N1") line then Some (codes "behind -n stands how many processes there are, 1 to 16\n")
    else if begins (codes "N3") line then Some (codes "behind -b stands how many turns each call has, 0 to 1000000\n")
    else if begins (codes "I2") line then Some (codes "a picture shows at most 400 calls; --calls FROM-TO says which ones\n")
    else if begins (codes "V") line || begins (codes "K") line then Some []
    else None

-- What is told so of a picture of what was seen: which processes it may have, and that a search can go on.
abbrev pub of_picture : (line : Text) → Option Text
of_picture line =
    if begins (codes "N1") line then Some (codes "a picture has processes 0 to 15\n")
    else if is_of_search line then Some (codes "--most says how many configurations are looked at\n")
    else beside_texts line

-- and of all runs
abbrev pub of_outcomes : (line : Text) → Option Text
of_outcomes line = if is_of_search line then Some (codes "--most says how many configurations are looked at\n") else beside_texts line

-- the same of a command
abbrev pub beside : Request → (line : Text) → Option Text
beside (Order order) line = of_order line
beside (DrawRecord module_name seen_name calls) line = of_picture line
beside (DrawHistory seen) line = of_picture line
beside (Outcomes outcomes) line = of_outcomes line
beside request line = beside_texts line

-- the same, or else the form of `explain`
abbrev pub told_by : Option Text → Request → (line : Text) → Text
told_by (Some text) request line = text
told_by None request line = form_about request line

-- of every fault
abbrev pub told_of : Request → (line : Text) → Text
told_of request line = if begins (codes "I1") line then first_place (third_word line) else told_by (beside request line) request line

-- a command prints the record of a run by a schedule
abbrev pub is_run : Request → Bool
is_run (Run run) = true
is_run (RunTree run) = true
is_run (RunSteps run) = true
is_run (RunFinished product run) = true
is_run (RunByChance product run) = true
is_run request = false

-- how many calls its script makes, where that was done
abbrev pub calls_told : Request → (status : ℕ) → (calls : Option ℕ) → Option ℕ
calls_told request status calls = if is_run request && (status == 0) then calls else None

-- a command shows its faults to people itself
abbrev pub is_explain : Request → Bool
is_explain (Explain module_name budget) = true
is_explain (ExplainFault name) = true
is_explain (ExplainCalls calls) = true
is_explain (ExplainTraps calls) = true
is_explain (ExplainRun run) = true
is_explain (ExplainAlways asked) = true
is_explain (ExplainRecord module_name record_name) = true
is_explain (ExplainRecordTraps module_name record_name) = true
is_explain (ExplainHistory module_name history_name) = true
is_explain request = false

-- behind the line of a fault of a command that does not
abbrev pub more_about : Request → (line : Text) → Text
more_about request line = if is_explain request then [] else told_of request line

-- ---- a file that can't be read

-- the number of a fault: a capital letter and a digit, or two
abbrev pub is_fault_name : Text → Bool
is_fault_name (b ∷ d ∷ []) = is_ascii_uppercase b && is_ascii_digit d
is_fault_name (b ∷ d ∷ e ∷ []) = is_ascii_uppercase b && (is_ascii_digit d && is_ascii_digit e)
is_fault_name name = false

-- `explain` and such a number
abbrev pub asks_of_fault : Request → Bool
asks_of_fault (Explain name budget) = is_fault_name name
asks_of_fault request = false

-- why the host gives no bytes of a file
abbrev pub cause : ErrorKind → Text
cause Kind.NotFound = codes "there is no file of this name\n"
cause Kind.NotADirectory = codes "there is no file of this name: what stands before a / is no folder\n"
cause Kind.IsADirectory = codes "it is a folder\n"
cause Kind.PermissionDenied = codes "you may not read it\n"
cause kind = []

-- behind the line that tells that a file can't be read
abbrev pub more_about_unread : Request → ErrorKind → Text
more_about_unread request kind =
    if asks_of_fault request then codes "`explain` takes the file of a module, as `obl0 explain a.mod`; docs/FAULTS.md tells what a fault means\n"
    else cause kind

-- ---- both

-- Behind an answer with this exit status and this line on standard error, where the host gave no bytes of a file, or gave those of all.
abbrev pub more_of : Request → (status : ℕ) → (line : Text) → (refusal : Option ErrorKind) → Text
more_of request status line (Some kind) = more_about_unread request kind
more_of request status line None = if is_fault status then more_about request line else []
