-- What the words of the command line ask for, by what clap makes of them.
use Rattle.std.specs.Prelude.{ℕ, ◌==◌, ◌+◌, ◌++◌, ◌&&◌, ◌||◌, Bool, true, false, not, List, [], ◌∷◌, Option, Some, None, find, is_some, map, nat_le, nat_lt, slice_get, option_and_then, option_map, unwrap_or, codes, if◌then◌else◌}
use Rattle.std.specs.Char.{is_ascii_digit}
use Rattle.std.specs.List.{after_first, before_first, list_all, list_any}
use Rattle.std.specs.Option.{option_map_or}
use Rattle.std.specs.Str.{bytes_eq}
use Rattle.std.specs.Str.Parse.{digits_value, without_leading_plus}
use Rattle.clap.specs.ValueTests.{is_unsigned_in}
use Rattle.clap.specs.Words.{Kinds, Row, fault_of, first_of, one_of, subcommand_of}
use Rattle.clap.specs.declared.error.kind.ErrorKind.TheVariants as kind
use Rattle.ob_command_line.specs.ClapCommand.{obl0_app}
use Rattle.ob_command_line.specs.HelpWords.{asks_version, clap_words, extra_of_help}
use Rattle.ob_command.specs.declared.command.CallNumbers.{CallNumbers}
use Rattle.ob_command.specs.declared.command.OrderProduct.{OrderProduct}
use Rattle.ob_command.specs.declared.command.OrderProduct.TheVariants.{Apart, Line, WholeRecord}
use Rattle.ob_command.specs.declared.command.RunProduct.{RunProduct}
use Rattle.ob_command.specs.declared.command.RunProduct.TheVariants as products
use Rattle.ob_command.specs.declared.fault_names.TheConstants.{FAULT_NAMES}
use Rattle.ob_command.specs.declared.given.Part.{Part}
use Rattle.ob_command.specs.declared.given.Part.TheVariants.{Script, Schedule, Record, History, From, Processes, Budget, Most, Always, Tree, Steps, Traps, Seed, Length, Finish}

abbrev pub Text : Type 0
Text = List ℕ

-- What calls are made of: the names of the files of a module and a script, how many processes there are, how many turns each call has,
-- and the name of the file of the record whose variables the object begins with, where one is named.
pub record CallsRequest : Type 0 where
  pub module_name : Text
  pub script_name : Text
  pub processes : ℕ
  pub budget : ℕ
  pub from_name : Option Text

-- What calls that are made one at a time are made of, and what is told of them beside their replies: the variables that each changed, and how
-- many turns it took.
pub record SeqRequest : Type 0 where
  pub calls : CallsRequest
  pub state : Bool
  pub turns : Bool

-- What all runs are made of: their calls, the name of the procedure that is to answer TRUE always, where one is named, whether each whole
-- outcome is told, and how many configurations are looked at at most.
pub record OutcomesRequest : Type 0 where
  pub calls : CallsRequest
  pub always : Option Text
  pub whole : Bool
  pub most : ℕ

-- What is explained of all runs: their calls, and the name of the procedure that is to answer TRUE always.
pub record AlwaysRequest : Type 0 where
  pub calls : CallsRequest
  pub name : Text

-- What a run is made of: its calls, and the name of the file of its schedule.
pub record RunRequest : Type 0 where
  pub calls : CallsRequest
  pub schedule_name : Text

-- The same of a run by a schedule of chance: its calls, the seed, how many steps the schedule has, and whether it goes on until each call has
-- ended.
pub record ChanceRequest : Type 0 where
  pub calls : CallsRequest
  pub seed : ℕ
  pub steps : ℕ
  pub finish : Bool

-- What an order is looked for in, and how: the names of the files of a module and a history, the budget of its calls where one is given, how
-- many configurations are looked at at most, and what is printed of the order.
pub record OrderRequest : Type 0 where
  pub module_name : Text
  pub history_name : Text
  pub budget : Option ℕ
  pub most : ℕ
  pub product : OrderProduct

-- What a picture of a history is made of: the names of the files of a module and a history, the budget of its calls where one is given, how
-- many configurations are looked at at most, and the calls that are drawn.
pub record SeenRequest : Type 0 where
  pub module_name : Text
  pub history_name : Text
  pub budget : Option ℕ
  pub most : ℕ
  pub calls : Option CallNumbers

-- What they ask for: the rules of a module checked; its code listed; the calls of a script made on it; calls made on it as they come; a run's record; the record of the
-- same run by the tree of the module; the record with the own steps of its calls beside it; the same of a run that goes on until each call has
-- ended, and of a run by a schedule of chance; the record of workers' run; a run's picture; that of a record or of a history, and of a history
-- by a search that is told how to search; what may happen over all runs; the state behind a run; the order of a record checked; a legal order of a history; what is
-- wrong with a module, or with a module and a script, shown to people; what a fault is; where the calls of a script trap, shown to people; what is
-- wrong with a run; how all runs come to what is not to be; what is wrong with a record, and where its calls trap; what is wrong with a history; how
-- many own steps a call takes at most; help; the version; or nothing that there is. A command has the names of its files, and a budget is how many
-- turns each call has. A picture has some calls, or all.
pub data Request : Type 0 where
  Check : (module_name : Text) → Request
  Listing : (module_name : Text) → Request
  Seq : (sequence : SeqRequest) → Request
  Live : (calls : CallsRequest) → Request
  Run : (run : RunRequest) → Request
  RunTree : (run : RunRequest) → Request
  RunSteps : (run : RunRequest) → Request
  RunFinished : (product : RunProduct) (run : RunRequest) → Request
  RunByChance : (product : RunProduct) (run : ChanceRequest) → Request
  Serve : (calls : CallsRequest) → Request
  Draw : (run : RunRequest) (calls : Option CallNumbers) → Request
  DrawRecord : (module_name record_name : Text) (calls : Option CallNumbers) → Request
  DrawHistory : (seen : SeenRequest) → Request
  Outcomes : (outcomes : OutcomesRequest) → Request
  State : (run : RunRequest) → Request
  Verify : (module_name record_name : Text) → Request
  Order : (order : OrderRequest) → Request
  Explain : (module_name : Text) (budget : ℕ) → Request
  ExplainFault : (name : Text) → Request
  ExplainCalls : (calls : CallsRequest) → Request
  ExplainTraps : (calls : CallsRequest) → Request
  ExplainRun : (run : RunRequest) → Request
  ExplainAlways : (asked : AlwaysRequest) → Request
  ExplainRecord : (module_name record_name : Text) → Request
  ExplainRecordTraps : (module_name record_name : Text) → Request
  ExplainHistory : (module_name history_name : Text) → Request
  Bound : (module_name : Text) (processes budget : ℕ) → Request
  Help : Request
  Version : Request
  Unclear : Request

-- The number that a text writes: decimal digits, a `+` before them or not, with a value of at most so much.
abbrev pub number_up_to : (most : ℕ) → Text → Option ℕ
number_up_to most text = if is_unsigned_in 0 most text then Some (digits_value 10 (without_leading_plus text)) else None

-- a number of processes, or the place of an argument, below 65,536
abbrev pub number : Text → Option ℕ
number = number_up_to 65535

-- a budget, below 2 ^ 32
abbrev pub budget_number : Text → Option ℕ
budget_number = number_up_to 4294967295

-- a seed, below 2 ^ 64
abbrev pub seed_number : Text → Option ℕ
seed_number = number_up_to 18446744073709551615

-- the place of a call, below 2 ^ 32
abbrev pub place_number : Text → Option ℕ
place_number = number_up_to 4294967295

-- calls from one place to another, which is no lower; places count from 1
abbrev pub calls_between : ℕ → ℕ → Option CallNumbers
calls_between from to = if nat_le 1 from && nat_le from to then Some (record { from = from; to = to }) else None

abbrev pub is_minus : ℕ → Bool
is_minus b = b == 45

-- the calls that a text names: a place, a `-`, and a place behind it
abbrev pub calls_in : Text → Option CallNumbers
calls_in text = option_and_then (λ from. option_and_then (calls_between from) (place_number (after_first is_minus text))) (place_number (before_first is_minus text))

-- the first of two places is behind the second
abbrev pub are_turned : (from to : Option ℕ) → Bool
are_turned (Some from) (Some to) = nat_lt to from
are_turned from to = false

-- a text names two places so
abbrev pub is_turned : Text → Bool
is_turned text = are_turned (place_number (before_first is_minus text)) (place_number (after_first is_minus text))

-- the budget where nothing is said of it
abbrev pub default_budget : ℕ
default_budget = 100000

-- how many configurations a search for an order looks at where nothing is said of it
abbrev pub default_most : ℕ
default_most = 10000000

-- the same of a search over all runs
abbrev pub default_most_reached : ℕ
default_most_reached = 1000000

-- a budget that calls of a history can have had, a number of configurations, and the place of an argument
abbrev pub is_seen_budget : ℕ → Bool
is_seen_budget budget = nat_le budget 1000000

abbrev pub is_most : ℕ → Bool
is_most most = nat_le 1 most && nat_le most 1000000000

abbrev pub is_place : ℕ → Bool
is_place place = nat_le 1 place && nat_le place 8

-- how many steps a schedule by chance has where nothing is said of it, and how many it can have
abbrev pub default_length : ℕ
default_length = 1000

abbrev pub is_length : ℕ → Bool
is_length steps = nat_le steps 1000000

-- of how many processes calls may be that are made one at a time
abbrev pub sequence_processes : ℕ
sequence_processes = 16

-- ---- what stands behind a command

-- What is given behind the name of a command and that of a module: the names of files, the calls of a picture as they are written, the name of
-- a procedure, numbers, and words that have no value.
pub record Given : Type 0 where
  pub script_name : Option Text
  pub schedule_name : Option Text
  pub record_name : Option Text
  pub history_name : Option Text
  pub from_name : Option Text
  pub range : Option Text
  pub always : Option Text
  pub processes : Option ℕ
  pub budget : Option ℕ
  pub most : Option ℕ
  pub argument : Option ℕ
  pub seed : Option ℕ
  pub schedule_length : Option ℕ
  pub as_record : Bool
  pub tree : Bool
  pub steps : Bool
  pub traps : Bool
  pub finish : Bool
  pub state : Bool
  pub turns : Bool
  pub whole : Bool

-- the number that stands behind `-n`, of the rows in which clap keeps what stood behind the command
abbrev pub processes_of : List Row → Option ℕ
processes_of rows = option_and_then number (one_of (codes "N") rows)

-- the budget that stands behind `-b`, of the same rows
abbrev pub budget_of : List Row → Option ℕ
budget_of rows = option_and_then budget_number (one_of (codes "BUDGET") rows)

-- the number of configurations that stands behind `--most`, of the same rows
abbrev pub most_of : List Row → Option ℕ
most_of rows = option_and_then budget_number (one_of (codes "K") rows)

-- the place of an argument that stands behind `--by`, of the same rows
abbrev pub argument_of : List Row → Option ℕ
argument_of rows = option_and_then number (one_of (codes "BY") rows)

-- the seed that stands behind `--seed`, and the number of steps behind `--length`, of the same rows
abbrev pub seed_of : List Row → Option ℕ
seed_of rows = option_and_then seed_number (one_of (codes "S") rows)

abbrev pub length_of : List Row → Option ℕ
length_of rows = option_and_then budget_number (one_of (codes "LENGTH") rows)

-- whether a word stands there that has no value, by what clap keeps of it
abbrev pub is_true : Option Text → Bool
is_true word = option_map_or (λ text. bytes_eq text (codes "true")) word false

-- the same of the rows
abbrev pub is_set : Text → List Row → Bool
is_set name rows = is_true (first_of name rows)

-- all that is given, of the same rows
abbrev pub given_of : List Row → Given
given_of rows = record {
  script_name = first_of (codes "SCRIPT") rows;
  schedule_name = first_of (codes "SCHEDULE") rows;
  record_name = first_of (codes "RECORD") rows;
  history_name = first_of (codes "HISTORY") rows;
  from_name = first_of (codes "FROM") rows;
  range = first_of (codes "FROM-TO") rows;
  always = first_of (codes "NAME") rows;
  processes = processes_of rows;
  budget = budget_of rows;
  most = most_of rows;
  argument = argument_of rows;
  seed = seed_of rows;
  schedule_length = length_of rows;
  as_record = is_set (codes "record") rows;
  tree = is_set (codes "tree") rows;
  steps = is_set (codes "steps") rows;
  traps = is_set (codes "traps") rows;
  finish = is_set (codes "finish") rows;
  state = is_set (codes "state") rows;
  turns = is_set (codes "turns") rows;
  whole = is_set (codes "whole") rows;
}

-- ---- the table of the commands

-- how many turns each call has: as many as are given, or else so many as there are where nothing is said of it
abbrev pub turns_of : Given → ℕ
turns_of given = unwrap_or given.budget default_budget

-- the calls of a script on a module, of so many processes
abbrev pub calls_by : (processes : ℕ) → (module_name : Text) → Given → Option CallsRequest
calls_by processes module_name given = option_map (λ script_name. record {
  module_name = module_name;
  script_name = script_name;
  processes = processes;
  budget = turns_of given;
  from_name = given.from_name;
}) given.script_name

-- the calls that are made one at a time, and those of as many processes as are given
abbrev pub sequence_of : (module_name : Text) → Given → Option CallsRequest
sequence_of = calls_by sequence_processes

abbrev pub calls_of : (module_name : Text) → Given → Option CallsRequest
calls_of module_name given = option_and_then (λ processes. calls_by processes module_name given) given.processes

-- what is told of calls that are made one at a time
abbrev pub seq_of : (module_name : Text) → Given → Option Request
seq_of module_name given =
    option_map (λ calls. Seq (record { calls = calls; state = given.state; turns = given.turns })) (sequence_of module_name given)

-- the name of standard input, from which calls come one by one
abbrev pub coming_name : Text
coming_name = codes "-"

-- calls that are made as they come
abbrev pub live_of : (module_name : Text) → Given → Option Request
live_of module_name given = Some (Live (record {
  module_name = module_name;
  script_name = coming_name;
  processes = sequence_processes;
  budget = turns_of given;
  from_name = given.from_name;
}))

-- the number of configurations is in its range, where it is given, and a name does not stand beside `--whole`
abbrev pub are_reached : Given → Bool
are_reached given = option_map_or is_most given.most true && not (is_some given.always && given.whole)

-- all runs of as many processes as are given
abbrev pub outcomes_by : (module_name : Text) → Given → Option Request
outcomes_by module_name given = option_map (λ calls. Outcomes (record {
  calls = calls;
  always = given.always;
  whole = given.whole;
  most = unwrap_or given.most default_most_reached;
})) (calls_of module_name given)

-- the same where what is given goes together
abbrev pub outcomes_of : (module_name : Text) → Given → Option Request
outcomes_of module_name given = if are_reached given then outcomes_by module_name given else None

-- the name that is to answer TRUE always in all runs
abbrev pub always_of : (module_name : Text) → Given → Option Request
always_of module_name given =
    option_and_then (λ calls. option_map (λ name. ExplainAlways (record { calls = calls; name = name })) given.always) (calls_of module_name given)

-- the run of them by a schedule
abbrev pub run_of : (module_name : Text) → Given → Option RunRequest
run_of module_name given =
    option_and_then (λ calls. option_map (λ schedule_name. record { calls = calls; schedule_name = schedule_name }) given.schedule_name)
    (calls_of module_name given)

-- what is printed of a run that is made so: its record, by the tree or by the code, or with own steps; by the tree it has no own steps, and
-- begins with the module's body
abbrev pub run_product : (tree steps from : Bool) → Option RunProduct
run_product true false false = Some products.TreeRecord
run_product true false true = None
run_product true true from = None
run_product false true from = Some products.RecordWithSteps
run_product false false from = Some products.Record

abbrev pub product_of : Given → Option RunProduct
product_of given = run_product given.tree given.steps (is_some given.from_name)

-- a run that goes on until each call has ended
abbrev pub finished_of : (module_name : Text) → Given → Option Request
finished_of module_name given = option_and_then (λ product. option_map (RunFinished product) (run_of module_name given)) (product_of given)

-- a run by a schedule of chance
abbrev pub chance_by : (module_name : Text) → Given → Option ChanceRequest
chance_by module_name given = option_and_then (λ calls. option_map (λ seed. record {
  calls = calls;
  seed = seed;
  steps = unwrap_or given.schedule_length default_length;
  finish = given.finish;
}) given.seed) (calls_of module_name given)

-- the same where the number of steps is one that it can have
abbrev pub chance_of : (module_name : Text) → Given → Option Request
chance_of module_name given =
    if option_map_or is_length given.schedule_length true then option_and_then (λ product. option_map (RunByChance product) (chance_by module_name given)) (product_of given)
    else None

-- the calls that a picture has by the word behind `--calls`: all where there is none, and none where that is no range
abbrev pub range_by : Option Text → Option (Option CallNumbers)
range_by None = Some None
range_by (Some text) = option_map (λ calls. Some calls) (calls_in text)

-- the picture of a run, and of a record, whose file stands in the place of a script
abbrev pub picture_of : (module_name : Text) → Given → Option Request
picture_of module_name given = option_and_then (λ calls. option_map (λ run. Draw run calls) (run_of module_name given)) (range_by given.range)

abbrev pub record_picture_of : (module_name : Text) → Given → Option Request
record_picture_of module_name given =
    option_and_then (λ calls. option_map (λ record_name. DrawRecord module_name record_name calls) given.script_name) (range_by given.range)

-- the picture of a history, whose file stands there too, by a search that is told how to search
abbrev pub history_picture_by : (module_name : Text) → Given → Option CallNumbers → Option Request
history_picture_by module_name given calls = option_map (λ history_name. DrawHistory (record {
  module_name = module_name;
  history_name = history_name;
  budget = given.budget;
  most = unwrap_or given.most default_most;
  calls = calls;
})) given.script_name

-- the bound of as many processes as are given
abbrev pub bound_of : (module_name : Text) → Given → Option Request
bound_of module_name given = option_map (λ processes. Bound module_name processes (turns_of given)) given.processes

-- the numbers of a search for an order are in their ranges, where they are given
abbrev pub are_seen : Given → Bool
are_seen given =
    option_map_or is_seen_budget given.budget true && option_map_or is_most given.most true && option_map_or is_place given.argument true

-- what is printed of an order: its line, the record with it, or a line for each value of an argument; a record of those parts there is not
abbrev pub product_by : (as_record : Bool) (argument : Option ℕ) → Option OrderProduct
product_by false None = Some Line
product_by false (Some place) = Some (Apart place)
product_by true None = Some WholeRecord
product_by true (Some place) = None

-- the order of a history by that
abbrev pub order_by : (module_name : Text) → Given → OrderProduct → Option Request
order_by module_name given product = option_map (λ history_name. Order (record {
  module_name = module_name;
  history_name = history_name;
  budget = given.budget;
  most = unwrap_or given.most default_most;
  product = product;
})) given.history_name

-- a legal order of a history, where the numbers are in their ranges
abbrev pub order_of : (module_name : Text) → Given → Option Request
order_of module_name given =
    if are_seen given then option_and_then (order_by module_name given) (product_by given.as_record given.argument) else None

-- the picture of a history, where the numbers are in their ranges
abbrev pub history_picture_of : (module_name : Text) → Given → Option Request
history_picture_of module_name given =
    if are_seen given then option_and_then (history_picture_by module_name given) (range_by given.range) else None

-- whether a part of what may be given is given
abbrev pub has : Given → Part → Bool
has given Script = is_some given.script_name
has given Schedule = is_some given.schedule_name
has given Record = is_some given.record_name
has given History = is_some given.history_name
has given From = is_some given.from_name
has given Processes = is_some given.processes
has given Budget = is_some given.budget
has given Most = is_some given.most
has given Always = is_some given.always
has given Tree = given.tree
has given Steps = given.steps
has given Traps = given.traps
has given Seed = is_some given.seed
has given Length = is_some given.schedule_length
has given Finish = given.finish

-- what is given has all of these parts, and none of those
abbrev pub fits : Given → (wants lacks : List Part) → Bool
fits given wants lacks = list_all (has given) wants && not (list_any (has given) lacks)

-- A form of a command: what stands in it, what can't, and what it asks for.
pub record Form : Type 0 where
  pub wants : List Part
  pub lacks : List Part
  pub asks : (module_name : Text) → Given → Option Request

abbrev pub form : (wants lacks : List Part) → ((module_name : Text) → Given → Option Request) → Form
form wants lacks asks = record { wants = wants; lacks = lacks; asks = asks }

-- the one form of a command whose words clap tests alone
abbrev pub one_form : ((module_name : Text) → Given → Option Request) → List Form
one_form asks = form [] [] asks ∷ []

-- a run by the schedule of a file alone
abbrev pub run_file_forms : List Form
run_file_forms =
    form (Tree ∷ []) (Seed ∷ Length ∷ Finish ∷ Steps ∷ From ∷ []) (λ m given. option_map RunTree (run_of m given))
    ∷ form (Steps ∷ []) (Seed ∷ Length ∷ Finish ∷ Tree ∷ []) (λ m given. option_map RunSteps (run_of m given))
    ∷ form [] (Seed ∷ Length ∷ Finish ∷ Tree ∷ Steps ∷ []) (λ m given. option_map Run (run_of m given))
    ∷ []

abbrev pub run_forms : List Form
run_forms =
    form (Seed ∷ []) (Schedule ∷ []) chance_of
    ∷ form (Finish ∷ []) (Seed ∷ Length ∷ []) finished_of
    ∷ run_file_forms

abbrev pub draw_forms : List Form
draw_forms =
    form (Schedule ∷ []) (Most ∷ []) picture_of
    ∷ form [] (Schedule ∷ Processes ∷ Budget ∷ Most ∷ From ∷ []) record_picture_of
    ∷ form [] (Schedule ∷ Processes ∷ From ∷ []) history_picture_of
    ∷ []

-- the names of the faults that have a page
unfoldable pub fault_names : List Text
fault_names = map (λ name. name.now) FAULT_NAMES.now

abbrev pub names_fault : Text → Bool
names_fault word = list_any (bytes_eq word) fault_names

-- What is explained of one name, with a budget or without: where it stands alone and is that of a fault, the fault; and else a module.
abbrev pub explain_alone : (name : Text) (budget : Option ℕ) → Request
explain_alone name (Some budget) = Explain name budget
explain_alone name None = if names_fault name then ExplainFault name else Explain name default_budget

-- what is explained of a module alone or of a fault, or of a module with calls
abbrev pub explain_calls_forms : List Form
explain_calls_forms =
    form (Traps ∷ []) (Record ∷ History ∷ Always ∷ Schedule ∷ Processes ∷ []) (λ m given. option_map ExplainTraps (sequence_of m given))
    ∷ form (Schedule ∷ []) (Record ∷ History ∷ Always ∷ Traps ∷ []) (λ m given. option_map ExplainRun (run_of m given))
    ∷ form (Script ∷ []) (Record ∷ History ∷ Always ∷ Traps ∷ Schedule ∷ Processes ∷ []) (λ m given. option_map ExplainCalls (sequence_of m given))
    ∷ form [] (Record ∷ History ∷ Always ∷ Traps ∷ Schedule ∷ Script ∷ Processes ∷ From ∷ []) (λ m given. Some (explain_alone m given.budget))
    ∷ []

-- the same, or of all runs
abbrev pub explain_script_forms : List Form
explain_script_forms = form (Always ∷ []) (Record ∷ History ∷ Schedule ∷ Traps ∷ []) always_of ∷ explain_calls_forms

-- the same, or of a history
abbrev pub explain_history_forms : List Form
explain_history_forms =
    form (History ∷ []) (Record ∷ Script ∷ Processes ∷ Budget ∷ From ∷ Traps ∷ Always ∷ []) (λ m given. option_map (ExplainHistory m) given.history_name)
    ∷ explain_script_forms

abbrev pub explain_forms : List Form
explain_forms =
    form (Record ∷ []) (History ∷ Script ∷ Processes ∷ Budget ∷ From ∷ Traps ∷ Always ∷ []) (λ m given. option_map (ExplainRecord m) given.record_name)
    ∷ form (Record ∷ Traps ∷ []) (History ∷ Script ∷ Processes ∷ Budget ∷ From ∷ Always ∷ []) (λ m given. option_map (ExplainRecordTraps m) given.record_name)
    ∷ explain_history_forms

-- each command with its forms
abbrev pub commands : List (Text × List Form)
commands =
    (codes "check", one_form (λ m given. Some (Check m)))
    ∷ (codes "list", one_form (λ m given. Some (Listing m)))
    ∷ (codes "seq", one_form seq_of)
    ∷ (codes "live", one_form live_of)
    ∷ (codes "run", run_forms)
    ∷ (codes "serve", one_form (λ m given. option_map Serve (calls_of m given)))
    ∷ (codes "draw", draw_forms)
    ∷ (codes "outcomes", one_form outcomes_of)
    ∷ (codes "state", one_form (λ m given. option_map State (run_of m given)))
    ∷ (codes "verify", one_form (λ m given. option_map (Verify m) given.record_name))
    ∷ (codes "order", one_form order_of)
    ∷ (codes "explain", explain_forms)
    ∷ (codes "bound", one_form bound_of)
    ∷ []

-- what is asked for by the first of these forms that what is given has
abbrev pub asked_by : List Form → (module_name : Text) → Given → Option Request
asked_by forms module_name given =
    option_and_then (λ form. form.asks module_name given) (find (λ form. fits given form.wants form.lacks) forms)

-- the same of the command of a name
abbrev pub asked : (name module_name : Text) → Given → Option Request
asked name module_name given =
    option_and_then (λ command. asked_by command.1 module_name given) (find (λ command. bytes_eq name command.0) commands)

-- the same of the rows, which have the name of a module
abbrev pub command_of : (name : Text) → List Row → Option Request
command_of name rows = option_and_then (λ module_name. asked name module_name (given_of rows)) (first_of (codes "MODULE") rows)

-- a `-` with something behind it
abbrev pub is_option : Text → Bool
is_option (b ∷ c ∷ rest) = b == 45
is_option _ = false

-- what is said of words that clap accepts behind `draw`, and that are in none of its forms
abbrev pub draw_mistake : Text
draw_mistake =
    codes "error: these words are in no form of draw, which are\n  obl0 draw MODULE SCRIPT SCHEDULE -n N [-b BUDGET] [--from RECORD] [--calls FROM-TO]\n  obl0 draw MODULE RECORD [--calls FROM-TO]\n  obl0 draw MODULE HISTORY [-b BUDGET] [--most K] [--calls FROM-TO]\n\nFor more information, try '--help'.\n"

-- and of a word behind `--calls` that names no calls
abbrev pub calls_mistake : Text
calls_mistake =
    codes "error: behind --calls stands FROM-TO, as 3-5: the places of the first and the last call, from 1\n\nFor more information, try '--help'.\n"

-- and of two places there of which the first is behind the second
abbrev pub turned_mistake : Text
turned_mistake =
    codes "error: behind --calls stands FROM-TO, and here FROM is behind TO; the lower place comes first, as in 3-5\n\nFor more information, try '--help'.\n"

-- and of words behind `explain` that are in none of its forms
abbrev pub explain_mistake : Text
explain_mistake =
    codes "error: these words are in no form of explain, which are\n  obl0 explain MODULE\n  obl0 explain FAULT\n  obl0 explain MODULE SCRIPT [-b BUDGET] [--from RECORD] [--traps]\n  obl0 explain MODULE SCRIPT SCHEDULE -n N [-b BUDGET] [--from RECORD]\n  obl0 explain MODULE SCRIPT -n N --always NAME [-b BUDGET] [--from RECORD]\n  obl0 explain MODULE --record RECORD [--traps]\n  obl0 explain MODULE --history HISTORY\n\nFor more information, try '--help'.\n"

-- and of numbers behind `order` that are out of their ranges
abbrev pub seen_budget_mistake : Text
seen_budget_mistake =
    codes "error: behind -b stands how many turns each call had, 0 to 1000000\n\nFor more information, try '--help'.\n"

abbrev pub most_mistake : Text
most_mistake =
    codes "error: behind --most stands how many configurations are looked at, 1 to 1000000000\n\nFor more information, try '--help'.\n"

abbrev pub place_mistake : Text
place_mistake =
    codes "error: behind --by stands the place of an argument, 1 to 8\n\nFor more information, try '--help'.\n"

-- and of words there that ask for a record of parts
abbrev pub parts_mistake : Text
parts_mistake = codes "error: --record and --by don't stand together\n\nFor more information, try '--help'.\n"

-- and of words behind `outcomes` that name a procedure beside `--whole`
abbrev pub whole_mistake : Text
whole_mistake = codes "error: --always and --whole don't stand together\n\nFor more information, try '--help'.\n"

-- and of words behind `run` that ask for own steps by the tree, or that begin a run by the tree with a record
abbrev pub steps_mistake : Text
steps_mistake = codes "error: --tree and --steps don't stand together\n\nFor more information, try '--help'.\n"

abbrev pub from_mistake : Text
from_mistake = codes "error: --tree and --from don't stand together\n\nFor more information, try '--help'.\n"

-- and of a number of steps there that a schedule by chance can't have, and of all other words that are in none of its forms
abbrev pub length_mistake : Text
length_mistake =
    codes "error: behind --length stands how many steps the schedule has, 0 to 1000000\n\nFor more information, try '--help'.\n"

abbrev pub run_mistake : Text
run_mistake =
    codes "error: these words are in no form of run, which are\n  obl0 run MODULE SCRIPT SCHEDULE -n N [--finish] [-b BUDGET] [--from RECORD] [--steps]\n  obl0 run MODULE SCRIPT SCHEDULE -n N [--finish] [-b BUDGET] --tree\n  obl0 run MODULE SCRIPT --seed S -n N [--length K] [--finish] [-b BUDGET] [--from RECORD] [--steps]\n  obl0 run MODULE SCRIPT --seed S -n N [--length K] [--finish] [-b BUDGET] --tree\n\nFor more information, try '--help'.\n"

-- and behind which options which numbers stand
abbrev pub number_sentence : Text
number_sentence =
    codes "behind -n stands the number of processes, 1 to 16, behind -b how many turns each call has, 0 to 1000000, behind --seed any number up to 18446744073709551615, behind --length how many steps the schedule has, 0 to 1000000, behind --most how many configurations are looked at, 1 to 1000000000, and behind --by the place of an argument, 1 to 8\n\nFor more information, try '--help'.\n"

-- a number below 0, or else no word that there is: a `-` and a digit
abbrev pub is_negative : Text → Bool
is_negative (b ∷ d ∷ rest) = b == 45 && is_ascii_digit d
is_negative _ = false

abbrev pub has_negative : List Text → Bool
has_negative words = list_any is_negative words

-- what is said of words behind `--calls` that name no calls
abbrev pub range_mistake : Option Text → Text
range_mistake text = if option_map_or is_turned text false then turned_mistake else calls_mistake

-- and of words behind `draw` with such calls: of a number that is out of its range, where no schedule stands there, else of their form
abbrev pub drawn_mistake : Given → Text
drawn_mistake given =
    if is_some given.schedule_name then draw_mistake
    else if not (option_map_or is_most given.most true) then most_mistake
    else if not (option_map_or is_seen_budget given.budget true) then seen_budget_mistake
    else draw_mistake

-- and of all words behind `draw` that are in none of its forms
abbrev pub draw_mistake_of : Given → Text
draw_mistake_of given = if is_some (range_by given.range) then drawn_mistake given else range_mistake given.range

-- and of words behind `outcomes`: of the number of configurations where that is out of its range, else that a name stands beside `--whole`
abbrev pub outcomes_mistake_of : Given → Text
outcomes_mistake_of given = if option_map_or is_most given.most true then whole_mistake else most_mistake

-- and of such words behind `run`: of the number of steps where that is out of its range, else of words that don't stand together by the tree
abbrev pub run_mistake_of : Given → Text
run_mistake_of given =
    if not (option_map_or is_length given.schedule_length true) then length_mistake
    else if given.tree && given.steps then steps_mistake
    else if given.tree && is_some given.from_name then from_mistake
    else run_mistake

-- and of numbers behind `order`: of the number of configurations where that is out of its range, else of the budget where that is, else of
-- the place of an argument where that is; and else that a record has no parts
abbrev pub order_mistake_of : Given → Text
order_mistake_of given =
    if not (option_map_or is_most given.most true) then most_mistake
    else if not (option_map_or is_seen_budget given.budget true) then seen_budget_mistake
    else if not (option_map_or is_place given.argument true) then place_mistake
    else parts_mistake

-- What is said where the words of a command that has several forms have none of these, or where what stands behind `order` or `outcomes` does
-- not fit.
-- Every other command has one form, which clap tests.
abbrev pub form_mistake_by : Text → Given → Option Text
form_mistake_by name given =
    if bytes_eq name (codes "draw") then Some (draw_mistake_of given)
    else if bytes_eq name (codes "explain") then Some explain_mistake
    else if bytes_eq name (codes "run") then Some (run_mistake_of given)
    else if bytes_eq name (codes "order") then Some (order_mistake_of given)
    else if bytes_eq name (codes "outcomes") then Some (outcomes_mistake_of given)
    else None

-- the same of the rows
abbrev pub form_mistake : Text → List Row → Option Text
form_mistake name rows = form_mistake_by name (given_of rows)

-- How many names of files stand behind a command that has a number of processes.
abbrev pub names_of : Text → Option ℕ
names_of name =
    if bytes_eq name (codes "run") || (bytes_eq name (codes "draw") || (bytes_eq name (codes "explain") || bytes_eq name (codes "state"))) then Some 3
    else if bytes_eq name (codes "serve") || bytes_eq name (codes "outcomes") then Some 2
    else if bytes_eq name (codes "bound") then Some 1
    else None

-- a number behind a word that is no option
abbrev pub number_behind : (before word : Option Text) → Option Text
number_behind (Some before) (Some word) = if is_some (place_number word) && not (is_option before) then Some word else None
number_behind before word = None

-- A number of processes without its `-n`: a number that stands behind the names, where a command has such.
abbrev pub loose_number : List Text → Option Text
loose_number words =
    option_and_then (λ names. number_behind (slice_get words names) (slice_get words (names + 1))) (option_and_then names_of (slice_get words 0))

-- what is said of it
abbrev pub number_tip : Text → Text
number_tip number = codes "\n\n  tip: `-n " ++ number ++ codes "` gives the number of processes\n\n"

-- the same of all words, by the command that clap meets in them
abbrev pub form_mistake_of : List Text → Option Text
form_mistake_of words = option_and_then (λ m. form_mistake m.0 m.1) (subcommand_of obl0_app words)

-- by what clap keeps of the words, they ask for a command
abbrev pub asks_command : List Text → Bool
asks_command words = is_some (option_and_then (λ m. command_of m.0 m.1) (subcommand_of obl0_app words))

-- Where clap finds no fault, the command that it met. Else its first fault decides: it is a call for help, or a mistake.
abbrev pub request_by : Kinds → Option (Text × List Row) → Request
request_by [] met = unwrap_or (option_and_then (λ m. command_of m.0 m.1) met) Unclear
request_by (kind.DisplayHelp ∷ others) met = Help
request_by (k ∷ others) met = Unclear

unfoldable pub clap_request : List Text → Request
clap_request words = request_by (fault_of obl0_app words) (subcommand_of obl0_app words)

abbrev pub request : List Text → Request
request words =
    if asks_version words then Version else if is_some (extra_of_help words) then Unclear else clap_request (clap_words words)
