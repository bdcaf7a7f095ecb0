-- What `read_command` answers to a request.
use Rattle.std.specs.Prelude.{◌≡◌, ◌≢◌, ◌⊎◌, ◌++◌, ◌&&◌, ◌||◌, Bool, true, false, not, List, [], Option, Result, None, Some, Ok, Err, option_map, string_bytes}
use Rattle.std.specs.List.{list_all}
use Rattle.clap.specs.Words.{fault_of}
use Rattle.clap.specs.declared.error.kind.ErrorKind.{ErrorKind}
use Rattle.clap.specs.declared.error.kind.ErrorKind.TheVariants as kind
use Rattle.ob_command.specs.declared.command.Command as command
use Rattle.ob_command.specs.declared.command.Command.TheVariants as commands
use Rattle.ob_command.specs.declared.command.AlwaysCommand.{AlwaysCommand}
use Rattle.ob_command.specs.declared.command.CallsCommand.{CallsCommand}
use Rattle.ob_command.specs.declared.command.ChanceCommand.{ChanceCommand}
use Rattle.ob_command.specs.declared.command.OrderCommand.{OrderCommand}
use Rattle.ob_command.specs.declared.command.OutcomesCommand.{OutcomesCommand}
use Rattle.ob_command.specs.declared.command.RunCommand.{RunCommand}
use Rattle.ob_command.specs.declared.command.SeenCommand.{SeenCommand}
use Rattle.ob_command.specs.declared.command.SeqCommand.{SeqCommand}
use Rattle.ob_command.specs.declared.given.GivenWords.{GivenWords}
use Rattle.ob_command.specs.declared.command.Stop.{Stop}
use Rattle.ob_command.specs.declared.command.Stop.TheVariants as stops
use Rattle.ob_command_line.specs.ClapCommand.{obl0_app}
use Rattle.ob_command.specs.CommandLine.{Text, form_mistake_of, has_negative, loose_number, number_sentence, number_tip, AlwaysRequest, CallsRequest, ChanceRequest, Given, OrderRequest, OutcomesRequest, Request, RunRequest, SeenRequest, SeqRequest, Check, Listing, Seq, Live, Run, RunTree, RunSteps, RunFinished, RunByChance, Serve, Draw, DrawRecord, DrawHistory, Outcomes, State, Verify, Order, Explain, ExplainFault, ExplainCalls, ExplainTraps, ExplainRun, ExplainAlways, ExplainRecord, ExplainRecordTraps, ExplainHistory, Bound, Help, Version, Unclear}
use Rattle.ob_command_line.specs.HelpWords.{clap_words, extra_of_help, help_mistake}

-- what is given by words
abbrev pub given_by : GivenWords → Given
given_by given = record {
  script_name = option_map (λ name. name.now) given.script_name;
  schedule_name = option_map (λ name. name.now) given.schedule_name;
  record_name = option_map (λ name. name.now) given.record_name;
  history_name = option_map (λ name. name.now) given.history_name;
  from_name = option_map (λ name. name.now) given.from_name;
  range = option_map (λ text. text.now) given.range;
  always = option_map (λ name. name.now) given.always;
  processes = given.processes;
  budget = given.budget;
  most = given.most;
  argument = given.argument;
  seed = given.seed;
  schedule_length = given.length;
  as_record = given.as_record;
  tree = given.tree;
  steps = given.steps;
  traps = given.traps;
  finish = given.finish;
  state = given.state;
  turns = given.turns;
  whole = given.whole;
}

-- what a command asks for
abbrev pub calls_request_of : CallsCommand → CallsRequest
calls_request_of calls = record {
  module_name = calls.module_name.now;
  script_name = calls.script_name.now;
  processes = calls.processes;
  budget = calls.budget;
  from_name = option_map (λ name. name.now) calls.from_name;
}

abbrev pub seq_request_of : SeqCommand → SeqRequest
seq_request_of sequence = record { calls = calls_request_of sequence.calls; state = sequence.state; turns = sequence.turns }

abbrev pub outcomes_request_of : OutcomesCommand → OutcomesRequest
outcomes_request_of outcomes = record {
  calls = calls_request_of outcomes.calls;
  always = option_map (λ name. name.now) outcomes.always;
  whole = outcomes.whole;
  most = outcomes.most;
}

abbrev pub always_request_of : AlwaysCommand → AlwaysRequest
always_request_of asked = record { calls = calls_request_of asked.calls; name = asked.name.now }

abbrev pub run_request_of : RunCommand → RunRequest
run_request_of run = record { calls = calls_request_of run.calls; schedule_name = run.schedule_name.now }

abbrev pub chance_request_of : ChanceCommand → ChanceRequest
chance_request_of run = record { calls = calls_request_of run.calls; seed = run.seed; steps = run.steps; finish = run.finish }

abbrev pub order_request_of : OrderCommand → OrderRequest
order_request_of order = record {
  module_name = order.module_name.now;
  history_name = order.history_name.now;
  budget = order.budget;
  most = order.most;
  product = order.product;
}

abbrev pub seen_request_of : SeenCommand → SeenRequest
seen_request_of seen = record {
  module_name = seen.module_name.now;
  history_name = seen.history_name.now;
  budget = seen.budget;
  most = seen.most;
  calls = seen.calls;
}

abbrev pub request_of : command.Command → Request
request_of (commands.Check module_name) = Check module_name.now
request_of (commands.List module_name) = Listing module_name.now
request_of (commands.Seq sequence) = Seq (seq_request_of sequence)
request_of (commands.Live calls) = Live (calls_request_of calls)
request_of (commands.Run run) = Run (run_request_of run)
request_of (commands.RunTree run) = RunTree (run_request_of run)
request_of (commands.RunSteps run) = RunSteps (run_request_of run)
request_of (commands.RunFinished product run) = RunFinished product (run_request_of run)
request_of (commands.RunByChance product run) = RunByChance product (chance_request_of run)
request_of (commands.Serve calls) = Serve (calls_request_of calls)
request_of (commands.Draw run calls) = Draw (run_request_of run) calls
request_of (commands.DrawRecord module_name record_name calls) = DrawRecord module_name.now record_name.now calls
request_of (commands.DrawHistory seen) = DrawHistory (seen_request_of seen)
request_of (commands.Outcomes outcomes) = Outcomes (outcomes_request_of outcomes)
request_of (commands.State run) = State (run_request_of run)
request_of (commands.Verify module_name record_name) = Verify module_name.now record_name.now
request_of (commands.Order order) = Order (order_request_of order)
request_of (commands.Explain module_name budget) = Explain module_name.now budget
request_of (commands.ExplainFault name) = ExplainFault name.now
request_of (commands.ExplainCalls calls) = ExplainCalls (calls_request_of calls)
request_of (commands.ExplainTraps calls) = ExplainTraps (calls_request_of calls)
request_of (commands.ExplainRun run) = ExplainRun (run_request_of run)
request_of (commands.ExplainAlways asked) = ExplainAlways (always_request_of asked)
request_of (commands.ExplainRecord module_name record_name) = ExplainRecord module_name.now record_name.now
request_of (commands.ExplainRecordTraps module_name record_name) = ExplainRecordTraps module_name.now record_name.now
request_of (commands.ExplainHistory module_name history_name) = ExplainHistory module_name.now history_name.now
request_of (commands.Bound module_name processes budget) = Bound module_name.now processes budget

-- the command that is asked for, or why there is none
abbrev pub IsReading : Request → Result command.Command Stop → Type 0
IsReading request (Ok command) = request_of command ≡ request
IsReading request (Err (stops.Help text)) = request ≡ Help
IsReading request (Err stops.Version) = request ≡ Version
IsReading request (Err (stops.Unclear text)) = request ≡ Unclear
IsReading request (Err stops.NoMemory) = Unit {0}

-- what is said ends with which numbers there are
abbrev pub SaysNumbers : Text → Type 0
SaysNumbers text = (before : Text) × (text ≡ before ++ number_sentence)

-- a value is none of its option's
abbrev pub is_value : ErrorKind → Bool
is_value kind.ValueValidation = true
is_value k = false

-- a mistake is one of a number: of a value, or of words with a number below 0
abbrev pub is_of_number : (negative : Bool) → ErrorKind → Bool
is_of_number negative k = is_value k || negative

-- a word is one that clap does not know
abbrev pub is_unknown : ErrorKind → Bool
is_unknown kind.UnknownArgument = true
is_unknown k = false

-- what is said has how a number of processes is given, where one stands there without its option
abbrev pub SaysTip : (number : Option Text) → Text → Type 0
SaysTip None text = Unit {0}
SaysTip (Some number) text = (before behind : Text) × (text ≡ (before ++ number_tip number) ++ behind)

-- a mistake is a word that clap does not know, among words with no number below 0
abbrev pub is_loose : (negative : Bool) → ErrorKind → Bool
is_loose negative k = is_unknown k && not negative

-- Clap finds a fault in the words. It is told which numbers there are where each one that it may tell is of a number, and how a number
-- of processes is given where each is of a word that it does not know.
abbrev pub IsWordFault : List Text → (text : Text) → Type 0
IsWordFault words text =
    (fault_of obl0_app words ≢ []) × (list_all (is_of_number (has_negative words)) (fault_of obl0_app words) ≡ true → SaysNumbers text)
    × (list_all (is_loose (has_negative words)) (fault_of obl0_app words) ≡ true → SaysTip (loose_number words) text)

-- Where these words are no command, clap finds a fault in them, or they have no form of a command that has several, and that is said.
abbrev pub IsMistakeText : List Text → (text : Text) → Type 0
IsMistakeText words text = IsWordFault words text ⊎ (form_mistake_of words ≡ Some text)

abbrev pub IsMistake : List Text → Result command.Command Stop → Type 0
IsMistake words (Err (stops.Unclear text)) = IsMistakeText words (string_bytes text)
IsMistake words _ = Unit {0}

-- what is said of a word that is too much behind `help` and a name
abbrev pub IsHelpMistake : (word : Text) → Result command.Command Stop → Type 0
IsHelpMistake word (Err (stops.Unclear text)) = string_bytes text ≡ help_mistake word
IsHelpMistake word _ = Unit {0}

-- The mistake of words with a word that is too much behind `help` or with none; clap reads the others.
abbrev pub IsMistakeBeside : (extra : Option Text) → List Text → Result command.Command Stop → Type 0
IsMistakeBeside None words result = IsMistake (clap_words words) result
IsMistakeBeside (Some word) words result = IsHelpMistake word result

abbrev pub IsMistakeOf : List Text → Result command.Command Stop → Type 0
IsMistakeOf words = IsMistakeBeside (extra_of_help words) words

-- what is said of such words
abbrev pub IsTextBeside : (extra : Option Text) → List Text → (text : Text) → Type 0
IsTextBeside None words text = IsMistakeText (clap_words words) text
IsTextBeside (Some word) words text = text ≡ help_mistake word

abbrev pub IsMistakeTextOf : List Text → (text : Text) → Type 0
IsMistakeTextOf words = IsTextBeside (extra_of_help words) words

-- what is said of a mistake of a kind
abbrev pub IsSaidOf : (negative : Bool) (number : Option Text) → ErrorKind → (text : Text) → Type 0
IsSaidOf negative number k text = (is_of_number negative k ≡ true → SaysNumbers text) × (is_loose negative k ≡ true → SaysTip number text)

-- what a kind of error stops for
abbrev pub IsStopOf : (negative : Bool) (number : Option Text) → ErrorKind → Stop → Type 0
IsStopOf negative number k (stops.Help text) = k ≡ kind.DisplayHelp
IsStopOf negative number k stops.Version = ⊥
IsStopOf negative number k (stops.Unclear text) =
    (k ≢ kind.DisplayHelp) × (k ≢ kind.OutOfMemory) × IsSaidOf negative number k (string_bytes text)
IsStopOf negative number k stops.NoMemory = k ≡ kind.OutOfMemory
