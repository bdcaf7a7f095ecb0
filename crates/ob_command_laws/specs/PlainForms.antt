-- The plain forms of the commands: names that are no options, and options in any order.
use Rattle.std.specs.Prelude.{◌≡◌, ◌⊎◌, ℕ, Bool, true, false, not, List, [], ◌∷◌, Option, Some, None, is_some, find, option_and_then, option_map, unwrap_or, codes}
use Rattle.std.specs.List.{list_any}
use Rattle.std.specs.Option.{option_map_or}
use Rattle.std.specs.Str.{bytes_eq}
use Rattle.ob_command.specs.CommandLine.{AlwaysRequest, CallsRequest, ChanceRequest, Given, Help, OrderRequest, OutcomesRequest, Request, RunRequest, SeenRequest, SeqRequest, Text, Unclear, Version, asked, budget_number, calls_in, default_budget, default_length, default_most, default_most_reached, form_mistake_of, is_length, is_most, is_option, is_place, is_seen_budget, names_fault, number, request, run_product, seed_number}
use Rattle.ob_command.specs.declared.command.CallNumbers.{CallNumbers}
use Rattle.ob_command.specs.declared.command.OrderProduct.{OrderProduct}
use Rattle.ob_command.specs.declared.command.RunProduct.{RunProduct}

-- `help` and the name, the name with `--help` or `-h`, and all three ask for help.
pub record IsHelpAsked (name : Text) : Type 0 where
  pub before : request (codes "help" ∷ name ∷ []) ≡ Help
  pub long : request (name ∷ codes "--help" ∷ []) ≡ Help
  pub short : request (name ∷ codes "-h" ∷ []) ≡ Help
  pub before_long : request (codes "help" ∷ name ∷ codes "--help" ∷ []) ≡ Help
  pub before_short : request (codes "help" ∷ name ∷ codes "-h" ∷ []) ≡ Help

-- The name with `--version` or `-V` asks for the version.
pub record IsVersionAsked (name : Text) : Type 0 where
  pub long : request (name ∷ codes "--version" ∷ []) ≡ Version
  pub short : request (name ∷ codes "-V" ∷ []) ≡ Version

-- ---- options among words

-- an option as it stands among words, with the word behind it where it has one: `-n`, `-b` or `--budget`, `--most`, `--by`, `--from`,
-- `--calls`, `--record` with a name, `--history`, `--tree`, `--steps`, `--traps`, `--record` alone, `--seed`, `--length`, `--finish`, `--always`,
-- `--state`, `--turns` and `--whole`
pub data Chosen : Type 0 where
  Count : (n : Text) → Chosen
  Turns : (short : Bool) (b : Text) → Chosen
  Most : (k : Text) → Chosen
  Argument : (n : Text) → Chosen
  Start : (f : Text) → Chosen
  Range : (c : Text) → Chosen
  Told : (r : Text) → Chosen
  Seen : (h : Text) → Chosen
  ByTree : Chosen
  WithSteps : Chosen
  OfTraps : Chosen
  AsRecord : Chosen
  BySeed : (s : Text) → Chosen
  OfLength : (j : Text) → Chosen
  Finishing : Chosen
  Always : (a : Text) → Chosen
  WithState : Chosen
  WithTurns : Chosen
  AsWhole : Chosen

-- the name by which it is known
abbrev pub id_of : Chosen → Text
id_of (Count n) = codes "N"
id_of (Turns short b) = codes "BUDGET"
id_of (Most k) = codes "K"
id_of (Argument n) = codes "BY"
id_of (Start f) = codes "FROM"
id_of (Range c) = codes "FROM-TO"
id_of (Told r) = codes "RECORD"
id_of (Seen h) = codes "HISTORY"
id_of ByTree = codes "tree"
id_of WithSteps = codes "steps"
id_of OfTraps = codes "traps"
id_of AsRecord = codes "record"
id_of (BySeed s) = codes "S"
id_of (OfLength j) = codes "LENGTH"
id_of Finishing = codes "finish"
id_of (Always a) = codes "NAME"
id_of WithState = codes "state"
id_of WithTurns = codes "turns"
id_of AsWhole = codes "whole"

-- what stands behind it, and `true` where nothing does
abbrev pub text_of : Chosen → Text
text_of (Count n) = n
text_of (Turns short b) = b
text_of (Most k) = k
text_of (Argument n) = n
text_of (Start f) = f
text_of (Range c) = c
text_of (Told r) = r
text_of (Seen h) = h
text_of (BySeed s) = s
text_of (OfLength j) = j
text_of (Always a) = a
text_of _ = codes "true"

-- the word that stands before a budget
abbrev pub budget_flag : (short : Bool) → Text
budget_flag true = codes "-b"
budget_flag false = codes "--budget"

-- its words, before those that follow
abbrev pub with_words : Chosen → List Text → List Text
with_words (Count n) rest = codes "-n" ∷ n ∷ rest
with_words (Turns short b) rest = budget_flag short ∷ b ∷ rest
with_words (Most k) rest = codes "--most" ∷ k ∷ rest
with_words (Argument n) rest = codes "--by" ∷ n ∷ rest
with_words (Start f) rest = codes "--from" ∷ f ∷ rest
with_words (Range c) rest = codes "--calls" ∷ c ∷ rest
with_words (Told r) rest = codes "--record" ∷ r ∷ rest
with_words (Seen h) rest = codes "--history" ∷ h ∷ rest
with_words ByTree rest = codes "--tree" ∷ rest
with_words WithSteps rest = codes "--steps" ∷ rest
with_words OfTraps rest = codes "--traps" ∷ rest
with_words AsRecord rest = codes "--record" ∷ rest
with_words (BySeed s) rest = codes "--seed" ∷ s ∷ rest
with_words (OfLength j) rest = codes "--length" ∷ j ∷ rest
with_words Finishing rest = codes "--finish" ∷ rest
with_words (Always a) rest = codes "--always" ∷ a ∷ rest
with_words WithState rest = codes "--state" ∷ rest
with_words WithTurns rest = codes "--turns" ∷ rest
with_words AsWhole rest = codes "--whole" ∷ rest

abbrev pub words_of : List Chosen → List Text
words_of [] = []
words_of (chosen ∷ others) = with_words chosen (words_of others)

-- what stands behind it can stand there: a number, a range, or a name that is no option
abbrev pub is_plain : Chosen → Bool
is_plain (Count n) = is_some (number n)
is_plain (Turns short b) = is_some (budget_number b)
is_plain (Most k) = is_some (budget_number k)
is_plain (Argument n) = is_some (number n)
is_plain (Start f) = not (is_option f)
is_plain (Range c) = is_some (calls_in c)
is_plain (Told r) = not (is_option r)
is_plain (Seen h) = not (is_option h)
is_plain (BySeed s) = is_some (seed_number s)
is_plain (OfLength j) = is_some (budget_number j)
is_plain (Always a) = not (is_option a)
is_plain _ = true

-- Options of these names in any order, each at most once, with what can stand behind them.
abbrev pub ArePlain : (names : List Text) → List Chosen → Type 0
ArePlain names [] = Unit {0}
ArePlain names (chosen ∷ others) = (list_any (bytes_eq (id_of chosen)) names ≡ true) × (is_plain chosen ≡ true)
    × (list_any (λ other. bytes_eq (id_of chosen) (id_of other)) others ≡ false) × ArePlain names others

-- the options of each command
abbrev pub seq_options : List Text
seq_options = codes "BUDGET" ∷ codes "FROM" ∷ codes "state" ∷ codes "turns" ∷ []

abbrev pub live_options : List Text
live_options = codes "BUDGET" ∷ codes "FROM" ∷ []

abbrev pub run_options : List Text
run_options = codes "N" ∷ codes "BUDGET" ∷ codes "FROM" ∷ codes "tree" ∷ codes "steps" ∷ codes "S" ∷ codes "LENGTH" ∷ codes "finish" ∷ []

abbrev pub serve_options : List Text
serve_options = codes "N" ∷ codes "BUDGET" ∷ codes "FROM" ∷ []

abbrev pub state_options : List Text
state_options = codes "N" ∷ codes "BUDGET" ∷ codes "FROM" ∷ []

abbrev pub draw_options : List Text
draw_options = codes "N" ∷ codes "BUDGET" ∷ codes "FROM" ∷ codes "FROM-TO" ∷ codes "K" ∷ []

abbrev pub outcomes_options : List Text
outcomes_options = codes "N" ∷ codes "BUDGET" ∷ codes "FROM" ∷ codes "NAME" ∷ codes "whole" ∷ codes "K" ∷ []

abbrev pub order_options : List Text
order_options = codes "BUDGET" ∷ codes "K" ∷ codes "BY" ∷ codes "record" ∷ []

abbrev pub explain_options : List Text
explain_options = codes "N" ∷ codes "BUDGET" ∷ codes "FROM" ∷ codes "RECORD" ∷ codes "HISTORY" ∷ codes "traps" ∷ codes "NAME" ∷ []

abbrev pub bound_options : List Text
bound_options = codes "N" ∷ codes "BUDGET" ∷ []

-- what stands behind the option of a name, where it is chosen
abbrev pub value_in : (name : Text) → List Chosen → Option Text
value_in name chosen = option_map text_of (find (λ one. bytes_eq (id_of one) name) chosen)

abbrev pub is_chosen : (name : Text) → List Chosen → Bool
is_chosen name chosen = list_any (λ one. bytes_eq (id_of one) name) chosen

-- what is given by names of files and by options
abbrev pub given_in : (script_name schedule_name : Option Text) → List Chosen → Given
given_in script_name schedule_name chosen = record {
  script_name = script_name;
  schedule_name = schedule_name;
  record_name = value_in (codes "RECORD") chosen;
  history_name = value_in (codes "HISTORY") chosen;
  from_name = value_in (codes "FROM") chosen;
  range = value_in (codes "FROM-TO") chosen;
  always = value_in (codes "NAME") chosen;
  processes = option_and_then number (value_in (codes "N") chosen);
  budget = option_and_then budget_number (value_in (codes "BUDGET") chosen);
  most = option_and_then budget_number (value_in (codes "K") chosen);
  argument = option_and_then number (value_in (codes "BY") chosen);
  seed = option_and_then seed_number (value_in (codes "S") chosen);
  schedule_length = option_and_then budget_number (value_in (codes "LENGTH") chosen);
  as_record = is_chosen (codes "record") chosen;
  tree = is_chosen (codes "tree") chosen;
  steps = is_chosen (codes "steps") chosen;
  traps = is_chosen (codes "traps") chosen;
  finish = is_chosen (codes "finish") chosen;
  state = is_chosen (codes "state") chosen;
  turns = is_chosen (codes "turns") chosen;
  whole = is_chosen (codes "whole") chosen;
}

-- the same with the name of a history and no other file's
abbrev pub given_with_history : (history_name : Text) → List Chosen → Given
given_with_history history_name chosen = record (given_in None None chosen) { history_name = Some history_name }

-- What stands behind a command asks for what the table of commands says of it: names that are no options, of a module and of further files,
-- and behind them options of these names in any order, with `-n` among them where the command has to have it.
abbrev pub IsCounted : (needed : Bool) → List Chosen → Type 0
IsCounted needed chosen = needed ≡ true → is_chosen (codes "N") chosen ≡ true

abbrev pub AsksWithModule : (command : Text) (needed : Bool) (names : List Text) → Type 0
AsksWithModule command needed names = (m : Text) (chosen : List Chosen) → is_option m ≡ false → ArePlain names chosen → IsCounted needed chosen
    → request (command ∷ m ∷ words_of chosen) ≡ unwrap_or (asked command m (given_in None None chosen)) Unclear

abbrev pub AsksWithScript : (command : Text) (needed : Bool) (names : List Text) → Type 0
AsksWithScript command needed names = (m s : Text) (chosen : List Chosen) → is_option m ≡ false → is_option s ≡ false → ArePlain names chosen
    → IsCounted needed chosen
    → request (command ∷ m ∷ s ∷ words_of chosen) ≡ unwrap_or (asked command m (given_in (Some s) None chosen)) Unclear

abbrev pub AsksWithSchedule : (command : Text) (needed : Bool) (names : List Text) → Type 0
AsksWithSchedule command needed names = (m s d : Text) (chosen : List Chosen) → is_option m ≡ false → is_option s ≡ false → is_option d ≡ false
    → ArePlain names chosen → IsCounted needed chosen
    → request (command ∷ m ∷ s ∷ d ∷ words_of chosen) ≡ unwrap_or (asked command m (given_in (Some s) (Some d) chosen)) Unclear

-- and with the name of a history behind that of a module
abbrev pub AsksWithHistory : (command : Text) (names : List Text) → Type 0
AsksWithHistory command names = (m h : Text) (chosen : List Chosen) → is_option m ≡ false → is_option h ≡ false → ArePlain names chosen
    → request (command ∷ m ∷ h ∷ words_of chosen) ≡ unwrap_or (asked command m (given_with_history h chosen)) Unclear

-- ---- what each form asks for

-- how many processes they give, and how many turns
abbrev pub count_in : List Chosen → Option ℕ
count_in chosen = option_and_then number (value_in (codes "N") chosen)

abbrev pub turns_in : List Chosen → ℕ
turns_in chosen = unwrap_or (option_and_then budget_number (value_in (codes "BUDGET") chosen)) default_budget

-- the budget where one is given, how many configurations are looked at, and by which argument calls are parted
abbrev pub budget_in : List Chosen → Option ℕ
budget_in chosen = option_and_then budget_number (value_in (codes "BUDGET") chosen)

abbrev pub most_in : List Chosen → Option ℕ
most_in chosen = option_and_then budget_number (value_in (codes "K") chosen)

abbrev pub argument_in : List Chosen → Option ℕ
argument_in chosen = option_and_then number (value_in (codes "BY") chosen)

-- the order of a history, and what is printed of it, with the other options
abbrev pub order_with : (m h : Text) → List Chosen → OrderProduct → OrderRequest
order_with m h chosen product = record {
  module_name = m;
  history_name = h;
  budget = budget_in chosen;
  most = unwrap_or (most_in chosen) default_most;
  product = product;
}

-- the picture of these calls of a history, with the other options
abbrev pub seen_with : (m h : Text) → List Chosen → Option CallNumbers → SeenRequest
seen_with m h chosen calls = record {
  module_name = m;
  history_name = h;
  budget = budget_in chosen;
  most = unwrap_or (most_in chosen) default_most;
  calls = calls;
}

-- the calls and the run of these files, of so many processes, with the other options
abbrev pub calls_with : (m s : Text) (processes : ℕ) → List Chosen → CallsRequest
calls_with m s processes chosen = record {
  module_name = m;
  script_name = s;
  processes = processes;
  budget = turns_in chosen;
  from_name = value_in (codes "FROM") chosen;
}

-- the calls one at a time, with what is told of them, and all runs of them
abbrev pub seq_with : (m s : Text) → List Chosen → SeqRequest
seq_with m s chosen = record { calls = calls_with m s 16 chosen; state = is_chosen (codes "state") chosen; turns = is_chosen (codes "turns") chosen }

abbrev pub outcomes_with : (m s : Text) (processes : ℕ) → List Chosen → OutcomesRequest
outcomes_with m s processes chosen = record {
  calls = calls_with m s processes chosen;
  always = value_in (codes "NAME") chosen;
  whole = is_chosen (codes "whole") chosen;
  most = unwrap_or (most_in chosen) default_most_reached;
}

abbrev pub always_with : (m s name : Text) (processes : ℕ) → List Chosen → AlwaysRequest
always_with m s name processes chosen = record { calls = calls_with m s processes chosen; name = name }

abbrev pub run_with : (m s d : Text) (processes : ℕ) → List Chosen → RunRequest
run_with m s d processes chosen = record { calls = calls_with m s processes chosen; schedule_name = d }

-- what is told of a run by them, the seed of a schedule by chance, and how many steps that has
abbrev pub product_in : List Chosen → Option RunProduct
product_in chosen = run_product (is_chosen (codes "tree") chosen) (is_chosen (codes "steps") chosen) (is_some (value_in (codes "FROM") chosen))

abbrev pub seed_in : List Chosen → Option ℕ
seed_in chosen = option_and_then seed_number (value_in (codes "S") chosen)

abbrev pub length_in : List Chosen → Option ℕ
length_in chosen = option_and_then budget_number (value_in (codes "LENGTH") chosen)

abbrev pub IsLength : List Chosen → Type 0
IsLength chosen = option_map_or is_length (length_in chosen) true ≡ true

-- the run by a schedule of chance
abbrev pub chance_with : (m s : Text) (processes seed : ℕ) → List Chosen → ChanceRequest
chance_with m s processes seed chosen = record {
  calls = calls_with m s processes chosen;
  seed = seed;
  steps = unwrap_or (length_in chosen) default_length;
  finish = is_chosen (codes "finish") chosen;
}

-- A command on a module, on a script too, and on a schedule too, with options of these names of which that holds, asks for this.
abbrev pub ModuleAsksFor : (command : Text) (names : List Text) (Holds : List Chosen → Type 0) (asks : (m : Text) → List Chosen → Request) → Type 0
ModuleAsksFor command names Holds asks = (m : Text) (chosen : List Chosen) → is_option m ≡ false → ArePlain names chosen → Holds chosen
    → request (command ∷ m ∷ words_of chosen) ≡ asks m chosen

-- the same of a name that is that of no fault
abbrev pub OtherAsksFor : (command : Text) (names : List Text) (Holds : List Chosen → Type 0) (asks : (m : Text) → List Chosen → Request) → Type 0
OtherAsksFor command names Holds asks = (m : Text) (chosen : List Chosen) → is_option m ≡ false → names_fault m ≡ false → ArePlain names chosen
    → Holds chosen → request (command ∷ m ∷ words_of chosen) ≡ asks m chosen

abbrev pub ScriptAsksFor : (command : Text) (names : List Text) (Holds : List Chosen → Type 0) (asks : (m s : Text) → List Chosen → Request) → Type 0
ScriptAsksFor command names Holds asks = (m s : Text) (chosen : List Chosen) → is_option m ≡ false → is_option s ≡ false → ArePlain names chosen
    → Holds chosen → request (command ∷ m ∷ s ∷ words_of chosen) ≡ asks m s chosen

-- Such a command on a module and a further file is none, and this is said of its words.
abbrev pub ScriptSays : (command : Text) (names : List Text) (Holds : List Chosen → Type 0) (mistake : Text) → Type 0
ScriptSays command names Holds mistake = (m s : Text) (chosen : List Chosen) → is_option m ≡ false → is_option s ≡ false → ArePlain names chosen
    → Holds chosen → (request (command ∷ m ∷ s ∷ words_of chosen) ≡ Unclear)
    × (form_mistake_of (command ∷ m ∷ s ∷ words_of chosen) ≡ Some mistake)

abbrev pub RunAsksFor : (command : Text) (names : List Text) (Holds : List Chosen → Type 0) (asks : RunRequest → Request) → Type 0
RunAsksFor command names Holds asks = (m s d : Text) (chosen : List Chosen) (processes : ℕ) → is_option m ≡ false → is_option s ≡ false
    → is_option d ≡ false → ArePlain names chosen → count_in chosen ≡ Some processes → Holds chosen
    → request (command ∷ m ∷ s ∷ d ∷ words_of chosen) ≡ asks (run_with m s d processes chosen)

-- the option of this name is among them, and the options of these names are not
abbrev pub Has : (name : Text) → List Chosen → Type 0
Has name chosen = is_chosen name chosen ≡ true

abbrev pub Lacks : (names : List Text) → List Chosen → Type 0
Lacks [] chosen = Unit {0}
Lacks (name ∷ names) chosen = (is_chosen name chosen ≡ false) × Lacks names chosen

-- The numbers of a search for an order are in their ranges: of the budget, of the number of configurations, of the place of an argument, where they
-- stand there.
abbrev pub IsSeenBudget : List Chosen → Type 0
IsSeenBudget chosen = option_map_or is_seen_budget (budget_in chosen) true ≡ true

abbrev pub IsMost : List Chosen → Type 0
IsMost chosen = option_map_or is_most (most_in chosen) true ≡ true

abbrev pub IsPlace : List Chosen → Type 0
IsPlace chosen = option_map_or is_place (argument_in chosen) true ≡ true

abbrev pub AreInRange : List Chosen → Type 0
AreInRange chosen = IsSeenBudget chosen × IsMost chosen × IsPlace chosen

-- one of the options that say how to search is there
abbrev pub SaysSearch : List Chosen → Type 0
SaysSearch chosen = Has (codes "BUDGET") chosen ⊎ Has (codes "K") chosen

-- a procedure is named beside `--whole`
abbrev pub NamesBesideWhole : List Chosen → Type 0
NamesBesideWhole chosen = Has (codes "NAME") chosen × Has (codes "whole") chosen
