-- The command line in the words of clap.
use Rattle.std.specs.Prelude.{List, Some, pos, true, false, [], ◌∷◌, codes, fold}
use Rattle.clap.specs.Words.{App, Rule, Shape, Text, new_app, new_rule, with_rule, with_subcommand}
use Rattle.clap.specs.declared.builder.action.ArgAction.TheVariants.{SetTrue}
use Rattle.clap.specs.declared.builder.value_parser.ValueParser.TheVariants.{Signed, Unsigned}

-- ---- files and options

-- a word that has to be there
abbrev pub name_rule : Text → Rule
name_rule id = record (new_rule id) { required = true }

-- `-n N`, with a number of 16 bits, which has to be there
abbrev pub number_rule : Rule
number_rule = record (name_rule (codes "N")) { short = Some 110; parser = Some (Signed (pos 0) (pos 65535)) }

-- the same where it may be missing
abbrev pub optional_number_rule : Rule
optional_number_rule = record number_rule { required = false }

-- `-b BUDGET`, `--budget BUDGET`, with a number of 32 bits, which may be missing
abbrev pub budget_rule : Rule
budget_rule = record (new_rule (codes "BUDGET")) { short = Some 98; long = Some (codes "budget"); parser = Some (Signed (pos 0) (pos 4294967295)) }

-- `--most K`, with a number of 32 bits, which may be missing
abbrev pub most_rule : Rule
most_rule = record (new_rule (codes "K")) { long = Some (codes "most"); parser = Some (Signed (pos 0) (pos 4294967295)) }

-- `--always NAME`, which may be missing
abbrev pub always_rule : Rule
always_rule = record (new_rule (codes "NAME")) { long = Some (codes "always") }

-- `--by N`, with a number of 16 bits, which may be missing
abbrev pub by_rule : Rule
by_rule = record (new_rule (codes "BY")) { long = Some (codes "by"); value_names = 1; parser = Some (Signed (pos 0) (pos 65535)) }

-- `--seed S`, with a number of 64 bits, which may be missing
abbrev pub seed_rule : Rule
seed_rule = record (new_rule (codes "S")) { long = Some (codes "seed"); parser = Some (Unsigned 0 18446744073709551615) }

-- `--length K`, with a number of 32 bits, which may be missing
abbrev pub length_rule : Rule
length_rule = record (new_rule (codes "LENGTH")) { long = Some (codes "length"); value_names = 1; parser = Some (Signed (pos 0) (pos 4294967295)) }

-- `--from RECORD`, which may be missing
abbrev pub from_rule : Rule
from_rule = record (new_rule (codes "FROM")) { long = Some (codes "from"); value_names = 1 }

-- a word that stands there or not, as `--tree`
abbrev pub flag_rule : Text → Rule
flag_rule name = record (new_rule name) { long = Some name; action = Some SetTrue }

-- `--calls FROM-TO`, which may be missing
abbrev pub calls_rule : Rule
calls_rule = record (new_rule (codes "FROM-TO")) { long = Some (codes "calls") }

-- `--record RECORD`, which may be missing
abbrev pub record_rule : Rule
record_rule = record (new_rule (codes "RECORD")) { long = Some (codes "record") }

-- `--history HISTORY`, which may be missing
abbrev pub history_rule : Rule
history_rule = record (new_rule (codes "HISTORY")) { long = Some (codes "history") }

-- ---- the table of the commands

-- A command of this name: what may stand behind it, in the order in which help lists it.
abbrev pub command_app : Text → List Rule → App
command_app command rules = fold with_rule (new_app command) rules

-- `MODULE`
abbrev pub module_app : Text → App
module_app command = command_app command (name_rule (codes "MODULE") ∷ [])

-- `MODULE RECORD`
abbrev pub record_app : Text → App
record_app command = command_app command (name_rule (codes "MODULE") ∷ name_rule (codes "RECORD") ∷ [])

-- `MODULE HISTORY -b BUDGET --most K`, with which the words of `order` begin
abbrev pub search_app : Text → App
search_app command = command_app command (name_rule (codes "MODULE") ∷ name_rule (codes "HISTORY") ∷ budget_rule ∷ most_rule ∷ [])

-- `MODULE HISTORY -b BUDGET --most K --record --by N`
abbrev pub order_app : Text → App
order_app command = command_app command (name_rule (codes "MODULE") ∷ name_rule (codes "HISTORY") ∷ budget_rule ∷ most_rule
    ∷ flag_rule (codes "record") ∷ by_rule ∷ [])

-- `MODULE -n N -b BUDGET`
abbrev pub bound_app : Text → App
bound_app command = command_app command (name_rule (codes "MODULE") ∷ number_rule ∷ budget_rule ∷ [])

-- `MODULE SCRIPT -b BUDGET --from RECORD`, with which the words of `seq` begin
abbrev pub sequence_app : Text → App
sequence_app command = command_app command (name_rule (codes "MODULE") ∷ name_rule (codes "SCRIPT") ∷ budget_rule ∷ from_rule ∷ [])

-- `MODULE SCRIPT -b BUDGET --from RECORD --state --turns`
abbrev pub seq_app : Text → App
seq_app command = command_app command (name_rule (codes "MODULE") ∷ name_rule (codes "SCRIPT") ∷ budget_rule ∷ from_rule
    ∷ flag_rule (codes "state") ∷ flag_rule (codes "turns") ∷ [])

-- `MODULE -b BUDGET --from RECORD`
abbrev pub live_app : Text → App
live_app command = command_app command (name_rule (codes "MODULE") ∷ budget_rule ∷ from_rule ∷ [])

-- `MODULE SCRIPT -n N -b BUDGET --from RECORD`, with which those of `outcomes` begin too
abbrev pub serve_app : Text → App
serve_app command = command_app command (name_rule (codes "MODULE") ∷ name_rule (codes "SCRIPT") ∷ number_rule ∷ budget_rule ∷ from_rule ∷ [])

-- `MODULE SCRIPT -n N -b BUDGET --from RECORD --always NAME --whole --most K`
abbrev pub outcomes_app : Text → App
outcomes_app command = command_app command (name_rule (codes "MODULE") ∷ name_rule (codes "SCRIPT") ∷ number_rule ∷ budget_rule ∷ from_rule
    ∷ always_rule ∷ flag_rule (codes "whole") ∷ most_rule ∷ [])

-- `MODULE SCRIPT SCHEDULE -n N -b BUDGET`, with which the words of `run` begin, and what of it those of `draw` and of `explain` begin with
abbrev pub schedule_app : Text → App
schedule_app command =
    command_app command (name_rule (codes "MODULE") ∷ name_rule (codes "SCRIPT") ∷ new_rule (codes "SCHEDULE") ∷ number_rule ∷ budget_rule ∷ [])

-- the same where the schedule has to be there, and `--from RECORD`
abbrev pub state_app : Text → App
state_app command = command_app command (name_rule (codes "MODULE") ∷ name_rule (codes "SCRIPT") ∷ name_rule (codes "SCHEDULE")
    ∷ number_rule ∷ budget_rule ∷ from_rule ∷ [])

abbrev pub drawn_app : Text → App
drawn_app command =
    command_app command (name_rule (codes "MODULE") ∷ name_rule (codes "SCRIPT") ∷ new_rule (codes "SCHEDULE") ∷ optional_number_rule ∷ budget_rule ∷ [])

abbrev pub texts_app : Text → App
texts_app command =
    command_app command (name_rule (codes "MODULE") ∷ new_rule (codes "SCRIPT") ∷ new_rule (codes "SCHEDULE") ∷ optional_number_rule ∷ budget_rule ∷ [])

-- the same and `--from RECORD --record RECORD --history HISTORY`
abbrev pub files_app : Text → App
files_app command = command_app command (name_rule (codes "MODULE") ∷ new_rule (codes "SCRIPT") ∷ new_rule (codes "SCHEDULE")
    ∷ optional_number_rule ∷ budget_rule ∷ from_rule ∷ record_rule ∷ history_rule ∷ [])

-- the same and `--from RECORD --tree --steps`
abbrev pub told_run_app : Text → App
told_run_app command = command_app command (name_rule (codes "MODULE") ∷ name_rule (codes "SCRIPT") ∷ new_rule (codes "SCHEDULE")
    ∷ number_rule ∷ budget_rule ∷ from_rule ∷ flag_rule (codes "tree") ∷ flag_rule (codes "steps") ∷ [])

-- `MODULE SCRIPT SCHEDULE -n N -b BUDGET --from RECORD --tree --steps --finish`, `MODULE SCRIPT --seed S -n N --length K ..`
abbrev pub run_app : Text → App
run_app command = command_app command (name_rule (codes "MODULE") ∷ name_rule (codes "SCRIPT") ∷ new_rule (codes "SCHEDULE")
    ∷ number_rule ∷ budget_rule ∷ from_rule ∷ flag_rule (codes "tree") ∷ flag_rule (codes "steps")
    ∷ seed_rule ∷ length_rule ∷ flag_rule (codes "finish") ∷ [])

-- `MODULE SCRIPT SCHEDULE -n N -b BUDGET --from RECORD --calls FROM-TO`, `MODULE RECORD --calls FROM-TO`,
-- `MODULE HISTORY -b BUDGET --most K --calls FROM-TO`
abbrev pub draw_app : Text → App
draw_app command = command_app command (name_rule (codes "MODULE") ∷ name_rule (codes "SCRIPT") ∷ new_rule (codes "SCHEDULE")
    ∷ optional_number_rule ∷ budget_rule ∷ from_rule ∷ calls_rule ∷ most_rule ∷ [])

-- `MODULE`, `MODULE SCRIPT -b BUDGET --from RECORD --traps`, `MODULE SCRIPT SCHEDULE -n N -b BUDGET --from RECORD`,
-- `MODULE --record RECORD --traps`, `MODULE --history HISTORY`, `MODULE SCRIPT -n N --always NAME -b BUDGET --from RECORD`
abbrev pub explain_app : Text → App
explain_app command = command_app command (name_rule (codes "MODULE") ∷ new_rule (codes "SCRIPT") ∷ new_rule (codes "SCHEDULE")
    ∷ optional_number_rule ∷ budget_rule ∷ from_rule ∷ record_rule ∷ history_rule ∷ flag_rule (codes "traps") ∷ always_rule ∷ [])

abbrev pub top_shape : Shape
top_shape = record (new_app (codes "obl0")).top {
  no_binary_name = true;
  disable_help_subcommand = true;
  arg_required_else_help = true;
  subcommand_required = true;
}

-- before any command
abbrev pub top_app : App
top_app = record { top = top_shape; subs = [] }

-- a command beside those that are there
abbrev pub with_command : App → App → App
with_command app command = with_subcommand app command.top

-- those that make no calls, or one at a time; that make a run, or all runs; that look at a record or a history; and that tell of
-- a module
abbrev pub module_apps : List App
module_apps = module_app (codes "check") ∷ module_app (codes "list") ∷ seq_app (codes "seq") ∷ live_app (codes "live") ∷ []

abbrev pub run_apps : List App
run_apps = run_app (codes "run") ∷ serve_app (codes "serve") ∷ draw_app (codes "draw") ∷ outcomes_app (codes "outcomes") ∷ state_app (codes "state") ∷ []

abbrev pub record_apps : List App
record_apps = record_app (codes "verify") ∷ order_app (codes "order") ∷ []

abbrev pub telling_apps : List App
telling_apps = explain_app (codes "explain") ∷ bound_app (codes "bound") ∷ []

-- these commands beside those that are there
abbrev pub with_commands : App → List App → App
with_commands app commands = fold with_command app commands

abbrev pub obl0_app : App
obl0_app = fold with_commands top_app (module_apps ∷ run_apps ∷ record_apps ∷ telling_apps ∷ [])
