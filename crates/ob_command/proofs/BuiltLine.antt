-- The command line as clap builds it.
use Rattle.std.proofs.Common.{List, [], ◌∷◌, ℕ, codes, true, false, Bool, Option, Some, None, pos}
use Rattle.clap.specs.Walk.{Names, Row, Rule, Text, reading_by}
use Rattle.clap.specs.Simple.{App, Shape, help_rule, new_shape}
use Rattle.clap.specs.declared.builder.action.ArgAction.TheVariants.{Set}
use Rattle.clap.specs.declared.builder.value_parser.ValueParser.{ValueParser}
use Rattle.clap.specs.declared.parser.matches.ValueSource.TheVariants.{CommandLine, DefaultValue}
use Rattle.clap.specs.declared.builder.value_parser.ValueParser.TheVariants as parser
use Rattle.ob_command_line.specs.ClapCommand.{flag_rule, name_rule, top_shape}

-- ---- the rules of arguments

-- a rule whose argument takes one value
abbrev pub built_one : Text → Option ℕ → Option ℕ → ValueParser → Rule
built_one id place short p = record (name_rule id) {
  index = place;
  short = short;
  action = Some Set;
  range = Some (record { start_inclusive = 1; end_inclusive = 1 });
  parser = Some p;
}

abbrev pub built_name : ℕ → Text → Rule
built_name place id = built_one id (Some place) None parser.String

abbrev pub built_number : Rule
built_number = built_one (codes "N") None (Some 110) (parser.Signed (pos 0) (pos 65535))

abbrev pub built_budget : Rule
built_budget = record (built_one (codes "BUDGET") None (Some 98) (parser.Signed (pos 0) (pos 4294967295))) {
  long = Some (codes "budget");
  required = false;
}

abbrev pub built_most : Rule
built_most = record (built_one (codes "K") None None (parser.Signed (pos 0) (pos 4294967295))) { long = Some (codes "most"); required = false }

abbrev pub built_always : Rule
built_always = record (built_one (codes "NAME") None None parser.String) { long = Some (codes "always"); required = false }

abbrev pub built_by : Rule
built_by = record (built_one (codes "BY") None None (parser.Signed (pos 0) (pos 65535))) { long = Some (codes "by"); value_names = 1; required = false }

abbrev pub built_seed : Rule
built_seed = record (built_one (codes "S") None None (parser.Unsigned 0 18446744073709551615)) { long = Some (codes "seed"); required = false }

abbrev pub built_length : Rule
built_length = record (built_one (codes "LENGTH") None None (parser.Signed (pos 0) (pos 4294967295))) { long = Some (codes "length"); value_names = 1; required = false }

abbrev pub built_flag : Text → Rule
built_flag name = record (flag_rule name) {
  defaults = codes "false" ∷ [];
  missing = codes "true" ∷ [];
  parser = Some parser.Bool;
  range = Some (record { start_inclusive = 0; end_inclusive = 0 });
}

abbrev pub built_from : Rule
built_from = record (built_one (codes "FROM") None None parser.String) { long = Some (codes "from"); value_names = 1; required = false }

abbrev pub built_record : Rule
built_record = record (built_one (codes "RECORD") None None parser.String) { long = Some (codes "record"); required = false }

abbrev pub built_history : Rule
built_history = record (built_one (codes "HISTORY") None None parser.String) { long = Some (codes "history"); required = false }

abbrev pub built_calls : Rule
built_calls = record (built_one (codes "FROM-TO") None None parser.String) { long = Some (codes "calls"); required = false }

abbrev pub built_help : Rule
built_help = record help_rule {
  range = Some (record { start_inclusive = 0; end_inclusive = 0 });
  parser = Some parser.String;
}

-- the argument has to be there, or may be missing
abbrev pub needed : Bool → Rule → Rule
needed t a = record a { required = t }

-- `MODULE SCRIPT SCHEDULE -n N -b BUDGET --from RECORD`, and more
abbrev pub run_rules : (script schedule number : Bool) → List Rule → List Rule
run_rules script schedule number more =
    built_name 1 (codes "MODULE") ∷ needed script (built_name 2 (codes "SCRIPT")) ∷ needed schedule (built_name 3 (codes "SCHEDULE"))
    ∷ needed number built_number ∷ built_budget ∷ built_from ∷ more

-- ---- the commands

abbrev pub leaf : Text → List Rule → Shape
leaf command rules = record (new_shape command) { rules = rules; no_binary_name = true; disable_help_subcommand = true; is_built = true }

abbrev pub module_leaf : Text → Shape
module_leaf command = leaf command (built_name 1 (codes "MODULE") ∷ built_help ∷ [])

abbrev pub seq_leaf : Shape
seq_leaf = leaf (codes "seq") (built_name 1 (codes "MODULE") ∷ built_name 2 (codes "SCRIPT") ∷ built_budget ∷ built_from
    ∷ built_flag (codes "state") ∷ built_flag (codes "turns") ∷ built_help ∷ [])

abbrev pub run_leaf : Shape
run_leaf = leaf (codes "run") (run_rules true false true (built_flag (codes "tree") ∷ built_flag (codes "steps")
    ∷ built_seed ∷ built_length ∷ built_flag (codes "finish") ∷ built_help ∷ []))

abbrev pub live_leaf : Shape
live_leaf = leaf (codes "live") (built_name 1 (codes "MODULE") ∷ built_budget ∷ built_from ∷ built_help ∷ [])

abbrev pub serve_leaf : Shape
serve_leaf = leaf (codes "serve") (built_name 1 (codes "MODULE") ∷ built_name 2 (codes "SCRIPT") ∷ built_number ∷ built_budget ∷ built_from ∷ built_help ∷ [])

abbrev pub draw_leaf : Shape
draw_leaf = leaf (codes "draw") (run_rules true false false (built_calls ∷ built_most ∷ built_help ∷ []))

abbrev pub outcomes_leaf : Shape
outcomes_leaf = leaf (codes "outcomes") (built_name 1 (codes "MODULE") ∷ built_name 2 (codes "SCRIPT") ∷ built_number ∷ built_budget ∷ built_from
    ∷ built_always ∷ built_flag (codes "whole") ∷ built_most ∷ built_help ∷ [])

abbrev pub state_leaf : Shape
state_leaf = leaf (codes "state") (run_rules true true true (built_help ∷ []))

abbrev pub verify_leaf : Shape
verify_leaf = leaf (codes "verify") (built_name 1 (codes "MODULE") ∷ built_name 2 (codes "RECORD") ∷ built_help ∷ [])

abbrev pub order_leaf : Shape
order_leaf = leaf (codes "order") (built_name 1 (codes "MODULE") ∷ built_name 2 (codes "HISTORY") ∷ built_budget ∷ built_most
    ∷ built_flag (codes "record") ∷ built_by ∷ built_help ∷ [])

abbrev pub explain_leaf : Shape
explain_leaf = leaf (codes "explain") (run_rules false false false (built_record ∷ built_history ∷ built_flag (codes "traps") ∷ built_always ∷ built_help ∷ []))

abbrev pub bound_leaf : Shape
bound_leaf = leaf (codes "bound") (built_name 1 (codes "MODULE") ∷ built_number ∷ built_budget ∷ built_help ∷ [])

abbrev pub built_top : Shape
built_top = record top_shape { rules = built_help ∷ []; is_leaf = false; is_built = true }

abbrev pub built_app : App
built_app = record {
  top = built_top;
  subs = module_leaf (codes "check") ∷ module_leaf (codes "list") ∷ seq_leaf ∷ live_leaf ∷ run_leaf ∷ serve_leaf ∷ draw_leaf ∷ outcomes_leaf
      ∷ state_leaf ∷ verify_leaf ∷ order_leaf ∷ explain_leaf ∷ bound_leaf ∷ [];
}

abbrev pub names : Names
names = (codes "check", []) ∷ (codes "list", []) ∷ (codes "seq", []) ∷ (codes "live", []) ∷ (codes "run", []) ∷ (codes "serve", []) ∷ (codes "draw", [])
    ∷ (codes "outcomes", []) ∷ (codes "state", []) ∷ (codes "verify", []) ∷ (codes "order", []) ∷ (codes "explain", []) ∷ (codes "bound", []) ∷ []

-- ---- the rows that clap keeps of a command

abbrev pub row : Text → Text → Rule → Row
row id value rule = record { id = id; values = value ∷ []; count = None; source = Some CommandLine; reading = reading_by rule }

abbrev pub name_row : Text → Text → Row
name_row id name = row id name (built_name 1 id)

-- the row of a word that does not stand there
abbrev pub no_flag_row : Text → Row
no_flag_row name = record (row name (codes "false") (built_flag name)) { source = Some DefaultValue }
