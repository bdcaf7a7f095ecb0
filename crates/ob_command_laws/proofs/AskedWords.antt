-- What words ask for that have no fault.
use Rattle.std.proofs.Common.{◌≡◌, ◌∙◌, ℕ, sym, ap, ap₂, List, [], ◌∷◌, fold, find, true, false, Bool, Option, Some, is_some, option_map}
use Rattle.std.specs.Option.{option_map_or}
use Rattle.clap.specs.Lexer.{without_minus}
use Rattle.clap.specs.Walk.{Walk, walk_from, nothing_held, Row, Rule, Text, answers_to, walked, finished, settled}
use Rattle.clap.specs.Kinds.{Kinds, or_else}
use Rattle.clap.specs.Faults.{fault_of, walk_fault, settle_fault, defaults_fault, check_fault, entered_fault, level_fault, turn_fault}
use Rattle.clap.specs.Simple.{Shape, entered, label_of, rows_at, subcommand_of}
use Rattle.clap.proofs.FaultLemmas.{stopped_fault}
use Rattle.clap.proofs.WalkLemmas.{walk_stopped}
use Rattle.clap.proofs.OnLiterals.{clap_on_literals}
use Rattle.ob_command_line.specs.ClapCommand.{obl0_app}
use Rattle.ob_command.specs.CommandLine.{budget_number, clap_request, number, request_by}
use Rattle.ob_command.proofs.BuiltLine.{built_app, built_help, built_top, names}
use Rattle.ob_command.proofs.Numbers.{plain_budget, plain_number}
use Rattle.ob_command_laws.proofs.WalkedWords.{Goes}

abbrev pub top_rules : List Rule
top_rules = built_help ∷ []

abbrev pub start : Walk
start = walk_from nothing_held

abbrev tail : Bool → Kinds
tail has = or_else (settle_fault top_rules false nothing_held) (or_else (defaults_fault (settled top_rules nothing_held).rows top_rules)
    (check_fault built_top (finished top_rules nothing_held) has))

-- what the faults of all the words come to behind those of the first level
abbrev found_fault : List Text → Option Shape → Kinds
found_fault words o = or_else (option_map_or (λ s. level_fault s [] nothing_held words false []) o []) (tail (is_some (option_map (λ s. rows_at s words) o)))

abbrev met_fault : Option (Text × List Text) → Kinds
met_fault stop = or_else (entered_fault built_app stop) (tail (is_some (entered built_app stop)))

module _ (name : Text) (leaf : Shape)
    (turn : turn_fault built_top names start name ≡ [])
    (meets : walked top_rules names start name ≡ record start { stopped = Some (name, []) })
    (finds : find (λ s. answers_to name (label_of s)) built_app.subs ≡ Some leaf) where
  stops : (words : List Text) → fold (walked top_rules names) start (name ∷ words) ≡ record start { stopped = Some (name, words) }
  stops words = ap (λ (w : Walk). fold (walked top_rules names) w words) meets ∙ sym (walk_stopped top_rules names start name [] words)

  none : (words : List Text) → walk_fault built_top names start (name ∷ words) ≡ []
  unfolding walk_fault
  none words = ap₂ (λ ks (w : Walk). or_else ks (walk_fault built_top names w words)) turn meets
      ∙ stopped_fault built_top names start (name, []) words

  no_fault_met : (words : List Text) (rows : List Row) → Goes leaf start words rows → met_fault (Some (name, words)) ≡ []
  unfolding clap_on_literals
  no_fault_met words rows goes = ap (found_fault words) finds ∙ ap (λ ks. or_else ks (tail true)) goes.no_fault

  pub clap_met : (words : List Text) (rows : List Row) → Goes leaf start words rows
      → subcommand_of obl0_app (name ∷ words) ≡ Some (leaf.name, rows)
  clap_met words rows goes =
      ap (λ (w : Walk). entered built_app w.stopped) (stops words)
      ∙ (ap (option_map (λ s. rows_at s words)) finds ∙ ap (λ (r : List Row). Some (leaf.name, r)) goes.leaves)

  pub clap_asked : (words : List Text) (rows : List Row) → Goes leaf start words rows
      → clap_request (name ∷ words) ≡ request_by [] (Some (leaf.name, rows))
  unfolding clap_request
  clap_asked words rows goes =
      let kinds : fault_of obl0_app (name ∷ words) ≡ [] =
      ap₂ (λ ks (w : Walk). or_else ks (or_else (entered_fault built_app w.stopped)
      (or_else (settle_fault top_rules false w.held) (or_else (defaults_fault (settled top_rules w.held).rows top_rules)
      (check_fault built_top (finished top_rules w.held) (is_some (entered built_app w.stopped))))))) (none words) (stops words)
      ∙ no_fault_met words rows goes in
      ap₂ request_by kinds (clap_met words rows goes)

-- ---- the numbers of a request

pub number_is : (n : Text) (k : ℕ) → number n ≡ Some k → number (without_minus n) ≡ Some k
number_is n k is =
    let plain = plain_number n k is in
    ap number plain.as_is ∙ is

pub budget_is : (b : Text) (k : ℕ) → budget_number b ≡ Some k → budget_number (without_minus b) ≡ Some k
budget_is b k is =
    let plain = plain_budget b k is in
    ap budget_number plain.as_is ∙ is
