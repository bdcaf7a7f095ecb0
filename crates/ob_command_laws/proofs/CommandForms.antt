-- What words ask for that have no fault: files, and behind them options in any order.
use Rattle.std.proofs.Common.{◌≡◌, ◌∙◌, ℕ, refl, ap, List, [], ◌∷◌, fold, codes, option_and_then, true, false, Bool, if◌then◌else◌, Option, Some, None, map, unwrap_or}
use Rattle.std.specs.List.{list_any}
use Rattle.std.specs.Str.{bytes_eq}
use Rattle.clap.specs.Walk.{Row, Rule, Text, first_of, settled_rows, with_default}
use Rattle.clap.specs.Kinds.{Kinds, check_kinds, or_else}
use Rattle.clap.specs.Faults.{check_fault, defaults_fault, walk_fault}
use Rattle.clap.specs.Simple.{Shape}
use Rattle.clap.proofs.OnLiterals.{clap_on_literals}
use Rattle.ob_command.specs.CommandLine.{Check, Given, Listing, Unclear, Verify, Version, asked, clap_request, command_of, form_mistake, form_mistake_by, form_mistake_of, given_of, is_option, order_mistake_of, outcomes_mistake_of, request}
use Rattle.ob_command_line.specs.HelpWords.{asks_version}
use Rattle.ob_command_laws.specs.PlainForms.{Argument, BySeed, Finishing, Always, WithState, WithTurns, AsWhole, OfLength, AsksWithHistory, AsksWithModule, AsksWithSchedule, AsksWithScript, ArePlain, AsRecord, ByTree, Chosen, Count, Most, OfTraps, Range, Seen, Start, Told, Turns, WithSteps, bound_options, draw_options, explain_options, given_in, given_with_history, id_of, is_chosen, is_plain, live_options, order_options, outcomes_options, run_options, seq_options, serve_options, state_options, words_of}
use Rattle.ob_command_laws.proofs.AskedWords.{clap_asked, clap_met, start}
use Rattle.ob_command.proofs.BuiltLine.{bound_leaf, built_always, built_budget, built_by, built_calls, built_from, built_help, built_history, built_length, built_most, built_name, built_number, built_record, built_seed, draw_leaf, explain_leaf, leaf, live_leaf, module_leaf, name_row, needed, order_leaf, outcomes_leaf, run_leaf, seq_leaf, serve_leaf, state_leaf, verify_leaf}
use Rattle.ob_command_laws.proofs.ChosenWords.{AllFresh, Moves, Standing, all_move, always_moves, argument_moves, count_moves, finish_moves, length_moves, most_moves, range_moves, record_moves, row_of, seed_moves, seen_moves, start_moves, state_moves, steps_moves, told_moves, traps_moves, tree_moves, turns_moves, turns_word_moves, whole_moves}
use Rattle.ob_command_laws.proofs.OptionRows.{EachQuiet, EachThere, Quiet, counted_there, each_stays, given_alone, given_history, given_schedule, given_script, given_stays, module_stays, no_default_fault, none_lacks, quiet_as_record, quiet_finish, quiet_plain, quiet_state, quiet_steps, quiet_traps, quiet_tree, quiet_turns, quiet_whole}
use Rattle.ob_command_laws.proofs.PlainWords.{by_clap}
use Rattle.ob_command.proofs.Readings.{on_module}
use Rattle.ob_command_laws.proofs.WalkedWords.{Goes, named, state}

-- ---- the end of the words

module _ (command : Text) (rules : List Rule) (quiet : EachQuiet rules) where
  abbrev level : Shape
  level = leaf command rules

  ended : (kept : List Row) → EachThere rules kept → (position : ℕ) (held : List Row) (pending : Option (Text × List Text)) → Standing level held pending kept
      → Goes level (state level held pending position) [] (fold with_default kept rules)
  unfolding walk_fault
  ended kept there position held pending standing =
      let lacks = none_lacks rules (fold with_default kept rules) (each_stays rules quiet rules kept there) in
      record {
        no_fault =
            ap (λ (ks : Kinds). or_else ks (or_else (defaults_fault (settled_rows rules pending held) rules)
            (check_fault level (fold with_default (settled_rows rules pending held) rules) false))) standing.no_fault
            ∙ (ap (λ (ks : Kinds). or_else ks (check_fault level (fold with_default (settled_rows rules pending held) rules) false))
            (no_default_fault rules quiet (settled_rows rules pending held))
            ∙ (ap (λ (r : List Row). check_fault level (fold with_default r rules) false) standing.settles ∙ ap (λ (t : Bool). check_kinds false false t) lacks));
        leaves = ap (λ (r : List Row). fold with_default r rules) standing.settles;
      }

  answered : (m : Text) (kept : List Row) (given : Given) → first_of (codes "MODULE") kept ≡ Some m → given_of kept ≡ given
      → unwrap_or (command_of command (fold with_default kept rules)) Unclear ≡ unwrap_or (asked command m given) Unclear
  answered m kept given is_m is_given =
      ap (λ o. unwrap_or o Unclear) (on_module command m (fold with_default kept rules) (module_stays rules quiet kept ∙ is_m))
      ∙ ap (λ (g : Given). unwrap_or (asked command m g) Unclear) (given_stays rules quiet kept ∙ is_given)

-- ---- the rules of each command

plain : (a : Rule) → a.defaults ≡ [] → Quiet a
plain = quiet_plain

quiet_file : (place : ℕ) (id : Text) (t : Bool) → Quiet (needed t (built_name place id))
quiet_file place id t = quiet_plain (needed t (built_name place id)) refl

quiet_number : (t : Bool) → Quiet (needed t built_number)
quiet_number t = quiet_plain (needed t built_number) refl

quiet_seq : EachQuiet seq_leaf.rules
quiet_seq = (quiet_file 1 (codes "MODULE") true, (quiet_file 2 (codes "SCRIPT") true, (plain built_budget refl, (plain built_from refl, (quiet_state, (quiet_turns, (plain built_help refl, tt)))))))

quiet_live : EachQuiet live_leaf.rules
quiet_live = (quiet_file 1 (codes "MODULE") true, (plain built_budget refl, (plain built_from refl, (plain built_help refl, tt))))

quiet_state_words : EachQuiet state_leaf.rules
quiet_state_words = (quiet_file 1 (codes "MODULE") true, (quiet_file 2 (codes "SCRIPT") true, (quiet_file 3 (codes "SCHEDULE") true, (quiet_number true, (plain built_budget refl, (plain built_from refl, (plain built_help refl, tt)))))))

quiet_serve : EachQuiet serve_leaf.rules
quiet_serve = (quiet_file 1 (codes "MODULE") true, (quiet_file 2 (codes "SCRIPT") true, (quiet_number true, (plain built_budget refl, (plain built_from refl, (plain built_help refl, tt))))))

quiet_outcomes : EachQuiet outcomes_leaf.rules
quiet_outcomes = (
  quiet_file 1 (codes "MODULE") true,
  (
    quiet_file 2 (codes "SCRIPT") true,
    (
      quiet_number true,
      (plain built_budget refl, (plain built_from refl, (plain built_always refl, (quiet_whole, (plain built_most refl, (plain built_help refl, tt)))))),
    ),
  ),
)

quiet_bound : EachQuiet bound_leaf.rules
quiet_bound = (quiet_file 1 (codes "MODULE") true, (quiet_number true, (plain built_budget refl, (plain built_help refl, tt))))

quiet_run : EachQuiet run_leaf.rules
quiet_run = (
  quiet_file 1 (codes "MODULE") true,
  (
    quiet_file 2 (codes "SCRIPT") true,
    (
      quiet_file 3 (codes "SCHEDULE") false,
      (
        quiet_number true,
        (plain built_budget refl, (plain built_from refl, (quiet_tree, (quiet_steps, (plain built_seed refl, (plain built_length refl, (quiet_finish, (plain built_help refl, tt)))))))),
      ),
    ),
  ),
)

quiet_draw : EachQuiet draw_leaf.rules
quiet_draw = (
  quiet_file 1 (codes "MODULE") true,
  (
    quiet_file 2 (codes "SCRIPT") true,
    (
      quiet_file 3 (codes "SCHEDULE") false,
      (
        quiet_number false,
        (plain built_budget refl, (plain built_from refl, (plain built_calls refl, (plain built_most refl, (plain built_help refl, tt))))),
      ),
    ),
  ),
)

quiet_order : EachQuiet order_leaf.rules
quiet_order = (quiet_file 1 (codes "MODULE") true, (quiet_file 2 (codes "HISTORY") true, (plain built_budget refl, (plain built_most refl, (quiet_as_record, (plain built_by refl, (plain built_help refl, tt)))))))

quiet_explain : EachQuiet explain_leaf.rules
quiet_explain = (
  quiet_file 1 (codes "MODULE") true,
  (
    quiet_file 2 (codes "SCRIPT") false,
    (
      quiet_file 3 (codes "SCHEDULE") false,
      (
        quiet_number false,
        (plain built_budget refl, (plain built_from refl, (plain built_record refl, (plain built_history refl, (quiet_traps, (plain built_always refl, (plain built_help refl, tt))))))),
      ),
    ),
  ),
)

-- ---- the options of each command

serve_moves : (one : Chosen) → list_any (bytes_eq (id_of one)) serve_options ≡ true → is_plain one ≡ true → Moves serve_leaf one
unfolding clap_on_literals
serve_moves (Count n) known plain = count_moves serve_leaf (record { turn = λ h p k. refl; walk = λ h p k. refl; push = λ v h k. refl; fault = λ v h. refl; uses = λ v h. refl }) n plain
serve_moves (Turns true b) known plain = turns_moves serve_leaf true (record { turn = λ h p k. refl; walk = λ h p k. refl; push = λ v h k. refl; fault = λ v h. refl; uses = λ v h. refl }) b plain
serve_moves (Turns false b) known plain = turns_moves serve_leaf false (record { turn = λ h p k. refl; walk = λ h p k. refl; push = λ v h k. refl; fault = λ v h. refl; uses = λ v h. refl }) b plain
serve_moves (Most k) known plain = cc
serve_moves (Argument n) known plain = cc
serve_moves (Start f) known plain = start_moves serve_leaf (record { turn = λ h p k. refl; walk = λ h p k. refl; push = λ v h k. refl; fault = λ v h. refl; uses = λ v h. refl }) f plain
serve_moves (Range c) known plain = cc
serve_moves (Told r) known plain = cc
serve_moves (Seen h) known plain = cc
serve_moves ByTree known plain = cc
serve_moves WithSteps known plain = cc
serve_moves OfTraps known plain = cc
serve_moves AsRecord known plain = cc
serve_moves (BySeed v) known plain = cc
serve_moves (OfLength j) known plain = cc
serve_moves Finishing known plain = cc
serve_moves (Always a) known plain = cc
serve_moves WithState known plain = cc
serve_moves WithTurns known plain = cc
serve_moves AsWhole known plain = cc

stating_moves : (one : Chosen) → list_any (bytes_eq (id_of one)) state_options ≡ true → is_plain one ≡ true → Moves state_leaf one
unfolding clap_on_literals
stating_moves (Count n) known plain = count_moves state_leaf (record { turn = λ h p k. refl; walk = λ h p k. refl; push = λ v h k. refl; fault = λ v h. refl; uses = λ v h. refl }) n plain
stating_moves (Turns true b) known plain = turns_moves state_leaf true (record { turn = λ h p k. refl; walk = λ h p k. refl; push = λ v h k. refl; fault = λ v h. refl; uses = λ v h. refl }) b plain
stating_moves (Turns false b) known plain = turns_moves state_leaf false (record { turn = λ h p k. refl; walk = λ h p k. refl; push = λ v h k. refl; fault = λ v h. refl; uses = λ v h. refl }) b plain
stating_moves (Most k) known plain = cc
stating_moves (Argument n) known plain = cc
stating_moves (Start f) known plain = start_moves state_leaf (record { turn = λ h p k. refl; walk = λ h p k. refl; push = λ v h k. refl; fault = λ v h. refl; uses = λ v h. refl }) f plain
stating_moves (Range c) known plain = cc
stating_moves (Told r) known plain = cc
stating_moves (Seen h) known plain = cc
stating_moves ByTree known plain = cc
stating_moves WithSteps known plain = cc
stating_moves OfTraps known plain = cc
stating_moves AsRecord known plain = cc
stating_moves (BySeed v) known plain = cc
stating_moves (OfLength j) known plain = cc
stating_moves Finishing known plain = cc
stating_moves (Always a) known plain = cc
stating_moves WithState known plain = cc
stating_moves WithTurns known plain = cc
stating_moves AsWhole known plain = cc

outcomes_moves : (one : Chosen) → list_any (bytes_eq (id_of one)) outcomes_options ≡ true → is_plain one ≡ true → Moves outcomes_leaf one
unfolding clap_on_literals
outcomes_moves (Count n) known plain = count_moves outcomes_leaf (record { turn = λ h p k. refl; walk = λ h p k. refl; push = λ v h k. refl; fault = λ v h. refl; uses = λ v h. refl }) n plain
outcomes_moves (Turns true b) known plain = turns_moves outcomes_leaf true (record { turn = λ h p k. refl; walk = λ h p k. refl; push = λ v h k. refl; fault = λ v h. refl; uses = λ v h. refl }) b plain
outcomes_moves (Turns false b) known plain = turns_moves outcomes_leaf false (record { turn = λ h p k. refl; walk = λ h p k. refl; push = λ v h k. refl; fault = λ v h. refl; uses = λ v h. refl }) b plain
outcomes_moves (Most k) known plain = most_moves outcomes_leaf (record { turn = λ h p k. refl; walk = λ h p k. refl; push = λ v h k. refl; fault = λ v h. refl; uses = λ v h. refl }) k plain
outcomes_moves (Argument n) known plain = cc
outcomes_moves (Start f) known plain = start_moves outcomes_leaf (record { turn = λ h p k. refl; walk = λ h p k. refl; push = λ v h k. refl; fault = λ v h. refl; uses = λ v h. refl }) f plain
outcomes_moves (Range c) known plain = cc
outcomes_moves (Told r) known plain = cc
outcomes_moves (Seen h) known plain = cc
outcomes_moves ByTree known plain = cc
outcomes_moves WithSteps known plain = cc
outcomes_moves OfTraps known plain = cc
outcomes_moves AsRecord known plain = cc
outcomes_moves (BySeed v) known plain = cc
outcomes_moves (OfLength j) known plain = cc
outcomes_moves Finishing known plain = cc
outcomes_moves (Always a) known plain = always_moves outcomes_leaf (record { turn = λ h p k. refl; walk = λ h p k. refl; push = λ v h k. refl; fault = λ v h. refl; uses = λ v h. refl }) a plain
outcomes_moves WithState known plain = cc
outcomes_moves WithTurns known plain = cc
outcomes_moves AsWhole known plain = whole_moves outcomes_leaf (record { turn = λ h p k. refl; walk = λ h p k. refl })

seq_moves : (one : Chosen) → list_any (bytes_eq (id_of one)) seq_options ≡ true → is_plain one ≡ true → Moves seq_leaf one
unfolding clap_on_literals
seq_moves (Count n) known plain = cc
seq_moves (Turns true b) known plain = turns_moves seq_leaf true (record { turn = λ h p k. refl; walk = λ h p k. refl; push = λ v h k. refl; fault = λ v h. refl; uses = λ v h. refl }) b plain
seq_moves (Turns false b) known plain = turns_moves seq_leaf false (record { turn = λ h p k. refl; walk = λ h p k. refl; push = λ v h k. refl; fault = λ v h. refl; uses = λ v h. refl }) b plain
seq_moves (Most k) known plain = cc
seq_moves (Argument n) known plain = cc
seq_moves (Start f) known plain = start_moves seq_leaf (record { turn = λ h p k. refl; walk = λ h p k. refl; push = λ v h k. refl; fault = λ v h. refl; uses = λ v h. refl }) f plain
seq_moves (Range c) known plain = cc
seq_moves (Told r) known plain = cc
seq_moves (Seen h) known plain = cc
seq_moves ByTree known plain = cc
seq_moves WithSteps known plain = cc
seq_moves OfTraps known plain = cc
seq_moves AsRecord known plain = cc
seq_moves (BySeed v) known plain = cc
seq_moves (OfLength j) known plain = cc
seq_moves Finishing known plain = cc
seq_moves (Always a) known plain = cc
seq_moves WithState known plain = state_moves seq_leaf (record { turn = λ h p k. refl; walk = λ h p k. refl })
seq_moves WithTurns known plain = turns_word_moves seq_leaf (record { turn = λ h p k. refl; walk = λ h p k. refl })
seq_moves AsWhole known plain = cc

live_moves : (one : Chosen) → list_any (bytes_eq (id_of one)) live_options ≡ true → is_plain one ≡ true → Moves live_leaf one
unfolding clap_on_literals
live_moves (Count n) known plain = cc
live_moves (Turns true b) known plain = turns_moves live_leaf true (record { turn = λ h p k. refl; walk = λ h p k. refl; push = λ v h k. refl; fault = λ v h. refl; uses = λ v h. refl }) b plain
live_moves (Turns false b) known plain = turns_moves live_leaf false (record { turn = λ h p k. refl; walk = λ h p k. refl; push = λ v h k. refl; fault = λ v h. refl; uses = λ v h. refl }) b plain
live_moves (Most k) known plain = cc
live_moves (Argument n) known plain = cc
live_moves (Start f) known plain = start_moves live_leaf (record { turn = λ h p k. refl; walk = λ h p k. refl; push = λ v h k. refl; fault = λ v h. refl; uses = λ v h. refl }) f plain
live_moves (Range c) known plain = cc
live_moves (Told r) known plain = cc
live_moves (Seen h) known plain = cc
live_moves ByTree known plain = cc
live_moves WithSteps known plain = cc
live_moves OfTraps known plain = cc
live_moves AsRecord known plain = cc
live_moves (BySeed v) known plain = cc
live_moves (OfLength j) known plain = cc
live_moves Finishing known plain = cc
live_moves (Always a) known plain = cc
live_moves WithState known plain = cc
live_moves WithTurns known plain = cc
live_moves AsWhole known plain = cc

run_moves : (one : Chosen) → list_any (bytes_eq (id_of one)) run_options ≡ true → is_plain one ≡ true → Moves run_leaf one
unfolding clap_on_literals
run_moves (Count n) known plain = count_moves run_leaf (record { turn = λ h p k. refl; walk = λ h p k. refl; push = λ v h k. refl; fault = λ v h. refl; uses = λ v h. refl }) n plain
run_moves (Turns true b) known plain = turns_moves run_leaf true (record { turn = λ h p k. refl; walk = λ h p k. refl; push = λ v h k. refl; fault = λ v h. refl; uses = λ v h. refl }) b plain
run_moves (Turns false b) known plain = turns_moves run_leaf false (record { turn = λ h p k. refl; walk = λ h p k. refl; push = λ v h k. refl; fault = λ v h. refl; uses = λ v h. refl }) b plain
run_moves (Most k) known plain = cc
run_moves (Argument n) known plain = cc
run_moves (Start f) known plain = start_moves run_leaf (record { turn = λ h p k. refl; walk = λ h p k. refl; push = λ v h k. refl; fault = λ v h. refl; uses = λ v h. refl }) f plain
run_moves (Range c) known plain = cc
run_moves (Told r) known plain = cc
run_moves (Seen h) known plain = cc
run_moves ByTree known plain = tree_moves run_leaf (record { turn = λ h p k. refl; walk = λ h p k. refl })
run_moves WithSteps known plain = steps_moves run_leaf (record { turn = λ h p k. refl; walk = λ h p k. refl })
run_moves OfTraps known plain = cc
run_moves AsRecord known plain = cc
run_moves (BySeed v) known plain = seed_moves run_leaf (record { turn = λ h p k. refl; walk = λ h p k. refl; push = λ v h k. refl; fault = λ v h. refl; uses = λ v h. refl }) v plain
run_moves (OfLength j) known plain = length_moves run_leaf (record { turn = λ h p k. refl; walk = λ h p k. refl; push = λ v h k. refl; fault = λ v h. refl; uses = λ v h. refl }) j plain
run_moves Finishing known plain = finish_moves run_leaf (record { turn = λ h p k. refl; walk = λ h p k. refl })
run_moves (Always a) known plain = cc
run_moves WithState known plain = cc
run_moves WithTurns known plain = cc
run_moves AsWhole known plain = cc

draw_moves : (one : Chosen) → list_any (bytes_eq (id_of one)) draw_options ≡ true → is_plain one ≡ true → Moves draw_leaf one
unfolding clap_on_literals
draw_moves (Count n) known plain = count_moves draw_leaf (record { turn = λ h p k. refl; walk = λ h p k. refl; push = λ v h k. refl; fault = λ v h. refl; uses = λ v h. refl }) n plain
draw_moves (Turns true b) known plain = turns_moves draw_leaf true (record { turn = λ h p k. refl; walk = λ h p k. refl; push = λ v h k. refl; fault = λ v h. refl; uses = λ v h. refl }) b plain
draw_moves (Turns false b) known plain = turns_moves draw_leaf false (record { turn = λ h p k. refl; walk = λ h p k. refl; push = λ v h k. refl; fault = λ v h. refl; uses = λ v h. refl }) b plain
draw_moves (Most k) known plain = most_moves draw_leaf (record { turn = λ h p k. refl; walk = λ h p k. refl; push = λ v h k. refl; fault = λ v h. refl; uses = λ v h. refl }) k plain
draw_moves (Argument n) known plain = cc
draw_moves (Start f) known plain = start_moves draw_leaf (record { turn = λ h p k. refl; walk = λ h p k. refl; push = λ v h k. refl; fault = λ v h. refl; uses = λ v h. refl }) f plain
draw_moves (Range c) known plain = range_moves draw_leaf (record { turn = λ h p k. refl; walk = λ h p k. refl; push = λ v h k. refl; fault = λ v h. refl; uses = λ v h. refl }) c plain
draw_moves (Told r) known plain = cc
draw_moves (Seen h) known plain = cc
draw_moves ByTree known plain = cc
draw_moves WithSteps known plain = cc
draw_moves OfTraps known plain = cc
draw_moves AsRecord known plain = cc
draw_moves (BySeed v) known plain = cc
draw_moves (OfLength j) known plain = cc
draw_moves Finishing known plain = cc
draw_moves (Always a) known plain = cc
draw_moves WithState known plain = cc
draw_moves WithTurns known plain = cc
draw_moves AsWhole known plain = cc

explain_moves : (one : Chosen) → list_any (bytes_eq (id_of one)) explain_options ≡ true → is_plain one ≡ true → Moves explain_leaf one
unfolding clap_on_literals
explain_moves (Count n) known plain = count_moves explain_leaf (record { turn = λ h p k. refl; walk = λ h p k. refl; push = λ v h k. refl; fault = λ v h. refl; uses = λ v h. refl }) n plain
explain_moves (Turns true b) known plain = turns_moves explain_leaf true (record { turn = λ h p k. refl; walk = λ h p k. refl; push = λ v h k. refl; fault = λ v h. refl; uses = λ v h. refl }) b plain
explain_moves (Turns false b) known plain = turns_moves explain_leaf false (record { turn = λ h p k. refl; walk = λ h p k. refl; push = λ v h k. refl; fault = λ v h. refl; uses = λ v h. refl }) b plain
explain_moves (Most k) known plain = cc
explain_moves (Argument n) known plain = cc
explain_moves (Start f) known plain = start_moves explain_leaf (record { turn = λ h p k. refl; walk = λ h p k. refl; push = λ v h k. refl; fault = λ v h. refl; uses = λ v h. refl }) f plain
explain_moves (Range c) known plain = cc
explain_moves (Told r) known plain = told_moves explain_leaf (record { turn = λ h p k. refl; walk = λ h p k. refl; push = λ v h k. refl; fault = λ v h. refl; uses = λ v h. refl }) r plain
explain_moves (Seen h) known plain = seen_moves explain_leaf (record { turn = λ h p k. refl; walk = λ h p k. refl; push = λ v h k. refl; fault = λ v h. refl; uses = λ v h. refl }) h plain
explain_moves ByTree known plain = cc
explain_moves WithSteps known plain = cc
explain_moves OfTraps known plain = traps_moves explain_leaf (record { turn = λ h p k. refl; walk = λ h p k. refl })
explain_moves AsRecord known plain = cc
explain_moves (BySeed v) known plain = cc
explain_moves (OfLength j) known plain = cc
explain_moves Finishing known plain = cc
explain_moves (Always a) known plain = always_moves explain_leaf (record { turn = λ h p k. refl; walk = λ h p k. refl; push = λ v h k. refl; fault = λ v h. refl; uses = λ v h. refl }) a plain
explain_moves WithState known plain = cc
explain_moves WithTurns known plain = cc
explain_moves AsWhole known plain = cc

order_moves : (one : Chosen) → list_any (bytes_eq (id_of one)) order_options ≡ true → is_plain one ≡ true → Moves order_leaf one
unfolding clap_on_literals
order_moves (Count n) known plain = cc
order_moves (Turns true b) known plain = turns_moves order_leaf true (record { turn = λ h p k. refl; walk = λ h p k. refl; push = λ v h k. refl; fault = λ v h. refl; uses = λ v h. refl }) b plain
order_moves (Turns false b) known plain = turns_moves order_leaf false (record { turn = λ h p k. refl; walk = λ h p k. refl; push = λ v h k. refl; fault = λ v h. refl; uses = λ v h. refl }) b plain
order_moves (Most k) known plain = most_moves order_leaf (record { turn = λ h p k. refl; walk = λ h p k. refl; push = λ v h k. refl; fault = λ v h. refl; uses = λ v h. refl }) k plain
order_moves (Argument n) known plain = argument_moves order_leaf (record { turn = λ h p k. refl; walk = λ h p k. refl; push = λ v h k. refl; fault = λ v h. refl; uses = λ v h. refl }) n plain
order_moves (Start f) known plain = cc
order_moves (Range c) known plain = cc
order_moves (Told r) known plain = cc
order_moves (Seen h) known plain = cc
order_moves ByTree known plain = cc
order_moves WithSteps known plain = cc
order_moves OfTraps known plain = cc
order_moves AsRecord known plain = record_moves order_leaf (record { turn = λ h p k. refl; walk = λ h p k. refl })
order_moves (BySeed v) known plain = cc
order_moves (OfLength j) known plain = cc
order_moves Finishing known plain = cc
order_moves (Always a) known plain = cc
order_moves WithState known plain = cc
order_moves WithTurns known plain = cc
order_moves AsWhole known plain = cc

bound_moves : (one : Chosen) → list_any (bytes_eq (id_of one)) bound_options ≡ true → is_plain one ≡ true → Moves bound_leaf one
unfolding clap_on_literals
bound_moves (Count n) known plain = count_moves bound_leaf (record { turn = λ h p k. refl; walk = λ h p k. refl; push = λ v h k. refl; fault = λ v h. refl; uses = λ v h. refl }) n plain
bound_moves (Turns true b) known plain = turns_moves bound_leaf true (record { turn = λ h p k. refl; walk = λ h p k. refl; push = λ v h k. refl; fault = λ v h. refl; uses = λ v h. refl }) b plain
bound_moves (Turns false b) known plain = turns_moves bound_leaf false (record { turn = λ h p k. refl; walk = λ h p k. refl; push = λ v h k. refl; fault = λ v h. refl; uses = λ v h. refl }) b plain
bound_moves (Most k) known plain = cc
bound_moves (Argument n) known plain = cc
bound_moves (Start f) known plain = cc
bound_moves (Range c) known plain = cc
bound_moves (Told r) known plain = cc
bound_moves (Seen h) known plain = cc
bound_moves ByTree known plain = cc
bound_moves WithSteps known plain = cc
bound_moves OfTraps known plain = cc
bound_moves AsRecord known plain = cc
bound_moves (BySeed v) known plain = cc
bound_moves (OfLength j) known plain = cc
bound_moves Finishing known plain = cc
bound_moves (Always a) known plain = cc
bound_moves WithState known plain = cc
bound_moves WithTurns known plain = cc
bound_moves AsWhole known plain = cc

-- ---- no option is kept under the name of a file

not_known : false ≡ true → ⊥
not_known e = cc

fresh_module : (m : Text) (chosen : List Chosen) → AllFresh (name_row (codes "MODULE") m ∷ []) chosen
fresh_module m [] = tt
fresh_module m (Count n ∷ others) = (refl, fresh_module m others)
fresh_module m (Turns short b ∷ others) = (refl, fresh_module m others)
fresh_module m (Most k ∷ others) = (refl, fresh_module m others)
fresh_module m (Argument n ∷ others) = (refl, fresh_module m others)
fresh_module m (Start f ∷ others) = (refl, fresh_module m others)
fresh_module m (Range c ∷ others) = (refl, fresh_module m others)
fresh_module m (Told r ∷ others) = (refl, fresh_module m others)
fresh_module m (Seen h ∷ others) = (refl, fresh_module m others)
fresh_module m (ByTree ∷ others) = (refl, fresh_module m others)
fresh_module m (WithSteps ∷ others) = (refl, fresh_module m others)
fresh_module m (OfTraps ∷ others) = (refl, fresh_module m others)
fresh_module m (AsRecord ∷ others) = (refl, fresh_module m others)
fresh_module m (BySeed v ∷ others) = (refl, fresh_module m others)
fresh_module m (OfLength j ∷ others) = (refl, fresh_module m others)
fresh_module m (Finishing ∷ others) = (refl, fresh_module m others)
fresh_module m (Always a ∷ others) = (refl, fresh_module m others)
fresh_module m (WithState ∷ others) = (refl, fresh_module m others)
fresh_module m (WithTurns ∷ others) = (refl, fresh_module m others)
fresh_module m (AsWhole ∷ others) = (refl, fresh_module m others)

fresh_script : (m s : Text) (chosen : List Chosen) → AllFresh (name_row (codes "MODULE") m ∷ name_row (codes "SCRIPT") s ∷ []) chosen
fresh_script m s [] = tt
fresh_script m s (Count n ∷ others) = (refl, fresh_script m s others)
fresh_script m s (Turns short b ∷ others) = (refl, fresh_script m s others)
fresh_script m s (Most k ∷ others) = (refl, fresh_script m s others)
fresh_script m s (Argument n ∷ others) = (refl, fresh_script m s others)
fresh_script m s (Start f ∷ others) = (refl, fresh_script m s others)
fresh_script m s (Range c ∷ others) = (refl, fresh_script m s others)
fresh_script m s (Told r ∷ others) = (refl, fresh_script m s others)
fresh_script m s (Seen h ∷ others) = (refl, fresh_script m s others)
fresh_script m s (ByTree ∷ others) = (refl, fresh_script m s others)
fresh_script m s (WithSteps ∷ others) = (refl, fresh_script m s others)
fresh_script m s (OfTraps ∷ others) = (refl, fresh_script m s others)
fresh_script m s (AsRecord ∷ others) = (refl, fresh_script m s others)
fresh_script m s (BySeed v ∷ others) = (refl, fresh_script m s others)
fresh_script m s (OfLength j ∷ others) = (refl, fresh_script m s others)
fresh_script m s (Finishing ∷ others) = (refl, fresh_script m s others)
fresh_script m s (Always a ∷ others) = (refl, fresh_script m s others)
fresh_script m s (WithState ∷ others) = (refl, fresh_script m s others)
fresh_script m s (WithTurns ∷ others) = (refl, fresh_script m s others)
fresh_script m s (AsWhole ∷ others) = (refl, fresh_script m s others)

-- the one that names a history does not stand behind `order`
fresh_history : (m h : Text) (chosen : List Chosen) → ArePlain order_options chosen
    → AllFresh (name_row (codes "MODULE") m ∷ name_row (codes "HISTORY") h ∷ []) chosen
fresh_history m h [] plain = tt
fresh_history m h (Count n ∷ others) plain = (refl, fresh_history m h others plain.3)
fresh_history m h (Turns short b ∷ others) plain = (refl, fresh_history m h others plain.3)
fresh_history m h (Most k ∷ others) plain = (refl, fresh_history m h others plain.3)
fresh_history m h (Argument n ∷ others) plain = (refl, fresh_history m h others plain.3)
fresh_history m h (Start f ∷ others) plain = (refl, fresh_history m h others plain.3)
fresh_history m h (Range c ∷ others) plain = (refl, fresh_history m h others plain.3)
fresh_history m h (Told r ∷ others) plain = (refl, fresh_history m h others plain.3)
fresh_history m h (Seen q ∷ others) plain = absurd (not_known plain.0)
fresh_history m h (ByTree ∷ others) plain = (refl, fresh_history m h others plain.3)
fresh_history m h (WithSteps ∷ others) plain = (refl, fresh_history m h others plain.3)
fresh_history m h (OfTraps ∷ others) plain = (refl, fresh_history m h others plain.3)
fresh_history m h (AsRecord ∷ others) plain = (refl, fresh_history m h others plain.3)
fresh_history m h (BySeed v ∷ others) plain = (refl, fresh_history m h others plain.3)
fresh_history m h (OfLength j ∷ others) plain = (refl, fresh_history m h others plain.3)
fresh_history m h (Finishing ∷ others) plain = (refl, fresh_history m h others plain.3)
fresh_history m h (Always a ∷ others) plain = (refl, fresh_history m h others plain.3)
fresh_history m h (WithState ∷ others) plain = (refl, fresh_history m h others plain.3)
fresh_history m h (WithTurns ∷ others) plain = (refl, fresh_history m h others plain.3)
fresh_history m h (AsWhole ∷ others) plain = (refl, fresh_history m h others plain.3)

fresh_schedule : (m s d : Text) (chosen : List Chosen) → AllFresh (name_row (codes "MODULE") m ∷ name_row (codes "SCRIPT") s ∷ name_row (codes "SCHEDULE") d ∷ []) chosen
fresh_schedule m s d [] = tt
fresh_schedule m s d (Count n ∷ others) = (refl, fresh_schedule m s d others)
fresh_schedule m s d (Turns short b ∷ others) = (refl, fresh_schedule m s d others)
fresh_schedule m s d (Most k ∷ others) = (refl, fresh_schedule m s d others)
fresh_schedule m s d (Argument n ∷ others) = (refl, fresh_schedule m s d others)
fresh_schedule m s d (Start f ∷ others) = (refl, fresh_schedule m s d others)
fresh_schedule m s d (Range c ∷ others) = (refl, fresh_schedule m s d others)
fresh_schedule m s d (Told r ∷ others) = (refl, fresh_schedule m s d others)
fresh_schedule m s d (Seen h ∷ others) = (refl, fresh_schedule m s d others)
fresh_schedule m s d (ByTree ∷ others) = (refl, fresh_schedule m s d others)
fresh_schedule m s d (WithSteps ∷ others) = (refl, fresh_schedule m s d others)
fresh_schedule m s d (OfTraps ∷ others) = (refl, fresh_schedule m s d others)
fresh_schedule m s d (AsRecord ∷ others) = (refl, fresh_schedule m s d others)
fresh_schedule m s d (BySeed v ∷ others) = (refl, fresh_schedule m s d others)
fresh_schedule m s d (OfLength j ∷ others) = (refl, fresh_schedule m s d others)
fresh_schedule m s d (Finishing ∷ others) = (refl, fresh_schedule m s d others)
fresh_schedule m s d (Always a ∷ others) = (refl, fresh_schedule m s d others)
fresh_schedule m s d (WithState ∷ others) = (refl, fresh_schedule m s d others)
fresh_schedule m s d (WithTurns ∷ others) = (refl, fresh_schedule m s d others)
fresh_schedule m s d (AsWhole ∷ others) = (refl, fresh_schedule m s d others)

-- ---- a module

by_options : (name m : Text) (chosen : List Chosen) → is_option m ≡ false
    → (if asks_version (name ∷ m ∷ words_of chosen) then Version else clap_request (name ∷ m ∷ words_of chosen)) ≡ clap_request (name ∷ m ∷ words_of chosen)
by_options name m [] no_m = by_clap name m no_m
by_options name m (Count n ∷ others) no_m = refl
by_options name m (Turns true b ∷ others) no_m = refl
by_options name m (Turns false b ∷ others) no_m = refl
by_options name m (Most k ∷ others) no_m = refl
by_options name m (Argument n ∷ others) no_m = refl
by_options name m (Start f ∷ others) no_m = refl
by_options name m (Range c ∷ others) no_m = refl
by_options name m (Told r ∷ others) no_m = refl
by_options name m (Seen h ∷ others) no_m = refl
by_options name m (ByTree ∷ others) no_m = refl
by_options name m (WithSteps ∷ others) no_m = refl
by_options name m (OfTraps ∷ others) no_m = refl
by_options name m (AsRecord ∷ others) no_m = refl
by_options name m (BySeed v ∷ others) no_m = refl
by_options name m (OfLength j ∷ others) no_m = refl
by_options name m (Finishing ∷ others) no_m = refl
by_options name m (Always a ∷ others) no_m = refl
by_options name m (WithState ∷ others) no_m = refl
by_options name m (WithTurns ∷ others) no_m = refl
by_options name m (AsWhole ∷ others) no_m = refl

check_alone : (command m : Text) → is_option m ≡ false → Goes (module_leaf command) start (m ∷ []) (name_row (codes "MODULE") m ∷ [])
unfolding clap_on_literals
check_alone command m no_m = named (module_leaf command) [] None 1 m no_m refl _ refl [] _ (record { no_fault = refl; leaves = refl })

pub check_asked : (m : Text) → is_option m ≡ false → request (codes "check" ∷ m ∷ []) ≡ Check m
unfolding clap_on_literals
check_asked m no_m =
    by_clap (codes "check") m no_m ∙ clap_asked (codes "check") (module_leaf (codes "check")) refl refl refl (m ∷ []) _ (check_alone (codes "check") m no_m)

pub list_asked : (m : Text) → is_option m ≡ false → request (codes "list" ∷ m ∷ []) ≡ Listing m
unfolding clap_on_literals
list_asked m no_m =
    by_clap (codes "list") m no_m ∙ clap_asked (codes "list") (module_leaf (codes "list")) refl refl refl (m ∷ []) _ (check_alone (codes "list") m no_m)

pub live_asks : AsksWithModule (codes "live") false live_options
unfolding clap_on_literals
live_asks m chosen no_m plain counted =
    let kept = name_row (codes "MODULE") m ∷ map row_of chosen in
    let rows = fold with_default kept live_leaf.rules in
    by_options (codes "live") m chosen no_m
    ∙ (clap_asked (codes "live") live_leaf refl refl refl (m ∷ words_of chosen) rows
    (named live_leaf [] None 1 m no_m refl _ refl (words_of chosen) rows
    (all_move live_leaf live_options live_moves chosen plain ([]) (Some (codes "MODULE", m ∷ [])) 2
    (name_row (codes "MODULE") m ∷ []) (record { no_fault = refl; settles = refl }) (fresh_module m chosen) rows
    (ended (codes "live") live_leaf.rules quiet_live kept (λ e. refl, (λ e. cc, (λ e. cc, (λ e. cc, tt)))) 2)))
    ∙ answered (codes "live") live_leaf.rules quiet_live m kept (given_in None None chosen) refl (given_alone live_options chosen plain))

pub bound_asks : AsksWithModule (codes "bound") true bound_options
unfolding clap_on_literals
bound_asks m chosen no_m plain counted =
    let kept = name_row (codes "MODULE") m ∷ map row_of chosen in
    let rows = fold with_default kept bound_leaf.rules in
    by_options (codes "bound") m chosen no_m
    ∙ (clap_asked (codes "bound") bound_leaf refl refl refl (m ∷ words_of chosen) rows
    (named bound_leaf [] None 1 m no_m refl _ refl (words_of chosen) rows
    (all_move bound_leaf bound_options bound_moves chosen plain ([]) (Some (codes "MODULE", m ∷ [])) 2
    (name_row (codes "MODULE") m ∷ []) (record { no_fault = refl; settles = refl }) (fresh_module m chosen) rows
    (ended (codes "bound") bound_leaf.rules quiet_bound kept (λ e. refl, (λ e. counted_there chosen (counted refl), (λ e. cc, (λ e. cc, tt)))) 2)))
    ∙ answered (codes "bound") bound_leaf.rules quiet_bound m kept (given_in None None chosen) refl (given_alone bound_options chosen plain))

pub explain_module_asks : AsksWithModule (codes "explain") false explain_options
unfolding clap_on_literals
explain_module_asks m chosen no_m plain counted =
    let kept = name_row (codes "MODULE") m ∷ map row_of chosen in
    let rows = fold with_default kept explain_leaf.rules in
    by_options (codes "explain") m chosen no_m
    ∙ (clap_asked (codes "explain") explain_leaf refl refl refl (m ∷ words_of chosen) rows
    (named explain_leaf [] None 1 m no_m refl _ refl (words_of chosen) rows
    (all_move explain_leaf explain_options explain_moves chosen plain ([]) (Some (codes "MODULE", m ∷ [])) 2
    (name_row (codes "MODULE") m ∷ []) (record { no_fault = refl; settles = refl }) (fresh_module m chosen) rows
    (ended (codes "explain") explain_leaf.rules quiet_explain kept (λ e. refl, (λ e. cc, (λ e. cc, (λ e. cc, (λ e. cc, (λ e. cc, (λ e. cc, (λ e. cc, (λ e. cc, (λ e. cc, (λ e. cc, tt))))))))))) 2)))
    ∙ answered (codes "explain") explain_leaf.rules quiet_explain m kept (given_in None None chosen) refl (given_alone explain_options chosen plain))

-- ---- a module and a record

with_record : (m r : Text) → is_option m ≡ false → is_option r ≡ false
    → Goes verify_leaf start (m ∷ r ∷ []) (name_row (codes "MODULE") m ∷ name_row (codes "RECORD") r ∷ [])
unfolding clap_on_literals
with_record m r no_m no_r =
    named verify_leaf [] None 1 m no_m refl _ refl (r ∷ []) _
    (named verify_leaf [] (Some (codes "MODULE", m ∷ [])) 2 r no_r refl _ refl [] _ (record { no_fault = refl; leaves = refl }))

pub verify_asked : (m r : Text) → is_option m ≡ false → is_option r ≡ false → request (codes "verify" ∷ m ∷ r ∷ []) ≡ Verify m r
unfolding clap_on_literals
verify_asked m r no_m no_r = clap_asked (codes "verify") verify_leaf refl refl refl (m ∷ r ∷ []) _ (with_record m r no_m no_r)

-- ---- a module and a history

module _ (m h : Text) (chosen : List Chosen) (no_m : is_option m ≡ false) (no_h : is_option h ≡ false) (plain : ArePlain order_options chosen) where
  abbrev seen_rows : List Row
  seen_rows = name_row (codes "MODULE") m ∷ name_row (codes "HISTORY") h ∷ map row_of chosen

  abbrev order_rows : List Row
  order_rows = fold with_default seen_rows order_leaf.rules

  order_goes : Goes order_leaf start (m ∷ h ∷ words_of chosen) order_rows
  unfolding clap_on_literals
  order_goes =
      named order_leaf [] None 1 m no_m refl _ refl (h ∷ words_of chosen) order_rows
      (named order_leaf [] (Some (codes "MODULE", m ∷ [])) 2 h no_h refl _ refl (words_of chosen) order_rows
      (all_move order_leaf order_options order_moves chosen plain (name_row (codes "MODULE") m ∷ []) (Some (codes "HISTORY", h ∷ [])) 3
      (name_row (codes "MODULE") m ∷ name_row (codes "HISTORY") h ∷ []) (record { no_fault = refl; settles = refl }) (fresh_history m h chosen plain) order_rows
      (ended (codes "order") order_leaf.rules quiet_order seen_rows (λ e. refl, (λ e. refl, (λ e. cc, (λ e. cc, (λ e. cc, (λ e. cc, (λ e. cc, tt))))))) 3)))

  order_given : given_of seen_rows ≡ given_with_history h chosen
  order_given = given_history order_options chosen plain h

  pub order_said : form_mistake_of (codes "order" ∷ m ∷ h ∷ words_of chosen) ≡ Some (order_mistake_of (given_with_history h chosen))
  unfolding clap_on_literals
  order_said =
      ap (option_and_then (λ m. form_mistake m.0 m.1)) (clap_met (codes "order") order_leaf refl refl refl (m ∷ h ∷ words_of chosen) order_rows order_goes)
      ∙ ap (λ (g : Given). form_mistake_by (codes "order") g) (given_stays order_leaf.rules quiet_order seen_rows ∙ order_given)

pub order_asks : AsksWithHistory (codes "order") order_options
unfolding clap_on_literals
order_asks m h chosen no_m no_h plain =
    clap_asked (codes "order") order_leaf refl refl refl (m ∷ h ∷ words_of chosen) (order_rows m h chosen no_m no_h plain) (order_goes m h chosen no_m no_h plain)
    ∙ answered (codes "order") order_leaf.rules quiet_order m (seen_rows m h chosen no_m no_h plain) (given_with_history h chosen) refl
    (order_given m h chosen no_m no_h plain)

-- ---- a module and a script, or a record of which a picture is made

pub seq_asks : AsksWithScript (codes "seq") false seq_options
unfolding clap_on_literals
seq_asks m s chosen no_m no_s plain counted =
    let kept = name_row (codes "MODULE") m ∷ name_row (codes "SCRIPT") s ∷ map row_of chosen in
    let rows = fold with_default kept seq_leaf.rules in
    clap_asked (codes "seq") seq_leaf refl refl refl (m ∷ s ∷ words_of chosen) rows
    (named seq_leaf [] None 1 m no_m refl _ refl (s ∷ words_of chosen) rows
    (named seq_leaf [] (Some (codes "MODULE", m ∷ [])) 2 s no_s refl _ refl (words_of chosen) rows
    (all_move seq_leaf seq_options seq_moves chosen plain (name_row (codes "MODULE") m ∷ []) (Some (codes "SCRIPT", s ∷ [])) 3
    (name_row (codes "MODULE") m ∷ name_row (codes "SCRIPT") s ∷ []) (record { no_fault = refl; settles = refl }) (fresh_script m s chosen) rows
    (ended (codes "seq") seq_leaf.rules quiet_seq kept (λ e. refl, (λ e. refl, (λ e. cc, (λ e. cc, (λ e. cc, (λ e. cc, (λ e. cc, tt))))))) 3))))
    ∙ answered (codes "seq") seq_leaf.rules quiet_seq m kept (given_in (Some s) None chosen) refl (given_script seq_options chosen plain s)

pub serve_asks : AsksWithScript (codes "serve") true serve_options
unfolding clap_on_literals
serve_asks m s chosen no_m no_s plain counted =
    let kept = name_row (codes "MODULE") m ∷ name_row (codes "SCRIPT") s ∷ map row_of chosen in
    let rows = fold with_default kept serve_leaf.rules in
    clap_asked (codes "serve") serve_leaf refl refl refl (m ∷ s ∷ words_of chosen) rows
    (named serve_leaf [] None 1 m no_m refl _ refl (s ∷ words_of chosen) rows
    (named serve_leaf [] (Some (codes "MODULE", m ∷ [])) 2 s no_s refl _ refl (words_of chosen) rows
    (all_move serve_leaf serve_options serve_moves chosen plain (name_row (codes "MODULE") m ∷ []) (Some (codes "SCRIPT", s ∷ [])) 3
    (name_row (codes "MODULE") m ∷ name_row (codes "SCRIPT") s ∷ []) (record { no_fault = refl; settles = refl }) (fresh_script m s chosen) rows
    (ended (codes "serve") serve_leaf.rules quiet_serve kept (λ e. refl, (λ e. refl, (λ e. counted_there chosen (counted refl), (λ e. cc, (λ e. cc, (λ e. cc, tt)))))) 3))))
    ∙ answered (codes "serve") serve_leaf.rules quiet_serve m kept (given_in (Some s) None chosen) refl (given_script serve_options chosen plain s)

module _ (m s : Text) (chosen : List Chosen) (no_m : is_option m ≡ false) (no_s : is_option s ≡ false) (plain : ArePlain outcomes_options chosen)
    (counted : is_chosen (codes "N") chosen ≡ true) where
  abbrev reached_rows : List Row
  reached_rows = name_row (codes "MODULE") m ∷ name_row (codes "SCRIPT") s ∷ map row_of chosen

  abbrev outcomes_rows : List Row
  outcomes_rows = fold with_default reached_rows outcomes_leaf.rules

  outcomes_goes : Goes outcomes_leaf start (m ∷ s ∷ words_of chosen) outcomes_rows
  unfolding clap_on_literals
  outcomes_goes =
      named outcomes_leaf [] None 1 m no_m refl _ refl (s ∷ words_of chosen) outcomes_rows
      (named outcomes_leaf [] (Some (codes "MODULE", m ∷ [])) 2 s no_s refl _ refl (words_of chosen) outcomes_rows
      (all_move outcomes_leaf outcomes_options outcomes_moves chosen plain (name_row (codes "MODULE") m ∷ []) (Some (codes "SCRIPT", s ∷ [])) 3
      (name_row (codes "MODULE") m ∷ name_row (codes "SCRIPT") s ∷ []) (record { no_fault = refl; settles = refl }) (fresh_script m s chosen) outcomes_rows
      (ended (codes "outcomes") outcomes_leaf.rules quiet_outcomes reached_rows
      (λ e. refl, (λ e. refl, (λ e. counted_there chosen counted, (λ e. cc, (λ e. cc, (λ e. cc, (λ e. cc, (λ e. cc, (λ e. cc, tt))))))))) 3)))

  outcomes_given : given_of reached_rows ≡ given_in (Some s) None chosen
  outcomes_given = given_script outcomes_options chosen plain s

  pub outcomes_said : form_mistake_of (codes "outcomes" ∷ m ∷ s ∷ words_of chosen) ≡ Some (outcomes_mistake_of (given_in (Some s) None chosen))
  unfolding clap_on_literals
  outcomes_said =
      ap (option_and_then (λ m. form_mistake m.0 m.1))
      (clap_met (codes "outcomes") outcomes_leaf refl refl refl (m ∷ s ∷ words_of chosen) outcomes_rows outcomes_goes)
      ∙ ap (λ (g : Given). form_mistake_by (codes "outcomes") g) (given_stays outcomes_leaf.rules quiet_outcomes reached_rows ∙ outcomes_given)

pub outcomes_asks : AsksWithScript (codes "outcomes") true outcomes_options
unfolding clap_on_literals
outcomes_asks m s chosen no_m no_s plain counted =
    clap_asked (codes "outcomes") outcomes_leaf refl refl refl (m ∷ s ∷ words_of chosen) (outcomes_rows m s chosen no_m no_s plain (counted refl))
    (outcomes_goes m s chosen no_m no_s plain (counted refl))
    ∙ answered (codes "outcomes") outcomes_leaf.rules quiet_outcomes m (reached_rows m s chosen no_m no_s plain (counted refl)) (given_in (Some s) None chosen) refl
    (outcomes_given m s chosen no_m no_s plain (counted refl))

pub run_script_asks : AsksWithScript (codes "run") true run_options
unfolding clap_on_literals
run_script_asks m s chosen no_m no_s plain counted =
    let kept = name_row (codes "MODULE") m ∷ name_row (codes "SCRIPT") s ∷ map row_of chosen in
    let rows = fold with_default kept run_leaf.rules in
    clap_asked (codes "run") run_leaf refl refl refl (m ∷ s ∷ words_of chosen) rows
    (named run_leaf [] None 1 m no_m refl _ refl (s ∷ words_of chosen) rows
    (named run_leaf [] (Some (codes "MODULE", m ∷ [])) 2 s no_s refl _ refl (words_of chosen) rows
    (all_move run_leaf run_options run_moves chosen plain (name_row (codes "MODULE") m ∷ []) (Some (codes "SCRIPT", s ∷ [])) 3
    (name_row (codes "MODULE") m ∷ name_row (codes "SCRIPT") s ∷ []) (record { no_fault = refl; settles = refl }) (fresh_script m s chosen) rows
    (ended (codes "run") run_leaf.rules quiet_run kept (λ e. refl, (λ e. refl, (λ e. cc, (λ e. counted_there chosen (counted refl), (λ e. cc, (λ e. cc, (λ e. cc, (λ e. cc, (λ e. cc, (λ e. cc, (λ e. cc, (λ e. cc, tt)))))))))))) 3))))
    ∙ answered (codes "run") run_leaf.rules quiet_run m kept (given_in (Some s) None chosen) refl (given_script run_options chosen plain s)

pub draw_script_asks : AsksWithScript (codes "draw") false draw_options
unfolding clap_on_literals
draw_script_asks m s chosen no_m no_s plain counted =
    let kept = name_row (codes "MODULE") m ∷ name_row (codes "SCRIPT") s ∷ map row_of chosen in
    let rows = fold with_default kept draw_leaf.rules in
    clap_asked (codes "draw") draw_leaf refl refl refl (m ∷ s ∷ words_of chosen) rows
    (named draw_leaf [] None 1 m no_m refl _ refl (s ∷ words_of chosen) rows
    (named draw_leaf [] (Some (codes "MODULE", m ∷ [])) 2 s no_s refl _ refl (words_of chosen) rows
    (all_move draw_leaf draw_options draw_moves chosen plain (name_row (codes "MODULE") m ∷ []) (Some (codes "SCRIPT", s ∷ [])) 3
    (name_row (codes "MODULE") m ∷ name_row (codes "SCRIPT") s ∷ []) (record { no_fault = refl; settles = refl }) (fresh_script m s chosen) rows
    (ended (codes "draw") draw_leaf.rules quiet_draw kept (λ e. refl, (λ e. refl, (λ e. cc, (λ e. cc, (λ e. cc, (λ e. cc, (λ e. cc, (λ e. cc, (λ e. cc, tt))))))))) 3))))
    ∙ answered (codes "draw") draw_leaf.rules quiet_draw m kept (given_in (Some s) None chosen) refl (given_script draw_options chosen plain s)

pub explain_script_asks : AsksWithScript (codes "explain") false explain_options
unfolding clap_on_literals
explain_script_asks m s chosen no_m no_s plain counted =
    let kept = name_row (codes "MODULE") m ∷ name_row (codes "SCRIPT") s ∷ map row_of chosen in
    let rows = fold with_default kept explain_leaf.rules in
    clap_asked (codes "explain") explain_leaf refl refl refl (m ∷ s ∷ words_of chosen) rows
    (named explain_leaf [] None 1 m no_m refl _ refl (s ∷ words_of chosen) rows
    (named explain_leaf [] (Some (codes "MODULE", m ∷ [])) 2 s no_s refl _ refl (words_of chosen) rows
    (all_move explain_leaf explain_options explain_moves chosen plain (name_row (codes "MODULE") m ∷ []) (Some (codes "SCRIPT", s ∷ [])) 3
    (name_row (codes "MODULE") m ∷ name_row (codes "SCRIPT") s ∷ []) (record { no_fault = refl; settles = refl }) (fresh_script m s chosen) rows
    (ended (codes "explain") explain_leaf.rules quiet_explain kept (λ e. refl, (λ e. cc, (λ e. cc, (λ e. cc, (λ e. cc, (λ e. cc, (λ e. cc, (λ e. cc, (λ e. cc, (λ e. cc, (λ e. cc, tt))))))))))) 3))))
    ∙ answered (codes "explain") explain_leaf.rules quiet_explain m kept (given_in (Some s) None chosen) refl (given_script explain_options chosen plain s)

-- ---- a module, a script and a schedule

pub run_asks : AsksWithSchedule (codes "run") true run_options
unfolding clap_on_literals
run_asks m s d chosen no_m no_s no_d plain counted =
    let kept = name_row (codes "MODULE") m ∷ name_row (codes "SCRIPT") s ∷ name_row (codes "SCHEDULE") d ∷ map row_of chosen in
    let rows = fold with_default kept run_leaf.rules in
    clap_asked (codes "run") run_leaf refl refl refl (m ∷ s ∷ d ∷ words_of chosen) rows
    (named run_leaf [] None 1 m no_m refl _ refl (s ∷ d ∷ words_of chosen) rows
    (named run_leaf [] (Some (codes "MODULE", m ∷ [])) 2 s no_s refl _ refl (d ∷ words_of chosen) rows
    (named run_leaf (name_row (codes "MODULE") m ∷ []) (Some (codes "SCRIPT", s ∷ [])) 3 d no_d refl _ refl (words_of chosen) rows
    (all_move run_leaf run_options run_moves chosen plain (name_row (codes "MODULE") m ∷ name_row (codes "SCRIPT") s ∷ []) (Some (codes "SCHEDULE", d ∷ [])) 4
    (name_row (codes "MODULE") m ∷ name_row (codes "SCRIPT") s ∷ name_row (codes "SCHEDULE") d ∷ []) (record { no_fault = refl; settles = refl }) (fresh_schedule m s d chosen) rows
    (ended (codes "run") run_leaf.rules quiet_run kept (λ e. refl, (λ e. refl, (λ e. cc, (λ e. counted_there chosen (counted refl), (λ e. cc, (λ e. cc, (λ e. cc, (λ e. cc, (λ e. cc, (λ e. cc, (λ e. cc, (λ e. cc, tt)))))))))))) 4)))))
    ∙ answered (codes "run") run_leaf.rules quiet_run m kept (given_in (Some s) (Some d) chosen) refl (given_schedule run_options chosen plain s d)

pub state_asks : AsksWithSchedule (codes "state") true state_options
unfolding clap_on_literals
state_asks m s d chosen no_m no_s no_d plain counted =
    let kept = name_row (codes "MODULE") m ∷ name_row (codes "SCRIPT") s ∷ name_row (codes "SCHEDULE") d ∷ map row_of chosen in
    let rows = fold with_default kept state_leaf.rules in
    clap_asked (codes "state") state_leaf refl refl refl (m ∷ s ∷ d ∷ words_of chosen) rows
    (named state_leaf [] None 1 m no_m refl _ refl (s ∷ d ∷ words_of chosen) rows
    (named state_leaf [] (Some (codes "MODULE", m ∷ [])) 2 s no_s refl _ refl (d ∷ words_of chosen) rows
    (named state_leaf (name_row (codes "MODULE") m ∷ []) (Some (codes "SCRIPT", s ∷ [])) 3 d no_d refl _ refl (words_of chosen) rows
    (all_move state_leaf state_options stating_moves chosen plain (name_row (codes "MODULE") m ∷ name_row (codes "SCRIPT") s ∷ []) (Some (codes "SCHEDULE", d ∷ [])) 4
    (name_row (codes "MODULE") m ∷ name_row (codes "SCRIPT") s ∷ name_row (codes "SCHEDULE") d ∷ []) (record { no_fault = refl; settles = refl }) (fresh_schedule m s d chosen) rows
    (ended (codes "state") state_leaf.rules quiet_state_words kept (λ e. refl, (λ e. refl, (λ e. refl, (λ e. counted_there chosen (counted refl), (λ e. cc, (λ e. cc, (λ e. cc, tt))))))) 4)))))
    ∙ answered (codes "state") state_leaf.rules quiet_state_words m kept (given_in (Some s) (Some d) chosen) refl (given_schedule state_options chosen plain s d)

pub draw_schedule_asks : AsksWithSchedule (codes "draw") false draw_options
unfolding clap_on_literals
draw_schedule_asks m s d chosen no_m no_s no_d plain counted =
    let kept = name_row (codes "MODULE") m ∷ name_row (codes "SCRIPT") s ∷ name_row (codes "SCHEDULE") d ∷ map row_of chosen in
    let rows = fold with_default kept draw_leaf.rules in
    clap_asked (codes "draw") draw_leaf refl refl refl (m ∷ s ∷ d ∷ words_of chosen) rows
    (named draw_leaf [] None 1 m no_m refl _ refl (s ∷ d ∷ words_of chosen) rows
    (named draw_leaf [] (Some (codes "MODULE", m ∷ [])) 2 s no_s refl _ refl (d ∷ words_of chosen) rows
    (named draw_leaf (name_row (codes "MODULE") m ∷ []) (Some (codes "SCRIPT", s ∷ [])) 3 d no_d refl _ refl (words_of chosen) rows
    (all_move draw_leaf draw_options draw_moves chosen plain (name_row (codes "MODULE") m ∷ name_row (codes "SCRIPT") s ∷ []) (Some (codes "SCHEDULE", d ∷ [])) 4
    (name_row (codes "MODULE") m ∷ name_row (codes "SCRIPT") s ∷ name_row (codes "SCHEDULE") d ∷ []) (record { no_fault = refl; settles = refl }) (fresh_schedule m s d chosen) rows
    (ended (codes "draw") draw_leaf.rules quiet_draw kept (λ e. refl, (λ e. refl, (λ e. cc, (λ e. cc, (λ e. cc, (λ e. cc, (λ e. cc, (λ e. cc, (λ e. cc, tt))))))))) 4)))))
    ∙ answered (codes "draw") draw_leaf.rules quiet_draw m kept (given_in (Some s) (Some d) chosen) refl (given_schedule draw_options chosen plain s d)

pub explain_schedule_asks : AsksWithSchedule (codes "explain") false explain_options
unfolding clap_on_literals
explain_schedule_asks m s d chosen no_m no_s no_d plain counted =
    let kept = name_row (codes "MODULE") m ∷ name_row (codes "SCRIPT") s ∷ name_row (codes "SCHEDULE") d ∷ map row_of chosen in
    let rows = fold with_default kept explain_leaf.rules in
    clap_asked (codes "explain") explain_leaf refl refl refl (m ∷ s ∷ d ∷ words_of chosen) rows
    (named explain_leaf [] None 1 m no_m refl _ refl (s ∷ d ∷ words_of chosen) rows
    (named explain_leaf [] (Some (codes "MODULE", m ∷ [])) 2 s no_s refl _ refl (d ∷ words_of chosen) rows
    (named explain_leaf (name_row (codes "MODULE") m ∷ []) (Some (codes "SCRIPT", s ∷ [])) 3 d no_d refl _ refl (words_of chosen) rows
    (all_move explain_leaf explain_options explain_moves chosen plain (name_row (codes "MODULE") m ∷ name_row (codes "SCRIPT") s ∷ []) (Some (codes "SCHEDULE", d ∷ [])) 4
    (name_row (codes "MODULE") m ∷ name_row (codes "SCRIPT") s ∷ name_row (codes "SCHEDULE") d ∷ []) (record { no_fault = refl; settles = refl }) (fresh_schedule m s d chosen) rows
    (ended (codes "explain") explain_leaf.rules quiet_explain kept (λ e. refl, (λ e. cc, (λ e. cc, (λ e. cc, (λ e. cc, (λ e. cc, (λ e. cc, (λ e. cc, (λ e. cc, (λ e. cc, (λ e. cc, tt))))))))))) 4)))))
    ∙ answered (codes "explain") explain_leaf.rules quiet_explain m kept (given_in (Some s) (Some d) chosen) refl (given_schedule explain_options chosen plain s d)
