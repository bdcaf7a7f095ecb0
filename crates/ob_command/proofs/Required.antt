-- Where clap finds no fault, the words ask for a command, but for those of a command that has several forms.
use Rattle.std.proofs.Common.{◌≡◌, ◌∙◌, ◌==◌, ◌&&◌, ◌||◌, ◌⊎◌, inl, inr, ℕ, suc, arith, length, ne_eqb, refl, sym, subst, List, [], ◌∷◌, codes, true, false, Bool, not, if◌then◌else◌, Option, Some, None, find, is_some, option_map, option_and_then, pos}
use Rattle.std.specs.List.{list_any}
use Rattle.std.specs.Option.{option_map_or}
use Rattle.clap.specs.Facts.{explicit_source}
use Rattle.clap.specs.Values.{read_as, reading_of, refused_kind}
use Rattle.clap.specs.ValueTests.{accepts}
use Rattle.clap.specs.declared.builder.value_parser.ValueParser.{ValueParser}
use Rattle.clap.specs.declared.parser.matches.ValueSource.TheVariants.{CommandLine, DefaultValue}
use Rattle.clap.specs.declared.builder.value_parser.ValueParser.TheVariants as parser
use Rattle.clap.specs.Walk.{Row, Rule, Text, action_of, answers_to, first_of, has_row, nothing_held, rows_after, used, values_or_missing, walk, walk_from, with_values, without, finished, settled}
use Rattle.clap.specs.Kinds.{Kinds, check_kinds, or_else, range_kinds, value_kinds, values_kinds}
use Rattle.clap.specs.Faults.{action_fault, check_fault, defaults_fault, entered_fault, fault_of, level_fault, repeat_fault, settle_fault, use_fault, walk_fault}
use Rattle.clap.specs.Simple.{Shape, entered, label_of, rows_at, subcommand_of}
use Rattle.clap.specs.Takes.{is_given}
use Rattle.clap.specs.declared.error.kind.ErrorKind.{ErrorKind}
use Rattle.clap.specs.declared.error.kind.ErrorKind.TheVariants as kind
use Rattle.ob_command_line.specs.ClapCommand.{obl0_app}
use Rattle.ob_command.specs.CommandLine.{Serve, State, Verify, asked, asks_command, calls_of, command_of, form_mistake, form_mistake_of, given_of, processes_of, run_of, sequence_of}
use Rattle.ob_command.proofs.BuiltLine.{bound_leaf, built_app, built_budget, built_flag, built_from, built_help, built_name, built_number, built_one, built_top, draw_leaf, explain_leaf, live_leaf, module_leaf, names, needed, order_leaf, outcomes_leaf, run_leaf, seq_leaf, serve_leaf, state_leaf, verify_leaf}
use Rattle.ob_command.proofs.FilledRows.{EachFills, Filled, Fills, given_first, given_number, level_filled, neither, suits, with_filled, without_filled}
use Rattle.ob_command.proofs.Numbers.{budget_accepted, number_accepted}

-- no default is a row
kept : (t : Bool) (rows : List Row) → Filled rows → Filled (if t then rows else rows)
kept true rows f = f
kept false rows f = f

no_kinds : (k : ErrorKind) (ks : Kinds) → k ∷ ks ≡ [] → ⊥
no_kinds k ks h = cc

too_many : (n : ℕ) → range_kinds 1 1 (suc (suc n)) ≡ kind.WrongNumberOfValues ∷ []
too_many n =
    let some : (suc (suc n) == 0) ≡ false = ne_eqb (suc (suc n)) 0 (λ e. omega arith) in
    let other : (1 == suc (suc n)) ≡ false = ne_eqb 1 (suc (suc n)) (λ e. omega arith) in
    rw (some, other) refl

passed : (t : Bool) (k : ErrorKind) → (if t then [] else k ∷ []) ≡ [] → t ≡ true
passed true k none = refl
passed false k none = absurd (no_kinds k [] none)

-- the parser lets through only what can stand for the argument
abbrev LetsThrough : Text → ValueParser → Type 0
LetsThrough id p = (v : Text) → accepts false p v ≡ true → suits id (read_as (reading_of p) v) ≡ true

any_text : (v : Text) → true ≡ true → true ≡ true
any_text v h = h

module _ (id : Text) (place short : Option ℕ) (p : ValueParser) (lets : LetsThrough id p) where
  abbrev one : Rule
  one = built_one id place short p

  one_uses : (again : Bool) (values : List Text) (rows : List Row) → use_fault again one values rows ≡ [] → Filled rows → Filled (used one values rows)
  one_uses again [] rows none f = absurd (no_kinds kind.InvalidValue [] none)
  one_uses again (v ∷ []) rows none f =
      let set = neither (repeat_fault again id rows) (values_kinds false p (v ∷ [])) none in
      let value = neither (value_kinds false p v) [] set.1 in
      with_filled id (reading_of p) CommandLine v (without id rows) (lets v (passed (accepts false p v) (refused_kind p) value.0)) (without_filled id rows f)
  one_uses again (v ∷ w ∷ rest) rows none f =
      let ranged = neither (range_kinds 1 1 (suc (suc (length rest)))) (action_fault (action_of one) again one (values_or_missing one (v ∷ w ∷ rest)) rows) none in
      absurd (no_kinds kind.WrongNumberOfValues [] (sym (too_many (length rest)) ∙ ranged.0))

  fills_one : Fills one
  fills_one = record { uses = one_uses; defaulted = λ rows f. kept (has_row id rows) rows f }

-- a word without a value
none_wanted : (n : ℕ) → range_kinds 0 0 (suc n) ≡ kind.WrongNumberOfValues ∷ []
none_wanted n =
    let other : (0 == suc n) ≡ false = ne_eqb 0 (suc n) (λ e. omega arith) in
    rw other refl

module _ (name : Text) (lets : (v : Text) → suits name (read_as (reading_of parser.Bool) v) ≡ true) where
  flag_uses : (again : Bool) (values : List Text) (rows : List Row) → use_fault again (built_flag name) values rows ≡ [] → Filled rows
      → Filled (used (built_flag name) values rows)
  flag_uses again [] rows none f =
      with_filled name (reading_of parser.Bool) CommandLine (codes "true") (without name rows) (lets (codes "true")) (without_filled name rows f)
  flag_uses again (v ∷ rest) rows none f =
      let ranged = neither (range_kinds 0 0 (suc (length rest)))
      (action_fault (action_of (built_flag name)) again (built_flag name) (values_or_missing (built_flag name) (v ∷ rest)) rows) none in
      absurd (no_kinds kind.WrongNumberOfValues [] (sym (none_wanted (length rest)) ∙ ranged.0))

  fills_flag : Fills (built_flag name)
  fills_flag = record { uses = flag_uses; defaulted = λ rows f. go (has_row name rows) rows f }
    where
      go : (t : Bool) (rows : List Row) → Filled rows
          → Filled (if t then rows else with_values name (reading_of parser.Bool) DefaultValue (codes "false" ∷ []) rows)
      go true rows f = f
      go false rows f = with_filled name (reading_of parser.Bool) DefaultValue (codes "false") rows (lets (codes "false")) f

-- a name, which has to be there or may be missing
fills_name : (place : ℕ) (id : Text) → LetsThrough id parser.String → (t : Bool) → Fills (needed t (built_name place id))
fills_name place id lets t = record { uses = one_uses id (Some place) None parser.String lets; defaulted = λ rows f. kept (has_row id rows) rows f }

fills_number : Fills built_number
fills_number = fills_one (codes "N") None (Some 110) (parser.Signed (pos 0) (pos 65535)) number_accepted

fills_budget : Fills built_budget
fills_budget = record {
  uses = one_uses (codes "BUDGET") None (Some 98) (parser.Signed (pos 0) (pos 4294967295)) budget_accepted;
  defaulted = λ rows f. kept (has_row (codes "BUDGET") rows) rows f;
}

fills_from : Fills built_from
fills_from = record { uses = one_uses (codes "FROM") None None parser.String any_text; defaulted = λ rows f. kept (has_row (codes "FROM") rows) rows f }

fills_help : Fills built_help
fills_help = record { uses = λ again values rows none f. f; defaulted = λ rows f. kept (has_row (codes "help") rows) rows f }

-- ---- a level

-- what has to be there is given
abbrev EachGiven : List Rule → List Row → Type 0
EachGiven [] rows = Unit {0}
EachGiven (a ∷ rules) rows = (a.required ≡ true → is_given a.id rows ≡ true) × EachGiven rules rows

no_other : (a b : Bool) → (a || b) ≡ false → (a ≡ false) × (b ≡ false)
no_other false b h = (refl, h)
no_other true b h = cc

wanted : (a g : Bool) → (a && not g) ≡ false → a ≡ true → g ≡ true
wanted a true h is = refl
wanted true false h is = cc
wanted false false h is = cc

each_given : (rules : List Rule) (rows : List Row) → list_any (λ a. a.required && not (is_given a.id rows)) rules ≡ false → EachGiven rules rows
each_given [] rows h = tt
each_given (a ∷ rules) rows h =
    let parts = no_other (a.required && not (is_given a.id rows)) (list_any (λ a. a.required && not (is_given a.id rows)) rules) h in
    (wanted a.required (is_given a.id rows) parts.0, each_given rules rows parts.1)

checked : (a b c : Bool) → check_kinds a b c ≡ [] → c ≡ false
checked true b c none = cc
checked false true c none = cc
checked false false true none = cc
checked false false false none = refl

record Passes (s : Shape) (rows : List Row) : Type 0 where
  filled : Filled rows
  given : EachGiven s.rules rows

passes : (s : Shape) → EachFills s.rules → s.subcommand_negates_reqs ≡ false → (words : List Text) → level_fault s [] nothing_held words false [] ≡ []
    → Passes s (rows_after s.rules [] words)
passes s each no_negation words none =
    let end = (walk s.rules [] nothing_held words).held in
    let rows = rows_after s.rules [] words in
    let walks = neither (walk_fault s [] (walk_from nothing_held) words)
    (or_else (settle_fault s.rules s.args_override_self end) (or_else (defaults_fault (settled s.rules end).rows s.rules) (check_fault s (finished s.rules end) false))) none in
    let settles = neither (settle_fault s.rules s.args_override_self end)
    (or_else (defaults_fault (settled s.rules end).rows s.rules) (check_fault s (finished s.rules end) false)) walks.1 in
    let defaults = neither (defaults_fault (settled s.rules end).rows s.rules) (check_fault s (finished s.rules end) false) settles.1 in
    let lacks = list_any (λ a. a.required && not (is_given a.id rows)) s.rules in
    let last = checked (s.arg_required_else_help && not (list_any (λ r. explicit_source r.source) rows)) s.subcommand_required
    (not (s.subcommand_negates_reqs && false) && lacks) defaults.1 in
    let none_lacks = subst (λ (n : Bool). (not (n && false) && lacks) ≡ false) no_negation last in
    record { filled = level_filled s each words walks.0 settles.0; given = each_given s.rules rows none_lacks }

-- ---- the commands

some_then : {A B : Type 0} (o : Option A) (f : A → Option B) → is_some o ≡ true → ((x : A) → is_some (f x) ≡ true) → is_some (option_and_then f o) ≡ true
some_then None f h each = cc
some_then (Some x) f h each = each x

some_map : {A B : Type 0} (o : Option A) (f : A → B) → is_some o ≡ true → is_some (option_map f o) ≡ true
some_map None f h = cc
some_map (Some x) f h = refl

abbrev IsPassed : Shape → List Text → Type 0
IsPassed s words = level_fault s [] nothing_held words false [] ≡ []

abbrev rows_of_leaf : Shape → List Text → List Row
rows_of_leaf s words = rows_after s.rules [] words

-- the command of a leaf, by its rows
abbrev AsksBy : Shape → Type 0
AsksBy s = (words : List Text) → IsPassed s words → is_some (command_of s.name (rows_of_leaf s words)) ≡ true

-- the rows have a module's name, and what is given beside it asks for something
asks_with : (name : Text) (rows : List Row) → is_some (first_of (codes "MODULE") rows) ≡ true → ((m : Text) → is_some (asked name m (given_of rows)) ≡ true)
    → is_some (command_of name rows) ≡ true
asks_with name rows has each = some_then (first_of (codes "MODULE") rows) (λ m. asked name m (given_of rows)) has each

check_asks : AsksBy (module_leaf (codes "check"))
check_asks words none =
    let p = passes (module_leaf (codes "check")) (fills_name 1 (codes "MODULE") any_text true, (fills_help, tt)) refl words none in
    let rows = rows_of_leaf (module_leaf (codes "check")) words in
    asks_with (codes "check") rows (given_first (codes "MODULE") rows p.filled (p.given.0 refl)) (λ m. refl)

list_asks : AsksBy (module_leaf (codes "list"))
list_asks words none =
    let p = passes (module_leaf (codes "list")) (fills_name 1 (codes "MODULE") any_text true, (fills_help, tt)) refl words none in
    let rows = rows_of_leaf (module_leaf (codes "list")) words in
    asks_with (codes "list") rows (given_first (codes "MODULE") rows p.filled (p.given.0 refl)) (λ m. refl)

verify_asks : AsksBy verify_leaf
verify_asks words none =
    let p = passes verify_leaf (fills_name 1 (codes "MODULE") any_text true, (fills_name 2 (codes "RECORD") any_text true, (fills_help, tt))) refl words none in
    let rows = rows_of_leaf verify_leaf words in
    asks_with (codes "verify") rows (given_first (codes "MODULE") rows p.filled (p.given.0 refl))
    (λ m. some_map (first_of (codes "RECORD") rows) (Verify m) (given_first (codes "RECORD") rows p.filled (p.given.1.0 refl)))

seq_asks : AsksBy seq_leaf
seq_asks words none =
    let p = passes seq_leaf (fills_name 1 (codes "MODULE") any_text true, (fills_name 2 (codes "SCRIPT") any_text true, (fills_budget, (fills_from, (fills_flag (codes "state") (λ v. refl), (fills_flag (codes "turns") (λ v. refl), (fills_help, tt))))))) refl words none in
    let rows = rows_of_leaf seq_leaf words in
    let script = given_first (codes "SCRIPT") rows p.filled (p.given.1.0 refl) in
    asks_with (codes "seq") rows (given_first (codes "MODULE") rows p.filled (p.given.0 refl))
    (λ m. some_map (sequence_of m (given_of rows)) _ (some_map (first_of (codes "SCRIPT") rows) _ script))

live_asks : AsksBy live_leaf
live_asks words none =
    let p = passes live_leaf (fills_name 1 (codes "MODULE") any_text true, (fills_budget, (fills_from, (fills_help, tt)))) refl words none in
    let rows = rows_of_leaf live_leaf words in
    asks_with (codes "live") rows (given_first (codes "MODULE") rows p.filled (p.given.0 refl)) (λ m. refl)

serve_asks : AsksBy serve_leaf
serve_asks words none =
    let p = passes serve_leaf (fills_name 1 (codes "MODULE") any_text true, (fills_name 2 (codes "SCRIPT") any_text true, (fills_number, (fills_budget, (fills_from, (fills_help, tt)))))) refl words none in
    let rows = rows_of_leaf serve_leaf words in
    let script = given_first (codes "SCRIPT") rows p.filled (p.given.1.0 refl) in
    asks_with (codes "serve") rows (given_first (codes "MODULE") rows p.filled (p.given.0 refl))
    (λ m. some_map (calls_of m (given_of rows)) Serve (some_then (processes_of rows) _ (given_number rows p.filled (p.given.1.1.0 refl))
    (λ k. some_map (first_of (codes "SCRIPT") rows) _ script)))

state_asks : AsksBy state_leaf
state_asks words none =
    let p = passes state_leaf (fills_name 1 (codes "MODULE") any_text true, (fills_name 2 (codes "SCRIPT") any_text true, (fills_name 3 (codes "SCHEDULE") any_text true, (fills_number, (fills_budget, (fills_from, (fills_help, tt))))))) refl words none in
    let rows = rows_of_leaf state_leaf words in
    let script = given_first (codes "SCRIPT") rows p.filled (p.given.1.0 refl) in
    let schedule = given_first (codes "SCHEDULE") rows p.filled (p.given.1.1.0 refl) in
    asks_with (codes "state") rows (given_first (codes "MODULE") rows p.filled (p.given.0 refl))
    (λ m. some_map (run_of m (given_of rows)) State (some_then (calls_of m (given_of rows)) _
    (some_then (processes_of rows) _ (given_number rows p.filled (p.given.1.1.1.0 refl)) (λ k. some_map (first_of (codes "SCRIPT") rows) _ script))
    (λ calls. some_map (first_of (codes "SCHEDULE") rows) _ schedule)))

bound_asks : AsksBy bound_leaf
bound_asks words none =
    let p = passes bound_leaf (fills_name 1 (codes "MODULE") any_text true, (fills_number, (fills_budget, (fills_help, tt)))) refl words none in
    let rows = rows_of_leaf bound_leaf words in
    asks_with (codes "bound") rows (given_first (codes "MODULE") rows p.filled (p.given.0 refl))
    (λ m. some_map (processes_of rows) _ (given_number rows p.filled (p.given.1.0 refl)))

-- ---- all the words

-- what clap keeps of the words behind a command asks for something, or the command has several forms
abbrev Asking : Text → List Row → Type 0
Asking name rows = is_some (form_mistake name rows) ≡ false → is_some (command_of name rows) ≡ true

same_met : (a b : Text × List Row) → Some a ≡ Some b → a ≡ b
same_met a b e = cc

abbrev Asks : List Text → Option Shape → Type 0
Asks words o = option_map_or (λ s. level_fault s [] nothing_held words false []) o [] ≡ []
    → (met : Text × List Row) → option_map (λ s. rows_at s words) o ≡ Some met → Asking met.0 met.1

leaf_asks : (s : Shape) (words : List Text) → (IsPassed s words → Asking s.name (rows_of_leaf s words)) → Asks words (Some s)
leaf_asks s words h none met e = rw (← same_met (rows_at s words) met e) (h none)

asks_if : (t : Bool) (s : Shape) (words : List Text) (rest : Option Shape) → Asks words (Some s) → Asks words rest → Asks words (if t then Some s else rest)
asks_if true s words rest h g = h
asks_if false s words rest h g = g

abbrev EachAsks : List Shape → Type 0
EachAsks [] = Unit {0}
EachAsks (s ∷ leaves) = ((words : List Text) → IsPassed s words → Asking s.name (rows_of_leaf s words)) × EachAsks leaves

found_asks : (name : Text) (leaves : List Shape) → EachAsks leaves → (words : List Text) → Asks words (find (λ s. answers_to name (label_of s)) leaves)
found_asks name [] each words = λ none met e. cc
found_asks name (s ∷ leaves) each words =
    asks_if (answers_to name (label_of s)) s words (find (λ s. answers_to name (label_of s)) leaves) (leaf_asks s words (each.0 words))
    (found_asks name leaves each.1 words)

-- a command that has one form
one_form : (s : Shape) → ((words : List Text) → IsPassed s words → is_some (command_of s.name (rows_of_leaf s words)) ≡ true)
    → (words : List Text) → IsPassed s words → Asking s.name (rows_of_leaf s words)
one_form s asks words none h = asks words none

-- one that has several
several_forms : (s : Shape) → ((rows : List Row) → is_some (form_mistake s.name rows) ≡ true) → (words : List Text) → IsPassed s words
    → Asking s.name (rows_of_leaf s words)
several_forms s has words none h = let bad : true ≡ false = sym (has (rows_of_leaf s words)) ∙ h in cc

each_asks : EachAsks built_app.subs
each_asks = (
  one_form (module_leaf (codes "check")) check_asks,
  (
    one_form (module_leaf (codes "list")) list_asks,
    (
      one_form seq_leaf seq_asks,
      (
        one_form live_leaf live_asks,
        (
          several_forms run_leaf (λ rows. refl),
          (
            one_form serve_leaf serve_asks,
            (
              several_forms draw_leaf (λ rows. refl),
              (
                several_forms outcomes_leaf (λ rows. refl),
                (one_form state_leaf state_asks, (one_form verify_leaf verify_asks, (several_forms order_leaf (λ rows. refl), (several_forms explain_leaf (λ rows. refl), (one_form bound_leaf bound_asks, tt))))),
              ),
            ),
          ),
        ),
      ),
    ),
  ),
)

met_asks : (o : Option (Text × List Text)) → entered_fault built_app o ≡ [] → (met : Text × List Row) → entered built_app o ≡ Some met → Asking met.0 met.1
met_asks None none met e = cc
met_asks (Some p) none met e = found_asks p.0 built_app.subs each_asks p.1 none met e

-- what is tested of all the words behind those of the command
abbrev last_fault : (words : List Text) → Kinds
last_fault words =
    let w = walk built_top.rules names nothing_held words in
    or_else (settle_fault built_top.rules false w.held) (or_else (defaults_fault (settled built_top.rules w.held).rows built_top.rules)
    (check_fault built_top (finished built_top.rules w.held) (is_some (entered built_app w.stopped))))

pub has_command : (words : List Text) → fault_of obl0_app words ≡ [] → (met : Text × List Row) → subcommand_of obl0_app words ≡ Some met → Asking met.0 met.1
has_command words none met e =
    let w = walk built_top.rules names nothing_held words in
    let walks = neither (walk_fault built_top names (walk_from nothing_held) words) (or_else (entered_fault built_app w.stopped) (last_fault words)) none in
    let below = neither (entered_fault built_app w.stopped) (last_fault words) walks.1 in
    met_asks w.stopped below.0 met e

-- a command has to be there
checked_command : (a b c : Bool) → check_kinds a b c ≡ [] → b ≡ false
checked_command true b c none = cc
checked_command false true c none = cc
checked_command false false c none = refl

there : (t : Bool) → (not t && true) ≡ false → t ≡ true
there true h = refl
there false h = cc

met_some : (words : List Text) → fault_of obl0_app words ≡ [] → is_some (subcommand_of obl0_app words) ≡ true
met_some words none =
    let w = walk built_top.rules names nothing_held words in
    let has = is_some (entered built_app w.stopped) in
    let rows = finished built_top.rules w.held in
    let checks = check_fault built_top rows has in
    let defaults = or_else (defaults_fault (settled built_top.rules w.held).rows built_top.rules) checks in
    let walks = neither (walk_fault built_top names (walk_from nothing_held) words) (or_else (entered_fault built_app w.stopped) (last_fault words)) none in
    let below = neither (entered_fault built_app w.stopped) (last_fault words) walks.1 in
    let settles = neither (settle_fault built_top.rules false w.held) defaults below.1 in
    let last = neither (defaults_fault (settled built_top.rules w.held).rows built_top.rules) checks settles.1 in
    there has (checked_command (not has && (true && not (list_any (λ r. explicit_source r.source) rows))) (not has && true)
    (not (false && has) && list_any (λ a. a.required && not (is_given a.id rows)) built_top.rules) last.1)

pub accepted_asks : (words : List Text) → fault_of obl0_app words ≡ [] → (asks_command words ≡ true) ⊎ (is_some (form_mistake_of words) ≡ true)
accepted_asks words none = go (subcommand_of obl0_app words) refl (met_some words none)
  where
    by_form : (met : Text × List Row) → Asking met.0 met.1 → (t : Bool) → is_some (form_mistake met.0 met.1) ≡ t
        → (is_some (command_of met.0 met.1) ≡ true) ⊎ (is_some (form_mistake met.0 met.1) ≡ true)
    by_form met asks true t = inr t
    by_form met asks false t = inl (asks t)

    go : (o : Option (Text × List Row)) → subcommand_of obl0_app words ≡ o → is_some o ≡ true
        → (is_some (option_and_then (λ m. command_of m.0 m.1) o) ≡ true) ⊎ (is_some (option_and_then (λ m. form_mistake m.0 m.1) o) ≡ true)
    go None e some = cc
    go (Some met) e some = by_form met (has_command words none met e) (is_some (form_mistake met.0 met.1)) refl
