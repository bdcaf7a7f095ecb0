-- What each form of a command asks for.
use Rattle.std.proofs.Common.{◌≡◌, ◌∙◌, ◌||◌, ◌&&◌, ◌⊎◌, inl, inr, ℕ, refl, sym, ap, ap₂, not, List, [], ◌∷◌, find, codes, true, false, Bool, if◌then◌else◌, Option, Some, None, is_some, option_and_then, option_map, unwrap_or}
use Rattle.std.specs.Option.{option_map_or}
use Rattle.std.specs.Str.{bytes_eq}
use Rattle.clap.specs.Walk.{Text}
use Rattle.ob_command.specs.CommandLine.{Bound, CallsRequest, ChanceRequest, Draw, DrawHistory, DrawRecord, Explain, ExplainAlways, ExplainCalls, ExplainFault, ExplainHistory, ExplainRecord, ExplainRecordTraps, ExplainRun, ExplainTraps, Given, Live, Order, Outcomes, OutcomesRequest, Request, Run, RunByChance, RunFinished, RunRequest, RunSteps, RunTree, SeenRequest, Seq, Serve, State, Unclear, are_reached, are_seen, asked, budget_number, default_budget, default_length, default_most, default_most_reached, explain_alone, is_length, is_most, is_place, is_option, is_seen_budget, most_mistake, names_fault, number, order_by, outcomes_by, parts_mistake, place_mistake, product_by, range_by, request, run_product, seed_number, seen_budget_mistake, whole_mistake}
use Rattle.ob_command_laws.specs.PlainForms.{AreInRange, ArePlain, Argument, AsRecord, BySeed, ByTree, Chosen, Count, Finishing, Always, WithState, WithTurns, AsWhole, Has, IsLength, IsMost, IsPlace, IsSeenBudget, Lacks, ModuleAsksFor, Most, NamesBesideWhole, OfLength, OfTraps, OtherAsksFor, Range, RunAsksFor, SaysSearch, ScriptAsksFor, ScriptSays, Seen, Start, Told, Turns, WithSteps, always_with, argument_in, bound_options, budget_in, calls_with, chance_with, count_in, draw_options, explain_options, given_in, given_with_history, id_of, is_chosen, length_in, live_options, most_in, order_options, order_with, outcomes_options, outcomes_with, product_in, run_options, seed_in, seen_with, seq_options, seq_with, serve_options, state_options, text_of, turns_in, value_in, words_of}
use Rattle.ob_command.specs.declared.command.CallNumbers.{CallNumbers}
use Rattle.ob_command.specs.declared.command.OrderProduct.{OrderProduct}
use Rattle.ob_command.specs.declared.command.RunProduct.{RunProduct}
use Rattle.ob_command.specs.declared.command.OrderProduct.TheVariants.{Apart, Line, WholeRecord}
use Rattle.ob_command_laws.proofs.CommandForms.{bound_asks, draw_schedule_asks, draw_script_asks, explain_module_asks, explain_schedule_asks, explain_script_asks, live_asks, order_asks, order_said, outcomes_asks, outcomes_said, run_asks, run_script_asks, seq_asks, serve_asks, state_asks}
use Rattle.ob_command_laws.proofs.OptionRows.{given_as}

-- ---- options that are there, and that are not

no_value : (name : Text) (chosen : List Chosen) → is_chosen name chosen ≡ false → value_in name chosen ≡ None
no_value name [] none = refl
no_value name (one ∷ others) none = go (bytes_eq (id_of one) name) none (no_value name others)
  where
    go : (t : Bool) → (t || is_chosen name others) ≡ false → (is_chosen name others ≡ false → value_in name others ≡ None)
        → option_map text_of (if t then Some one else find (λ x. bytes_eq (id_of x) name) others) ≡ None
    go true h later = cc
    go false h later = later h

a_value : (name : Text) (chosen : List Chosen) → is_chosen name chosen ≡ true → is_some (value_in name chosen) ≡ true
a_value name [] is = cc
a_value name (one ∷ others) is = go (bytes_eq (id_of one) name) is (a_value name others)
  where
    go : (t : Bool) → (t || is_chosen name others) ≡ true → (is_chosen name others ≡ true → is_some (value_in name others) ≡ true)
        → is_some (option_map text_of (if t then Some one else find (λ x. bytes_eq (id_of x) name) others)) ≡ true
    go true h later = refl
    go false h later = later h

is_there : (t : Bool) (name : Text) (chosen : List Chosen) (k : ℕ) → count_in chosen ≡ Some k → is_chosen (codes "N") chosen ≡ t → t ≡ true
is_there true name chosen k is h = refl
is_there false name chosen k is h =
    let none : count_in chosen ≡ None = ap (option_and_then number) (no_value (codes "N") chosen h) in
    cc

counted : (chosen : List Chosen) (k : ℕ) → count_in chosen ≡ Some k → is_chosen (codes "N") chosen ≡ true
counted chosen k is = is_there (is_chosen (codes "N") chosen) (codes "N") chosen k is refl

no_count : (chosen : List Chosen) → is_chosen (codes "N") chosen ≡ false → count_in chosen ≡ None
no_count chosen none = ap (option_and_then number) (no_value (codes "N") chosen none)

no_turns : (chosen : List Chosen) → is_chosen (codes "BUDGET") chosen ≡ false → option_and_then budget_number (value_in (codes "BUDGET") chosen) ≡ None
no_turns chosen none = ap (option_and_then budget_number) (no_value (codes "BUDGET") chosen none)

no_most : (chosen : List Chosen) → is_chosen (codes "K") chosen ≡ false → most_in chosen ≡ None
no_most chosen none = ap (option_and_then budget_number) (no_value (codes "K") chosen none)

-- a value is there where the option is
some_value : (name : Text) (chosen : List Chosen) → is_some (value_in name chosen) ≡ is_chosen name chosen
some_value name chosen = go (is_chosen name chosen) refl
  where
    go : (t : Bool) → is_chosen name chosen ≡ t → is_some (value_in name chosen) ≡ is_chosen name chosen
    go true is = a_value name chosen is ∙ sym is
    go false none = ap is_some (no_value name chosen none) ∙ sym none

not_needed : (chosen : List Chosen) → false ≡ true → is_chosen (codes "N") chosen ≡ true
not_needed chosen h = cc

-- ---- the table, where these are given

abbrev asks : (command m : Text) → Given → Request
asks command m given = unwrap_or (asked command m given) Unclear

abbrev calls_as : (m s : Text) (k : ℕ) (t : Option ℕ) (f : Option Text) → CallsRequest
calls_as m s k t f = record { module_name = m; script_name = s; processes = k; budget = unwrap_or t default_budget; from_name = f }

abbrev run_as : (m s d : Text) (k : ℕ) (t : Option ℕ) (f : Option Text) → RunRequest
run_as m s d k t f = record { calls = calls_as m s k t f; schedule_name = d }

abbrev outcomes_as : (m s : Text) (k : ℕ) (t : Option ℕ) (f a : Option Text) (l : Bool) (q : Option ℕ) → OutcomesRequest
outcomes_as m s k t f a l q = record { calls = calls_as m s k t f; always = a; whole = l; most = unwrap_or q default_most_reached }

abbrev chance_as : (m s : Text) (k : ℕ) (t : Option ℕ) (f : Option Text) (seed : ℕ) (v : Option ℕ) (e : Bool) → ChanceRequest
chance_as m s k t f seed v e = record { calls = calls_as m s k t f; seed = seed; steps = unwrap_or v default_length; finish = e }

module _ (m s d : Text) (r h f c a : Option Text) (o t q g : Option ℕ) (w x y z : Bool) (u v : Option ℕ) (e i j l : Bool) where
  abbrev alone : Given
  alone = given_as None None r h f c a o t q g w x y z u v e i j l

  abbrev with_script : Given
  with_script = given_as (Some s) None r h f c a o t q g w x y z u v e i j l

  abbrev with_schedule : Given
  with_schedule = given_as (Some s) (Some d) r h f c a o t q g w x y z u v e i j l

  a_run : (k : ℕ) → o ≡ Some k → x ≡ false → y ≡ false → u ≡ None → v ≡ None → e ≡ false → asks (codes "run") m with_schedule ≡ Run (run_as m s d k t f)
  a_run k is_o is_x is_y is_u is_v is_e = rw (is_o, is_x, is_y, is_u, is_v, is_e) refl

  by_tree : (k : ℕ) → o ≡ Some k → x ≡ true → y ≡ false → f ≡ None → u ≡ None → v ≡ None → e ≡ false
      → asks (codes "run") m with_schedule ≡ RunTree (run_as m s d k t f)
  by_tree k is_o is_x is_y is_f is_u is_v is_e = rw (is_o, is_x, is_y, is_f, is_u, is_v, is_e) refl

  with_steps : (k : ℕ) → o ≡ Some k → y ≡ true → x ≡ false → u ≡ None → v ≡ None → e ≡ false
      → asks (codes "run") m with_schedule ≡ RunSteps (run_as m s d k t f)
  with_steps k is_o is_y is_x is_u is_v is_e = rw (is_o, is_x, is_y, is_u, is_v, is_e) refl

  finished : (k : ℕ) (product : RunProduct) → o ≡ Some k → u ≡ None → v ≡ None → e ≡ true → run_product x y (is_some f) ≡ Some product
      → asks (codes "run") m with_schedule ≡ RunFinished product (run_as m s d k t f)
  finished k product is_o is_u is_v is_e is =
      rw (is_o, is_u, is_v, is_e)
      (ap (λ (p : Option RunProduct). unwrap_or (option_and_then (λ one. Some (RunFinished one (run_as m s d k t f))) p) Unclear) is)

  by_chance : (k seed : ℕ) (product : RunProduct) → o ≡ Some k → u ≡ Some seed → option_map_or is_length v true ≡ true
      → run_product x y (is_some f) ≡ Some product
      → asks (codes "run") m with_script ≡ RunByChance product (chance_as m s k t f seed v e)
  by_chance k seed product is_o is_u is_v is =
      rw (is_o, is_u)
      (ap₂ (λ (b : Bool) (p : Option RunProduct). unwrap_or (if b then option_and_then (λ one. Some (RunByChance one (chance_as m s k t f seed v e))) p else None) Unclear) is_v is)

  served : (k : ℕ) → o ≡ Some k → asks (codes "serve") m with_script ≡ Serve (calls_as m s k t f)
  served k is_o = rw is_o refl

  stands : (k : ℕ) → o ≡ Some k → asks (codes "state") m with_schedule ≡ State (run_as m s d k t f)
  stands k is_o = rw is_o refl

  reached : (k : ℕ) → o ≡ Some k → option_map_or is_most q true ≡ true → (is_some a && l) ≡ false
      → asks (codes "outcomes") m with_script ≡ Outcomes (outcomes_as m s k t f a l q)
  reached k is_o is_q apart =
      rw is_o (ap₂ (λ (b p : Bool). unwrap_or (if b && not p then Some (Outcomes (outcomes_as m s k t f a l q)) else None) Unclear) is_q apart)

  bounded : (k : ℕ) → o ≡ Some k → asks (codes "bound") m alone ≡ Bound m k (unwrap_or t default_budget)
  bounded k is_o = rw is_o refl

  drawn : (k : ℕ) (calls : Option CallNumbers) → o ≡ Some k → q ≡ None → range_by c ≡ Some calls
      → asks (codes "draw") m with_schedule ≡ Draw (run_as m s d k t f) calls
  drawn k calls is_o is_q is_c = rw (is_o, is_q) (ap (λ u. unwrap_or (option_and_then (λ calls. Some (Draw (run_as m s d k t f) calls)) u) Unclear) is_c)

  record_drawn : (calls : Option CallNumbers) → range_by c ≡ Some calls → o ≡ None → t ≡ None → q ≡ None → f ≡ None
      → asks (codes "draw") m with_script ≡ DrawRecord m s calls
  record_drawn calls is_c is_o is_t is_q is_f =
      rw (is_o, is_t, is_q, is_f) (ap (λ u. unwrap_or (option_and_then (λ calls. Some (DrawRecord m s calls)) u) Unclear) is_c)

  explained : r ≡ None → h ≡ None → a ≡ None → f ≡ None → o ≡ None → z ≡ false → asks (codes "explain") m alone ≡ explain_alone m t
  explained is_r is_h is_a is_f is_o is_z = rw (is_r, is_h, is_a, is_f, is_o, is_z) refl

  record_explained : (q : Text) → r ≡ Some q → h ≡ None → f ≡ None → o ≡ None → t ≡ None → z ≡ false → a ≡ None
      → asks (codes "explain") m alone ≡ ExplainRecord m q
  record_explained q is_r is_h is_f is_o is_t is_z is_a = rw (is_r, is_h, is_f, is_o, is_t, is_z, is_a) refl

  record_traps_explained : (q : Text) → r ≡ Some q → z ≡ true → h ≡ None → f ≡ None → o ≡ None → t ≡ None → a ≡ None
      → asks (codes "explain") m alone ≡ ExplainRecordTraps m q
  record_traps_explained q is_r is_z is_h is_f is_o is_t is_a = rw (is_r, is_h, is_f, is_o, is_t, is_z, is_a) refl

  history_explained : (q : Text) → h ≡ Some q → r ≡ None → f ≡ None → o ≡ None → t ≡ None → z ≡ false → a ≡ None
      → asks (codes "explain") m alone ≡ ExplainHistory m q
  history_explained q is_h is_r is_f is_o is_t is_z is_a = rw (is_h, is_r, is_f, is_o, is_t, is_z, is_a) refl

  calls_explained : r ≡ None → h ≡ None → a ≡ None → o ≡ None → z ≡ false → asks (codes "explain") m with_script ≡ ExplainCalls (calls_as m s 16 t f)
  calls_explained is_r is_h is_a is_o is_z = rw (is_r, is_h, is_a, is_o, is_z) refl

  traps_explained : z ≡ true → r ≡ None → h ≡ None → a ≡ None → o ≡ None → asks (codes "explain") m with_script ≡ ExplainTraps (calls_as m s 16 t f)
  traps_explained is_z is_r is_h is_a is_o = rw (is_r, is_h, is_a, is_o, is_z) refl

  always_explained : (k : ℕ) (name : Text) → o ≡ Some k → a ≡ Some name → r ≡ None → h ≡ None → z ≡ false
      → asks (codes "explain") m with_script ≡ ExplainAlways (record { calls = calls_as m s k t f; name = name })
  always_explained k name is_o is_a is_r is_h is_z = rw (is_o, is_a, is_r, is_h, is_z) refl

  run_explained : (k : ℕ) → o ≡ Some k → r ≡ None → h ≡ None → a ≡ None → z ≡ false
      → asks (codes "explain") m with_schedule ≡ ExplainRun (run_as m s d k t f)
  run_explained k is_o is_r is_h is_a is_z = rw (is_r, is_h, is_a, is_o, is_z) refl

-- by the tree, with own steps or from a record, nothing is asked for
by_tree_none : (m s d : Text) (r h f c a : Option Text) (o t q g : Option ℕ) (w y z : Bool) (u v : Option ℕ) (e i j l : Bool) → run_product true y (is_some f) ≡ None
    → asks (codes "run") m (given_as (Some s) (Some d) r h f c a o t q g w true y z u v e i j l) ≡ Unclear
by_tree_none m s d r h None c a o t q g w true z None None true i j l none = refl
by_tree_none m s d r h None c a o t q g w true z None None false i j l none = refl
by_tree_none m s d r h None c a o t q g w true z None (Some length) true i j l none = refl
by_tree_none m s d r h None c a o t q g w true z None (Some length) false i j l none = refl
by_tree_none m s d r h None c a o t q g w true z (Some seed) None true i j l none = refl
by_tree_none m s d r h None c a o t q g w true z (Some seed) None false i j l none = refl
by_tree_none m s d r h None c a o t q g w true z (Some seed) (Some length) true i j l none = refl
by_tree_none m s d r h None c a o t q g w true z (Some seed) (Some length) false i j l none = refl
by_tree_none m s d r h (Some from) c a o t q g w true z None None true i j l none = refl
by_tree_none m s d r h (Some from) c a o t q g w true z None None false i j l none = refl
by_tree_none m s d r h (Some from) c a o t q g w true z None (Some length) true i j l none = refl
by_tree_none m s d r h (Some from) c a o t q g w true z None (Some length) false i j l none = refl
by_tree_none m s d r h (Some from) c a o t q g w true z (Some seed) None true i j l none = refl
by_tree_none m s d r h (Some from) c a o t q g w true z (Some seed) None false i j l none = refl
by_tree_none m s d r h (Some from) c a o t q g w true z (Some seed) (Some length) true i j l none = refl
by_tree_none m s d r h (Some from) c a o t q g w true z (Some seed) (Some length) false i j l none = refl
by_tree_none m s d r h (Some from) c a o t q g w false z None None true i j l none = refl
by_tree_none m s d r h (Some from) c a o t q g w false z None None false i j l none = refl
by_tree_none m s d r h (Some from) c a o t q g w false z None (Some length) true i j l none = refl
by_tree_none m s d r h (Some from) c a o t q g w false z None (Some length) false i j l none = refl
by_tree_none m s d r h (Some from) c a o t q g w false z (Some seed) None true i j l none = refl
by_tree_none m s d r h (Some from) c a o t q g w false z (Some seed) None false i j l none = refl
by_tree_none m s d r h (Some from) c a o t q g w false z (Some seed) (Some length) true i j l none = refl
by_tree_none m s d r h (Some from) c a o t q g w false z (Some seed) (Some length) false i j l none = refl
by_tree_none m s d r h None c a o t q g w false z u v e i j l none = cc

tree_alone : (m s d : Text) (r h f c a : Option Text) (o t q g : Option ℕ) (w x y z : Bool) (u v : Option ℕ) (e i j l : Bool) → x ≡ true → run_product true y (is_some f) ≡ None
    → asks (codes "run") m (given_as (Some s) (Some d) r h f c a o t q g w x y z u v e i j l) ≡ Unclear
tree_alone m s d r h f c a o t q g w x y z u v e i j l is_x none = rw is_x (by_tree_none m s d r h f c a o t q g w y z u v e i j l none)

no_product : (y : Bool) (f : Option Text) → is_some f ≡ true → run_product true y (is_some f) ≡ None
no_product true (Some a) is = refl
no_product false (Some a) is = refl
no_product y None is = cc

-- ---- what is given by options

abbrev told : List Chosen → Option Text
told = value_in (codes "RECORD")

abbrev seen : List Chosen → Option Text
seen = value_in (codes "HISTORY")

abbrev begun : List Chosen → Option Text
begun = value_in (codes "FROM")

abbrev shown : List Chosen → Option Text
shown = value_in (codes "FROM-TO")

abbrev spent : List Chosen → Option ℕ
spent chosen = option_and_then budget_number (value_in (codes "BUDGET") chosen)

abbrev looked : List Chosen → Option ℕ
looked = most_in

abbrev parted : List Chosen → Option ℕ
parted = argument_in

abbrev recorded : List Chosen → Bool
recorded = is_chosen (codes "record")

abbrev treed : List Chosen → Bool
treed = is_chosen (codes "tree")

abbrev stepped : List Chosen → Bool
stepped = is_chosen (codes "steps")

abbrev trapped : List Chosen → Bool
trapped = is_chosen (codes "traps")

abbrev seeded : List Chosen → Option ℕ
seeded = seed_in

abbrev lengthened : List Chosen → Option ℕ
lengthened = length_in

abbrev ended : List Chosen → Bool
ended = is_chosen (codes "finish")

abbrev named : List Chosen → Option Text
named = value_in (codes "NAME")

abbrev stated : List Chosen → Bool
stated = is_chosen (codes "state")

abbrev timed : List Chosen → Bool
timed = is_chosen (codes "turns")

abbrev wholly : List Chosen → Bool
wholly = is_chosen (codes "whole")

no_seed : (chosen : List Chosen) → is_chosen (codes "S") chosen ≡ false → seed_in chosen ≡ None
no_seed chosen none = ap (option_and_then seed_number) (no_value (codes "S") chosen none)

no_length : (chosen : List Chosen) → is_chosen (codes "LENGTH") chosen ≡ false → length_in chosen ≡ None
no_length chosen none = ap (option_and_then budget_number) (no_value (codes "LENGTH") chosen none)

-- ---- so much for the words

pub seq_form : ScriptAsksFor (codes "seq") seq_options (Lacks []) (λ m s chosen. Seq (seq_with m s chosen))
seq_form m s chosen no_m no_s plain lacks = seq_asks m s chosen no_m no_s plain (not_needed chosen)

pub run_form : RunAsksFor (codes "run") run_options (Lacks (codes "tree" ∷ codes "steps" ∷ codes "S" ∷ codes "LENGTH" ∷ codes "finish" ∷ [])) Run
run_form m s d chosen k no_m no_s no_d plain count lacks =
    run_asks m s d chosen no_m no_s no_d plain (λ e. counted chosen k count)
    ∙ a_run m s d (told chosen) (seen chosen) (begun chosen) (shown chosen) (named chosen) (count_in chosen) (spent chosen) (looked chosen) (parted chosen) (recorded chosen) (treed chosen) (stepped chosen) (trapped chosen) (seeded chosen) (lengthened chosen) (ended chosen) (stated chosen) (timed chosen) (wholly chosen) k count lacks.0 lacks.1.0 (no_seed chosen lacks.1.1.0) (no_length chosen lacks.1.1.1.0) lacks.1.1.1.1.0

pub tree_form : RunAsksFor (codes "run") run_options (λ chosen. Has (codes "tree") chosen × Lacks (codes "steps" ∷ codes "FROM" ∷ codes "S" ∷ codes "LENGTH" ∷ codes "finish" ∷ []) chosen) RunTree
tree_form m s d chosen k no_m no_s no_d plain count holds =
    run_asks m s d chosen no_m no_s no_d plain (λ e. counted chosen k count)
    ∙ by_tree m s d (told chosen) (seen chosen) (begun chosen) (shown chosen) (named chosen) (count_in chosen) (spent chosen) (looked chosen) (parted chosen) (recorded chosen) (treed chosen) (stepped chosen) (trapped chosen) (seeded chosen) (lengthened chosen) (ended chosen) (stated chosen) (timed chosen) (wholly chosen) k count holds.0 holds.1.0 (no_value (codes "FROM") chosen holds.1.1.0) (no_seed chosen holds.1.1.1.0) (no_length chosen holds.1.1.1.1.0) holds.1.1.1.1.1.0

pub steps_form : RunAsksFor (codes "run") run_options (λ chosen. Has (codes "steps") chosen × Lacks (codes "tree" ∷ codes "S" ∷ codes "LENGTH" ∷ codes "finish" ∷ []) chosen) RunSteps
steps_form m s d chosen k no_m no_s no_d plain count holds =
    run_asks m s d chosen no_m no_s no_d plain (λ e. counted chosen k count)
    ∙ with_steps m s d (told chosen) (seen chosen) (begun chosen) (shown chosen) (named chosen) (count_in chosen) (spent chosen) (looked chosen) (parted chosen) (recorded chosen) (treed chosen) (stepped chosen) (trapped chosen) (seeded chosen) (lengthened chosen) (ended chosen) (stated chosen) (timed chosen) (wholly chosen) k count holds.0 holds.1.0 (no_seed chosen holds.1.1.0) (no_length chosen holds.1.1.1.0) holds.1.1.1.1.0

pub finish_form : (product : RunProduct) → RunAsksFor (codes "run") run_options
    (λ chosen. Has (codes "finish") chosen × Lacks (codes "S" ∷ codes "LENGTH" ∷ []) chosen × (product_in chosen ≡ Some product)) (RunFinished product)
finish_form product m s d chosen k no_m no_s no_d plain count holds =
    run_asks m s d chosen no_m no_s no_d plain (λ e. counted chosen k count)
    ∙ finished m s d (told chosen) (seen chosen) (begun chosen) (shown chosen) (named chosen) (count_in chosen) (spent chosen) (looked chosen) (parted chosen) (recorded chosen) (treed chosen) (stepped chosen) (trapped chosen) (seeded chosen) (lengthened chosen) (ended chosen) (stated chosen) (timed chosen) (wholly chosen) k product count (no_seed chosen holds.1.0) (no_length chosen holds.1.1.0) holds.0 holds.2

pub chance_form : (product : RunProduct) (k seed : ℕ) → ScriptAsksFor (codes "run") run_options
    (λ chosen. (count_in chosen ≡ Some k) × (seed_in chosen ≡ Some seed) × IsLength chosen × (product_in chosen ≡ Some product))
    (λ m s chosen. RunByChance product (chance_with m s k seed chosen))
chance_form product k seed m s chosen no_m no_s plain holds =
    run_script_asks m s chosen no_m no_s plain (λ e. counted chosen k holds.0)
    ∙ by_chance m s [] (told chosen) (seen chosen) (begun chosen) (shown chosen) (named chosen) (count_in chosen) (spent chosen) (looked chosen) (parted chosen) (recorded chosen) (treed chosen) (stepped chosen) (trapped chosen) (seeded chosen) (lengthened chosen) (ended chosen) (stated chosen) (timed chosen) (wholly chosen) k seed product holds.0 holds.1 holds.2 holds.3

pub tree_steps_form : RunAsksFor (codes "run") run_options (λ chosen. Has (codes "tree") chosen × Has (codes "steps") chosen) (λ run. Unclear)
tree_steps_form m s d chosen k no_m no_s no_d plain count holds =
    run_asks m s d chosen no_m no_s no_d plain (λ e. counted chosen k count)
    ∙ tree_alone m s d (told chosen) (seen chosen) (begun chosen) (shown chosen) (named chosen) (count_in chosen) (spent chosen) (looked chosen) (parted chosen) (recorded chosen) (treed chosen) (stepped chosen) (trapped chosen) (seeded chosen) (lengthened chosen) (ended chosen) (stated chosen) (timed chosen) (wholly chosen) holds.0 (ap (λ (y : Bool). run_product true y (is_some (begun chosen))) holds.1)

pub tree_from_form : RunAsksFor (codes "run") run_options (λ chosen. Has (codes "tree") chosen × Has (codes "FROM") chosen) (λ run. Unclear)
tree_from_form m s d chosen k no_m no_s no_d plain count holds =
    run_asks m s d chosen no_m no_s no_d plain (λ e. counted chosen k count)
    ∙ tree_alone m s d (told chosen) (seen chosen) (begun chosen) (shown chosen) (named chosen) (count_in chosen) (spent chosen) (looked chosen) (parted chosen) (recorded chosen) (treed chosen) (stepped chosen) (trapped chosen) (seeded chosen) (lengthened chosen) (ended chosen) (stated chosen) (timed chosen) (wholly chosen) holds.0 (no_product (stepped chosen) (begun chosen) (a_value (codes "FROM") chosen holds.1))

pub serve_form : (k : ℕ) → ScriptAsksFor (codes "serve") serve_options (λ chosen. count_in chosen ≡ Some k) (λ m s chosen. Serve (calls_with m s k chosen))
serve_form k m s chosen no_m no_s plain count =
    serve_asks m s chosen no_m no_s plain (λ e. counted chosen k count) ∙ served m s [] (told chosen) (seen chosen) (begun chosen) (shown chosen) (named chosen) (count_in chosen) (spent chosen) (looked chosen) (parted chosen) (recorded chosen) (treed chosen) (stepped chosen) (trapped chosen) (seeded chosen) (lengthened chosen) (ended chosen) (stated chosen) (timed chosen) (wholly chosen) k count

pub state_form : RunAsksFor (codes "state") state_options (Lacks []) State
state_form m s d chosen k no_m no_s no_d plain count lacks =
    state_asks m s d chosen no_m no_s no_d plain (λ e. counted chosen k count)
    ∙ stands m s d (told chosen) (seen chosen) (begun chosen) (shown chosen) (named chosen) (count_in chosen) (spent chosen) (looked chosen) (parted chosen) (recorded chosen) (treed chosen) (stepped chosen) (trapped chosen) (seeded chosen) (lengthened chosen) (ended chosen) (stated chosen) (timed chosen) (wholly chosen) k count

-- no procedure is named beside `--whole`
both_false : (a b : Bool) → ((a ≡ true) × (b ≡ true) → ⊥) → (a && b) ≡ false
both_false true true h = absurd (h (refl, refl))
both_false true false h = refl
both_false false b h = refl

apart : (chosen : List Chosen) → (NamesBesideWhole chosen → ⊥) → (is_some (named chosen) && wholly chosen) ≡ false
apart chosen h =
    ap (λ (t : Bool). t && wholly chosen) (some_value (codes "NAME") chosen) ∙ both_false (is_chosen (codes "NAME") chosen) (wholly chosen) h

pub outcomes_form : (k : ℕ) → ScriptAsksFor (codes "outcomes") outcomes_options
    (λ chosen. (count_in chosen ≡ Some k) × IsMost chosen × (NamesBesideWhole chosen → ⊥)) (λ m s chosen. Outcomes (outcomes_with m s k chosen))
outcomes_form k m s chosen no_m no_s plain holds =
    outcomes_asks m s chosen no_m no_s plain (λ e. counted chosen k holds.0)
    ∙ reached m s [] (told chosen) (seen chosen) (begun chosen) (shown chosen) (named chosen) (count_in chosen) (spent chosen) (looked chosen) (parted chosen) (recorded chosen) (treed chosen) (stepped chosen) (trapped chosen) (seeded chosen) (lengthened chosen) (ended chosen) (stated chosen) (timed chosen) (wholly chosen) k holds.0 holds.1 (apart chosen holds.2)

-- nothing is asked for where what is given does not go together
not_reached : (m s : Text) (chosen : List Chosen) → are_reached (given_in (Some s) None chosen) ≡ false
    → asks (codes "outcomes") m (given_in (Some s) None chosen) ≡ Unclear
not_reached m s chosen out =
    ap (λ (t : Bool). unwrap_or (if t then outcomes_by m (given_in (Some s) None chosen) else None) Unclear) out

is_not : (t : Bool) → (t ≡ true → ⊥) → t ≡ false
is_not true h = absurd (h refl)
is_not false h = refl

pub outcomes_most_said : ScriptSays (codes "outcomes") outcomes_options (λ chosen. Has (codes "N") chosen × (IsMost chosen → ⊥)) most_mistake
outcomes_most_said m s chosen no_m no_s plain holds =
    let out = is_not (option_map_or is_most (most_in chosen) true) holds.1 in (
      outcomes_asks m s chosen no_m no_s plain (λ e. holds.0)
          ∙ not_reached m s chosen (ap (λ (t : Bool). t && not (is_some (named chosen) && wholly chosen)) out),
      outcomes_said m s chosen no_m no_s plain holds.0 ∙ ap (λ (t : Bool). Some (if t then whole_mistake else most_mistake)) out,
    )

pub outcomes_whole_said : ScriptSays (codes "outcomes") outcomes_options
    (λ chosen. Has (codes "N") chosen × IsMost chosen × NamesBesideWhole chosen) whole_mistake
outcomes_whole_said m s chosen no_m no_s plain holds = (
  outcomes_asks m s chosen no_m no_s plain (λ e. holds.0)
      ∙ not_reached m s chosen (ap₂ (λ (t u : Bool). t && not u) holds.1
      (ap₂ (λ (t u : Bool). t && u) (a_value (codes "NAME") chosen holds.2.0) holds.2.1)),
  outcomes_said m s chosen no_m no_s plain holds.0 ∙ ap (λ (t : Bool). Some (if t then whole_mistake else most_mistake)) holds.1,
)

pub live_form : ModuleAsksFor (codes "live") live_options (Lacks []) (λ m chosen. Live (calls_with m (codes "-") 16 chosen))
live_form m chosen no_m plain lacks = live_asks m chosen no_m plain (not_needed chosen)

pub bound_form : (k : ℕ) → ModuleAsksFor (codes "bound") bound_options (λ chosen. count_in chosen ≡ Some k) (λ m chosen. Bound m k (turns_in chosen))
bound_form k m chosen no_m plain count = bound_asks m chosen no_m plain (λ e. counted chosen k count) ∙ bounded m [] [] (told chosen) (seen chosen) (begun chosen) (shown chosen) (named chosen) (count_in chosen) (spent chosen) (looked chosen) (parted chosen) (recorded chosen) (treed chosen) (stepped chosen) (trapped chosen) (seeded chosen) (lengthened chosen) (ended chosen) (stated chosen) (timed chosen) (wholly chosen) k count

pub draw_form : (calls : Option CallNumbers) → RunAsksFor (codes "draw") draw_options
    (λ chosen. (range_by (value_in (codes "FROM-TO") chosen) ≡ Some calls) × Lacks (codes "K" ∷ []) chosen) (λ run. Draw run calls)
draw_form calls m s d chosen k no_m no_s no_d plain count holds =
    draw_schedule_asks m s d chosen no_m no_s no_d plain (not_needed chosen) ∙ drawn m s d (told chosen) (seen chosen) (begun chosen) (shown chosen) (named chosen) (count_in chosen) (spent chosen) (looked chosen) (parted chosen) (recorded chosen) (treed chosen) (stepped chosen) (trapped chosen) (seeded chosen) (lengthened chosen) (ended chosen) (stated chosen) (timed chosen) (wholly chosen) k calls count (no_most chosen holds.1.0) holds.0

pub draw_record_form : (calls : Option CallNumbers) → ScriptAsksFor (codes "draw") draw_options
    (λ chosen. (range_by (value_in (codes "FROM-TO") chosen) ≡ Some calls) × Lacks (codes "N" ∷ codes "BUDGET" ∷ codes "FROM" ∷ codes "K" ∷ []) chosen)
    (λ m r chosen. DrawRecord m r calls)
draw_record_form calls m r chosen no_m no_r plain holds =
    draw_script_asks m r chosen no_m no_r plain (not_needed chosen)
    ∙ record_drawn m r [] (told chosen) (seen chosen) (begun chosen) (shown chosen) (named chosen) (count_in chosen) (spent chosen) (looked chosen) (parted chosen) (recorded chosen) (treed chosen) (stepped chosen) (trapped chosen) (seeded chosen) (lengthened chosen) (ended chosen) (stated chosen) (timed chosen) (wholly chosen) calls holds.0 (no_count chosen holds.1.0) (no_turns chosen holds.1.1.0) (no_most chosen holds.1.1.1.1.0) (no_value (codes "FROM") chosen holds.1.1.1.0)

-- three tests hold, or one does not
all_three : (a b c : Bool) → a ≡ true → b ≡ true → c ≡ true → (a && b && c) ≡ true
all_three a b c is_a is_b is_c = rw (is_a, is_b, is_c) refl

is_false : (t : Bool) → (t ≡ true → ⊥) → t ≡ false
is_false true h = absurd (h refl)
is_false false h = refl

first_out : (a b c : Bool) → a ≡ false → (a && b && c) ≡ false
first_out a b c h = ap (λ (t : Bool). t && b && c) h

second_out : (a b c : Bool) → b ≡ false → (a && b && c) ≡ false
second_out true b c h = ap (λ (t : Bool). t && c) h
second_out false b c h = refl

third_out : (a b c : Bool) → c ≡ false → (a && b && c) ≡ false
third_out true true c h = h
third_out true false c h = refl
third_out false b c h = refl

-- what is said by the tests of the number of configurations, of the budget and of the place of an argument
abbrev mistake_by : (most budget place : Bool) → Text
mistake_by most budget place =
    if not most then most_mistake else if not budget then seen_budget_mistake else if not place then place_mistake else parts_mistake

no_argument : (chosen : List Chosen) → is_chosen (codes "BY") chosen ≡ false → argument_in chosen ≡ None
no_argument chosen none = ap (option_and_then number) (no_value (codes "BY") chosen none)

plain_number : (names : List Text) (chosen : List Chosen) → ArePlain names chosen → is_chosen (codes "BY") chosen ≡ true → is_some (argument_in chosen) ≡ true
plain_number names [] plain is = cc
plain_number names (Count n ∷ others) plain is = plain_number names others plain.3 is
plain_number names (Turns short b ∷ others) plain is = plain_number names others plain.3 is
plain_number names (Most k ∷ others) plain is = plain_number names others plain.3 is
plain_number names (Argument n ∷ others) plain is = plain.1
plain_number names (Start f ∷ others) plain is = plain_number names others plain.3 is
plain_number names (Range c ∷ others) plain is = plain_number names others plain.3 is
plain_number names (Told r ∷ others) plain is = plain_number names others plain.3 is
plain_number names (Seen h ∷ others) plain is = plain_number names others plain.3 is
plain_number names (ByTree ∷ others) plain is = plain_number names others plain.3 is
plain_number names (WithSteps ∷ others) plain is = plain_number names others plain.3 is
plain_number names (OfTraps ∷ others) plain is = plain_number names others plain.3 is
plain_number names (AsRecord ∷ others) plain is = plain_number names others plain.3 is
plain_number names (BySeed v ∷ others) plain is = plain_number names others plain.3 is
plain_number names (OfLength j ∷ others) plain is = plain_number names others plain.3 is
plain_number names (Finishing ∷ others) plain is = plain_number names others plain.3 is
plain_number names (Always a ∷ others) plain is = plain_number names others plain.3 is
plain_number names (WithState ∷ others) plain is = plain_number names others plain.3 is
plain_number names (WithTurns ∷ others) plain is = plain_number names others plain.3 is
plain_number names (AsWhole ∷ others) plain is = plain_number names others plain.3 is

no_parts : (t : Bool) (argument : Option ℕ) → t ≡ true → is_some argument ≡ true → product_by t argument ≡ None
no_parts t None is some = cc
no_parts true (Some place) is some = refl
no_parts false (Some place) is some = cc

module _ (m h : Text) (chosen : List Chosen) where
  abbrev given : Given
  given = given_with_history h chosen

  order_when : (t : Bool) (product : Option OrderProduct) → are_seen given ≡ t → product_by (recorded chosen) (parted chosen) ≡ product
      → asks (codes "order") m given ≡ unwrap_or (if t then option_and_then (order_by m given) product else None) Unclear
  order_when t product seen is =
      ap₂ (λ (t : Bool) (product : Option OrderProduct). unwrap_or (if t then option_and_then (order_by m given) product else None) Unclear) seen is

  -- the tests of the numbers
  abbrev budget_is : Bool
  budget_is = option_map_or is_seen_budget (budget_in chosen) true

  abbrev most_is : Bool
  most_is = option_map_or is_most (most_in chosen) true

  abbrev place_is : Bool
  place_is = option_map_or is_place (argument_in chosen) true

  in_range : AreInRange chosen → are_seen given ≡ true
  in_range range = all_three budget_is most_is place_is range.0 range.1 range.2

  -- nothing is asked for where one of them fails
  out_of_range : are_seen given ≡ false → asks (codes "order") m given ≡ Unclear
  out_of_range out = order_when false (product_by (recorded chosen) (parted chosen)) out refl

pub order_line : ScriptAsksFor (codes "order") order_options (λ chosen. AreInRange chosen × Lacks (codes "record" ∷ codes "BY" ∷ []) chosen)
    (λ m h chosen. Order (order_with m h chosen Line))
order_line m h chosen no_m no_h plain holds =
    order_asks m h chosen no_m no_h plain
    ∙ order_when m h chosen true (Some Line) (in_range m h chosen holds.0) (ap₂ product_by holds.1.0 (no_argument chosen holds.1.1.0))

pub order_record : ScriptAsksFor (codes "order") order_options (λ chosen. AreInRange chosen × Has (codes "record") chosen × Lacks (codes "BY" ∷ []) chosen)
    (λ m h chosen. Order (order_with m h chosen WholeRecord))
order_record m h chosen no_m no_h plain holds =
    order_asks m h chosen no_m no_h plain
    ∙ order_when m h chosen true (Some WholeRecord) (in_range m h chosen holds.0) (ap₂ product_by holds.1 (no_argument chosen holds.2.0))

pub order_parts : (place : ℕ) → ScriptAsksFor (codes "order") order_options
    (λ chosen. AreInRange chosen × (argument_in chosen ≡ Some place) × Lacks (codes "record" ∷ []) chosen) (λ m h chosen. Order (order_with m h chosen (Apart place)))
order_parts place m h chosen no_m no_h plain holds =
    order_asks m h chosen no_m no_h plain
    ∙ order_when m h chosen true (Some (Apart place)) (in_range m h chosen holds.0) (ap₂ product_by holds.2.0 holds.1)

pub order_most_said : ScriptSays (codes "order") order_options (λ chosen. IsMost chosen → ⊥) most_mistake
order_most_said m h chosen no_m no_h plain holds =
    let out = is_false (most_is m h chosen) holds in (
      order_asks m h chosen no_m no_h plain
          ∙ out_of_range m h chosen (second_out (budget_is m h chosen) (most_is m h chosen) (place_is m h chosen) out),
      order_said m h chosen no_m no_h plain ∙ ap (λ (t : Bool). Some (mistake_by t (budget_is m h chosen) (place_is m h chosen))) out,
    )

pub order_budget_said : ScriptSays (codes "order") order_options (λ chosen. IsMost chosen × (IsSeenBudget chosen → ⊥)) seen_budget_mistake
order_budget_said m h chosen no_m no_h plain holds =
    let out = is_false (budget_is m h chosen) holds.1 in (
      order_asks m h chosen no_m no_h plain
          ∙ out_of_range m h chosen (first_out (budget_is m h chosen) (most_is m h chosen) (place_is m h chosen) out),
      order_said m h chosen no_m no_h plain ∙ ap₂ (λ (t u : Bool). Some (mistake_by t u (place_is m h chosen))) holds.0 out,
    )

pub order_place_said : ScriptSays (codes "order") order_options (λ chosen. IsMost chosen × IsSeenBudget chosen × (IsPlace chosen → ⊥)) place_mistake
order_place_said m h chosen no_m no_h plain holds =
    let out = is_false (place_is m h chosen) holds.2 in (
      order_asks m h chosen no_m no_h plain
          ∙ out_of_range m h chosen (third_out (budget_is m h chosen) (most_is m h chosen) (place_is m h chosen) out),
      order_said m h chosen no_m no_h plain
          ∙ (ap₂ (λ (t u : Bool). Some (mistake_by t u (place_is m h chosen))) holds.0 holds.1
          ∙ ap (λ (t : Bool). Some (mistake_by true true t)) out),
    )

pub order_parts_said : ScriptSays (codes "order") order_options (λ chosen. AreInRange chosen × Has (codes "record") chosen × Has (codes "BY") chosen) parts_mistake
order_parts_said m h chosen no_m no_h plain holds = (
  order_asks m h chosen no_m no_h plain
      ∙ order_when m h chosen true None (in_range m h chosen holds.0)
      (no_parts (recorded chosen) (parted chosen) holds.1 (plain_number order_options chosen plain holds.2)),
  order_said m h chosen no_m no_h plain
      ∙ (ap₂ (λ (t u : Bool). Some (mistake_by t u (place_is m h chosen))) holds.0.1 holds.0.0
      ∙ ap (λ (t : Bool). Some (mistake_by true true t)) holds.0.2),
)

-- ---- the picture of a history

abbrev seen_as : (m h : Text) (t q : Option ℕ) (calls : Option CallNumbers) → SeenRequest
seen_as m h t q calls = record { module_name = m; history_name = h; budget = t; most = unwrap_or q default_most; calls = calls }

-- the second form lacks what says how to search, and so the third one is found
history_drawn : (m s : Text) (r h c a : Option Text) (t q : Option ℕ) (w x y z : Bool) (u v : Option ℕ) (e i j l : Bool) (calls : Option CallNumbers)
    → range_by c ≡ Some calls → (is_some t ≡ true) ⊎ (is_some q ≡ true) → option_map_or is_seen_budget t true ≡ true → option_map_or is_most q true ≡ true
    → asks (codes "draw") m (given_as (Some s) None r h None c a None t q None w x y z u v e i j l) ≡ DrawHistory (seen_as m s t q calls)
history_drawn m s r h c a (Some b) q w x y z u v e i j l calls is_c one is_b is_q =
    ap₂ (λ (n o : Bool). unwrap_or (if (n && o && true) then option_and_then (λ calls. Some (DrawHistory (seen_as m s (Some b) q calls))) (range_by c) else None) Unclear) is_b is_q
    ∙ ap (λ (k : Option (Option CallNumbers)). unwrap_or (option_and_then (λ calls. Some (DrawHistory (seen_as m s (Some b) q calls))) k) Unclear) is_c
history_drawn m s r h c a None (Some k) w x y z u v e i j l calls is_c one is_b is_q =
    ap (λ (o : Bool). unwrap_or (if (true && o && true) then option_and_then (λ calls. Some (DrawHistory (seen_as m s None (Some k) calls))) (range_by c) else None) Unclear) is_q
    ∙ ap (λ (n : Option (Option CallNumbers)). unwrap_or (option_and_then (λ calls. Some (DrawHistory (seen_as m s None (Some k) calls))) n) Unclear) is_c
history_drawn m s r h c a None None w x y z u v e i j l calls is_c (inl is) is_b is_q = cc
history_drawn m s r h c a None None w x y z u v e i j l calls is_c (inr is) is_b is_q = cc

history_given : (m s : Text) (r h f c a : Option Text) (o t q g : Option ℕ) (w x y z : Bool) (u v : Option ℕ) (e i j l : Bool) (calls : Option CallNumbers)
    → range_by c ≡ Some calls → (is_some t ≡ true) ⊎ (is_some q ≡ true) → option_map_or is_seen_budget t true ≡ true → option_map_or is_most q true ≡ true
    → o ≡ None → f ≡ None → g ≡ None
    → asks (codes "draw") m (given_as (Some s) None r h f c a o t q g w x y z u v e i j l) ≡ DrawHistory (seen_as m s t q calls)
history_given m s r h f c a o t q g w x y z u v e i j l calls is_c one is_b is_q is_o is_f is_g =
    rw (is_o, is_f, is_g) (history_drawn m s r h c a t q w x y z u v e i j l calls is_c one is_b is_q)

plain_turns : (names : List Text) (chosen : List Chosen) → ArePlain names chosen → is_chosen (codes "BUDGET") chosen ≡ true → is_some (budget_in chosen) ≡ true
plain_turns names [] plain is = cc
plain_turns names (Count n ∷ others) plain is = plain_turns names others plain.3 is
plain_turns names (Turns short b ∷ others) plain is = plain.1
plain_turns names (Most k ∷ others) plain is = plain_turns names others plain.3 is
plain_turns names (Argument n ∷ others) plain is = plain_turns names others plain.3 is
plain_turns names (Start f ∷ others) plain is = plain_turns names others plain.3 is
plain_turns names (Range c ∷ others) plain is = plain_turns names others plain.3 is
plain_turns names (Told r ∷ others) plain is = plain_turns names others plain.3 is
plain_turns names (Seen h ∷ others) plain is = plain_turns names others plain.3 is
plain_turns names (ByTree ∷ others) plain is = plain_turns names others plain.3 is
plain_turns names (WithSteps ∷ others) plain is = plain_turns names others plain.3 is
plain_turns names (OfTraps ∷ others) plain is = plain_turns names others plain.3 is
plain_turns names (AsRecord ∷ others) plain is = plain_turns names others plain.3 is
plain_turns names (BySeed v ∷ others) plain is = plain_turns names others plain.3 is
plain_turns names (OfLength k ∷ others) plain is = plain_turns names others plain.3 is
plain_turns names (Finishing ∷ others) plain is = plain_turns names others plain.3 is
plain_turns names (Always a ∷ others) plain is = plain_turns names others plain.3 is
plain_turns names (WithState ∷ others) plain is = plain_turns names others plain.3 is
plain_turns names (WithTurns ∷ others) plain is = plain_turns names others plain.3 is
plain_turns names (AsWhole ∷ others) plain is = plain_turns names others plain.3 is

plain_most : (names : List Text) (chosen : List Chosen) → ArePlain names chosen → is_chosen (codes "K") chosen ≡ true → is_some (most_in chosen) ≡ true
plain_most names [] plain is = cc
plain_most names (Count n ∷ others) plain is = plain_most names others plain.3 is
plain_most names (Turns short b ∷ others) plain is = plain_most names others plain.3 is
plain_most names (Most k ∷ others) plain is = plain.1
plain_most names (Argument n ∷ others) plain is = plain_most names others plain.3 is
plain_most names (Start f ∷ others) plain is = plain_most names others plain.3 is
plain_most names (Range c ∷ others) plain is = plain_most names others plain.3 is
plain_most names (Told r ∷ others) plain is = plain_most names others plain.3 is
plain_most names (Seen h ∷ others) plain is = plain_most names others plain.3 is
plain_most names (ByTree ∷ others) plain is = plain_most names others plain.3 is
plain_most names (WithSteps ∷ others) plain is = plain_most names others plain.3 is
plain_most names (OfTraps ∷ others) plain is = plain_most names others plain.3 is
plain_most names (AsRecord ∷ others) plain is = plain_most names others plain.3 is
plain_most names (BySeed v ∷ others) plain is = plain_most names others plain.3 is
plain_most names (OfLength k ∷ others) plain is = plain_most names others plain.3 is
plain_most names (Finishing ∷ others) plain is = plain_most names others plain.3 is
plain_most names (Always a ∷ others) plain is = plain_most names others plain.3 is
plain_most names (WithState ∷ others) plain is = plain_most names others plain.3 is
plain_most names (WithTurns ∷ others) plain is = plain_most names others plain.3 is
plain_most names (AsWhole ∷ others) plain is = plain_most names others plain.3 is

-- `--by` does not stand behind `draw`
never_parted : (chosen : List Chosen) → ArePlain draw_options chosen → is_chosen (codes "BY") chosen ≡ false
never_parted [] plain = refl
never_parted (Count n ∷ others) plain = never_parted others plain.3
never_parted (Turns short b ∷ others) plain = never_parted others plain.3
never_parted (Most k ∷ others) plain = never_parted others plain.3
never_parted (Argument n ∷ others) plain = let bad : false ≡ true = plain.0 in cc
never_parted (Start f ∷ others) plain = never_parted others plain.3
never_parted (Range c ∷ others) plain = never_parted others plain.3
never_parted (Told r ∷ others) plain = never_parted others plain.3
never_parted (Seen h ∷ others) plain = never_parted others plain.3
never_parted (ByTree ∷ others) plain = never_parted others plain.3
never_parted (WithSteps ∷ others) plain = never_parted others plain.3
never_parted (OfTraps ∷ others) plain = never_parted others plain.3
never_parted (AsRecord ∷ others) plain = never_parted others plain.3
never_parted (BySeed v ∷ others) plain = never_parted others plain.3
never_parted (OfLength k ∷ others) plain = never_parted others plain.3
never_parted (Finishing ∷ others) plain = never_parted others plain.3
never_parted (Always a ∷ others) plain = never_parted others plain.3
never_parted (WithState ∷ others) plain = never_parted others plain.3
never_parted (WithTurns ∷ others) plain = never_parted others plain.3
never_parted (AsWhole ∷ others) plain = never_parted others plain.3

search_said : (chosen : List Chosen) → ArePlain draw_options chosen → SaysSearch chosen
    → (is_some (budget_in chosen) ≡ true) ⊎ (is_some (most_in chosen) ≡ true)
search_said chosen plain (inl turns) = inl (plain_turns draw_options chosen plain turns)
search_said chosen plain (inr most) = inr (plain_most draw_options chosen plain most)

pub draw_history_form : (calls : Option CallNumbers) → ScriptAsksFor (codes "draw") draw_options
    (λ chosen. (range_by (value_in (codes "FROM-TO") chosen) ≡ Some calls) × IsSeenBudget chosen × IsMost chosen × SaysSearch chosen
    × Lacks (codes "N" ∷ codes "FROM" ∷ []) chosen)
    (λ m h chosen. DrawHistory (seen_with m h chosen calls))
draw_history_form calls m h chosen no_m no_h plain holds =
    draw_script_asks m h chosen no_m no_h plain (not_needed chosen)
    ∙ history_given m h (told chosen) (seen chosen) (begun chosen) (shown chosen) (named chosen) (count_in chosen) (spent chosen) (looked chosen) (parted chosen) (recorded chosen) (treed chosen) (stepped chosen) (trapped chosen) (seeded chosen) (lengthened chosen) (ended chosen) (stated chosen) (timed chosen) (wholly chosen) calls
    holds.0 (search_said chosen plain holds.3) holds.1 holds.2 (no_count chosen holds.4.0) (no_value (codes "FROM") chosen holds.4.1.0)
    (no_argument chosen (never_parted chosen plain))

-- what one name asks for
alone_asks : (m : Text) (chosen : List Chosen) → is_option m ≡ false → ArePlain explain_options chosen
    → Lacks (codes "RECORD" ∷ codes "HISTORY" ∷ codes "NAME" ∷ codes "FROM" ∷ codes "N" ∷ codes "traps" ∷ []) chosen
    → request (codes "explain" ∷ m ∷ words_of chosen) ≡ explain_alone m (budget_in chosen)
alone_asks m chosen no_m plain lacks =
    explain_module_asks m chosen no_m plain (not_needed chosen)
    ∙ explained m [] [] (told chosen) (seen chosen) (begun chosen) (shown chosen) (named chosen) (count_in chosen) (spent chosen) (looked chosen) (parted chosen) (recorded chosen) (treed chosen) (stepped chosen) (trapped chosen) (seeded chosen) (lengthened chosen) (ended chosen) (stated chosen) (timed chosen) (wholly chosen) (no_value (codes "RECORD") chosen lacks.0) (no_value (codes "HISTORY") chosen lacks.1.0)
    (no_value (codes "NAME") chosen lacks.1.1.0) (no_value (codes "FROM") chosen lacks.1.1.1.0) (no_count chosen lacks.1.1.1.1.0) lacks.1.1.1.1.1.0

-- of a name that is that of no fault, or with a budget beside it, a module is explained
other_name : (m : Text) (t : Option ℕ) → names_fault m ≡ false → explain_alone m t ≡ Explain m (unwrap_or t default_budget)
other_name m None unnamed = rw unnamed refl
other_name m (Some b) unnamed = refl

beside_budget : (m : Text) (t : Option ℕ) → is_some t ≡ true → explain_alone m t ≡ Explain m (unwrap_or t default_budget)
beside_budget m None is = cc
beside_budget m (Some b) is = refl

pub explain_form : OtherAsksFor (codes "explain") explain_options (Lacks (codes "RECORD" ∷ codes "HISTORY" ∷ codes "NAME" ∷ codes "FROM" ∷ codes "N" ∷ codes "traps" ∷ []))
    (λ m chosen. Explain m (turns_in chosen))
explain_form m chosen no_m no_fault plain lacks = alone_asks m chosen no_m plain lacks ∙ other_name m (budget_in chosen) no_fault

pub explain_budget_form : ModuleAsksFor (codes "explain") explain_options
    (λ chosen. Has (codes "BUDGET") chosen × Lacks (codes "RECORD" ∷ codes "HISTORY" ∷ codes "NAME" ∷ codes "FROM" ∷ codes "N" ∷ codes "traps" ∷ []) chosen)
    (λ m chosen. Explain m (turns_in chosen))
explain_budget_form m chosen no_m plain holds =
    alone_asks m chosen no_m plain holds.1 ∙ beside_budget m (budget_in chosen) (plain_turns explain_options chosen plain holds.0)

pub explain_fault_form : (m : Text) → is_option m ≡ false → names_fault m ≡ true → request (codes "explain" ∷ m ∷ []) ≡ ExplainFault m
explain_fault_form m no_m is = alone_asks m [] no_m tt (refl, (refl, (refl, (refl, (refl, (refl, tt)))))) ∙ rw is refl

pub explain_record_form : (r : Text) → ModuleAsksFor (codes "explain") explain_options
    (λ chosen. (value_in (codes "RECORD") chosen ≡ Some r) × Lacks (codes "HISTORY" ∷ codes "FROM" ∷ codes "N" ∷ codes "BUDGET" ∷ codes "traps" ∷ codes "NAME" ∷ []) chosen)
    (λ m chosen. ExplainRecord m r)
explain_record_form r m chosen no_m plain holds =
    explain_module_asks m chosen no_m plain (not_needed chosen)
    ∙ record_explained m [] [] (told chosen) (seen chosen) (begun chosen) (shown chosen) (named chosen) (count_in chosen) (spent chosen) (looked chosen) (parted chosen) (recorded chosen) (treed chosen) (stepped chosen) (trapped chosen) (seeded chosen) (lengthened chosen) (ended chosen) (stated chosen) (timed chosen) (wholly chosen) r holds.0 (no_value (codes "HISTORY") chosen holds.1.0) (no_value (codes "FROM") chosen holds.1.1.0)
    (no_count chosen holds.1.1.1.0) (no_turns chosen holds.1.1.1.1.0) holds.1.1.1.1.1.0 (no_value (codes "NAME") chosen holds.1.1.1.1.1.1.0)

pub explain_record_traps_form : (r : Text) → ModuleAsksFor (codes "explain") explain_options
    (λ chosen. (value_in (codes "RECORD") chosen ≡ Some r) × Has (codes "traps") chosen
    × Lacks (codes "HISTORY" ∷ codes "FROM" ∷ codes "N" ∷ codes "BUDGET" ∷ codes "NAME" ∷ []) chosen)
    (λ m chosen. ExplainRecordTraps m r)
explain_record_traps_form r m chosen no_m plain holds =
    explain_module_asks m chosen no_m plain (not_needed chosen)
    ∙ record_traps_explained m [] [] (told chosen) (seen chosen) (begun chosen) (shown chosen) (named chosen) (count_in chosen) (spent chosen) (looked chosen) (parted chosen) (recorded chosen) (treed chosen) (stepped chosen) (trapped chosen) (seeded chosen) (lengthened chosen) (ended chosen) (stated chosen) (timed chosen) (wholly chosen) r holds.0 holds.1 (no_value (codes "HISTORY") chosen holds.2.0) (no_value (codes "FROM") chosen holds.2.1.0)
    (no_count chosen holds.2.1.1.0) (no_turns chosen holds.2.1.1.1.0) (no_value (codes "NAME") chosen holds.2.1.1.1.1.0)

pub explain_history_form : (h : Text) → ModuleAsksFor (codes "explain") explain_options
    (λ chosen. (value_in (codes "HISTORY") chosen ≡ Some h) × Lacks (codes "RECORD" ∷ codes "FROM" ∷ codes "N" ∷ codes "BUDGET" ∷ codes "traps" ∷ codes "NAME" ∷ []) chosen)
    (λ m chosen. ExplainHistory m h)
explain_history_form h m chosen no_m plain holds =
    explain_module_asks m chosen no_m plain (not_needed chosen)
    ∙ history_explained m [] [] (told chosen) (seen chosen) (begun chosen) (shown chosen) (named chosen) (count_in chosen) (spent chosen) (looked chosen) (parted chosen) (recorded chosen) (treed chosen) (stepped chosen) (trapped chosen) (seeded chosen) (lengthened chosen) (ended chosen) (stated chosen) (timed chosen) (wholly chosen) h holds.0 (no_value (codes "RECORD") chosen holds.1.0) (no_value (codes "FROM") chosen holds.1.1.0)
    (no_count chosen holds.1.1.1.0) (no_turns chosen holds.1.1.1.1.0) holds.1.1.1.1.1.0 (no_value (codes "NAME") chosen holds.1.1.1.1.1.1.0)

pub explain_calls_form : ScriptAsksFor (codes "explain") explain_options (Lacks (codes "RECORD" ∷ codes "HISTORY" ∷ codes "NAME" ∷ codes "N" ∷ codes "traps" ∷ []))
    (λ m s chosen. ExplainCalls (calls_with m s 16 chosen))
explain_calls_form m s chosen no_m no_s plain lacks =
    explain_script_asks m s chosen no_m no_s plain (not_needed chosen)
    ∙ calls_explained m s [] (told chosen) (seen chosen) (begun chosen) (shown chosen) (named chosen) (count_in chosen) (spent chosen) (looked chosen) (parted chosen) (recorded chosen) (treed chosen) (stepped chosen) (trapped chosen) (seeded chosen) (lengthened chosen) (ended chosen) (stated chosen) (timed chosen) (wholly chosen) (no_value (codes "RECORD") chosen lacks.0) (no_value (codes "HISTORY") chosen lacks.1.0)
    (no_value (codes "NAME") chosen lacks.1.1.0) (no_count chosen lacks.1.1.1.0) lacks.1.1.1.1.0

pub explain_traps_form : ScriptAsksFor (codes "explain") explain_options
    (λ chosen. Has (codes "traps") chosen × Lacks (codes "RECORD" ∷ codes "HISTORY" ∷ codes "NAME" ∷ codes "N" ∷ []) chosen)
    (λ m s chosen. ExplainTraps (calls_with m s 16 chosen))
explain_traps_form m s chosen no_m no_s plain holds =
    explain_script_asks m s chosen no_m no_s plain (not_needed chosen)
    ∙ traps_explained m s [] (told chosen) (seen chosen) (begun chosen) (shown chosen) (named chosen) (count_in chosen) (spent chosen) (looked chosen) (parted chosen) (recorded chosen) (treed chosen) (stepped chosen) (trapped chosen) (seeded chosen) (lengthened chosen) (ended chosen) (stated chosen) (timed chosen) (wholly chosen) holds.0 (no_value (codes "RECORD") chosen holds.1.0) (no_value (codes "HISTORY") chosen holds.1.1.0)
    (no_value (codes "NAME") chosen holds.1.1.1.0) (no_count chosen holds.1.1.1.1.0)

pub explain_always_form : (k : ℕ) (name : Text) → ScriptAsksFor (codes "explain") explain_options
    (λ chosen. (count_in chosen ≡ Some k) × (value_in (codes "NAME") chosen ≡ Some name) × Lacks (codes "RECORD" ∷ codes "HISTORY" ∷ codes "traps" ∷ []) chosen)
    (λ m s chosen. ExplainAlways (always_with m s name k chosen))
explain_always_form k name m s chosen no_m no_s plain holds =
    explain_script_asks m s chosen no_m no_s plain (not_needed chosen)
    ∙ always_explained m s [] (told chosen) (seen chosen) (begun chosen) (shown chosen) (named chosen) (count_in chosen) (spent chosen) (looked chosen) (parted chosen) (recorded chosen) (treed chosen) (stepped chosen) (trapped chosen) (seeded chosen) (lengthened chosen) (ended chosen) (stated chosen) (timed chosen) (wholly chosen) k name holds.0 holds.1
    (no_value (codes "RECORD") chosen holds.2.0) (no_value (codes "HISTORY") chosen holds.2.1.0) holds.2.1.1.0

pub explain_run_form : RunAsksFor (codes "explain") explain_options (Lacks (codes "RECORD" ∷ codes "HISTORY" ∷ codes "NAME" ∷ codes "traps" ∷ [])) ExplainRun
explain_run_form m s d chosen k no_m no_s no_d plain count lacks =
    explain_schedule_asks m s d chosen no_m no_s no_d plain (not_needed chosen)
    ∙ run_explained m s d (told chosen) (seen chosen) (begun chosen) (shown chosen) (named chosen) (count_in chosen) (spent chosen) (looked chosen) (parted chosen) (recorded chosen) (treed chosen) (stepped chosen) (trapped chosen) (seeded chosen) (lengthened chosen) (ended chosen) (stated chosen) (timed chosen) (wholly chosen) k count (no_value (codes "RECORD") chosen lacks.0) (no_value (codes "HISTORY") chosen lacks.1.0) (no_value (codes "NAME") chosen lacks.1.1.0) lacks.1.1.1.0
