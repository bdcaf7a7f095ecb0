-- What is given by the rows that clap keeps of names of files and of options.
use Rattle.std.proofs.Common.{◌≡◌, ◌∙◌, ℕ, refl, sym, subst, ap, ap₂, List, [], ◌∷◌, ◌++◌, ◌||◌, ◌&&◌, not, fold, find, codes, true, false, Bool, if◌then◌else◌, Option, Some, None, is_some, map, option_and_then, option_map, slice_get}
use Rattle.std.specs.List.{list_any}
use Rattle.std.specs.Option.{option_map_or}
use Rattle.std.specs.Str.{bytes_eq}
use Rattle.std.proofs.lemmas.Slice.Eq.{bytes_eq-Decides}
use Rattle.clap.specs.Facts.{explicit_source}
use Rattle.clap.specs.Lexer.{without_minus}
use Rattle.clap.specs.Takes.{is_given}
use Rattle.clap.specs.Values.{reading_of}
use Rattle.clap.specs.Walk.{Row, Rule, Text, default_rows, first_of, has_row, is_empty, reading_by, row_text, with_default}
use Rattle.clap.specs.Kinds.{Kinds, or_else}
use Rattle.clap.specs.Faults.{default_fault, defaults_fault}
use Rattle.clap.specs.declared.builder.value_parser.ValueParser.TheVariants as parser
use Rattle.clap.specs.declared.parser.matches.ValueSource.TheVariants.{DefaultValue}
use Rattle.ob_command.specs.CommandLine.{Given, budget_number, given_of, is_set, is_true, number, seed_number}
use Rattle.ob_command_laws.specs.PlainForms.{ArePlain, Argument, AsRecord, BySeed, ByTree, Chosen, Count, Finishing, Always, WithState, WithTurns, AsWhole, Most, OfLength, OfTraps, Range, Seen, Start, Told, Turns, WithSteps, given_in, given_with_history, id_of, is_chosen, text_of, value_in}
use Rattle.ob_command_laws.proofs.AskedWords.{budget_is, number_is}
use Rattle.ob_command.proofs.BuiltLine.{built_flag, name_row, no_flag_row}
use Rattle.ob_command_laws.proofs.ChosenWords.{row_of, some_of, with_new}

abbrev found : Text → List Row → Option Row
found id rows = find (λ r. bytes_eq r.id id) rows

abbrev pub given_as : (s d r h f c a : Option Text) (k t q g : Option ℕ) (w x y z : Bool) (u v : Option ℕ) (e i j l : Bool) → Given
given_as s d r h f c a k t q g w x y z u v e i j l = record {
  script_name = s;
  schedule_name = d;
  record_name = r;
  history_name = h;
  from_name = f;
  range = c;
  always = a;
  processes = k;
  budget = t;
  most = q;
  argument = g;
  as_record = w;
  tree = x;
  steps = y;
  traps = z;
  seed = u;
  schedule_length = v;
  finish = e;
  state = i;
  turns = j;
  whole = l;
}

same_as : (s s' d d' r r' h h' f f' c c' a a' : Option Text) (k k' t t' q q' g g' : Option ℕ) (w w' x x' y y' z z' : Bool) (u u' v v' : Option ℕ)
    (e e' i i' j j' l l' : Bool)
    → s ≡ s' → d ≡ d' → r ≡ r' → h ≡ h' → f ≡ f' → c ≡ c' → a ≡ a' → k ≡ k' → t ≡ t' → q ≡ q' → g ≡ g' → w ≡ w' → x ≡ x' → y ≡ y' → z ≡ z' → u ≡ u' → v ≡ v'
    → e ≡ e' → i ≡ i' → j ≡ j' → l ≡ l'
    → given_as s d r h f c a k t q g w x y z u v e i j l ≡ given_as s' d' r' h' f' c' a' k' t' q' g' w' x' y' z' u' v' e' i' j' l'
same_as s s' d d' r r' h h' f f' c c' a a' k k' t t' q q' g g' w w' x x' y y' z z' u u' v v' e e' i i' j j' l l' is_s is_d is_r is_h is_f is_c is_a is_k is_t is_q is_g is_w is_x is_y is_z is_u is_v is_e is_i is_j is_l =
    rw (is_s, is_d, is_r, is_h, is_f, is_c, is_a, is_k, is_t, is_q, is_g, is_w, is_x, is_y, is_z, is_u, is_v, is_e, is_i, is_j, is_l) refl

abbrev first_text : Option Row → Option Text
first_text = option_and_then (λ r. slice_get r.values 0)

abbrev number_text : Option Row → Option ℕ
number_text row = option_and_then number (option_and_then row_text row)

abbrev seed_text : Option Row → Option ℕ
seed_text row = option_and_then seed_number (option_and_then row_text row)

abbrev budget_text : Option Row → Option ℕ
budget_text row = option_and_then budget_number (option_and_then row_text row)

-- ---- defaults give nothing

no_other : (a b : Bool) → (a || b) ≡ false → (a ≡ false) × (b ≡ false)
no_other false b h = (refl, h)
no_other true b h = cc

found_before : (id : Text) (rows : List Row) (row : Row) → bytes_eq row.id id ≡ false → found id (rows ++ row ∷ []) ≡ found id rows
found_before id [] row other = ap (λ (t : Bool). if t then Some row else None) other
found_before id (r ∷ rows) row other =
    ap (λ (o : Option Row). if bytes_eq r.id id then Some r else o) (found_before id rows row other)

found_none : (id : Text) (rows : List Row) → has_row id rows ≡ false → found id rows ≡ None
found_none id [] none = refl
found_none id (r ∷ rows) none =
    let parts = no_other (bytes_eq r.id id) (has_row id rows) none in
    ap₂ (λ (t : Bool) (o : Option Row). if t then Some r else o) parts.0 (found_none id rows parts.1)

found_last : (id : Text) (rows : List Row) (row : Row) → has_row id rows ≡ false → bytes_eq row.id id ≡ true → found id (rows ++ row ∷ []) ≡ Some row
found_last id [] row none is = ap (λ (t : Bool). if t then Some row else None) is
found_last id (r ∷ rows) row none is =
    let parts = no_other (bytes_eq r.id id) (has_row id rows) none in
    ap₂ (λ (t : Bool) (o : Option Row). if t then Some r else o) parts.0 (found_last id rows row parts.1 is)

-- a word that does not stand there
unset : (name : Text) (rows : List Row) → has_row name rows ≡ false → bytes_eq name name ≡ true → is_set name (rows ++ no_flag_row name ∷ []) ≡ is_set name rows
unset name rows none is =
    ap (λ (o : Option Row). is_true (first_text o)) (found_last name rows (no_flag_row name) none is)
    ∙ sym (ap (λ (o : Option Row). is_true (first_text o)) (found_none name rows none))

set_before : (name id : Text) (rows : List Row) → bytes_eq name id ≡ false → is_set id (rows ++ no_flag_row name ∷ []) ≡ is_set id rows
set_before name id rows other = ap (λ (o : Option Row). is_true (first_text o)) (found_before id rows (no_flag_row name) other)

-- what a rule leaves of an argument that was not used has no fault and gives nothing
pub record Quiet (a : Rule) : Type 0 where
  pub no_fault : (rows : List Row) → default_fault rows a ≡ []
  pub module_kept : (rows : List Row) → first_of (codes "MODULE") (with_default rows a) ≡ first_of (codes "MODULE") rows
  pub kept : (rows : List Row) → given_of (with_default rows a) ≡ given_of rows
  pub there : (id : Text) (rows : List Row) → is_given id rows ≡ true → is_given id (with_default rows a) ≡ true

either : {A : Type 0} (t : Bool) (x : A) → (if t then x else x) ≡ x
either true x = refl
either false x = refl

no_default : (t e : Bool) (kinds : Kinds) → e ≡ true → (if t || e then [] else kinds) ≡ []
no_default true e kinds h = refl
no_default false e kinds h = ap (λ (b : Bool). if b then [] else kinds) h

plain_default : (a : Rule) → a.defaults ≡ [] → (rows : List Row) → with_default rows a ≡ rows
plain_default a none rows =
    ap (λ (ds : List Text). if has_row a.id rows then rows else default_rows a.id (reading_by a) ds rows) none ∙ either (has_row a.id rows) rows

pub quiet_plain : (a : Rule) → a.defaults ≡ [] → Quiet a
quiet_plain a none = record {
  no_fault = λ rows. no_default (has_row a.id rows) (is_empty a.defaults) _ (ap (λ (ds : List Text). is_empty ds) none);
  module_kept = λ rows. ap (first_of (codes "MODULE")) (plain_default a none rows);
  kept = λ rows. ap given_of (plain_default a none rows);
  there = λ id rows is. ap (is_given id) (plain_default a none rows) ∙ is;
}

given_before : (id : Text) (rows : List Row) (row : Row) → is_given id rows ≡ true → is_given id (rows ++ row ∷ []) ≡ true
given_before id [] row is = cc
given_before id (r ∷ rows) row is = go (bytes_eq r.id id) (given_before id rows row) is
  where
    go : (t : Bool) → (is_given id rows ≡ true → is_given id (rows ++ row ∷ []) ≡ true) → option_map_or (λ x. explicit_source x.source) (if t then Some r else found id rows) false ≡ true
        → option_map_or (λ x. explicit_source x.source) (if t then Some r else found id (rows ++ row ∷ [])) false ≡ true
    go true later h = h
    go false later h = later h

-- of a word without a value
flag_default : (name : Text) (rows : List Row) (t : Bool) → has_row name rows ≡ t
    → with_default rows (built_flag name) ≡ (if t then rows else rows ++ no_flag_row name ∷ [])
flag_default name rows true has = ap (λ (t : Bool). if t then rows else default_rows name (reading_of parser.Bool) (codes "false" ∷ []) rows) has
flag_default name rows false none =
    ap (λ (t : Bool). if t then rows else default_rows name (reading_of parser.Bool) (codes "false" ∷ []) rows) none
    ∙ with_new name (reading_of parser.Bool) DefaultValue (codes "false") rows none

abbrev none_of : Kinds
none_of = []

flag_fault : (t : Bool) → (if t || false then none_of else none_of) ≡ none_of
flag_fault true = refl
flag_fault false = refl

pub quiet_flag : (name : Text) → ((rows : List Row) → has_row name rows ≡ false → given_of (rows ++ no_flag_row name ∷ []) ≡ given_of rows)
    → bytes_eq name (codes "MODULE") ≡ false → Quiet (built_flag name)
quiet_flag name same other = record {
  no_fault = λ rows. flag_fault (has_row name rows);
  module_kept = λ rows. go_module rows (has_row name rows) refl;
  kept = λ rows. go rows (has_row name rows) refl;
  there = λ id rows is. go_there id rows is (has_row name rows) refl;
}
  where
    go_module : (rows : List Row) (t : Bool) → has_row name rows ≡ t → first_of (codes "MODULE") (with_default rows (built_flag name)) ≡ first_of (codes "MODULE") rows
    go_module rows true has = ap (first_of (codes "MODULE")) (flag_default name rows true has)
    go_module rows false none =
        ap (first_of (codes "MODULE")) (flag_default name rows false none) ∙ ap first_text (found_before (codes "MODULE") rows (no_flag_row name) other)

    go : (rows : List Row) (t : Bool) → has_row name rows ≡ t → given_of (with_default rows (built_flag name)) ≡ given_of rows
    go rows true has = ap given_of (flag_default name rows true has)
    go rows false none = ap given_of (flag_default name rows false none) ∙ same rows none

    go_there : (id : Text) (rows : List Row) → is_given id rows ≡ true → (t : Bool) → has_row name rows ≡ t → is_given id (with_default rows (built_flag name)) ≡ true
    go_there id rows is true has = ap (is_given id) (flag_default name rows true has) ∙ is
    go_there id rows is false none = ap (is_given id) (flag_default name rows false none) ∙ given_before id rows (no_flag_row name) is

-- whether a word stands there is not told by the row of one that does not
set_kept : (name id : Text) (rows : List Row) → has_row name rows ≡ false → is_set id (rows ++ no_flag_row name ∷ []) ≡ is_set id rows
set_kept name id rows none = go (bytes_eq name id) refl
  where
    go : (t : Bool) → bytes_eq name id ≡ t → is_set id (rows ++ no_flag_row name ∷ []) ≡ is_set id rows
    go true is =
        let same : name ≡ id = (bytes_eq-Decides name id).0 is in
        subst (λ (x : Text). is_set x (rows ++ no_flag_row name ∷ []) ≡ is_set x rows) same (unset name rows none ((bytes_eq-Decides name name).1 refl))
    go false other = set_before name id rows other

-- a row of a word without a value gives nothing but that word
module _ (name : Text) (rows : List Row) (none : has_row name rows ≡ false)
    (s : bytes_eq name (codes "SCRIPT") ≡ false) (d : bytes_eq name (codes "SCHEDULE") ≡ false)
    (r : bytes_eq name (codes "RECORD") ≡ false) (h : bytes_eq name (codes "HISTORY") ≡ false) (f : bytes_eq name (codes "FROM") ≡ false)
    (c : bytes_eq name (codes "FROM-TO") ≡ false) (a : bytes_eq name (codes "NAME") ≡ false)
    (k : bytes_eq name (codes "N") ≡ false) (t : bytes_eq name (codes "BUDGET") ≡ false) (q : bytes_eq name (codes "K") ≡ false)
    (g : bytes_eq name (codes "BY") ≡ false) (u : bytes_eq name (codes "S") ≡ false) (v : bytes_eq name (codes "LENGTH") ≡ false) where
  abbrev behind : List Row
  behind = rows ++ no_flag_row name ∷ []

  word_gives : given_of behind ≡ given_of rows
  word_gives =
      let row = no_flag_row name in
      same_as _ _ _ _ _ _ _ _ _ _ _ _ _ _ _ _ _ _ _ _ _ _ _ _ _ _ _ _ _ _ _ _ _ _ _ _ _ _ _ _ _ _
      (ap first_text (found_before (codes "SCRIPT") rows row s)) (ap first_text (found_before (codes "SCHEDULE") rows row d))
      (ap first_text (found_before (codes "RECORD") rows row r)) (ap first_text (found_before (codes "HISTORY") rows row h)) (ap first_text (found_before (codes "FROM") rows row f))
      (ap first_text (found_before (codes "FROM-TO") rows row c)) (ap first_text (found_before (codes "NAME") rows row a))
      (ap number_text (found_before (codes "N") rows row k))
      (ap budget_text (found_before (codes "BUDGET") rows row t)) (ap budget_text (found_before (codes "K") rows row q))
      (ap number_text (found_before (codes "BY") rows row g)) (set_kept name (codes "record") rows none) (set_kept name (codes "tree") rows none)
      (set_kept name (codes "steps") rows none) (set_kept name (codes "traps") rows none)
      (ap seed_text (found_before (codes "S") rows row u)) (ap budget_text (found_before (codes "LENGTH") rows row v)) (set_kept name (codes "finish") rows none)
      (set_kept name (codes "state") rows none) (set_kept name (codes "turns") rows none) (set_kept name (codes "whole") rows none)

pub quiet_tree : Quiet (built_flag (codes "tree"))
quiet_tree = quiet_flag (codes "tree") (λ rows none. word_gives (codes "tree") rows none refl refl refl refl refl refl refl refl refl refl refl refl refl) refl

pub quiet_steps : Quiet (built_flag (codes "steps"))
quiet_steps = quiet_flag (codes "steps") (λ rows none. word_gives (codes "steps") rows none refl refl refl refl refl refl refl refl refl refl refl refl refl) refl

pub quiet_traps : Quiet (built_flag (codes "traps"))
quiet_traps = quiet_flag (codes "traps") (λ rows none. word_gives (codes "traps") rows none refl refl refl refl refl refl refl refl refl refl refl refl refl) refl

pub quiet_as_record : Quiet (built_flag (codes "record"))
quiet_as_record = quiet_flag (codes "record") (λ rows none. word_gives (codes "record") rows none refl refl refl refl refl refl refl refl refl refl refl refl refl) refl

pub quiet_finish : Quiet (built_flag (codes "finish"))
quiet_finish = quiet_flag (codes "finish") (λ rows none. word_gives (codes "finish") rows none refl refl refl refl refl refl refl refl refl refl refl refl refl) refl

pub quiet_state : Quiet (built_flag (codes "state"))
quiet_state = quiet_flag (codes "state") (λ rows none. word_gives (codes "state") rows none refl refl refl refl refl refl refl refl refl refl refl refl refl) refl

pub quiet_turns : Quiet (built_flag (codes "turns"))
quiet_turns = quiet_flag (codes "turns") (λ rows none. word_gives (codes "turns") rows none refl refl refl refl refl refl refl refl refl refl refl refl refl) refl

pub quiet_whole : Quiet (built_flag (codes "whole"))
quiet_whole = quiet_flag (codes "whole") (λ rows none. word_gives (codes "whole") rows none refl refl refl refl refl refl refl refl refl refl refl refl refl) refl

abbrev pub EachQuiet : List Rule → Type 0
EachQuiet [] = Unit {0}
EachQuiet (a ∷ rules) = Quiet a × EachQuiet rules

pub no_default_fault : (rules : List Rule) → EachQuiet rules → (rows : List Row) → defaults_fault rows rules ≡ []
unfolding defaults_fault
no_default_fault [] each rows = refl
no_default_fault (a ∷ rules) each rows = ap₂ or_else (each.0.no_fault rows) (no_default_fault rules each.1 (with_default rows a))

pub module_stays : (rules : List Rule) → EachQuiet rules → (rows : List Row) → first_of (codes "MODULE") (fold with_default rows rules) ≡ first_of (codes "MODULE") rows
module_stays [] each rows = refl
module_stays (a ∷ rules) each rows = module_stays rules each.1 (with_default rows a) ∙ each.0.module_kept rows

pub given_stays : (rules : List Rule) → EachQuiet rules → (rows : List Row) → given_of (fold with_default rows rules) ≡ given_of rows
given_stays [] each rows = refl
given_stays (a ∷ rules) each rows = given_stays rules each.1 (with_default rows a) ∙ each.0.kept rows

pub stays_there : (rules : List Rule) → EachQuiet rules → (id : Text) (rows : List Row) → is_given id rows ≡ true → is_given id (fold with_default rows rules) ≡ true
stays_there [] each id rows is = is
stays_there (a ∷ rules) each id rows is = stays_there rules each.1 id (with_default rows a) (each.0.there id rows is)

-- what has to be there
abbrev pub EachThere : List Rule → List Row → Type 0
EachThere [] rows = Unit {0}
EachThere (a ∷ rules) rows = (a.required ≡ true → is_given a.id rows ≡ true) × EachThere rules rows

lacks_not : (r g : Bool) → (r ≡ true → g ≡ true) → (r && not g) ≡ false
lacks_not false g h = refl
lacks_not true true h = refl
lacks_not true false h = sym (h refl)

pub none_lacks : (rules : List Rule) (rows : List Row) → EachThere rules rows → list_any (λ a. a.required && not (is_given a.id rows)) rules ≡ false
none_lacks [] rows each = refl
none_lacks (a ∷ rules) rows each = ap₂ (λ (t u : Bool). t || u) (lacks_not a.required (is_given a.id rows) each.0) (none_lacks rules rows each.1)

pub each_stays : (all : List Rule) → EachQuiet all → (rules : List Rule) (rows : List Row) → EachThere rules rows → EachThere rules (fold with_default rows all)
each_stays all quiet [] rows each = tt
each_stays all quiet (a ∷ rules) rows each = (λ needed. stays_there all quiet a.id rows (each.0 needed), each_stays all quiet rules rows each.1)

-- ---- what options give

value_found : (id : Text) (chosen : List Chosen) → first_of id (map row_of chosen) ≡ value_in id chosen
value_found id [] = refl
value_found id (one ∷ others) = go (bytes_eq (id_of one) id) (value_found id others)
  where
    go : (t : Bool) → first_of id (map row_of others) ≡ value_in id others → first_text (if t then Some (row_of one) else found id (map row_of others))
        ≡ option_map text_of (if t then Some one else find (λ x. bytes_eq (id_of x) id) others)
    go true later = refl
    go false later = later

pub counted_there : (chosen : List Chosen) → is_chosen (codes "N") chosen ≡ true → is_given (codes "N") (map row_of chosen) ≡ true
counted_there [] is = cc
counted_there (one ∷ others) is = go (bytes_eq (id_of one) (codes "N")) (counted_there others) is
  where
    go : (t : Bool) → (is_chosen (codes "N") others ≡ true → is_given (codes "N") (map row_of others) ≡ true) → (t || is_chosen (codes "N") others) ≡ true
        → option_map_or (λ r. explicit_source r.source) (if t then Some (row_of one) else found (codes "N") (map row_of others)) false ≡ true
    go true later h = refl
    go false later h = later h

no_value : (id : Text) → ((one : Chosen) → bytes_eq (id_of one) id ≡ false) → (chosen : List Chosen) → first_of id (map row_of chosen) ≡ None
no_value id none [] = refl
no_value id none (one ∷ others) =
    ap (λ (t : Bool). first_text (if t then Some (row_of one) else found id (map row_of others))) (none one) ∙ no_value id none others

no_script : (one : Chosen) → bytes_eq (id_of one) (codes "SCRIPT") ≡ false
no_script (Count n) = refl
no_script (Turns short b) = refl
no_script (Most k) = refl
no_script (Argument n) = refl
no_script (Start f) = refl
no_script (Range c) = refl
no_script (Told r) = refl
no_script (Seen h) = refl
no_script ByTree = refl
no_script WithSteps = refl
no_script OfTraps = refl
no_script AsRecord = refl
no_script (BySeed v) = refl
no_script (OfLength j) = refl
no_script Finishing = refl
no_script (Always a) = refl
no_script WithState = refl
no_script WithTurns = refl
no_script AsWhole = refl

no_schedule : (one : Chosen) → bytes_eq (id_of one) (codes "SCHEDULE") ≡ false
no_schedule (Count n) = refl
no_schedule (Turns short b) = refl
no_schedule (Most k) = refl
no_schedule (Argument n) = refl
no_schedule (Start f) = refl
no_schedule (Range c) = refl
no_schedule (Told r) = refl
no_schedule (Seen h) = refl
no_schedule ByTree = refl
no_schedule WithSteps = refl
no_schedule OfTraps = refl
no_schedule AsRecord = refl
no_schedule (BySeed v) = refl
no_schedule (OfLength j) = refl
no_schedule Finishing = refl
no_schedule (Always a) = refl
no_schedule WithState = refl
no_schedule WithTurns = refl
no_schedule AsWhole = refl

number_in : (n : Text) → is_some (number n) ≡ true → number (without_minus n) ≡ number n
number_in n plain = let k = some_of (number n) plain in number_is n k.0 k.1 ∙ sym k.1

budget_in : (b : Text) → is_some (budget_number b) ≡ true → budget_number (without_minus b) ≡ budget_number b
budget_in b plain = let k = some_of (budget_number b) plain in budget_is b k.0 k.1 ∙ sym k.1

count_found : (names : List Text) (chosen : List Chosen) → ArePlain names chosen
    → number_text (found (codes "N") (map row_of chosen)) ≡ option_and_then number (value_in (codes "N") chosen)
count_found names [] plain = refl
count_found names (Count n ∷ others) plain = number_in n plain.1
count_found names (Turns short b ∷ others) plain = count_found names others plain.3
count_found names (Most k ∷ others) plain = count_found names others plain.3
count_found names (Argument n ∷ others) plain = count_found names others plain.3
count_found names (Start f ∷ others) plain = count_found names others plain.3
count_found names (Range c ∷ others) plain = count_found names others plain.3
count_found names (Told r ∷ others) plain = count_found names others plain.3
count_found names (Seen h ∷ others) plain = count_found names others plain.3
count_found names (ByTree ∷ others) plain = count_found names others plain.3
count_found names (WithSteps ∷ others) plain = count_found names others plain.3
count_found names (OfTraps ∷ others) plain = count_found names others plain.3
count_found names (AsRecord ∷ others) plain = count_found names others plain.3
count_found names (BySeed v ∷ others) plain = count_found names others plain.3
count_found names (OfLength j ∷ others) plain = count_found names others plain.3
count_found names (Finishing ∷ others) plain = count_found names others plain.3
count_found names (Always a ∷ others) plain = count_found names others plain.3
count_found names (WithState ∷ others) plain = count_found names others plain.3
count_found names (WithTurns ∷ others) plain = count_found names others plain.3
count_found names (AsWhole ∷ others) plain = count_found names others plain.3

turns_found : (names : List Text) (chosen : List Chosen) → ArePlain names chosen
    → budget_text (found (codes "BUDGET") (map row_of chosen)) ≡ option_and_then budget_number (value_in (codes "BUDGET") chosen)
turns_found names [] plain = refl
turns_found names (Count n ∷ others) plain = turns_found names others plain.3
turns_found names (Turns short b ∷ others) plain = budget_in b plain.1
turns_found names (Most k ∷ others) plain = turns_found names others plain.3
turns_found names (Argument n ∷ others) plain = turns_found names others plain.3
turns_found names (Start f ∷ others) plain = turns_found names others plain.3
turns_found names (Range c ∷ others) plain = turns_found names others plain.3
turns_found names (Told r ∷ others) plain = turns_found names others plain.3
turns_found names (Seen h ∷ others) plain = turns_found names others plain.3
turns_found names (ByTree ∷ others) plain = turns_found names others plain.3
turns_found names (WithSteps ∷ others) plain = turns_found names others plain.3
turns_found names (OfTraps ∷ others) plain = turns_found names others plain.3
turns_found names (AsRecord ∷ others) plain = turns_found names others plain.3
turns_found names (BySeed v ∷ others) plain = turns_found names others plain.3
turns_found names (OfLength j ∷ others) plain = turns_found names others plain.3
turns_found names (Finishing ∷ others) plain = turns_found names others plain.3
turns_found names (Always a ∷ others) plain = turns_found names others plain.3
turns_found names (WithState ∷ others) plain = turns_found names others plain.3
turns_found names (WithTurns ∷ others) plain = turns_found names others plain.3
turns_found names (AsWhole ∷ others) plain = turns_found names others plain.3

most_found : (names : List Text) (chosen : List Chosen) → ArePlain names chosen
    → budget_text (found (codes "K") (map row_of chosen)) ≡ option_and_then budget_number (value_in (codes "K") chosen)
most_found names [] plain = refl
most_found names (Count n ∷ others) plain = most_found names others plain.3
most_found names (Turns short b ∷ others) plain = most_found names others plain.3
most_found names (Most k ∷ others) plain = budget_in k plain.1
most_found names (Argument n ∷ others) plain = most_found names others plain.3
most_found names (Start f ∷ others) plain = most_found names others plain.3
most_found names (Range c ∷ others) plain = most_found names others plain.3
most_found names (Told r ∷ others) plain = most_found names others plain.3
most_found names (Seen h ∷ others) plain = most_found names others plain.3
most_found names (ByTree ∷ others) plain = most_found names others plain.3
most_found names (WithSteps ∷ others) plain = most_found names others plain.3
most_found names (OfTraps ∷ others) plain = most_found names others plain.3
most_found names (AsRecord ∷ others) plain = most_found names others plain.3
most_found names (BySeed v ∷ others) plain = most_found names others plain.3
most_found names (OfLength j ∷ others) plain = most_found names others plain.3
most_found names (Finishing ∷ others) plain = most_found names others plain.3
most_found names (Always a ∷ others) plain = most_found names others plain.3
most_found names (WithState ∷ others) plain = most_found names others plain.3
most_found names (WithTurns ∷ others) plain = most_found names others plain.3
most_found names (AsWhole ∷ others) plain = most_found names others plain.3

argument_found : (names : List Text) (chosen : List Chosen) → ArePlain names chosen
    → number_text (found (codes "BY") (map row_of chosen)) ≡ option_and_then number (value_in (codes "BY") chosen)
argument_found names [] plain = refl
argument_found names (Count n ∷ others) plain = argument_found names others plain.3
argument_found names (Turns short b ∷ others) plain = argument_found names others plain.3
argument_found names (Most k ∷ others) plain = argument_found names others plain.3
argument_found names (Argument n ∷ others) plain = number_in n plain.1
argument_found names (Start f ∷ others) plain = argument_found names others plain.3
argument_found names (Range c ∷ others) plain = argument_found names others plain.3
argument_found names (Told r ∷ others) plain = argument_found names others plain.3
argument_found names (Seen h ∷ others) plain = argument_found names others plain.3
argument_found names (ByTree ∷ others) plain = argument_found names others plain.3
argument_found names (WithSteps ∷ others) plain = argument_found names others plain.3
argument_found names (OfTraps ∷ others) plain = argument_found names others plain.3
argument_found names (AsRecord ∷ others) plain = argument_found names others plain.3
argument_found names (BySeed v ∷ others) plain = argument_found names others plain.3
argument_found names (OfLength j ∷ others) plain = argument_found names others plain.3
argument_found names (Finishing ∷ others) plain = argument_found names others plain.3
argument_found names (Always a ∷ others) plain = argument_found names others plain.3
argument_found names (WithState ∷ others) plain = argument_found names others plain.3
argument_found names (WithTurns ∷ others) plain = argument_found names others plain.3
argument_found names (AsWhole ∷ others) plain = argument_found names others plain.3

record_found : (chosen : List Chosen) → is_set (codes "record") (map row_of chosen) ≡ is_chosen (codes "record") chosen
record_found [] = refl
record_found (Count n ∷ others) = record_found others
record_found (Turns short b ∷ others) = record_found others
record_found (Most k ∷ others) = record_found others
record_found (Argument n ∷ others) = record_found others
record_found (Start f ∷ others) = record_found others
record_found (Range c ∷ others) = record_found others
record_found (Told r ∷ others) = record_found others
record_found (Seen h ∷ others) = record_found others
record_found (ByTree ∷ others) = record_found others
record_found (WithSteps ∷ others) = record_found others
record_found (OfTraps ∷ others) = record_found others
record_found (AsRecord ∷ others) = refl
record_found (BySeed v ∷ others) = record_found others
record_found (OfLength j ∷ others) = record_found others
record_found (Finishing ∷ others) = record_found others
record_found (Always a ∷ others) = record_found others
record_found (WithState ∷ others) = record_found others
record_found (WithTurns ∷ others) = record_found others
record_found (AsWhole ∷ others) = record_found others

tree_found : (chosen : List Chosen) → is_set (codes "tree") (map row_of chosen) ≡ is_chosen (codes "tree") chosen
tree_found [] = refl
tree_found (Count n ∷ others) = tree_found others
tree_found (Turns short b ∷ others) = tree_found others
tree_found (Most k ∷ others) = tree_found others
tree_found (Argument n ∷ others) = tree_found others
tree_found (Start f ∷ others) = tree_found others
tree_found (Range c ∷ others) = tree_found others
tree_found (Told r ∷ others) = tree_found others
tree_found (Seen h ∷ others) = tree_found others
tree_found (ByTree ∷ others) = refl
tree_found (WithSteps ∷ others) = tree_found others
tree_found (OfTraps ∷ others) = tree_found others
tree_found (AsRecord ∷ others) = tree_found others
tree_found (BySeed v ∷ others) = tree_found others
tree_found (OfLength j ∷ others) = tree_found others
tree_found (Finishing ∷ others) = tree_found others
tree_found (Always a ∷ others) = tree_found others
tree_found (WithState ∷ others) = tree_found others
tree_found (WithTurns ∷ others) = tree_found others
tree_found (AsWhole ∷ others) = tree_found others

steps_found : (chosen : List Chosen) → is_set (codes "steps") (map row_of chosen) ≡ is_chosen (codes "steps") chosen
steps_found [] = refl
steps_found (Count n ∷ others) = steps_found others
steps_found (Turns short b ∷ others) = steps_found others
steps_found (Most k ∷ others) = steps_found others
steps_found (Argument n ∷ others) = steps_found others
steps_found (Start f ∷ others) = steps_found others
steps_found (Range c ∷ others) = steps_found others
steps_found (Told r ∷ others) = steps_found others
steps_found (Seen h ∷ others) = steps_found others
steps_found (ByTree ∷ others) = steps_found others
steps_found (WithSteps ∷ others) = refl
steps_found (OfTraps ∷ others) = steps_found others
steps_found (AsRecord ∷ others) = steps_found others
steps_found (BySeed v ∷ others) = steps_found others
steps_found (OfLength j ∷ others) = steps_found others
steps_found (Finishing ∷ others) = steps_found others
steps_found (Always a ∷ others) = steps_found others
steps_found (WithState ∷ others) = steps_found others
steps_found (WithTurns ∷ others) = steps_found others
steps_found (AsWhole ∷ others) = steps_found others

traps_found : (chosen : List Chosen) → is_set (codes "traps") (map row_of chosen) ≡ is_chosen (codes "traps") chosen
traps_found [] = refl
traps_found (Count n ∷ others) = traps_found others
traps_found (Turns short b ∷ others) = traps_found others
traps_found (Most k ∷ others) = traps_found others
traps_found (Argument n ∷ others) = traps_found others
traps_found (Start f ∷ others) = traps_found others
traps_found (Range c ∷ others) = traps_found others
traps_found (Told r ∷ others) = traps_found others
traps_found (Seen h ∷ others) = traps_found others
traps_found (ByTree ∷ others) = traps_found others
traps_found (WithSteps ∷ others) = traps_found others
traps_found (OfTraps ∷ others) = refl
traps_found (AsRecord ∷ others) = traps_found others
traps_found (BySeed v ∷ others) = traps_found others
traps_found (OfLength j ∷ others) = traps_found others
traps_found (Finishing ∷ others) = traps_found others
traps_found (Always a ∷ others) = traps_found others
traps_found (WithState ∷ others) = traps_found others
traps_found (WithTurns ∷ others) = traps_found others
traps_found (AsWhole ∷ others) = traps_found others

seed_found : (chosen : List Chosen)
    → seed_text (found (codes "S") (map row_of chosen)) ≡ option_and_then seed_number (value_in (codes "S") chosen)
seed_found [] = refl
seed_found (Count n ∷ others) = seed_found others
seed_found (Turns short b ∷ others) = seed_found others
seed_found (Most k ∷ others) = seed_found others
seed_found (Argument n ∷ others) = seed_found others
seed_found (Start f ∷ others) = seed_found others
seed_found (Range c ∷ others) = seed_found others
seed_found (Told r ∷ others) = seed_found others
seed_found (Seen h ∷ others) = seed_found others
seed_found (ByTree ∷ others) = seed_found others
seed_found (WithSteps ∷ others) = seed_found others
seed_found (OfTraps ∷ others) = seed_found others
seed_found (AsRecord ∷ others) = seed_found others
seed_found (BySeed v ∷ others) = refl
seed_found (OfLength j ∷ others) = seed_found others
seed_found (Finishing ∷ others) = seed_found others
seed_found (Always a ∷ others) = seed_found others
seed_found (WithState ∷ others) = seed_found others
seed_found (WithTurns ∷ others) = seed_found others
seed_found (AsWhole ∷ others) = seed_found others

length_found : (names : List Text) (chosen : List Chosen) → ArePlain names chosen
    → budget_text (found (codes "LENGTH") (map row_of chosen)) ≡ option_and_then budget_number (value_in (codes "LENGTH") chosen)
length_found names [] plain = refl
length_found names (Count n ∷ others) plain = length_found names others plain.3
length_found names (Turns short b ∷ others) plain = length_found names others plain.3
length_found names (Most k ∷ others) plain = length_found names others plain.3
length_found names (Argument n ∷ others) plain = length_found names others plain.3
length_found names (Start f ∷ others) plain = length_found names others plain.3
length_found names (Range c ∷ others) plain = length_found names others plain.3
length_found names (Told r ∷ others) plain = length_found names others plain.3
length_found names (Seen h ∷ others) plain = length_found names others plain.3
length_found names (ByTree ∷ others) plain = length_found names others plain.3
length_found names (WithSteps ∷ others) plain = length_found names others plain.3
length_found names (OfTraps ∷ others) plain = length_found names others plain.3
length_found names (AsRecord ∷ others) plain = length_found names others plain.3
length_found names (BySeed v ∷ others) plain = length_found names others plain.3
length_found names (OfLength j ∷ others) plain = budget_in j plain.1
length_found names (Finishing ∷ others) plain = length_found names others plain.3
length_found names (Always a ∷ others) plain = length_found names others plain.3
length_found names (WithState ∷ others) plain = length_found names others plain.3
length_found names (WithTurns ∷ others) plain = length_found names others plain.3
length_found names (AsWhole ∷ others) plain = length_found names others plain.3

finish_found : (chosen : List Chosen) → is_set (codes "finish") (map row_of chosen) ≡ is_chosen (codes "finish") chosen
finish_found [] = refl
finish_found (Count n ∷ others) = finish_found others
finish_found (Turns short b ∷ others) = finish_found others
finish_found (Most k ∷ others) = finish_found others
finish_found (Argument n ∷ others) = finish_found others
finish_found (Start f ∷ others) = finish_found others
finish_found (Range c ∷ others) = finish_found others
finish_found (Told r ∷ others) = finish_found others
finish_found (Seen h ∷ others) = finish_found others
finish_found (ByTree ∷ others) = finish_found others
finish_found (WithSteps ∷ others) = finish_found others
finish_found (OfTraps ∷ others) = finish_found others
finish_found (AsRecord ∷ others) = finish_found others
finish_found (BySeed v ∷ others) = finish_found others
finish_found (OfLength j ∷ others) = finish_found others
finish_found (Finishing ∷ others) = refl
finish_found (Always a ∷ others) = finish_found others
finish_found (WithState ∷ others) = finish_found others
finish_found (WithTurns ∷ others) = finish_found others
finish_found (AsWhole ∷ others) = finish_found others

state_found : (chosen : List Chosen) → is_set (codes "state") (map row_of chosen) ≡ is_chosen (codes "state") chosen
state_found [] = refl
state_found (Count n ∷ others) = state_found others
state_found (Turns short b ∷ others) = state_found others
state_found (Most k ∷ others) = state_found others
state_found (Argument n ∷ others) = state_found others
state_found (Start f ∷ others) = state_found others
state_found (Range c ∷ others) = state_found others
state_found (Told r ∷ others) = state_found others
state_found (Seen h ∷ others) = state_found others
state_found (ByTree ∷ others) = state_found others
state_found (WithSteps ∷ others) = state_found others
state_found (OfTraps ∷ others) = state_found others
state_found (AsRecord ∷ others) = state_found others
state_found (BySeed v ∷ others) = state_found others
state_found (OfLength j ∷ others) = state_found others
state_found (Finishing ∷ others) = state_found others
state_found (Always a ∷ others) = state_found others
state_found (WithState ∷ others) = refl
state_found (WithTurns ∷ others) = state_found others
state_found (AsWhole ∷ others) = state_found others

turns_word_found : (chosen : List Chosen) → is_set (codes "turns") (map row_of chosen) ≡ is_chosen (codes "turns") chosen
turns_word_found [] = refl
turns_word_found (Count n ∷ others) = turns_word_found others
turns_word_found (Turns short b ∷ others) = turns_word_found others
turns_word_found (Most k ∷ others) = turns_word_found others
turns_word_found (Argument n ∷ others) = turns_word_found others
turns_word_found (Start f ∷ others) = turns_word_found others
turns_word_found (Range c ∷ others) = turns_word_found others
turns_word_found (Told r ∷ others) = turns_word_found others
turns_word_found (Seen h ∷ others) = turns_word_found others
turns_word_found (ByTree ∷ others) = turns_word_found others
turns_word_found (WithSteps ∷ others) = turns_word_found others
turns_word_found (OfTraps ∷ others) = turns_word_found others
turns_word_found (AsRecord ∷ others) = turns_word_found others
turns_word_found (BySeed v ∷ others) = turns_word_found others
turns_word_found (OfLength j ∷ others) = turns_word_found others
turns_word_found (Finishing ∷ others) = turns_word_found others
turns_word_found (Always a ∷ others) = turns_word_found others
turns_word_found (WithState ∷ others) = turns_word_found others
turns_word_found (WithTurns ∷ others) = refl
turns_word_found (AsWhole ∷ others) = turns_word_found others

whole_found : (chosen : List Chosen) → is_set (codes "whole") (map row_of chosen) ≡ is_chosen (codes "whole") chosen
whole_found [] = refl
whole_found (Count n ∷ others) = whole_found others
whole_found (Turns short b ∷ others) = whole_found others
whole_found (Most k ∷ others) = whole_found others
whole_found (Argument n ∷ others) = whole_found others
whole_found (Start f ∷ others) = whole_found others
whole_found (Range c ∷ others) = whole_found others
whole_found (Told r ∷ others) = whole_found others
whole_found (Seen h ∷ others) = whole_found others
whole_found (ByTree ∷ others) = whole_found others
whole_found (WithSteps ∷ others) = whole_found others
whole_found (OfTraps ∷ others) = whole_found others
whole_found (AsRecord ∷ others) = whole_found others
whole_found (BySeed v ∷ others) = whole_found others
whole_found (OfLength j ∷ others) = whole_found others
whole_found (Finishing ∷ others) = whole_found others
whole_found (Always a ∷ others) = whole_found others
whole_found (WithState ∷ others) = whole_found others
whole_found (WithTurns ∷ others) = whole_found others
whole_found (AsWhole ∷ others) = refl

-- behind a module's name alone, that of a script or of a history too, and that of a schedule too
module _ (names : List Text) (chosen : List Chosen) (plain : ArePlain names chosen) where
  abbrev rows : List Row
  rows = map row_of chosen

  pub given_alone : given_of rows ≡ given_in None None chosen
  given_alone = same_as _ _ _ _ _ _ _ _ _ _ _ _ _ _ _ _ _ _ _ _ _ _ _ _ _ _ _ _ _ _ _ _ _ _ _ _ _ _ _ _ _ _ (no_value (codes "SCRIPT") no_script chosen) (no_value (codes "SCHEDULE") no_schedule chosen)
      (value_found (codes "RECORD") chosen) (value_found (codes "HISTORY") chosen) (value_found (codes "FROM") chosen) (value_found (codes "FROM-TO") chosen) (value_found (codes "NAME") chosen) (count_found names chosen plain)
      (turns_found names chosen plain) (most_found names chosen plain) (argument_found names chosen plain)
      (record_found chosen) (tree_found chosen) (steps_found chosen) (traps_found chosen)
      (seed_found chosen) (length_found names chosen plain) (finish_found chosen)
      (state_found chosen) (turns_word_found chosen) (whole_found chosen)

  pub given_script : (s : Text) → given_of (name_row (codes "SCRIPT") s ∷ rows) ≡ given_in (Some s) None chosen
  given_script s = same_as _ _ _ _ _ _ _ _ _ _ _ _ _ _ _ _ _ _ _ _ _ _ _ _ _ _ _ _ _ _ _ _ _ _ _ _ _ _ _ _ _ _ refl (no_value (codes "SCHEDULE") no_schedule chosen)
      (value_found (codes "RECORD") chosen) (value_found (codes "HISTORY") chosen) (value_found (codes "FROM") chosen) (value_found (codes "FROM-TO") chosen) (value_found (codes "NAME") chosen) (count_found names chosen plain)
      (turns_found names chosen plain) (most_found names chosen plain) (argument_found names chosen plain)
      (record_found chosen) (tree_found chosen) (steps_found chosen) (traps_found chosen)
      (seed_found chosen) (length_found names chosen plain) (finish_found chosen)
      (state_found chosen) (turns_word_found chosen) (whole_found chosen)

  pub given_history : (h : Text) → given_of (name_row (codes "HISTORY") h ∷ rows) ≡ given_with_history h chosen
  given_history h = same_as _ _ _ _ _ _ _ _ _ _ _ _ _ _ _ _ _ _ _ _ _ _ _ _ _ _ _ _ _ _ _ _ _ _ _ _ _ _ _ _ _ _ (no_value (codes "SCRIPT") no_script chosen)
      (no_value (codes "SCHEDULE") no_schedule chosen) (value_found (codes "RECORD") chosen) refl (value_found (codes "FROM") chosen) (value_found (codes "FROM-TO") chosen) (value_found (codes "NAME") chosen) (count_found names chosen plain)
      (turns_found names chosen plain) (most_found names chosen plain) (argument_found names chosen plain)
      (record_found chosen) (tree_found chosen) (steps_found chosen) (traps_found chosen)
      (seed_found chosen) (length_found names chosen plain) (finish_found chosen)
      (state_found chosen) (turns_word_found chosen) (whole_found chosen)

  pub given_schedule : (s d : Text) → given_of (name_row (codes "SCRIPT") s ∷ name_row (codes "SCHEDULE") d ∷ rows)
      ≡ given_in (Some s) (Some d) chosen
  given_schedule s d = same_as _ _ _ _ _ _ _ _ _ _ _ _ _ _ _ _ _ _ _ _ _ _ _ _ _ _ _ _ _ _ _ _ _ _ _ _ _ _ _ _ _ _ refl refl
      (value_found (codes "RECORD") chosen) (value_found (codes "HISTORY") chosen) (value_found (codes "FROM") chosen) (value_found (codes "FROM-TO") chosen) (value_found (codes "NAME") chosen) (count_found names chosen plain)
      (turns_found names chosen plain) (most_found names chosen plain) (argument_found names chosen plain)
      (record_found chosen) (tree_found chosen) (steps_found chosen) (traps_found chosen)
      (seed_found chosen) (length_found names chosen plain) (finish_found chosen)
      (state_found chosen) (turns_word_found chosen) (whole_found chosen)
