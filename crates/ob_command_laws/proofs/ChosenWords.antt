-- Options in any order, as clap walks over their words.
use Rattle.std.proofs.Common.{◌≡◌, ◌∙◌, ℕ, refl, sym, ap, ap₂, List, [], ◌∷◌, ◌++◌, ◌||◌, ◌&&◌, not, codes, true, false, Bool, if◌then◌else◌, Option, Some, None, is_some, map, pos}
use Rattle.std.specs.List.{list_any}
use Rattle.std.specs.Str.{bytes_eq}
use Rattle.std.proofs.lemmas.List.{append_assoc, append-nil}
use Rattle.clap.specs.Values.{reading_of, refused_kind}
use Rattle.clap.specs.ValueTests.{accepts}
use Rattle.clap.specs.Walk.{Row, Text, after_step, has_row, option, plain_word, settled_rows, stronger, walked, with_values, without}
use Rattle.clap.specs.Kinds.{Kinds, or_else, values_kinds}
use Rattle.clap.specs.Faults.{repeat_fault, settle_fault, turn_fault}
use Rattle.clap.specs.Simple.{Shape}
use Rattle.clap.specs.declared.error.kind.ErrorKind.TheVariants.{ArgumentConflict}
use Rattle.clap.specs.declared.builder.value_parser.Reading.{Reading}
use Rattle.clap.specs.declared.builder.value_parser.ValueParser.{ValueParser}
use Rattle.clap.specs.declared.builder.value_parser.ValueParser.TheVariants as parser
use Rattle.clap.specs.declared.parser.matches.ValueSource.{ValueSource}
use Rattle.clap.specs.declared.parser.matches.ValueSource.TheVariants.{CommandLine}
use Rattle.ob_command.specs.CommandLine.{budget_number, calls_in, is_option, number, seed_number}
use Rattle.ob_command_laws.specs.PlainForms.{ArePlain, Argument, AsRecord, BySeed, ByTree, Chosen, Count, Finishing, Always, WithState, WithTurns, AsWhole, Most, OfLength, OfTraps, Range, Seen, Start, Told, Turns, WithSteps, budget_flag, id_of, is_plain, text_of, with_words, words_of}
use Rattle.ob_command.proofs.CallPlaces.{no_option_in}
use Rattle.ob_command.proofs.Numbers.{plain_budget, plain_number, plain_seed}
use Rattle.ob_command_laws.proofs.WalkedWords.{Goes, here, optioned, state, stepped, waits}

-- ---- rows

no_other : (a b : Bool) → (a || b) ≡ false → (a ≡ false) × (b ≡ false)
no_other false b h = (refl, h)
no_other true b h = cc

without_none : (id : Text) (rows : List Row) → has_row id rows ≡ false → without id rows ≡ rows
without_none id [] none = refl
without_none id (r ∷ rows) none =
    let parts = no_other (bytes_eq r.id id) (has_row id rows) none in
    ap (λ (t : Bool). if t then rows else r ∷ without id rows) parts.0 ∙ ap (λ (rest : List Row). r ∷ rest) (without_none id rows parts.1)

abbrev pub new_row : Text → Reading → ValueSource → Text → Row
new_row id how source v = record { id = id; values = v ∷ []; count = None; source = Some source; reading = how }

pub with_new : (id : Text) (how : Reading) (source : ValueSource) (v : Text) (rows : List Row) → has_row id rows ≡ false
    → with_values id how source (v ∷ []) rows ≡ rows ++ new_row id how source v ∷ []
with_new id how source v [] none = refl
with_new id how source v (r ∷ rows) none =
    let parts = no_other (bytes_eq r.id id) (has_row id rows) none in
    ap (λ (t : Bool). if t then (record r { values = r.values ++ v ∷ []; source = Some (stronger r.source source) } ∷ []) ++ rows
    else r ∷ with_values id how source (v ∷ []) rows) parts.0
    ∙ ap (λ (rest : List Row). r ∷ rest) (with_new id how source v rows parts.1)

appended : (id : Text) (how : Reading) (v : Text) (rows : List Row) → has_row id rows ≡ false
    → with_values id how CommandLine (v ∷ []) (without id rows) ≡ rows ++ new_row id how CommandLine v ∷ []
appended id how v rows none =
    ap (with_values id how CommandLine (v ∷ [])) (without_none id rows none) ∙ with_new id how CommandLine v rows none

turned : (t : Bool) → not t ≡ true → t ≡ false
turned false h = refl
turned true h = cc

pub some_of : {A : Type 0} (o : Option A) → is_some o ≡ true → (x : A) × (o ≡ Some x)
some_of None h = cc
some_of (Some x) h = (x, refl)

-- ---- an option

abbrev pub parser_of : Chosen → ValueParser
parser_of (Count n) = parser.Signed (pos 0) (pos 65535)
parser_of (Turns short b) = parser.Signed (pos 0) (pos 4294967295)
parser_of (Most k) = parser.Signed (pos 0) (pos 4294967295)
parser_of (Argument n) = parser.Signed (pos 0) (pos 65535)
parser_of ByTree = parser.Bool
parser_of WithSteps = parser.Bool
parser_of OfTraps = parser.Bool
parser_of AsRecord = parser.Bool
parser_of (BySeed s) = parser.Unsigned 0 18446744073709551615
parser_of (OfLength j) = parser.Signed (pos 0) (pos 4294967295)
parser_of Finishing = parser.Bool
parser_of WithState = parser.Bool
parser_of WithTurns = parser.Bool
parser_of AsWhole = parser.Bool
parser_of _ = parser.String

-- the row that clap keeps of it
abbrev pub row_of : Chosen → Row
row_of chosen = new_row (id_of chosen) (reading_of (parser_of chosen)) CommandLine (text_of chosen)

-- between two words nothing is refused, and these rows are kept once what is pending is used
pub record Standing (s : Shape) (held : List Row) (pending : Option (Text × List Text)) (rows : List Row) : Type 0 where
  pub no_fault : settle_fault s.rules s.args_override_self (here s held pending 0) ≡ []
  pub settles : settled_rows s.rules pending held ≡ rows

-- the words of an option add its row to those that are kept
abbrev pub Moves : Shape → Chosen → Type 0
Moves s chosen = (held : List Row) (pending : Option (Text × List Text)) (position : ℕ) (kept : List Row) → Standing s held pending kept
    → has_row (id_of chosen) kept ≡ false → (words : List Text) (rows : List Row)
    → ((h : List Row) (p : Option (Text × List Text)) → Standing s h p (kept ++ row_of chosen ∷ []) → Goes s (state s h p position) words rows)
    → Goes s (state s held pending position) (with_words chosen words) rows

-- the command takes an option of this name with a value
pub record Takes (s : Shape) (flag id : Text) (p : ValueParser) : Type 0 where
  pub turn : (held : List Row) (pending : Option (Text × List Text)) (position : ℕ)
      → turn_fault s [] (state s held pending position) flag ≡ or_else (settle_fault s.rules s.args_override_self (here s held pending 0)) []
  pub walk : (held : List Row) (pending : Option (Text × List Text)) (position : ℕ)
      → walked s.rules [] (state s held pending position) flag ≡ waits s (settled_rows s.rules pending held) (Some (id, [])) position id
  pub push : (v : Text) (held : List Row) (position : ℕ)
      → after_step s.rules v (waits s held (Some (id, [])) position id) (plain_word s.rules (option id) v (here s held (Some (id, [])) position)).0
      (plain_word s.rules (option id) v (here s held (Some (id, [])) position)).1 ≡ state s held (Some (id, v ∷ [])) position
  pub fault : (v : Text) (held : List Row)
      → settle_fault s.rules s.args_override_self (here s held (Some (id, v ∷ [])) 0) ≡ or_else (repeat_fault false id held) (values_kinds false p (v ∷ []))
  pub uses : (v : Text) (held : List Row)
      → settled_rows s.rules (Some (id, v ∷ [])) held ≡ with_values id (reading_of p) CommandLine (v ∷ []) (without id held)

-- or a word of this name without a value
pub record Knows (s : Shape) (flag id : Text) : Type 0 where
  pub turn : (held : List Row) (pending : Option (Text × List Text)) (position : ℕ)
      → turn_fault s [] (state s held pending position) flag
      ≡ or_else (or_else (settle_fault s.rules s.args_override_self (here s held pending 0)) (or_else (repeat_fault false id (settled_rows s.rules pending held)) [])) []
  pub walk : (held : List Row) (pending : Option (Text × List Text)) (position : ℕ)
      → walked s.rules [] (state s held pending position) flag
      ≡ state s (with_values id (reading_of parser.Bool) CommandLine (codes "true" ∷ []) (without id (settled_rows s.rules pending held))) None position

module _ (s : Shape) where
  value_moves : (flag id v : Text) (p : ValueParser) → Takes s flag id p → is_option v ≡ false → accepts false p v ≡ true
      → (held : List Row) (pending : Option (Text × List Text)) (position : ℕ) (kept : List Row) → Standing s held pending kept → has_row id kept ≡ false
      → (words : List Text) (rows : List Row)
      → ((h : List Row) (q : Option (Text × List Text)) → Standing s h q (kept ++ new_row id (reading_of p) CommandLine v ∷ []) → Goes s (state s h q position) words rows)
      → Goes s (state s held pending position) (flag ∷ v ∷ words) rows
  value_moves flag id v p takes no_v ok held pending position kept standing fresh words rows next =
      let clear : settle_fault s.rules s.args_override_self (here s kept (Some (id, v ∷ [])) 0) ≡ [] = takes.fault v kept
      ∙ ap₂ (λ (t u : Bool). or_else (if t && true then ArgumentConflict ∷ [] else []) (or_else (if u then [] else refused_kind p ∷ []) [])) fresh ok in
      optioned s (state s held pending position) flag id v kept position
      (takes.turn held pending position ∙ ap (λ (ks : Kinds). or_else ks []) standing.no_fault)
      (takes.walk held pending position ∙ ap (λ (r : List Row). waits s r (Some (id, [])) position id) standing.settles)
      no_v (takes.push v kept position) words rows
      (next kept (Some (id, v ∷ [])) (record { no_fault = clear; settles = takes.uses v kept ∙ appended id (reading_of p) v kept fresh }))

  flag_moves : (flag id : Text) → Knows s flag id
      → (held : List Row) (pending : Option (Text × List Text)) (position : ℕ) (kept : List Row) → Standing s held pending kept → has_row id kept ≡ false
      → (words : List Text) (rows : List Row)
      → ((h : List Row) (q : Option (Text × List Text)) → Standing s h q (kept ++ new_row id (reading_of parser.Bool) CommandLine (codes "true") ∷ [])
      → Goes s (state s h q position) words rows)
      → Goes s (state s held pending position) (flag ∷ words) rows
  flag_moves flag id knows held pending position kept standing fresh words rows next =
      let clear : or_else (repeat_fault false id (settled_rows s.rules pending held)) [] ≡ [] =
      ap (λ (r : List Row). or_else (repeat_fault false id r) []) standing.settles
      ∙ ap (λ (t : Bool). or_else (if t && true then ArgumentConflict ∷ [] else []) []) fresh in
      stepped s (state s held pending position) flag
      (knows.turn held pending position ∙ ap₂ (λ (a b : Kinds). or_else (or_else a b) []) standing.no_fault clear)
      (state s (kept ++ new_row id (reading_of parser.Bool) CommandLine (codes "true") ∷ []) None position)
      (knows.walk held pending position
      ∙ (ap (λ (r : List Row). state s (with_values id (reading_of parser.Bool) CommandLine (codes "true" ∷ []) (without id r)) None position) standing.settles
      ∙ ap (λ (r : List Row). state s r None position) (appended id (reading_of parser.Bool) (codes "true") kept fresh)))
      words rows
      (next (kept ++ new_row id (reading_of parser.Bool) CommandLine (codes "true") ∷ []) None (record { no_fault = refl; settles = refl }))

  pub count_moves : Takes s (codes "-n") (codes "N") (parser.Signed (pos 0) (pos 65535)) → (n : Text) → is_some (number n) ≡ true → Moves s (Count n)
  count_moves takes n plain =
      let k = some_of (number n) plain in
      let p = plain_number n k.0 k.1 in
      value_moves (codes "-n") (codes "N") n (parser.Signed (pos 0) (pos 65535)) takes p.no_option p.passes

  pub turns_moves : (short : Bool) → Takes s (budget_flag short) (codes "BUDGET") (parser.Signed (pos 0) (pos 4294967295)) → (b : Text)
      → is_some (budget_number b) ≡ true → Moves s (Turns short b)
  turns_moves short takes b plain =
      let k = some_of (budget_number b) plain in
      let p = plain_budget b k.0 k.1 in
      value_moves (budget_flag short) (codes "BUDGET") b (parser.Signed (pos 0) (pos 4294967295)) takes p.no_option p.passes

  pub most_moves : Takes s (codes "--most") (codes "K") (parser.Signed (pos 0) (pos 4294967295)) → (k : Text) → is_some (budget_number k) ≡ true → Moves s (Most k)
  most_moves takes k plain =
      let n = some_of (budget_number k) plain in
      let p = plain_budget k n.0 n.1 in
      value_moves (codes "--most") (codes "K") k (parser.Signed (pos 0) (pos 4294967295)) takes p.no_option p.passes

  pub argument_moves : Takes s (codes "--by") (codes "BY") (parser.Signed (pos 0) (pos 65535)) → (n : Text) → is_some (number n) ≡ true → Moves s (Argument n)
  argument_moves takes n plain =
      let k = some_of (number n) plain in
      let p = plain_number n k.0 k.1 in
      value_moves (codes "--by") (codes "BY") n (parser.Signed (pos 0) (pos 65535)) takes p.no_option p.passes

  pub start_moves : Takes s (codes "--from") (codes "FROM") parser.String → (f : Text) → not (is_option f) ≡ true → Moves s (Start f)
  start_moves takes f plain = value_moves (codes "--from") (codes "FROM") f parser.String takes (turned (is_option f) plain) refl

  pub range_moves : Takes s (codes "--calls") (codes "FROM-TO") parser.String → (c : Text) → is_some (calls_in c) ≡ true → Moves s (Range c)
  range_moves takes c plain =
      let calls = some_of (calls_in c) plain in
      value_moves (codes "--calls") (codes "FROM-TO") c parser.String takes (no_option_in c calls.0 calls.1) refl

  pub told_moves : Takes s (codes "--record") (codes "RECORD") parser.String → (r : Text) → not (is_option r) ≡ true → Moves s (Told r)
  told_moves takes r plain = value_moves (codes "--record") (codes "RECORD") r parser.String takes (turned (is_option r) plain) refl

  pub seen_moves : Takes s (codes "--history") (codes "HISTORY") parser.String → (h : Text) → not (is_option h) ≡ true → Moves s (Seen h)
  seen_moves takes h plain = value_moves (codes "--history") (codes "HISTORY") h parser.String takes (turned (is_option h) plain) refl

  pub tree_moves : Knows s (codes "--tree") (codes "tree") → Moves s ByTree
  tree_moves knows = flag_moves (codes "--tree") (codes "tree") knows

  pub steps_moves : Knows s (codes "--steps") (codes "steps") → Moves s WithSteps
  steps_moves knows = flag_moves (codes "--steps") (codes "steps") knows

  pub traps_moves : Knows s (codes "--traps") (codes "traps") → Moves s OfTraps
  traps_moves knows = flag_moves (codes "--traps") (codes "traps") knows

  pub record_moves : Knows s (codes "--record") (codes "record") → Moves s AsRecord
  record_moves knows = flag_moves (codes "--record") (codes "record") knows

  pub seed_moves : Takes s (codes "--seed") (codes "S") (parser.Unsigned 0 18446744073709551615) → (v : Text) → is_some (seed_number v) ≡ true → Moves s (BySeed v)
  seed_moves takes v plain =
      let k = some_of (seed_number v) plain in
      let p = plain_seed v k.0 k.1 in
      value_moves (codes "--seed") (codes "S") v (parser.Unsigned 0 18446744073709551615) takes p.no_option p.passes

  pub length_moves : Takes s (codes "--length") (codes "LENGTH") (parser.Signed (pos 0) (pos 4294967295)) → (j : Text) → is_some (budget_number j) ≡ true → Moves s (OfLength j)
  length_moves takes j plain =
      let k = some_of (budget_number j) plain in
      let p = plain_budget j k.0 k.1 in
      value_moves (codes "--length") (codes "LENGTH") j (parser.Signed (pos 0) (pos 4294967295)) takes p.no_option p.passes

  pub finish_moves : Knows s (codes "--finish") (codes "finish") → Moves s Finishing
  finish_moves knows = flag_moves (codes "--finish") (codes "finish") knows

  pub always_moves : Takes s (codes "--always") (codes "NAME") parser.String → (a : Text) → not (is_option a) ≡ true → Moves s (Always a)
  always_moves takes a plain = value_moves (codes "--always") (codes "NAME") a parser.String takes (turned (is_option a) plain) refl

  pub state_moves : Knows s (codes "--state") (codes "state") → Moves s WithState
  state_moves knows = flag_moves (codes "--state") (codes "state") knows

  pub turns_word_moves : Knows s (codes "--turns") (codes "turns") → Moves s WithTurns
  turns_word_moves knows = flag_moves (codes "--turns") (codes "turns") knows

  pub whole_moves : Knows s (codes "--whole") (codes "whole") → Moves s AsWhole
  whole_moves knows = flag_moves (codes "--whole") (codes "whole") knows

-- ---- options one behind the other

-- none of them is kept already
abbrev pub AllFresh : List Row → List Chosen → Type 0
AllFresh kept [] = Unit {0}
AllFresh kept (chosen ∷ others) = (has_row (id_of chosen) kept ≡ false) × AllFresh kept others

has_later : (id : Text) (kept : List Row) (row : Row) → has_row id kept ≡ false → bytes_eq row.id id ≡ false → has_row id (kept ++ row ∷ []) ≡ false
has_later id [] row none other = ap (λ (t : Bool). t || false) other
has_later id (r ∷ rows) row none other =
    let parts = no_other (bytes_eq r.id id) (has_row id rows) none in
    ap₂ (λ (t u : Bool). t || u) parts.0 (has_later id rows row parts.1 other)

still_fresh : (kept : List Row) (chosen : Chosen) (others : List Chosen) → AllFresh kept others
    → list_any (λ other. bytes_eq (id_of chosen) (id_of other)) others ≡ false → AllFresh (kept ++ row_of chosen ∷ []) others
still_fresh kept chosen [] fresh apart = tt
still_fresh kept chosen (other ∷ others) fresh apart =
    let parts = no_other (bytes_eq (id_of chosen) (id_of other)) (list_any (λ other. bytes_eq (id_of chosen) (id_of other)) others) apart in
    (has_later (id_of other) kept (row_of chosen) fresh.0 parts.0, still_fresh kept chosen others fresh.1 parts.1)

pub all_move : (s : Shape) (names : List Text)
    → ((chosen : Chosen) → list_any (bytes_eq (id_of chosen)) names ≡ true → is_plain chosen ≡ true → Moves s chosen)
    → (chosen : List Chosen) → ArePlain names chosen
    → (held : List Row) (pending : Option (Text × List Text)) (position : ℕ) (kept : List Row) → Standing s held pending kept → AllFresh kept chosen
    → (rows : List Row)
    → ((h : List Row) (p : Option (Text × List Text)) → Standing s h p (kept ++ map row_of chosen) → Goes s (state s h p position) [] rows)
    → Goes s (state s held pending position) (words_of chosen) rows
all_move s names moves [] plain held pending position kept standing fresh rows end =
    end held pending (record { no_fault = standing.no_fault; settles = standing.settles ∙ sym (append-nil kept) })
all_move s names moves (chosen ∷ others) plain held pending position kept standing fresh rows end =
    moves chosen plain.0 plain.1 held pending position kept standing fresh.0 (words_of others) rows
    (λ h p next. all_move s names moves others plain.3 h p position (kept ++ row_of chosen ∷ []) next (still_fresh kept chosen others fresh.1 plain.2) rows
    (λ h' p' last. end h' p' (record { no_fault = last.no_fault; settles = last.settles ∙ append_assoc kept (row_of chosen ∷ []) (map row_of others) })))
