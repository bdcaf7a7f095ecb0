-- Where a level of the command line has no fault, each argument that has to be there has its value, and N and BUDGET have a number.
use Rattle.std.proofs.Common.{◌≡◌, ℕ, zero, suc, refl, List, [], ◌∷◌, ◌++◌, length, fold, drop, true, false, Bool, if◌then◌else◌, ◌&&◌, Option, Some, None, is_some, chars, encode_utf8, slice_get, find, codes, option_and_then, option_map, subst}
use Rattle.std.specs.List.{list_all}
use Rattle.std.specs.Option.{option_map_or}
use Rattle.std.specs.Str.{bytes_eq}
use Rattle.std.proofs.lemmas.Slice.Eq.{bytes_eq-Decides}
use Rattle.clap.specs.Values.{read_as}
use Rattle.clap.specs.Lexer.{long_of, short_of}
use Rattle.clap.specs.Takes.{is_given}
use Rattle.clap.specs.Walk.{Held, Names, Outcome, done, waits, plain, refused, Row, Rule, Step, Text, Waiting, idle, option, positional, Walk, next, trailing, subcommand, value, after_flag, after_step, arg_by_id, arg_by_long, arg_by_short, arg_by_index, attached_value, bundle_met, bundle_step, first_of, row_text, flag_met, is_pending, long_met, long_or_other, more_values, option_met, option_word, plain_word, positional_held, pushed, reacted, settled, short_met, short_or_plain, subcommand_met, subcommand_or_other, takes_several, takes_values, to_positional, used, walked, with_default, with_values, without, word_met, bundle, nothing_held, rows_after, settled_rows, used_by_id, walk, walk_from, walked_from}
use Rattle.clap.specs.Kinds.{Kinds, or_else}
use Rattle.clap.specs.Faults.{use_fault, settle_fault, react_fault, option_fault, long_fault, short_fault, bundle_step_fault, flags_fault, bundle_fault, flag_word_fault, other_fault, word_fault, positional_fault, step_fault, stray_fault, turn_fault, walk_fault}
use Rattle.clap.specs.Simple.{Shape}
use Rattle.clap.specs.declared.parser.matches.ValueSource.{ValueSource}
use Rattle.clap.specs.declared.builder.value_parser.Reading.{Reading}
use Rattle.clap.specs.declared.error.kind.ErrorKind.TheVariants.{TooManyValues}
use Rattle.clap.proofs.WalkLemmas.{both}
use Rattle.ob_command.specs.CommandLine.{budget_number, number, processes_of}

-- what a value is read as can stand for the argument of this id: a number for N and for BUDGET
abbrev pub suits : Text → Text → Bool
suits id text =
    if bytes_eq id (codes "N") then is_some (number text)
    else if bytes_eq id (codes "BUDGET") then is_some (budget_number text)
    else true

-- each row has a value, which can stand for its argument
abbrev has_value : Row → Bool
has_value r = option_map_or (suits r.id) (row_text r) false

pub record Filled (rows : List Row) : Type 0 where
  pub each : list_all has_value rows ≡ true

pub none_filled : Filled []
none_filled = record { each = refl }

more : (r : Row) (rows : List Row) → has_value r ≡ true → Filled rows → Filled (r ∷ rows)
more r rows h f = record { each = rw (h, f.each) refl }

first_has : (r : Row) (rows : List Row) → Filled (r ∷ rows) → has_value r ≡ true
first_has r rows f = (both (has_value r) (list_all has_value rows) f.each).0

others : (r : Row) (rows : List Row) → Filled (r ∷ rows) → Filled rows
others r rows f = record { each = (both (has_value r) (list_all has_value rows) f.each).1 }

pub without_filled : (id : Text) (rows : List Row) → Filled rows → Filled (without id rows)
without_filled id [] f = f
without_filled id (r ∷ rows) f = go (bytes_eq r.id id) (without_filled id rows (others r rows f))
  where
    go : (t : Bool) → Filled (without id rows) → Filled (if t then rows else r ∷ without id rows)
    go true rest = others r rows f
    go false rest = more r (without id rows) (first_has r rows f) rest

has_more : (id : Text) (how : Reading) (values : List Text) (v : Text) → option_map_or (suits id) (option_map (read_as how) (slice_get values 0)) false ≡ true
    → option_map_or (suits id) (option_map (read_as how) (slice_get (values ++ v ∷ []) 0)) false ≡ true
has_more id how [] v h = cc
has_more id how (x ∷ xs) v h = h

pub with_filled : (id : Text) (how : Reading) (source : ValueSource) (v : Text) (rows : List Row) → suits id (read_as how v) ≡ true → Filled rows
    → Filled (with_values id how source (v ∷ []) rows)
with_filled id how source v [] h f = more _ [] h none_filled
with_filled id how source v (r ∷ rows) h f = go (bytes_eq r.id id) (with_filled id how source v rows h (others r rows f))
  where
    go : (t : Bool) → Filled (with_values id how source (v ∷ []) rows)
        → Filled (if t then more_values source (v ∷ []) r ++ rows else r ∷ with_values id how source (v ∷ []) rows)
    go true rest = more _ rows (has_more r.id r.reading r.values v (first_has r rows f)) (others r rows f)
    go false rest = more r (with_values id how source (v ∷ []) rows) (first_has r rows f) rest

-- a use without a fault leaves each row a value, and so does a default
pub record Fills (a : Rule) : Type 0 where
  pub uses : (again : Bool) (values : List Text) (rows : List Row) → use_fault again a values rows ≡ [] → Filled rows → Filled (used a values rows)
  pub defaulted : (rows : List Row) → Filled rows → Filled (with_default rows a)

abbrev pub EachFills : List Rule → Type 0
EachFills [] = Unit {0}
EachFills (a ∷ rules) = Fills a × EachFills rules

-- what a test finds among the rules
abbrev Finds : Option Rule → Type 0
Finds None = Unit {0}
Finds (Some a) = Fills a

found : (test : Rule → Bool) (c : List Rule) → EachFills c → Finds (find test c)
found test [] each = tt
found test (a ∷ c) each = go (test a) (found test c each.1)
  where
    go : (t : Bool) → Finds (find test c) → Finds (if t then Some a else find test c)
    go true rest = each.0
    go false rest = rest

pub neither : (a b : Kinds) → or_else a b ≡ [] → (a ≡ []) × (b ≡ [])
neither [] b h = (refl, h)
neither (k ∷ ks) b h = cc

abbrev Of : Held → Type 0
Of h = Filled h.rows

module _ (c : List Rule) (again : Bool) (each : EachFills c) where
  settled_of : (h : Held) → settle_fault c again h ≡ [] → Of h → Of (settled c h)
  settled_of h none f = at h.pending none
    where
      at : (p : Option (Text × List Text)) → option_map_or (λ p. option_map_or (λ a. use_fault again a p.1 h.rows) (arg_by_id c p.0) []) p [] ≡ []
          → Filled (settled_rows c p h.rows)
      at None e = f
      at (Some p) e = by_id (arg_by_id c p.0) (found _ c each) e
        where
          by_id : (o : Option Rule) → Finds o → option_map_or (λ a. use_fault again a p.1 h.rows) o [] ≡ [] → Filled (used_by_id o p.1 h.rows)
          by_id None fills e' = f
          by_id (Some a) fills e' = fills.uses again p.1 h.rows e' f

  reacted_of : (a : Rule) → Fills a → (values : List Text) (h : Held) → react_fault c again a values h ≡ [] → Of h → Of (reacted c a values h)
  reacted_of a fills values h none f =
      let parts = neither (settle_fault c again h) (use_fault again a values (settled c h).rows) none in
      fills.uses again values (settled c h).rows parts.1 (settled_of h parts.0 f)

  option_of : (a : Rule) → Fills a → (v : Option Text) (h : Held) → option_fault c again a v h ≡ [] → Of h → Of (option_met c a v h).0
  option_of a fills (Some v) h none f = reacted_of a fills (v ∷ []) h none f
  option_of a fills None h none f = settled_of h none f

  flag_of : (a : Rule) → Fills a → (v : Option Text) (h : Held)
      → (if is_some v then TooManyValues ∷ [] else react_fault c again a [] h) ≡ [] → Of h → Of (flag_met c a v h).0
  flag_of a fills (Some v) h none f = f
  flag_of a fills None h none f = reacted_of a fills [] h none f

  long_is : (o : Option Rule) → Finds o → (v : Option Text) (h : Held) → long_fault c again o v h ≡ [] → Of h → Of (long_met c o v h).0
  long_is None fills v h none f = f
  long_is (Some a) fills v h none f = go (takes_values a) none
    where
      go : (t : Bool) → (if t then option_fault c again a v h
          else (if is_some v then TooManyValues ∷ [] else react_fault c again a [] h)) ≡ []
          → Of (if t then option_met c a v h else flag_met c a v h).0
      go true e = option_of a fills v h e f
      go false e = flag_of a fills v h e f

  short_is : (o : Option Rule) → Finds o → (rest : Text) (h : Held) (faults : Held → Kinds) (after : Held → Held × Outcome)
      → ((x : Held) → faults x ≡ [] → Of x → Of (after x).0) → short_fault c again o rest h faults ≡ [] → Of h → Of (short_met c o rest h after).0
  short_is None fills rest h faults after goes none f = f
  short_is (Some a) fills rest h faults after goes none f = go (takes_values a) none
    where
      go : (t : Bool) → (if t then option_fault c again a (attached_value rest) h else or_else (react_fault c again a [] h) (faults (reacted c a [] h))) ≡ []
          → Of (if t then option_met c a (attached_value rest) h else after (reacted c a [] h)).0
      go true e = option_of a fills (attached_value rest) h e f
      go false e =
          let parts = neither (react_fault c again a [] h) (faults (reacted c a [] h)) e in
          goes (reacted c a [] h) parts.1 (reacted_of a fills [] h parts.0 f)

  bundle_step_is : (o : Option ℕ) (flags : Text) (skip : ℕ) (so_far : Outcome) (h : Held)
      (faults : Text → ℕ → Held → Kinds) (after : Text → ℕ → Outcome → Held → Held × Outcome)
      → ((rest : Text) (k : ℕ) (x : Outcome) (y : Held) → faults rest k y ≡ [] → Of y → Of (after rest k x y).0)
      → bundle_step_fault c again o flags skip h faults ≡ [] → Of h → Of (bundle_step c o flags skip so_far h after).0
  bundle_step_is None flags skip so_far h faults after goes none f = f
  bundle_step_is (Some x) flags zero so_far h faults after goes none f =
      let rest = drop (length (encode_utf8 x)) flags in
      short_is (arg_by_short c x) (found _ c each) rest h (faults rest 0) (after rest 0 done) (λ y. goes rest 0 done y) none f
  bundle_step_is (Some x) flags (suc skip) so_far h faults after goes none f =
      goes (drop (length (encode_utf8 x)) flags) skip so_far h none f

  bundle_is : (k : ℕ) (flags : Text) (skip : ℕ) (so_far : Outcome) (h : Held) → flags_fault c again k flags skip h ≡ [] → Of h → Of (bundle_met c k flags skip so_far h).0
  unfolding flags_fault bundle_met
  bundle_is zero flags skip so_far h none f = f
  bundle_is (suc k) flags skip so_far h none f =
      bundle_step_is (slice_get (chars flags) 0) flags skip so_far h (flags_fault c again k) (bundle_met c k)
      (λ rest j x y. bundle_is k rest j x y) none f

  plain_is : (waiting : Waiting) (word : Text) (h : Held) → Of h → Of (plain_word c waiting word h).0
  plain_is idle word h f = f
  plain_is positional word h f = f
  plain_is (option id) word h f = go (arg_by_id c id)
    where
      go : (o : Option Rule) → Of (option_word o id word h).0
      go None = f
      go (Some a) = f

  after_is : (waiting : Waiting) (word : Text) (h : Held) (x : Outcome) → Of h → Of (after_flag c waiting word h x).0
  after_is waiting word h done f = f
  after_is waiting word h (waits id) f = f
  after_is waiting word h plain f = plain_is waiting word h f
  after_is waiting word h refused f = plain_is waiting word h f

  word_is : (o : Option (Text × Option Text)) (waiting : Waiting) (word : Text) (h : Held) → flag_word_fault c again o word h ≡ [] → Of h
      → Of (long_or_other c waiting word o h).0
  word_is (Some p) waiting word h none f =
      after_is waiting word _ (long_met c (arg_by_long c p.0) p.1 h).1 (long_is (arg_by_long c p.0) (found _ c each) p.1 h none f)
  word_is None waiting word h none f = go (short_of word) none
    where
      go : (o : Option Text) → option_map_or (λ flags. bundle_fault c again flags h) o [] ≡ [] → Of (short_or_plain c waiting word o h).0
      go None e = plain_is waiting word h f
      go (Some flags) e =
          let met = bundle c flags h in
          after_is waiting word met.0 met.1 (bundle_is (length flags) flags h.skip plain (record h { skip = 0 }) e f)

  positional_is : (a : Rule) (word : Text) (h : Held) → positional_fault c again a h ≡ [] → Of h → Of (positional_held c a word h)
  positional_is a word h none f = go (is_pending a h.pending && takes_several a) none
    where
      go : (t : Bool) → (if t then [] else settle_fault c again h) ≡ [] → Of (pushed a.id word (if t then h else settled c h))
      go true e = f
      go false e = settled_of h e f

module _ (s : Shape) (names : Names) (each : EachFills s.rules) where
  other_is : (o : Option Text) (waiting : Waiting) (position : ℕ) (word : Text) (h : Held) → other_fault s o word h ≡ [] → Of h
      → Of (subcommand_or_other s.rules o waiting position word h).0
  other_is (Some name) waiting position word h none f = f
  other_is None waiting position word h none f = go (bytes_eq word (45 ∷ 45 ∷ [])) none
    where
      go : (t : Bool) → (if t then [] else flag_word_fault s.rules s.args_override_self (long_of word) word h) ≡ []
          → Of (if t then (h, trailing position) else long_or_other s.rules waiting word (long_of word) h).0
      go true e = f
      go false e = word_is s.rules s.args_override_self each (long_of word) waiting word h e f

  met_is : (is_trailing : Bool) (waiting : Waiting) (position : ℕ) (word : Text) (h : Held) → word_fault s names is_trailing waiting word h ≡ [] → Of h
      → Of (word_met s.rules names is_trailing waiting position word h).0
  met_is true waiting position word h none f = f
  met_is false waiting position word h none f = other_is (subcommand_met names waiting word) waiting position word h none f

  step_is : (word : Text) (w : Walk) (h : Held) (x : Step) → step_fault s w.position h x ≡ [] → Of h → Of (after_step s.rules word w h x).held
  step_is word w h (next waiting) none f = f
  step_is word w h (trailing position) none f = f
  step_is word w h (subcommand name) none f = f
  step_is word w h value none f = go (arg_by_index s.rules w.position) none
    where
      go : (o : Option Rule) → option_map_or (λ a. positional_fault s.rules s.args_override_self a h) o (stray_fault s) ≡ []
          → Of (to_positional s.rules o word w h).held
      go None e = f
      go (Some a) e = positional_is s.rules s.args_override_self each a word h e f

  turn_is : (w : Walk) (word : Text) → turn_fault s names w word ≡ [] → Of w.held → Of (walked s.rules names w word).held
  unfolding walked
  turn_is w word none f = go w.stopped none
    where
      met : Held × Step
      met = word_met s.rules names w.is_trailing w.waiting w.position word w.held

      go : (o : Option (Text × List Text)) → (if is_some o then [] else or_else (word_fault s names w.is_trailing w.waiting word w.held) (step_fault s w.position met.0 met.1)) ≡ []
          → Of (walked_from s.rules names o w word).held
      go (Some p) e = f
      go None e =
          let parts = neither (word_fault s names w.is_trailing w.waiting word w.held) (step_fault s w.position met.0 met.1) e in
          step_is word w met.0 met.1 parts.1 (met_is w.is_trailing w.waiting w.position word w.held parts.0 f)

  walk_is : (w : Walk) (words : List Text) → walk_fault s names w words ≡ [] → Of w.held → Of (fold (walked s.rules names) w words).held
  unfolding walk_fault
  walk_is w [] none f = f
  walk_is w (word ∷ words) none f =
      let parts = neither (turn_fault s names w word) (walk_fault s names (walked s.rules names w word) words) none in
      walk_is (walked s.rules names w word) words parts.1 (turn_is w word parts.0 f)

all_defaulted : (rules : List Rule) (rows : List Row) → EachFills rules → Filled rows → Filled (fold with_default rows rules)
all_defaulted [] rows each f = f
all_defaulted (a ∷ rules) rows each f = all_defaulted rules (with_default rows a) each.1 (each.0.defaulted rows f)

-- ---- a level

-- the row of what was given
record GivenRow (id : Text) (rows : List Row) : Type 0 where
  row : Row
  is : find (λ r. bytes_eq r.id id) rows ≡ Some row
  id_is : row.id ≡ id
  valued : has_value row ≡ true

given_row : (id : Text) (rows : List Row) → Filled rows → is_given id rows ≡ true → GivenRow id rows
given_row id [] f given = cc
given_row id (r ∷ rows) f given = go (bytes_eq r.id id) refl (given_row id rows (others r rows f))
  where
    go : (t : Bool) → bytes_eq r.id id ≡ t → (is_given id rows ≡ true → GivenRow id rows) → GivenRow id (r ∷ rows)
    go true t rest = record { row = r; is = rw t refl; id_is = (bytes_eq-Decides r.id id).0 t; valued = first_has r rows f }
    go false t rest =
        let given' : is_given id rows ≡ true = rw t at given in
        let g = rest given' in
        record { row = g.row; is = rw t g.is; id_is = g.id_is; valued = g.valued }

has_first : (id : Text) (how : Reading) (o : Option Text) → option_map_or (suits id) (option_map (read_as how) o) false ≡ true → is_some o ≡ true
has_first id how None h = cc
has_first id how (Some t) h = refl

-- what was given has a value
pub given_first : (id : Text) (rows : List Row) → Filled rows → is_given id rows ≡ true → is_some (first_of id rows) ≡ true
given_first id rows f given =
    let g = given_row id rows f given in
    let some = has_first g.row.id g.row.reading (slice_get g.row.values 0) g.valued in
    rw (g.is) some

has_number : (o : Option Text) → option_map_or (suits (codes "N")) o false ≡ true → is_some (option_and_then number o) ≡ true
has_number None h = cc
has_number (Some t) h = h

-- and that of N is a number
pub given_number : (rows : List Row) → Filled rows → is_given (codes "N") rows ≡ true → is_some (processes_of rows) ≡ true
given_number rows f given =
    let g = given_row (codes "N") rows f given in
    let suited = subst (λ (id : Text). option_map_or (suits id) (row_text g.row) false ≡ true) g.id_is g.valued in
    let some = has_number (row_text g.row) suited in
    rw (g.is) some

pub level_filled : (s : Shape) → EachFills s.rules → (words : List Text)
    → walk_fault s [] (walk_from nothing_held) words ≡ []
    → settle_fault s.rules s.args_override_self (walk s.rules [] nothing_held words).held ≡ []
    → Filled (rows_after s.rules [] words)
level_filled s each words walks settles =
    let end = (walk s.rules [] nothing_held words).held in
    let filled = settled_of s.rules s.args_override_self each end settles (walk_is s [] each _ words walks none_filled) in
    all_defaulted s.rules (settled s.rules end).rows each filled
