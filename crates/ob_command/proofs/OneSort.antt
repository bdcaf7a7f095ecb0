-- Of the kinds that a fault may have either all are calls for help, or none is.
use Rattle.std.proofs.Common.{◌≡◌, ◌∙◌, ◌+◌, ℕ, zero, suc, min, refl, ap, List, [], ◌∷◌, length, drop, true, false, Bool, if◌then◌else◌, ◌==◌, ◌&&◌, ◌||◌, not, nat_lt, Option, Some, None, is_some, inl, inr, chars, encode_utf8, slice_get, find, codes}
use Rattle.std.specs.List.{list_all, list_any}
use Rattle.std.specs.Option.{option_map_or}
use Rattle.std.specs.Str.{bytes_eq}
use Rattle.clap.specs.Facts.{explicit_source, parser_of_value, unwrap_or_range}
use Rattle.clap.specs.Lexer.{long_of, short_of}
use Rattle.clap.specs.Matches.{count_text}
use Rattle.clap.specs.Takes.{is_given}
use Rattle.clap.specs.ValueTests.{accepts}
use Rattle.clap.specs.Walk.{Held, Names, Row, Rule, Step, Text, Waiting, Walk, next, trailing, subcommand, value, action_of, answers_to, arg_by_id, arg_by_long, arg_by_short, arg_by_index, attached_value, count_of, finished, has_row, is_empty, is_pending, most_values, nothing_held, takes_several, takes_values, values_or_missing, settled, reacted, walked, with_default, word_met, subcommand_met, walk_from, walk}
use Rattle.clap.specs.Kinds.{Kinds, IsAmong, or_else, value_kinds, values_kinds, range_kinds, request_kinds, check_kinds}
use Rattle.clap.specs.Faults.{set_fault, count_fault, action_fault, use_fault, settle_fault, react_fault, option_fault, long_fault, short_fault, bundle_step_fault, flags_fault, bundle_fault, flag_word_fault, other_fault, word_fault, positional_fault, stray_fault, step_fault, turn_fault, walk_fault, default_fault, defaults_fault, level_fault, entered_fault, built_fault}
use Rattle.clap.specs.Simple.{App, Shape, entered, label_of, names_of}
use Rattle.clap.specs.declared.builder.action.ArgAction.{ArgAction}
use Rattle.clap.specs.declared.builder.action.ArgAction.TheVariants as action
use Rattle.clap.specs.declared.builder.value_parser.ValueParser.{ValueParser}
use Rattle.clap.specs.declared.error.kind.ErrorKind.{ErrorKind}
use Rattle.clap.specs.declared.error.kind.ErrorKind.TheVariants as kind
use Rattle.clap.proofs.WalkLemmas.{both}

abbrev pub is_help : ErrorKind → Bool
is_help kind.DisplayHelp = true
is_help _ = false

abbrev same : Bool → Bool → Bool
same true true = true
same false false = true
same _ _ = false

abbrev are_one : Kinds → Bool
are_one [] = true
are_one (k ∷ ks) = list_all (λ x. same (is_help x) (is_help k)) ks

pub record OneSort (kinds : Kinds) : Type 0 where
  pub one : are_one kinds ≡ true

nil : OneSort []
nil = record { one = refl }

only : {k : ErrorKind} → OneSort (k ∷ [])
only = record { one = refl }

one_or : (a b : Kinds) → OneSort a → OneSort b → OneSort (or_else a b)
one_or [] b f g = g
one_or (k ∷ ks) b f g = f

one_if : (t : Bool) (a b : Kinds) → OneSort a → OneSort b → OneSort (if t then a else b)
one_if true a b f g = f
one_if false a b f g = g

one_map : {X : Type 0} (f : X → Kinds) (o : Option X) → ((x : X) → OneSort (f x)) → OneSort (option_map_or f o [])
one_map f None h = nil
one_map f (Some x) h = h x

one_value : (i : Bool) (p : ValueParser) (text : Text) → OneSort (value_kinds i p text)
one_value i p text = one_if (accepts i p text) _ _ nil only

one_values : (i : Bool) (p : ValueParser) (texts : List Text) → OneSort (values_kinds i p texts)
one_values i p [] = nil
one_values i p (v ∷ vs) = one_or _ _ (one_value i p v) (one_values i p vs)

one_range : (least most n : ℕ) → OneSort (range_kinds least most n)
one_range least most n = one_if (nat_lt 0 least && n == 0) _ _ only (one_if (least == most) _ _ (one_if (least == n) _ _ nil only)
    (one_if (nat_lt n least) _ _ only (one_if (nat_lt most n) _ _ only nil)))

one_request : (x : ArgAction) → OneSort (request_kinds x)
one_request action.Set = nil
one_request action.Append = nil
one_request action.SetTrue = nil
one_request action.SetFalse = nil
one_request action.Count = nil
one_request action.Help = only
one_request action.HelpShort = only
one_request action.HelpLong = only
one_request action.Version = only

one_set : (again : Bool) (a : Rule) (values : List Text) (rows : List Row) → OneSort (set_fault again a values rows)
one_set again a values rows = one_or _ _ (one_if (has_row a.id rows && not again) _ _ only nil) (one_values a.ignore_case (parser_of_value a.parser) values)

one_count : (a : Rule) (values : List Text) (rows : List Row) → OneSort (count_fault a values rows)
one_count a [] rows = one_value a.ignore_case (parser_of_value a.parser) (count_text (min (count_of a.id rows + 1) 255))
one_count a (v ∷ vs) rows = one_values a.ignore_case (parser_of_value a.parser) (v ∷ vs)

one_action : (x : ArgAction) (again : Bool) (a : Rule) (values : List Text) (rows : List Row) → OneSort (action_fault x again a values rows)
one_action action.Set again a values rows = one_set again a values rows
one_action action.SetTrue again a values rows = one_set again a values rows
one_action action.SetFalse again a values rows = one_set again a values rows
one_action action.Append again a values rows = one_values a.ignore_case (parser_of_value a.parser) values
one_action action.Count again a values rows = one_count a values rows
one_action action.Help again a values rows = only
one_action action.HelpShort again a values rows = only
one_action action.HelpLong again a values rows = only
one_action action.Version again a values rows = only

one_use : (again : Bool) (a : Rule) (values : List Text) (rows : List Row) → OneSort (use_fault again a values rows)
one_use again a values rows = one_or _ _ (one_range (unwrap_or_range a.range).start_inclusive (most_values a) (length values))
    (one_action (action_of a) again a (values_or_missing a values) rows)

module _ (c : List Rule) (again : Bool) where
  one_settle : (h : Held) → OneSort (settle_fault c again h)
  one_settle h = one_map (λ p. option_map_or (λ a. use_fault again a p.1 h.rows) (arg_by_id c p.0) []) h.pending
      (λ p. one_map (λ a. use_fault again a p.1 h.rows) (arg_by_id c p.0) (λ a. one_use again a p.1 h.rows))

  one_react : (a : Rule) (values : List Text) (h : Held) → OneSort (react_fault c again a values h)
  one_react a values h = one_or _ _ (one_settle h) (one_use again a values (settled c h).rows)

  one_option : (a : Rule) (v : Option Text) (h : Held) → OneSort (option_fault c again a v h)
  one_option a (Some v) h = one_react a (v ∷ []) h
  one_option a None h = one_settle h

  one_long : (o : Option Rule) (v : Option Text) (h : Held) → OneSort (long_fault c again o v h)
  one_long None v h = only
  one_long (Some a) v h = one_if (takes_values a) _ _ (one_option a v h) (one_if (is_some v) _ _ only (one_react a [] h))

  one_short : (o : Option Rule) (rest : Text) (h : Held) (after : Held → Kinds) → ((x : Held) → OneSort (after x)) → OneSort (short_fault c again o rest h after)
  one_short None rest h after more = only
  one_short (Some a) rest h after more =
      one_if (takes_values a) _ _ (one_option a (attached_value rest) h) (one_or _ _ (one_react a [] h) (more (reacted c a [] h)))

  one_bundle : (o : Option ℕ) (flags : Text) (skip : ℕ) (h : Held) (after : Text → ℕ → Held → Kinds)
      → ((rest : Text) (k : ℕ) (x : Held) → OneSort (after rest k x)) → OneSort (bundle_step_fault c again o flags skip h after)
  one_bundle None flags skip h after more = nil
  one_bundle (Some x) flags zero h after more =
      let rest = drop (length (encode_utf8 x)) flags in
      one_short (arg_by_short c x) rest h (after rest 0) (λ y. more rest 0 y)
  one_bundle (Some x) flags (suc skip) h after more = more (drop (length (encode_utf8 x)) flags) skip h

  one_flags : (k : ℕ) (flags : Text) (skip : ℕ) (h : Held) → OneSort (flags_fault c again k flags skip h)
  unfolding flags_fault
  one_flags zero flags skip h = nil
  one_flags (suc k) flags skip h = one_bundle (slice_get (chars flags) 0) flags skip h (flags_fault c again k) (one_flags k)

  one_flag_word : (p : Option (Text × Option Text)) (word : Text) (h : Held) → OneSort (flag_word_fault c again p word h)
  one_flag_word (Some p) word h = one_long (arg_by_long c p.0) p.1 h
  one_flag_word None word h = one_map (λ flags. bundle_fault c again flags h) (short_of word)
      (λ flags. one_flags (length flags) flags h.skip (record h { skip = 0 }))

  one_positional : (a : Rule) (h : Held) → OneSort (positional_fault c again a h)
  one_positional a h = one_if (is_pending a h.pending && takes_several a) _ _ nil (one_settle h)

-- no subcommand is for help
module _ (s : Shape) (names : Names) (no_topic : s.disable_help_subcommand ≡ true) where
  one_other : (o : Option Text) (word : Text) (h : Held) → OneSort (other_fault s o word h)
  one_other (Some name) word h = go (bytes_eq name (codes "help"))
    where
      go : (t : Bool) → OneSort (if t && not s.disable_help_subcommand then kind.DisplayHelp ∷ kind.InvalidSubcommand ∷ [] else [])
      go true = rw no_topic nil
      go false = nil
  one_other None word h = one_if (bytes_eq word (45 ∷ 45 ∷ [])) _ _ nil (one_flag_word s.rules s.args_override_self (long_of word) word h)

  one_word : (is_trailing : Bool) (waiting : Waiting) (word : Text) (h : Held) → OneSort (word_fault s names is_trailing waiting word h)
  one_word is_trailing waiting word h = one_if is_trailing _ _ nil (one_other (subcommand_met names waiting word) word h)

  one_step : (position : ℕ) (h : Held) (x : Step) → OneSort (step_fault s position h x)
  one_step position h (next w) = nil
  one_step position h (trailing p) = nil
  one_step position h (subcommand name) = nil
  one_step position h value = go (arg_by_index s.rules position)
    where
      go : (o : Option Rule) → OneSort (option_map_or (λ a. positional_fault s.rules s.args_override_self a h) o (stray_fault s))
      go None = one_if s.is_leaf _ _ only (record { one = refl })
      go (Some a) = one_positional s.rules s.args_override_self a h

  one_turn : (w : Walk) (word : Text) → OneSort (turn_fault s names w word)
  one_turn w word =
      let met = word_met s.rules names w.is_trailing w.waiting w.position word w.held in
      one_if (is_some w.stopped) _ _ nil (one_or _ _ (one_word w.is_trailing w.waiting word w.held) (one_step w.position met.0 met.1))

  one_walk : (w : Walk) (words : List Text) → OneSort (walk_fault s names w words)
  unfolding walk_fault
  one_walk w [] = nil
  one_walk w (word ∷ words) = one_or _ _ (one_turn w word) (one_walk (walked s.rules names w word) words)

one_default : (rows : List Row) (a : Rule) → OneSort (default_fault rows a)
one_default rows a = one_if (has_row a.id rows || is_empty a.defaults) _ _ nil
    (one_or _ _ (one_request (action_of a)) (one_values a.ignore_case (parser_of_value a.parser) a.defaults))

one_defaults : (rows : List Row) (rules : List Rule) → OneSort (defaults_fault rows rules)
unfolding defaults_fault
one_defaults rows [] = nil
one_defaults rows (a ∷ rest) = one_or _ _ (one_default rows a) (one_defaults (with_default rows a) rest)

one_check : (a b c : Bool) → OneSort (check_kinds a b c)
one_check a b c = one_if a _ _ only (one_if b _ _ only (one_if c _ _ only nil))

one_level : (s : Shape) (names : Names) (words : List Text) (h : Held) (has : Bool) (below : Kinds) → s.disable_help_subcommand ≡ true → OneSort below
    → OneSort (level_fault s names h words has below)
one_level s names words h has below no_topic one =
    let end = (walk s.rules names h words).held in
    let rows = finished s.rules end in
    one_or _ _ (one_walk s names no_topic (walk_from h) words)
    (one_or _ _ one (one_or _ _ (one_settle s.rules s.args_override_self end) (one_or _ _ (one_defaults (settled s.rules end).rows s.rules)
    (one_check (not has && (s.arg_required_else_help && not (list_any (λ r. explicit_source r.source) rows)))
    (not has && s.subcommand_required)
    (not (s.subcommand_negates_reqs && has) && list_any (λ a. a.required && not (is_given a.id rows)) s.rules)))))

found_in : (p : Shape → Bool) (xs : List Shape) → list_all (λ s. s.disable_help_subcommand) xs ≡ true → (f : Shape → Kinds)
    → ((s : Shape) → s.disable_help_subcommand ≡ true → OneSort (f s)) → OneSort (option_map_or f (find p xs) [])
found_in p [] all f h = nil
found_in p (x ∷ xs) all f h = go (p x) (found_in p xs (both x.disable_help_subcommand (list_all (λ s. s.disable_help_subcommand) xs) all).1 f h)
  where
    go : (t : Bool) → OneSort (option_map_or f (find p xs) []) → OneSort (option_map_or f (if t then Some x else find p xs) [])
    go true rest = h x (both x.disable_help_subcommand (list_all (λ s. s.disable_help_subcommand) xs) all).0
    go false rest = rest

pub one_sort : (a : App) (h : Held) (words : List Text) → a.top.disable_help_subcommand ≡ true → list_all (λ s. s.disable_help_subcommand) a.subs ≡ true
    → OneSort (built_fault a h words)
one_sort a h words no_topic subs =
    let stop = (walk a.top.rules (names_of a) h words).stopped in
    one_level a.top (names_of a) words h (is_some (entered a stop)) (entered_fault a stop) no_topic
    (one_map (λ p. option_map_or (λ s. level_fault s [] nothing_held p.1 false []) (find (λ s. answers_to p.0 (label_of s)) a.subs) []) stop
    (λ p. found_in (λ s. answers_to p.0 (label_of s)) a.subs subs (λ s. level_fault s [] nothing_held p.1 false [])
    (λ s below. one_level s [] p.1 nothing_held false [] below nil)))

alike : (a b : Bool) → same a b ≡ true → a ≡ b
alike true true e = refl
alike false false e = refl
alike true false e = cc
alike false true e = cc

among_alike : (k x : ErrorKind) (ks : Kinds) → list_all (λ y. same (is_help y) (is_help k)) ks ≡ true → IsAmong x ks → is_help x ≡ is_help k
among_alike k x [] all h = absurd h
among_alike k x (y ∷ ys) all (inl is) =
    ap is_help is ∙ alike (is_help y) (is_help k) (both (same (is_help y) (is_help k)) (list_all (λ y. same (is_help y) (is_help k)) ys) all).0
among_alike k x (y ∷ ys) all (inr h) =
    among_alike k x ys (both (same (is_help y) (is_help k)) (list_all (λ y. same (is_help y) (is_help k)) ys) all).1 h

-- the kinds are of the sort of the first
pub of_first : (k x : ErrorKind) (ks : Kinds) → OneSort (k ∷ ks) → IsAmong x (k ∷ ks) → is_help x ≡ is_help k
of_first k x ks one (inl is) = ap is_help is
of_first k x ks one (inr h) = among_alike k x ks one.one h
