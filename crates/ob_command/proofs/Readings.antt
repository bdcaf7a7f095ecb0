-- From what clap answers to a request.
use Rattle.std.proofs.Common.{◌≡◌, ◌≢◌, ◌∙◌, ◌⊎◌, ◌&&◌, refl, sym, ap, ap₂, subst, List, [], ◌∷◌, true, false, not, Bool, Option, Some, None, Err, IsSome, Box, box_value, option_map, option_and_then, is_some, codes, inl, inr}
use Rattle.clap.specs.Words.{App, Row, Text, rows_of, subcommand_rows_of, IsAmong, HasKind, HasMatchesOf, Kinds, fault_of, is_simple, is_simple_and_free, kind_of, subcommand_of}
use Rattle.clap.specs.declared.error.Error.{Error}
use Rattle.clap.specs.declared.error.kind.ErrorKind.{ErrorKind}
use Rattle.clap.specs.declared.error.kind.ErrorKind.TheVariants as kind
use Rattle.clap.specs.declared.parser.matches.ArgMatches.{ArgMatches}
use Rattle.clap.specs.declared.parser.matches.ArgMatches.TheViews.{out-ArgMatches, out-SubCommand}
use Rattle.clap.specs.declared.parser.matches.SubCommand.{SubCommand}
use Rattle.clap.specs.Matches.{subcommand_name_of}
use Rattle.clap.specs.Simple.{subcommand_rows}
use Rattle.std.specs.Prelude.{unwrap_or}
use Rattle.clap.specs.Simple.{built}
use Rattle.clap.specs.Walk.{nothing_held}
use Rattle.clap.proofs.OnLiterals.{clap_on_literals}
use Rattle.ob_command_line.specs.ClapCommand.{obl0_app}
use Rattle.std.specs.Borrow.{Bor}
use Rattle.clap.specs.Words.{first_of, first_value}
use Rattle.clap.specs.declared.parser.matches.Found.{Found}
use Rattle.clap.proofs.WalkLemmas.{first_value-rows}
use Rattle.ob_command.specs.CommandLine.{Request, Help, Unclear, asked, clap_request, command_of, form_mistake, form_mistake_of, given_of, has_negative, loose_number, request_by}
use Rattle.ob_command.specs.Commands.{IsMistake, IsReading, IsStopOf, is_loose, is_of_number, is_unknown}
use Rattle.std.specs.List.{list_all}
use Rattle.ob_command.specs.declared.command.Stop.{Stop}
use Rattle.ob_command.specs.declared.command.Stop.TheVariants as stops
use Rattle.ob_command.proofs.Required.{has_command}
use Rattle.ob_command.proofs.OneSort.{OneSort, is_help, of_first, one_sort}

pub is_free : is_simple_and_free obl0_app ≡ true
unfolding clap_on_literals
is_free = refl

the_kinds : (words : List Text) → OneSort (fault_of obl0_app words)
the_kinds words = one_sort (built obl0_app) nothing_held words refl refl

helps : (k : ErrorKind) (others : Kinds) (met : Option (Text × List Row)) → is_help k ≡ true → request_by (k ∷ others) met ≡ Help
helps kind.DisplayHelp others met h = refl
helps _ others met h = cc

mistakes : (k : ErrorKind) (others : Kinds) (met : Option (Text × List Row)) → is_help k ≡ false → request_by (k ∷ others) met ≡ Unclear
mistakes kind.DisplayHelp others met h = cc
mistakes _ others met h = refl

no_help : (k : ErrorKind) → k ≢ kind.DisplayHelp → is_help k ≡ false
no_help kind.DisplayHelp h = absurd (h refl)
no_help _ h = refl

stop_read : (negative : Bool) (number : Option Text) (kinds : Kinds) (met : Option (Text × List Row)) → OneSort kinds → (k : ErrorKind)
    → (k ≡ kind.OutOfMemory) ⊎ IsAmong k kinds → (stop : Stop) → IsStopOf negative number k stop → IsReading (request_by kinds met) (Err stop)
stop_read negative number kinds met one k any stops.NoMemory is = tt
stop_read negative number kinds met one k any stops.Version is = absurd is
stop_read negative number kinds met one k (inl any) (stops.Help text) is = cc
stop_read negative number [] met one k (inr any) (stops.Help text) is = absurd any
stop_read negative number (x ∷ xs) met one k (inr any) (stops.Help text) is = helps x xs met (sym (of_first x k xs one any) ∙ ap is_help is)
stop_read negative number kinds met one k (inl any) (stops.Unclear text) is = absurd (is.1 any)
stop_read negative number [] met one k (inr any) (stops.Unclear text) is = absurd any
stop_read negative number (x ∷ xs) met one k (inr any) (stops.Unclear text) is = mistakes x xs met (sym (of_first x k xs one any) ∙ no_help k is.0)

pub parsed_stop : (a : App) → a ≡ obl0_app → (words : List Text) (e : Error) → (is_simple_and_free a ≡ true → HasKind (fault_of a words) e)
    → (negative : Bool) (number : Option Text) (stop : Stop) → IsStopOf negative number (kind_of e) stop → IsReading (clap_request words) (Err stop)
unfolding clap_request
parsed_stop a is words e kinds negative number stop h =
    stop_read negative number (fault_of obl0_app words) (subcommand_of obl0_app words) (the_kinds words) (kind_of e)
    (subst (λ (x : App). HasKind (fault_of x words) e) is (kinds (ap is_simple_and_free is ∙ is_free))) stop h

-- such a stop tells of a fault of the words
no_faults_here : (kinds : Kinds) (k : ErrorKind) → IsAmong k kinds → kinds ≢ []
no_faults_here [] k h e = absurd h
no_faults_here (x ∷ xs) k h e = cc

-- what holds of all kinds holds of one of them
both_true : (a b : Bool) → (a && b) ≡ true → (a ≡ true) × (b ≡ true)
both_true true b h = (refl, h)
both_true false b h = cc

-- a mistake among words with a number below 0 is none of a number without its option
pub not_loose : (k : ErrorKind) (negative : Bool) → negative ≡ true → is_loose negative k ≡ true → ⊥
not_loose k negative is h = let loose : not negative ≡ true = (both_true (is_unknown k) (not negative) h).1 in cc

of_all : (f : ErrorKind → Bool) (k : ErrorKind) (kinds : Kinds) → IsAmong k kinds → list_all f kinds ≡ true → f k ≡ true
of_all f k [] any all = absurd any
of_all f k (x ∷ xs) (inl is) all = ap f is ∙ (both_true (f x) (list_all f xs) all).0
of_all f k (x ∷ xs) (inr any) all = of_all f k xs any (both_true (f x) (list_all f xs) all).1

stop_mistaken : (words : List Text) (k : ErrorKind) → (k ≡ kind.OutOfMemory) ⊎ IsAmong k (fault_of obl0_app words) → (stop : Stop)
    → IsStopOf (has_negative words) (loose_number words) k stop → IsMistake words (Err stop)
stop_mistaken words k any stops.NoMemory is = tt
stop_mistaken words k any stops.Version is = tt
stop_mistaken words k any (stops.Help text) is = tt
stop_mistaken words k (inl any) (stops.Unclear text) is = absurd (is.1 any)
stop_mistaken words k (inr any) (stops.Unclear text) is =
    inl (
      no_faults_here (fault_of obl0_app words) k any,
      λ all. is.2.0 (of_all (is_of_number (has_negative words)) k (fault_of obl0_app words) any all),
      λ all. is.2.1 (of_all (is_loose (has_negative words)) k (fault_of obl0_app words) any all),
    )

pub parsed_mistake : (a : App) → a ≡ obl0_app → (words : List Text) (e : Error) → (is_simple_and_free a ≡ true → HasKind (fault_of a words) e)
    → (stop : Stop) → IsStopOf (has_negative words) (loose_number words) (kind_of e) stop → IsMistake words (Err stop)
parsed_mistake a is words e kinds stop h =
    stop_mistaken words (kind_of e) (subst (λ (x : App). HasKind (fault_of x words) e) is (kinds (ap is_simple_and_free is ∙ is_free))) stop h

-- ---- the same of a parse

module _ (a : App) (is : a ≡ obl0_app) (words : List Text) (m : ArgMatches)
    (kinds : is_simple_and_free a ≡ true → fault_of a words ≡ []) (matches : HasMatchesOf a words m) where
  pub no_fault : fault_of obl0_app words ≡ []
  no_fault = subst (λ (x : App). fault_of x words ≡ []) is (kinds (ap is_simple_and_free is ∙ is_free))

  pub the_rows : subcommand_rows_of m ≡ subcommand_of obl0_app words
  the_rows = (matches (ap is_simple is ∙ refl)).1 ∙ ap (λ (x : App). subcommand_of x words) is

-- ---- the command of a name

pub first_row : (f : Found) (id : Text) (o : Option (Bor Text)) (v : Option Text) → option_map (λ s. s.now) o ≡ first_value f id
    → option_map (λ s. s.now) o ≡ v → first_of id (rows_of f) ≡ v
first_row f id o v e h = sym (first_value-rows f id) ∙ (sym e ∙ h)

-- what an argument's text is
pub text_is : (f : Found) (id : Text) (o : Option (Bor Text)) → option_map (λ s. s.now) o ≡ first_value f id → option_map (λ s. s.now) o ≡ first_of id (rows_of f)
text_is f id o e = e ∙ first_value-rows f id

pub no_module : (name : Text) (rows : List Row) → first_of (codes "MODULE") rows ≡ None → command_of name rows ≡ None
no_module name rows h = ap (option_and_then (λ m. asked name m (given_of rows))) h

pub on_module : (name m : Text) (rows : List Row) → first_of (codes "MODULE") rows ≡ Some m → command_of name rows ≡ asked name m (given_of rows)
on_module name m rows h = ap (option_and_then (λ m. asked name m (given_of rows))) h

-- ---- the command that was met

met_is : {Z : Type 0} (o : Option (Box SubCommand Z)) (name : Text) (rows : List Row) → Some name ≡ option_map (λ b. (out-SubCommand (box_value b)).name.now) o
    → Some rows ≡ option_map (λ p. p.1) (subcommand_rows o) → subcommand_rows o ≡ Some (name, rows)
met_is None name rows e h = cc
met_is (Some b) name rows e h = ap₂ (λ (n : Text) (r : List Row). Some (n, r)) (inside e) (inside h)
  where
    inside : {A : Type 0} {x y : A} → Some x ≡ Some y → y ≡ x
    inside e = cc

module _ (a : App) (is : a ≡ obl0_app) (words : List Text) (m : ArgMatches)
    (kinds : is_simple_and_free a ≡ true → fault_of a words ≡ []) (matches : HasMatchesOf a words m)
    (name : Text) (rows : List Row) (named : Some name ≡ subcommand_name_of m)
    (left : Some rows ≡ option_map (λ p. p.1) (subcommand_rows (out-ArgMatches m).subcommand)) where
  met : subcommand_of obl0_app words ≡ Some (name, rows)
  met = sym (the_rows a is words m kinds matches) ∙ met_is (out-ArgMatches m).subcommand name rows named left

  pub asked_is : (r : Request) → command_of name rows ≡ Some r → clap_request words ≡ r
  unfolding clap_request
  asked_is r h = ap₂ request_by (no_fault a is words m kinds matches) met ∙ ap (λ o. unwrap_or o Unclear) h

  pub nothing_asked : command_of name rows ≡ None → clap_request words ≡ Unclear
  unfolding clap_request
  nothing_asked h = ap₂ request_by (no_fault a is words m kinds matches) met ∙ ap (λ o. unwrap_or o Unclear) h

  -- what is said of the form
  pub form_said : form_mistake_of words ≡ form_mistake name rows
  form_said = ap (option_and_then (λ m. form_mistake m.0 m.1)) met

  pub form_known : command_of name rows ≡ None → is_some (form_mistake name rows) ≡ true
  form_known h = go (is_some (form_mistake name rows)) refl
    where
      go : (t : Bool) → is_some (form_mistake name rows) ≡ t → is_some (form_mistake name rows) ≡ true
      go true t = t
      go false t =
          let bad : false ≡ true = sym (ap is_some h) ∙ has_command words (no_fault a is words m kinds matches) (name, rows) met t in
          cc

pub mapped : {A B : Type 0} (g : A → B) (o : Option A) (r : Option B) → option_map g o ≡ r → is_some r ≡ true → IsSome o
mapped g None r e h = let bad : false ≡ true = rw (← e) at h in cc
mapped g (Some c) r e h = refl
