-- Calls that code makes one at a time, and the lines of their replies so far.
use Rattle.std.proofs.Common.{◌≡◌, ◌∙◌, ℕ, zero, suc, ◌+◌, ◌<◌, ◌≤◌, min, List, [], ◌∷◌, ◌++◌, map, length, get_or, set, take, drop, replicate, refl, sym, ap, ap₂, subst, All, arith}
use Rattle.std.proofs.Math.ListN.{get_or-map}
use Rattle.std.proofs.lemmas.List.{length-map, take_all, take_more}
use Rattle.ob_code_calls.specs.Parts.{parts_in}
use Rattle.ob_code_correct.specs.CodeMeaning.{EngineParts}
use Rattle.ob_code_correct.specs.Compiled.{Fits, IsFitting, parts_of}
use Rattle.ob_code_correct.specs.Parts.{IsCompiledTo, IsLawfulFor}
use Rattle.ob_layout.specs.Layout.{LayoutParts, layout_of}
use Rattle.ob_code_scheme.specs.Layout.{encoded}
use Rattle.ob_code_calls.specs.Standing.{IsLaidOut, IsMade, StandsAt}
use Rattle.ob_code_calls.specs.declared.standing_state.CodedState.{CodedState}
use Rattle.ob_interface.specs.Call.{ObjectCall, Reply}
use Rattle.ob_mean.proofs.Runs.{drop_here}
use Rattle.ob_mean.specs.Sequences.{replies_to}
use Rattle.ob_object_calls.proofs.ChangesInTurn.{changes_last, changes_next}
use Rattle.ob_object_calls.proofs.Printing.{HasPrinted, HasPrinted-all, HasPrinted-more, HasPrinted-none}
use Rattle.ob_meaning.specs.ByPositionObject.{effect}
use Rattle.ob_meaning.specs.ByPositionStore.{Activation}
use Rattle.ob_text_words.specs.ReplyLines.{reply_line}
use Rattle.ob_object_compile.specs.Compilation.{ObjectParts}
use Rattle.ob_object_compile.specs.Sound.{IsSoundObject}
use Rattle.ob_object_calls.specs.CallLines.{reply_lines}
use Rattle.ob_object_calls.specs.DetailLines.{all_changes_at, lines_at, lines_changed}
use Rattle.ob_text_words.specs.declared.script_call.ScriptCall.{ScriptCall}
use Rattle.ob_text_words.specs.ScriptCalls.{object_call, script_call_of}
use Rattle.ob_typing.specs.Program.{Program}

-- ---- the code of an object

module _ (o : ObjectParts) (sound : IsSoundObject o) (parts : EngineParts) (are : parts ≡ parts_of o.program o.engine.budget) where
  pub its_budget : parts.budget ≡ o.engine.budget
  its_budget = ap (λ (q : EngineParts). q.budget) are

  pub compiled_to : IsCompiledTo o.program parts
  compiled_to = record { well = sound.well; parts_are = are ∙ ap (parts_of o.program) (sym its_budget) }

  pub opens_lawfully : ∥ IsLawfulFor parts (encoded o.opening) ∥₁
  opens_lawfully =
      ∣ record {
        program = o.program;
        compiled = compiled_to;
        is = record { state = o.opening; encodes = record { typed = sound.begins; words_are = refl } };
      } ∣₁

-- ---- calls one after the other

-- each call has a reply
pub replies_count : (program : Program) (budget : ℕ) (state : Activation) (calls : List ObjectCall) → length (replies_to program budget state calls) ≡ length calls
replies_count program budget state [] = refl
replies_count program budget state (c ∷ calls) = ap suc (replies_count program budget (effect program c budget state).state calls)

-- what stands at a place, and behind it, where the rest is known
record BeginsAt {A : Type 0} (xs : List A) (n : ℕ) (x : A) (rest : List A) : Type 0 where
  pub within : n < length xs
  pub here : x ≡ get_or xs n x
  pub behind : drop (n + 1) xs ≡ rest

begins_at : {A : Type 0} (xs : List A) (n : ℕ) (x : A) (rest : List A) → drop n xs ≡ x ∷ rest → BeginsAt xs n x rest
begins_at [] zero x rest h = absurd (cc)
begins_at [] (suc n) x rest h = absurd (cc)
begins_at (y ∷ xs) zero x rest h =
    let is : y ∷ xs ≡ x ∷ rest = h in
    let same : y ≡ x = cc in
    let others : xs ≡ rest = cc in
    record { within = omega arith; here = sym same; behind = others }
begins_at (y ∷ xs) (suc n) x rest h =
    let b = begins_at xs n x rest h in
    let within = b.within in
    let e : suc (n + 1) ≡ suc n + 1 = omega arith in
    record { within = omega (arith, within); here = b.here; behind = ap (λ k. drop k (y ∷ xs)) (sym e) ∙ b.behind }

module _ (program : Program) (budget : ℕ) (opening : Activation) (calls : List ObjectCall) where
  abbrev all_replies : List Reply
  all_replies = replies_to program budget opening calls

  -- so many calls are made: the code stands at the state that they lead to, and the others have the replies that are left
  pub record HasMade (n : ℕ) (o : CodedState) : Type 0 where
    pub state : Activation
    pub stands : StandsAt program budget state o
    pub rest : drop n all_replies ≡ replies_to program budget state (drop n calls)

  pub made_none : (o : CodedState) → StandsAt program budget opening o → HasMade 0 o
  made_none o stands = record { state = opening; stands = stands; rest = refl }

  -- a call of the program fits the code
  pub fits_code : (n : ℕ) (o : CodedState) → HasMade n o → (call : ObjectCall) → Fits program call → IsFitting (parts_in o.calls).exports call
  fits_code n o made call fits = subst (λ (q : EngineParts). IsFitting q.exports call) (sym made.stands.compiled.parts_are) fits

  -- one call more
  module _ (n : ℕ) (o next : CodedState) (made : HasMade n o) (call : ObjectCall) (reply : Reply) (below : n < length calls) (here : call ≡ get_or calls n call)
      (is : IsMade program budget call made.state next reply) where
    left : drop n all_replies ≡ reply ∷ replies_to program budget (effect program call budget made.state).state (drop (n + 1) calls)
    left =
        made.rest
        ∙ ap (λ cs. replies_to program budget made.state cs) (drop_here calls n call below ∙ ap (λ c. c ∷ drop (n + 1) calls) (sym here))
        ∙ ap (λ r. r ∷ replies_to program budget (effect program call budget made.state).state (drop (n + 1) calls)) is.reply_is

    at : BeginsAt all_replies n reply (replies_to program budget (effect program call budget made.state).state (drop (n + 1) calls))
    at = begins_at all_replies n reply _ left

    pub made_more : HasMade (n + 1) next
    made_more = record { state = (effect program call budget made.state).state; stands = is.stands; rest = at.behind }

    pub replied : n < length all_replies
    replied = at.within

    pub reply_here : reply ≡ get_or all_replies n reply
    reply_here = at.here

-- ---- the replies of calls, and the changes that they make

module _ (program : Program) (budget : ℕ) (opening : Activation) (calls : List ObjectCall) where
  -- so many calls are made, and have these replies
  pub record HasReplied (n : ℕ) (o : CodedState) (replies : List Reply) : Type 0 where
    pub made : HasMade program budget opening calls n o
    pub so_far : replies ≡ take n (all_replies program budget opening calls)

  pub replied_none : (o : CodedState) → StandsAt program budget opening o → HasReplied 0 o []
  replied_none o stands = record { made = made_none program budget opening calls o stands; so_far = refl }

  pub replied_more : (n : ℕ) (o next : CodedState) (replies : List Reply) (r : HasReplied n o replies) (call : ObjectCall) (reply : Reply) → n < length calls →
      call ≡ get_or calls n call → IsMade program budget call r.made.state next reply → HasReplied (n + 1) next (replies ++ reply ∷ [])
  replied_more n o next replies r call reply below here is =
      let all = all_replies program budget opening calls in
      let at = reply_here program budget opening calls n o next r.made call reply below here is in
      record {
        made = made_more program budget opening calls n o next r.made call reply below here is;
        so_far =
            ap (λ (rs : List Reply). rs ++ reply ∷ []) r.so_far
            ∙ ap (λ (x : Reply). take n all ++ x ∷ []) at
            ∙ sym (take_more all n reply (replied program budget opening calls n o next r.made call reply below here is));
      }

  pub replied_all : (n : ℕ) (o : CodedState) (replies : List Reply) → HasReplied n o replies → n ≡ length calls → replies ≡ all_replies program budget opening calls
  replied_all n o replies r e =
      r.so_far ∙ take_all n (all_replies program budget opening calls) (rw (replies_count program budget opening calls) (omega arith))

  -- so many calls are made, these are the lines of the variables there, and these the changes that the calls made
  pub record HasChanged (n : ℕ) (o : CodedState) (lines changes : List (List ℕ)) : Type 0 where
    pub made : HasMade program budget opening calls n o
    pub lines_are : lines ≡ lines_at program.variables made.state
    pub so_far : changes ++ all_changes_at program budget made.state (drop n calls) ≡ all_changes_at program budget opening calls

  pub changed_none : (o : CodedState) (lines : List (List ℕ)) → StandsAt program budget opening o → lines ≡ lines_at program.variables opening → HasChanged 0 o lines []
  unfolding made_none
  changed_none o lines stands is = record { made = made_none program budget opening calls o stands; lines_are = is; so_far = refl }

  -- the state behind one call more
  abbrev pub next_state : {n : ℕ} {o : CodedState} → HasMade program budget opening calls n o → ObjectCall → Activation
  next_state made call = (effect program call budget made.state).state

  pub changed_more : (n : ℕ) (o next : CodedState) (lines after changes : List (List ℕ)) (text : List ℕ) (h : HasChanged n o lines changes) (call : ObjectCall) (reply : Reply) →
      n < length calls → call ≡ get_or calls n call → IsMade program budget call h.made.state next reply →
      after ≡ lines_at program.variables (next_state h.made call) → text ≡ lines_changed lines after → HasChanged (n + 1) next after (changes ++ text ∷ [])
  unfolding made_more
  changed_more n o next lines after changes text h call reply below here is after_is text_is =
      record {
        made = made_more program budget opening calls n o next h.made call reply below here is;
        lines_are = after_is;
        so_far =
            changes_next program budget calls n call h.made.state (next_state h.made call) reply changes (all_changes_at program budget opening calls) text below here
            (ap (λ (r : Reply). record { state = next_state h.made call; reply = r }) is.reply_is)
            (text_is ∙ ap₂ lines_changed h.lines_are after_is) h.so_far;
      }

  pub changed_all : (n : ℕ) (o : CodedState) (lines changes : List (List ℕ)) → HasChanged n o lines changes → n ≡ length calls → changes ≡ all_changes_at program budget opening calls
  changed_all n o lines changes h e =
      changes_last program budget calls n h.made.state changes (all_changes_at program budget opening calls) (omega arith) h.so_far

  -- the words are of a state of an object's layout
  pub laid_out : (layout : LayoutParts) → layout ≡ layout_of program → (state : Activation) (o : CodedState) → StandsAt program budget state o → ∥ IsLaidOut layout o ∥₁
  laid_out layout is state o stands = ∣ record { program = program; budget = budget; state = state; layout_is = is; stands = stands } ∣₁

-- ---- the calls of a script, and their lines

abbrev pub asked_in : List ScriptCall → List ObjectCall
asked_in = map (λ c. object_call (script_call_of c))

abbrev pub callers_in : List ScriptCall → List ℕ
callers_in = map (λ c. c.process)

module _ (o : ObjectParts) (calls : List ScriptCall) where
  abbrev pub replies_of : List Reply
  replies_of = replies_to o.program o.engine.budget o.opening (asked_in calls)

  -- so many calls are made, and their lines are printed
  pub record HasTold (n : ℕ) (coded : CodedState) (text made : List ℕ) : Type 0 where
    pub calls_made : HasMade o.program o.engine.budget o.opening (asked_in calls) n coded
    pub printed : HasPrinted (λ place. reply_line) o.processes (callers_in calls) replies_of n text made

  pub told_none : (coded : CodedState) (text made : List ℕ) → StandsAt o.program o.engine.budget o.opening coded → text ≡ [] → made ≡ replicate o.processes 0 →
      HasTold 0 coded text made
  told_none coded text made stands t m =
      record {
        calls_made = made_none o.program o.engine.budget o.opening (asked_in calls) coded stands;
        printed = HasPrinted-none (λ place. reply_line) o.processes (callers_in calls) replies_of text made t m;
      }

  -- one call more
  module _ (n : ℕ) (coded next : CodedState) (text made : List ℕ) (told : HasTold n coded text made) (c : ScriptCall) (reply : Reply) (below : n < length calls)
      (here : c ≡ get_or calls n c) (is_process : c.process < o.processes)
      (is : IsMade o.program o.engine.budget (object_call (script_call_of c)) told.calls_made.state next reply) where
    asked_below : n < length (asked_in calls)
    asked_below = rw length-map below

    asked_here : object_call (script_call_of c) ≡ get_or (asked_in calls) n (object_call (script_call_of c))
    asked_here = ap (λ x. object_call (script_call_of x)) here ∙ sym (get_or-map (λ x. object_call (script_call_of x)) calls n c)

    abbrev these : HasMade o.program o.engine.budget o.opening (asked_in calls) n coded
    these = told.calls_made

    pub told_more : HasTold (n + 1) next (text ++ reply_line c.process (get_or made c.process 0 + 1) reply) (set made c.process (get_or made c.process 0 + 1))
    told_more =
        record {
          calls_made = made_more o.program o.engine.budget o.opening (asked_in calls) n coded next these (object_call (script_call_of c)) reply asked_below asked_here is;
          printed =
              HasPrinted-more (λ place. reply_line) o.processes (callers_in calls) replies_of n text made told.printed c.process reply is_process
              (rw length-map below) (ap (λ x. x.process) here ∙ sym (get_or-map (λ (x : ScriptCall). x.process) calls n c))
              (replied o.program o.engine.budget o.opening (asked_in calls) n coded next these (object_call (script_call_of c)) reply asked_below asked_here is)
              (reply_here o.program o.engine.budget o.opening (asked_in calls) n coded next these (object_call (script_call_of c)) reply asked_below asked_here is);
        }

  -- behind all calls
  pub told_all : (n : ℕ) (coded : CodedState) (text made : List ℕ) → HasTold n coded text made → n ≡ length calls → text ≡ reply_lines [] (callers_in calls) replies_of
  told_all n coded text made told e =
      HasPrinted-all (λ place. reply_line) o.processes (callers_in calls) replies_of n text made told.printed
      (e ∙ rw (replies_count o.program o.engine.budget o.opening (asked_in calls), length-map, length-map) (omega arith))
