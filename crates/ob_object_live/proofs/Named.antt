-- What is told of an object's calls by position, by name.
use Rattle.std.proofs.Common.{◌≡◌, ◌∙◌, ◌<◌, ℕ, suc, Bool, true, List, [], ◌∷◌, ◌++◌, map, All, refl, sym, ap, ap₂, subst, None, Some, Option}
use Rattle.std.proofs.lemmas.List.Elements.{All-head, All-nil, All-tail}
use Rattle.ob_meaning.specs.Resolved.{IsResolved}
use Rattle.ob_meaning.specs.Same.{SameState}
use Rattle.ob_meaning.proofs.SameCalls.{call_same}
use Rattle.ob_checked.specs.Exports.{signatures}
use Rattle.ob_code_correct.specs.CodeMeaning.{EngineParts}
use Rattle.ob_interface.specs.Call.{ObjectCall, Reply}
use Rattle.ob_interface.specs.Export.{CallFits, Signature}
use Rattle.ob_mean.specs.Sequences as Positions
use Rattle.ob_object_live.specs.Living.{Ground, IsAt, asked, callers, end_text, events_behind, id_behind, ground_of, lines_at, lines_behind, record_at, replies_at, state_after, state_at}
use Rattle.ob_object_live.specs.declared.live_parts.Live.{Live}
use Rattle.ob_object_live.specs.Talks.{AllFit, EndsOn, IsTalk, TalksOn, ends, made, refused}
use Rattle.ob_meaning.specs.ByNameObject as Named
use Rattle.ob_object_compile.proofs.Openings.{module_resolved}
use Rattle.ob_object_compile.specs.Asked.{Asked}
use Rattle.ob_object_compile.specs.Compilation.{IsCompilation, ObjectParts}
use Rattle.ob_object_live.specs.LiveParts.{BeginsAt, ground_at}
use Rattle.ob_object_live.specs.LiveRuns.{IsLiveRun, IsRecordOf, IsRecordTold, seq_lines, state_behind}
use Rattle.ob_object_calls.specs.CallLines.{reply_lines, numbered}
use Rattle.ob_object_calls.proofs.Named.{replies_same}
use Rattle.ob_meaning.specs.ByPositionObject as Effects
use Rattle.ob_meaning.specs.ByPositionStore.{Activation}
use Rattle.ob_text_words.specs.ReplyLines.{reply_line}
use Rattle.ob_text_words.specs.ScriptCalls.{ScriptCall, object_call}
use Rattle.ob_typing.specs.Program.{Program}

-- the lines of calls are those that `seq` prints
lines_are : (before : List ℕ) (calls : List ScriptCall) (replies : List Reply) →
    lines_behind before calls replies ≡ numbered (λ place. reply_line) before (callers calls) replies
lines_are before [] replies = refl
lines_are before (c ∷ calls) [] = refl
lines_are before (c ∷ calls) (reply ∷ replies) = ap (λ rest. end_text (id_behind before c.process) reply ++ rest) (lines_are (c.process ∷ before) calls replies)

-- the state behind calls is the same
state_same : (program : Program) (good : IsResolved program) (budget : ℕ) (calls : List ScriptCall) → All (λ c. CallFits (signatures program) (object_call c)) calls →
    (state : Named.State) (activation : Activation) → SameState program state activation →
    SameState program (state_behind program budget state (asked calls)) (state_after program budget activation (asked calls))
state_same program good budget [] fit state activation same = same
state_same program good budget (c ∷ calls) fit state activation same =
    let fits = All-head (λ (x : ScriptCall). CallFits (signatures program) (object_call x)) c calls fit in
    let one = call_same program good (object_call c) fits budget state activation same in
    state_same program good budget calls (All-tail (λ (x : ScriptCall). CallFits (signatures program) (object_call x)) c calls fit)
    (Named.effect program (object_call c) budget state).state (Effects.effect program (object_call c) budget activation).state one.state

-- a talk is one by other words for the same lines and the same end
module _ {C : Type 0} (Hears Tells : C → List ℕ → C → Type 0) (exports : List Signature) (processes : ℕ) (these those : List ScriptCall → List ℕ)
    (IsThis IsThat : List ScriptCall → List ℕ → Type 0)
    (same : (calls : List ScriptCall) → AllFit exports calls → these calls ≡ those calls)
    (end : (calls : List ScriptCall) (text : List ℕ) → AllFit exports calls → IsThis calls text → IsThat calls text) where
  pub talk_same : (calls : List ScriptCall) (number : ℕ) (before after : C) → AllFit exports calls →
      IsTalk Hears Tells exports processes these IsThis calls number before after → IsTalk Hears Tells exports processes those IsThat calls number before after
  talk_same calls number before after fit (ends {calls = cs} {text = t} heard is told) = ends heard (end cs t fit is) told
  talk_same calls number before after fit (made {calls = cs} {more = more} {number = n} {told = m} {lines = ls} some heard read fits told_is told rest) =
      made some heard read fits (sym (same (cs ++ more) fits) ∙ told_is ∙ ap (λ t. t ++ ls) (same cs fit)) told (talk_same (cs ++ more) (suc n) m _ fits rest)
  talk_same calls number before after fit (refused {calls = cs} {number = n} {told = m} some heard fails says told rest) =
      refused some heard fails says told (talk_same cs (suc n) m _ fit rest)

module _ (a : Asked) (o : ObjectParts) (compiled : IsCompilation a o) where
  good : IsResolved o.program
  good = module_resolved a.text o.program compiled.is_module

  budget_is : o.engine.budget ≡ a.budget
  budget_is = ap (λ (e : EngineParts). e.budget) compiled.engine_is

  replies_are : (calls : List ScriptCall) → All (λ c. CallFits (signatures o.program) (object_call c)) calls →
      replies_at (ground_at o) calls ≡ Named.replies_to o.program a.budget compiled.opens.state (asked calls)
  replies_are calls fit =
      ap (λ b. Positions.replies_to o.program b o.opening (asked calls)) budget_is
      ∙ sym (replies_same o.program good object_call a.budget calls fit compiled.opens.state o.opening compiled.opens.same)

  seq_are : (calls : List ScriptCall) → All (λ c. CallFits (signatures o.program) (object_call c)) calls →
      lines_at (ground_at o) calls ≡ seq_lines o.program a.budget compiled.opens.state calls
  seq_are calls fit = lines_are [] calls (replies_at (ground_at o) calls) ∙ ap (reply_lines [] (callers calls)) (replies_are calls fit)

  record_is : (calls : List ScriptCall) (output : List ℕ) → All (λ c. CallFits (signatures o.program) (object_call c)) calls →
      EndsOn (ground_at o) calls output → IsRecordTold a o compiled.opens.state calls output
  record_is calls output fit h = record {
    r = record_at (ground_at o) calls;
    is = record {
      processes = compiled.processes;
      budget = budget_is;
      carried = refl;
      history = ap (events_behind [] calls) (replies_are calls fit);
      order = refl;
      schedule = refl;
      leaves = subst (λ (b : ℕ). SameState o.program (state_behind o.program a.budget compiled.opens.state (asked calls)) (state_after o.program b o.opening (asked calls)))
          (sym budget_is) (state_same o.program good a.budget calls fit compiled.opens.state o.opening compiled.opens.same);
    };
    written = h;
  }

  pub told_named : {C : Type 0} (Hears Tells : C → List ℕ → C → Type 0) (before after : C) → TalksOn Hears Tells (ground_at o) [] 1 before after → IsLiveRun Hears Tells a before after
  told_named {C} Hears Tells before after h = record {
    object = o;
    compiled = compiled;
    talk = subst (λ (n : ℕ). IsTalk Hears Tells (signatures o.program) n (seq_lines o.program a.budget compiled.opens.state) (IsRecordTold a o compiled.opens.state) [] 1 before after)
        compiled.processes
        (talk_same Hears Tells (signatures o.program) o.processes (lines_at (ground_at o)) (seq_lines o.program a.budget compiled.opens.state)
        (EndsOn (ground_at o)) (IsRecordTold a o compiled.opens.state) seq_are record_is [] 1 before after
        (All-nil (λ (c : ScriptCall). CallFits (signatures o.program) (object_call c))) h);
  }

-- of an object before any call
pub live_named : {C : Type 0} (Hears Tells : C → List ℕ → C → Type 0) (a : Asked) (l : Live) (before after : C) → BeginsAt a l →
    TalksOn Hears Tells (ground_of l.ground) [] 1 before after → IsLiveRun Hears Tells a before after
live_named {C} Hears Tells a l before after begins h =
    told_named a begins.object begins.compiled Hears Tells before after
    (subst (λ (g : Ground). TalksOn Hears Tells g [] 1 before after) begins.ground h)

-- ---- of an object before any call

abbrev ground_by : Program → (processes budget : ℕ) → Activation → Bool → Ground
ground_by program processes budget opening carried = record {
  program = program;
  processes = processes;
  budget = budget;
  opening = opening;
  carried = carried;
}

pub begins_at : (a : Asked) (o : ObjectParts) (l : Live) (p : Program) (n b : ℕ) (s : Activation) (c : Bool) → IsCompilation a o → p ≡ o.program →
    n ≡ o.processes → b ≡ o.engine.budget → s ≡ o.opening → c ≡ o.carried → IsAt (ground_by p n b s c) [] l → BeginsAt a l
begins_at a o l p n b s c compiled p_is n_is b_is s_is c_is at =
    let same = ap (λ x. ground_by x n b s c) p_is ∙ (ap (λ x. ground_by o.program x b s c) n_is ∙ (ap (λ x. ground_by o.program o.processes x s c) b_is
    ∙ (ap (λ x. ground_by o.program o.processes o.engine.budget x c) s_is ∙ ap (λ x. ground_by o.program o.processes o.engine.budget o.opening x) c_is))) in
    record {
      object = o;
      compiled = compiled;
      ground = at.ground ∙ same;
      at = subst (λ (h : Ground). IsAt h [] l) (sym at.ground) at;
    }
