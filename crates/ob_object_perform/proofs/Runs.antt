-- What a run over an object's engine shows is a run on the object.
use Rattle.std.proofs.Common.{◌≡◌, ℕ, Bool, List, Option, subst}
use Rattle.std.proofs.Math.Logic.{∥∥₁_map}
use Rattle.std.specs.Prelude.{ℤ}
use Rattle.ob_code_engine.specs.CodeEngine.{CompiledParts}
use Rattle.ob_code_correct.specs.CodeMeaning.{EngineParts, code_meaning}
use Rattle.ob_code_correct.specs.Compiled.{HasReserve, IsFitting}
use Rattle.ob_code_correct.specs.Parts.{IsLawfulFor}
use Rattle.ob_layout.specs.Layout.{LayoutParts}
use Rattle.ob_code_machine.specs.Body.{Run}
use Rattle.ob_code_scheme.specs.Layout.{encoded}
use Rattle.ob_interface.specs.Call.{ObjectCall}
use Rattle.ob_object_compile.specs.Compilation.{ObjectParts}
use Rattle.ob_object_compile.specs.Sound.{IsSoundObject}
use Rattle.ob_object_perform.proofs.PerformObjects.{engine, named_object_of, variables_are}
use Rattle.ob_object_perform.specs.Performance.{AreMakersIn, IsMeantIn, IsRunFault, Shows, ShowsNone}
use Rattle.ob_text_record.specs.Record.{Record, carried_from}
use Rattle.ob_object_run.specs.Laws.{StatesAreObjects}
use Rattle.ob_object_run.specs.Recorded.{IsMeantFor, IsMeantOrder, IsNoRun, IsRecorded}
use Rattle.ob_meaning.specs.ByPositionStore.{Activation}
use Rattle.ob_text_words.specs.declared.item.Item.{Item}
use Rattle.ob_text_words.specs.ScriptCalls.{ScriptCall}
use Rattle.wf_play.specs.Makers.{AreMakersOf}
use Rattle.wf_play.specs.Played.{IsPlayed, IsPlayFault, scripts_of}
use Rattle.wf_play.specs.declared.playing.PlayFault.{PlayFault}
use Rattle.wf_play.specs.declared.playing.PlayFault.TheVariants as Play
use Rattle.wf_table.specs.Object.{State}
use Rattle.wf_table.specs.Schedule.{steps_of}

-- of an engine, a number of processes, a state, calls and items that are those of an object's run
module _ (o : ObjectParts) (calls : List ScriptCall) (items : List Item)
    (parts : EngineParts) (n : ℕ) (opening : Activation) (made : List ScriptCall) (its : List Item)
    (parts_are : parts ≡ o.engine) (n_is : n ≡ o.processes) (opening_is : opening ≡ o.opening) (made_are : made ≡ calls) (items_are : its ≡ items) where
  pub recorded_in : (r : Record) → IsRecorded parts n (encoded opening) (scripts_of made) its r → IsRecorded o.engine o.processes (encoded o.opening) (scripts_of calls) items r
  recorded_in r h =
      subst (λ (e : EngineParts). IsRecorded e o.processes (encoded o.opening) (scripts_of calls) items r) parts_are
      (subst (λ (k : ℕ). IsRecorded parts k (encoded o.opening) (scripts_of calls) items r) n_is
      (subst (λ (a : Activation). IsRecorded parts n (encoded a) (scripts_of calls) items r) opening_is
      (subst (λ (cs : List ScriptCall). IsRecorded parts n (encoded opening) (scripts_of cs) items r) made_are
      (subst (λ (is : List Item). IsRecorded parts n (encoded opening) (scripts_of made) is r) items_are h))))

  -- and tells what the object began with
  pub shows_in : (r : Record) (flag : Bool) → flag ≡ o.carried → IsRecorded parts n (encoded opening) (scripts_of made) its r →
      Shows o calls items (record r { carried = carried_from flag opening })
  shows_in r flag flag_is h =
      let is = recorded_in r h in
      record {
        recorded = record {
          state = is.state;
          played = is.played;
          processes = is.processes;
          budget = is.budget;
          history = is.history;
          order = is.order;
          schedule = is.schedule;
        };
        carried = let same = opening_is in cc;
      }

  pub fault_in : (e : PlayFault) → IsNoRun parts n (encoded opening) (scripts_of made) its e → IsRunFault o calls items e
  fault_in fault h =
      subst (λ (e : EngineParts). IsNoRun e o.processes (encoded o.opening) (scripts_of calls) items fault) parts_are
      (subst (λ (k : ℕ). IsNoRun parts k (encoded o.opening) (scripts_of calls) items fault) n_is
      (subst (λ (a : Activation). IsNoRun parts n (encoded a) (scripts_of calls) items fault) opening_is
      (subst (λ (cs : List ScriptCall). IsNoRun parts n (encoded opening) (scripts_of cs) items fault) made_are
      (subst (λ (is : List Item). IsNoRun parts n (encoded opening) (scripts_of made) is fault) items_are h))))

-- of words and of steps
pub makers_in : (o : ObjectParts) (calls : List ScriptCall) (r : Record) (makers : List ℕ) (parts : EngineParts) (n : ℕ) (words : List ℤ) (made : List ScriptCall) (steps : List ℕ) →
    parts ≡ o.engine → n ≡ o.processes → words ≡ encoded o.opening → made ≡ calls → steps ≡ steps_of r.schedule →
    AreMakersOf (code_meaning parts) (HasReserve parts) n words (scripts_of made) steps makers → AreMakersIn o calls r makers
makers_in o calls r makers parts n words made steps parts_are n_is words_are made_are steps_are h =
    subst (λ (e : EngineParts). AreMakersOf (code_meaning e) (HasReserve e) o.processes (encoded o.opening) (scripts_of calls) (steps_of r.schedule) makers) parts_are
    (subst (λ (k : ℕ). AreMakersOf (code_meaning parts) (HasReserve parts) k (encoded o.opening) (scripts_of calls) (steps_of r.schedule) makers) n_is
    (subst (λ (ws : List ℤ). AreMakersOf (code_meaning parts) (HasReserve parts) n ws (scripts_of calls) (steps_of r.schedule) makers) words_are
    (subst (λ (cs : List ScriptCall). AreMakersOf (code_meaning parts) (HasReserve parts) n words (scripts_of cs) (steps_of r.schedule) makers) made_are
    (subst (λ (ps : List ℕ). AreMakersOf (code_meaning parts) (HasReserve parts) n words (scripts_of made) ps makers) steps_are h))))

module _ (o : ObjectParts) (sound : IsSoundObject o) (states_are : StatesAreObjects) where
  -- the order is legal by name
  pub meant_in : (layout : LayoutParts) (parts : EngineParts) (opening : Activation) → layout ≡ o.layout → parts ≡ o.engine → opening ≡ o.opening →
      (r : Record) (was : Option Activation) → IsMeantFor layout.variables parts (encoded opening) r → IsMeantIn o (record r { carried = was })
  meant_in layout parts opening laid parts_are opening_is r was h = λ state same.
      ∥∥₁_map
      (subst (λ (e : EngineParts). ∥ IsMeantOrder o.program e.budget state r ∥₁) parts_are
      (h o.program state (variables_are o sound states_are parts opening parts_are opening_is layout laid) (named_object_of o sound states_are parts opening parts_are opening_is state same)))
      (λ m. record { last = m.last; legal = m.legal; same = m.same })

  -- where an item is too long, there is no run
  abbrev pub TooLongIsNoRun : Type 0
  TooLongIsNoRun =
      (e : CompiledParts) (n number : ℕ) (block : List ℤ) (scripts : List (ℕ × ObjectCall)) (items : List Item) (s : State Run) →
      IsPlayFault (code_meaning e.parts) (HasReserve e.parts) n block scripts items (Play.TooLong number) →
      IsPlayed (code_meaning e.parts) (IsLawfulFor e.parts) (IsFitting e.parts.exports) (HasReserve e.parts) n block scripts items s → ⊥

  pub none_in : TooLongIsNoRun → (calls : List ScriptCall) (items : List Item) (e : PlayFault) → IsRunFault o calls items e → ShowsNone o calls items e
  none_in law calls items Play.Processes h = tt
  none_in law calls items (Play.TooLong number) h = λ r shown.
      law (engine o sound states_are) o.processes number (encoded o.opening) (scripts_of calls) items shown.recorded.state h shown.recorded.played
  none_in law calls items Play.NoMemory h = tt
