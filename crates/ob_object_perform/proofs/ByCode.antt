-- A run over a program's tree shows one over the code of the scheme, whatever that code's length, and why there is none is the same.
use Rattle.std.proofs.Common.{◌≡◌, ◌∙◌, ℕ, List, true, ap, refl}
use Rattle.std.specs.Prelude.{ℤ}
use Rattle.ob_code_correct.specs.CodeMeaning.{EngineParts, code_meaning}
use Rattle.ob_code_correct.specs.Compiled.{Fits, HasReserve, IsFitting, engine_of, parts_of}
use Rattle.ob_code_correct.specs.Parts.{IsLawfulFor}
use Rattle.ob_code_machine.specs.Body.{Run, empty}
use Rattle.ob_code_scheme.specs.Layout.{encoded}
use Rattle.ob_interface.specs.Call.{ObjectCall}
use Rattle.ob_object_compile.specs.Compilation.{ObjectParts}
use Rattle.ob_object_perform.specs.Performance.{IsRunFault, ShowsNone}
use Rattle.ob_text_record.specs.Record.{Record}
use Rattle.ob_object_run.specs.Recorded.{IsNoRun, IsRecorded}
use Rattle.ob_object_perform.proofs.InLockStep.{SameBody, in_lock_step}
use Rattle.ob_text_words.specs.declared.item.Item.{Item}
use Rattle.ob_text_words.specs.ScriptCalls.{ScriptCall}
use Rattle.ob_tree_law.specs.TreeEngine.{IsTreeReady, TreeRun, tree_engine}
use Rattle.ob_typing.specs.Program.{Program}
use Rattle.wf_play.proofs.Alike.{Back, lock_back}
use Rattle.wf_play.proofs.Starts.{PlaysAlike, fault_alike, plays_alike, too_long_no_run}
use Rattle.wf_play.specs.LockStep.{AreInLockStep}
use Rattle.wf_play.specs.Played.{IsPlayFault, IsPlayed, scripts_of}
use Rattle.wf_play.specs.declared.playing.PlayFault.{PlayFault}
use Rattle.wf_play.specs.declared.playing.PlayFault.TheVariants as Play
use Rattle.wf_table.specs.Object.{Records, State}

module _ (program : Program) (budget n : ℕ) (block : List ℤ) (scripts : List (ℕ × ObjectCall)) (items : List Item) where
  abbrev parts : EngineParts
  parts = parts_of program budget

  -- a body over the code, for an object to begin with
  abbrev idle : Run
  idle = record { reserve = parts.reserve; is_over = true; body = empty }

  abbrev Same : TreeRun → Run → Type 0
  Same = Back (SameBody program budget)

  lock : AreInLockStep (tree_engine program budget) (engine_of program budget) Same
  lock = lock_back (SameBody program budget) (engine_of program budget) (tree_engine program budget) (in_lock_step program budget)

  abbrev IsPlayedByTree : State TreeRun → Type 0
  IsPlayedByTree = IsPlayed (tree_engine program budget) (IsLawfulFor parts) (Fits program) (IsTreeReady program) n block scripts items

  abbrev IsPlayedByCode : State Run → Type 0
  IsPlayedByCode = IsPlayed (engine_of program budget) (IsLawfulFor parts) (Fits program) (HasReserve parts) n block scripts items

  by_code : (s : State TreeRun) → IsPlayedByTree s → PlaysAlike s IsPlayedByCode
  by_code s played =
      plays_alike Same (tree_engine program budget) (engine_of program budget) lock (IsTreeReady program) (HasReserve parts) n block scripts idle refl (IsLawfulFor parts) (Fits program) items s played

  -- a record of what the run over the tree shows
  pub recorded_by_code : (s : State TreeRun) → IsPlayedByTree s → (r : Record) → r.processes ≡ n → r.budget ≡ budget → r.history ≡ s.records.history → r.order ≡ s.records.order → r.schedule ≡ s.records.schedule →
      IsRecorded parts n block scripts items r
  recorded_by_code s played r processes turns history order schedule =
      let there = by_code s played in
      record {
        state = there.state;
        played = there.played;
        processes = processes;
        budget = turns;
        history = history ∙ ap (λ (x : Records). x.history) there.records;
        order = order ∙ ap (λ (x : Records). x.order) there.records;
        schedule = schedule ∙ ap (λ (x : Records). x.schedule) there.records;
      }

  pub no_run_by_code : (e : PlayFault) → IsPlayFault (tree_engine program budget) (IsTreeReady program) n block scripts items e → IsNoRun parts n block scripts items e
  no_run_by_code e h =
      fault_alike Same (tree_engine program budget) (engine_of program budget) lock (IsTreeReady program) (HasReserve parts) n block scripts idle refl (IsLawfulFor parts) (Fits program) items e h

-- where an item is too long, no record shows a run
pub none_by_code : (o : ObjectParts) (calls : List ScriptCall) (items : List Item) (e : PlayFault) → IsRunFault o calls items e → ShowsNone o calls items e
none_by_code o calls items Play.Processes h = tt
none_by_code o calls items (Play.TooLong number) h = λ r shown.
    let e = o.engine in
    too_long_no_run (code_meaning e) (HasReserve e) o.processes (encoded o.opening) (scripts_of calls) (IsLawfulFor e) (IsFitting e.exports) items number shown.recorded.state h shown.recorded.played
none_by_code o calls items Play.NoMemory h = tt
