-- What is said with the faults of texts, from what is said with those of their parts.
use Rattle.std.proofs.Common.{◌≡◌, ◌≢◌, ◌∙◌, ◌⊎◌, ◌<◌, ℕ, List, true, false, inl, inr, sym, ap, refl, subst, arith}
use Rattle.ob_checked.specs.Exports.{signatures}
use Rattle.ob_code_correct.specs.CodeMeaning.{EngineParts}
use Rattle.ob_code_correct.specs.Compiled.{parts_of}
use Rattle.ob_code_scheme.specs.Layout.{encoded}
use Rattle.ob_interface.specs.Processes.{most_processes}
use Rattle.ob_object_compile.proofs.Openings.{one_activation}
use Rattle.ob_object_compile.specs.Asked.{is_carried}
use Rattle.ob_object_compile.specs.Compilation as Compilation
use Rattle.ob_object_compile.specs.Compilation.{IsObjectFault, IsObjectOf, ObjectParts, Opens}
use Rattle.ob_object_compile.specs.declared.compiling.CompileFault.{CompileFault}
use Rattle.ob_object_compile.specs.declared.compiling.CompileFault.TheVariants as Compile
use Rattle.ob_object_perform.specs.Performance.{AreReadOf, HasNoReading, HasNoRun, IsFaultOf, IsNumbered, IsOfTexts, IsRefusal, IsRunFault, IsRunOf, Shows, ShowsNone, TellsMemoryApart, carried_in, of_compile, of_play, of_schedule, of_script}
use Rattle.ob_object_perform.specs.Texts.{Texts}
use Rattle.ob_text_record.specs.Record.{Record}
use Rattle.ob_object_run.specs.Recorded.{IsRecorded}
use Rattle.ob_meaning.specs.ByPositionStore.{Activation}
use Rattle.ob_text_words.specs.Schedule.{IsScheduleFault}
use Rattle.ob_text_words.specs.declared.item.Item.{Item}
use Rattle.ob_text_words.specs.declared.schedule_texts.ScheduleFault.{ScheduleFault}
use Rattle.ob_text_words.specs.declared.schedule_texts.ScheduleFault.TheVariants as Schedule
use Rattle.ob_text_scripts.specs.Script.{IsScript, IsScriptFault}
use Rattle.ob_text_scripts.specs.declared.script.ScriptFault.{ScriptFault}
use Rattle.ob_text_scripts.specs.declared.script.ScriptFault.TheVariants as Script
use Rattle.ob_text_words.specs.ScriptCalls.{ScriptCall}
use Rattle.ob_typing.specs.ModuleText.{IsModule}
use Rattle.ob_typing.specs.Program.{Program}
use Rattle.wf_play.specs.Played.{scripts_of}
use Rattle.wf_play.specs.declared.playing.PlayFault.{PlayFault}
use Rattle.wf_play.specs.declared.playing.PlayFault.TheVariants as Play

module _ (Allowed : Program → Type 0) (t : Texts) where
  -- texts that can't be read have no run
  unread_none : HasNoReading Allowed t → HasNoRun Allowed t
  unread_none h r p = h p.object p.calls p.items p.compiled p.calls_are p.items_are

  -- ---- no object

  compile_says : (e : CompileFault) → IsObjectFault Allowed t.asked e → IsFaultOf Allowed t (of_compile e)
  compile_says Compile.Processes h = h
  compile_says Compile.Budget h = h
  compile_says (Compile.Text e) h = h
  compile_says Compile.TooLong h = h
  compile_says (Compile.Open e) h = h
  compile_says (Compile.Carry e) h = h
  compile_says Compile.NoMemory h = tt

  numbered_compile : (e : CompileFault) → IsNumbered (of_compile e) → Compilation.IsNumbered e
  numbered_compile Compile.Processes h = (refl, h.1.0)
  numbered_compile Compile.Budget h = (refl, h.1.0)
  numbered_compile (Compile.Text e) h = (refl, h.1.0)
  numbered_compile Compile.TooLong h = (refl, h.1.0)
  numbered_compile (Compile.Open e) h = (refl, h.1.0)
  numbered_compile (Compile.Carry e) h = (refl, h.1.0)
  numbered_compile Compile.NoMemory h = let bad : true ≡ false = h.0 in cc

  compile_of_texts : (e : CompileFault) → IsOfTexts (of_compile e) → Compilation.IsNumbered e
  compile_of_texts Compile.Processes h = h
  compile_of_texts Compile.Budget h = h
  compile_of_texts (Compile.Text e) h = h
  compile_of_texts Compile.TooLong h = h
  compile_of_texts (Compile.Open e) h = h
  compile_of_texts (Compile.Carry e) h = h
  compile_of_texts Compile.NoMemory h = absurd h

  compile_memory : (e : CompileFault) → Compilation.TellsMemoryApart e → TellsMemoryApart (of_compile e)
  compile_memory Compile.Processes h = (h, λ bad. cc)
  compile_memory Compile.Budget h = (h, λ bad. cc)
  compile_memory (Compile.Text e) h = (h, λ bad. cc)
  compile_memory Compile.TooLong h = (h, λ bad. cc)
  compile_memory (Compile.Open e) h = (h, λ bad. cc)
  compile_memory (Compile.Carry e) h = (h, λ bad. cc)
  compile_memory Compile.NoMemory h = tt

  pub compile_refused : (e : CompileFault) → Compilation.IsRefusal Allowed t.asked e → IsRefusal Allowed t (of_compile e)
  compile_refused e h = record {
    says = compile_says e h.says;
    none = λ numbered r p. h.none (numbered_compile e numbered) p.object p.compiled;
    unread = λ of_texts o calls items c s i. h.none (compile_of_texts e of_texts) o c;
    memory = compile_memory e h.memory;
  }

  -- ---- no calls

  module _ (o : ObjectParts) (compiled : IsObjectOf Allowed t.asked o) (alone : (other : Program) → IsModule t.asked.text other → other ≡ o.program) where
    script_says : (e : ScriptFault) → IsScriptFault (signatures o.program) t.asked.processes t.scripts e → IsFaultOf Allowed t (of_script e)
    script_says (Script.Form line) h = record { object = o; compiled = compiled; fails = h }
    script_says (Script.Procedure line) h = record { object = o; compiled = compiled; fails = h }
    script_says (Script.Arguments line) h = record { object = o; compiled = compiled; fails = h }
    script_says (Script.Process line) h = record { object = o; compiled = compiled; fails = h }
    script_says Script.NoMemory h = tt

    -- the calls of another object of the text are calls on this one
    calls_here : (other : ObjectParts) → IsObjectOf Allowed t.asked other → (calls : List ScriptCall) → IsScript (signatures other.program) t.asked.processes t.scripts calls →
        IsScript (signatures o.program) t.asked.processes t.scripts calls
    calls_here other c calls are = subst (λ (q : Program). IsScript (signatures q) t.asked.processes t.scripts calls) (alone other.program c.is_module) are

    script_unread : (e : ScriptFault) → IsScriptFault (signatures o.program) t.asked.processes t.scripts e → IsOfTexts (of_script e) → HasNoReading Allowed t
    script_unread (Script.Form line) h of_texts other calls items c s i = h.none tt calls (calls_here other c calls s)
    script_unread (Script.Procedure line) h of_texts other calls items c s i = h.none tt calls (calls_here other c calls s)
    script_unread (Script.Arguments line) h of_texts other calls items c s i = h.none tt calls (calls_here other c calls s)
    script_unread (Script.Process line) h of_texts other calls items c s i = h.none tt calls (calls_here other c calls s)
    script_unread Script.NoMemory h of_texts other calls items c s i = absurd of_texts

    script_of_texts : (e : ScriptFault) → IsNumbered (of_script e) → IsOfTexts (of_script e)
    script_of_texts (Script.Form line) h = h.1
    script_of_texts (Script.Procedure line) h = h.1
    script_of_texts (Script.Arguments line) h = h.1
    script_of_texts (Script.Process line) h = h.1
    script_of_texts Script.NoMemory h = let bad : true ≡ false = h.0 in cc

    script_memory : (e : ScriptFault) → TellsMemoryApart (of_script e)
    script_memory (Script.Form line) = λ bad. cc
    script_memory (Script.Procedure line) = λ bad. cc
    script_memory (Script.Arguments line) = λ bad. cc
    script_memory (Script.Process line) = λ bad. cc
    script_memory Script.NoMemory = tt

    pub script_refused : (e : ScriptFault) → IsScriptFault (signatures o.program) t.asked.processes t.scripts e → IsRefusal Allowed t (of_script e)
    script_refused e h = record {
      says = script_says e h;
      none = λ numbered. unread_none (script_unread e h (script_of_texts e numbered));
      unread = script_unread e h;
      memory = script_memory e;
    }

    -- ---- no items

    module _ (calls : List ScriptCall) (are : IsScript (signatures o.program) t.asked.processes t.scripts calls) where
      schedule_says : (e : ScheduleFault) → IsScheduleFault t.asked.processes t.schedule e → IsFaultOf Allowed t (of_schedule e)
      schedule_says (Schedule.Form number) h = record { object = o; compiled = compiled; calls = calls; calls_are = are; fails = h }
      schedule_says (Schedule.Process number) h = record { object = o; compiled = compiled; calls = calls; calls_are = are; fails = h }
      schedule_says Schedule.NoMemory h = tt

      schedule_unread : (e : ScheduleFault) → IsScheduleFault t.asked.processes t.schedule e → IsOfTexts (of_schedule e) → HasNoReading Allowed t
      schedule_unread (Schedule.Form number) h of_texts other others items c s i = h.none tt items i
      schedule_unread (Schedule.Process number) h of_texts other others items c s i = h.none tt items i
      schedule_unread Schedule.NoMemory h of_texts other others items c s i = absurd of_texts

      schedule_of_texts : (e : ScheduleFault) → IsNumbered (of_schedule e) → IsOfTexts (of_schedule e)
      schedule_of_texts (Schedule.Form number) h = h.1
      schedule_of_texts (Schedule.Process number) h = h.1
      schedule_of_texts Schedule.NoMemory h = let bad : true ≡ false = h.0 in cc

      schedule_memory : (e : ScheduleFault) → TellsMemoryApart (of_schedule e)
      schedule_memory (Schedule.Form number) = λ bad. cc
      schedule_memory (Schedule.Process number) = λ bad. cc
      schedule_memory Schedule.NoMemory = tt

      pub schedule_refused : (e : ScheduleFault) → IsScheduleFault t.asked.processes t.schedule e → IsRefusal Allowed t (of_schedule e)
      schedule_refused e h = record {
        says = schedule_says e h;
        none = λ numbered. unread_none (schedule_unread e h (schedule_of_texts e numbered));
        unread = schedule_unread e h;
        memory = schedule_memory e;
      }

  -- ---- no run

  module _ (o : ObjectParts) (calls : List ScriptCall) (items : List Item) (read : AreReadOf Allowed t o calls items) where
    -- the object of a run is the one that was read, but for its tree

    same_program : {r : Record} (p : IsRunOf Allowed t r) → p.object.program ≡ o.program
    same_program p = read.alone p.object.program p.compiled.is_module

    same_engine : {r : Record} (p : IsRunOf Allowed t r) → p.object.engine ≡ o.engine
    same_engine p = p.compiled.engine_is ∙ ap (λ (q : Program). parts_of q t.asked.budget) (same_program p) ∙ sym read.compiled.engine_is

    same_opening : {r : Record} (p : IsRunOf Allowed t r) → p.object.opening ≡ o.opening
    same_opening p =
        one_activation o.program t.asked.beginning p.object.opening o.opening
        (subst (λ (q : Program). Opens t.asked.beginning q p.object.opening) (same_program p) p.compiled.opens) read.compiled.opens

    same_carried : {r : Record} (p : IsRunOf Allowed t r) → carried_in p.object ≡ carried_in o
    same_carried p =
        let flags = p.compiled.carried_is ∙ sym read.compiled.carried_is in
        let openings = same_opening p in
        cc

    same_calls : {r : Record} (p : IsRunOf Allowed t r) → p.calls ≡ calls
    same_calls p = read.only_calls p.calls (calls_here o read.compiled read.alone p.object p.compiled p.calls p.calls_are)

    pub shows_of : {r : Record} (p : IsRunOf Allowed t r) → Shows o calls items r
    shows_of {r} p = record {
      recorded =
          subst (λ (is : List Item). IsRecorded o.engine o.processes (encoded o.opening) (scripts_of calls) is r) (read.only_items p.items p.items_are)
          (subst (λ (cs : List ScriptCall). IsRecorded o.engine o.processes (encoded o.opening) (scripts_of cs) p.items r) (same_calls p)
          (subst (λ (e : EngineParts). IsRecorded e o.processes (encoded o.opening) (scripts_of p.calls) p.items r) (same_engine p)
          (subst (λ (k : ℕ). IsRecorded p.object.engine k (encoded o.opening) (scripts_of p.calls) p.items r) (p.compiled.processes ∙ sym read.compiled.processes)
          (subst (λ (a : Activation). IsRecorded p.object.engine p.object.processes (encoded a) (scripts_of p.calls) p.items r) (same_opening p) p.shows.recorded))));
      carried = p.shows.carried ∙ same_carried p;
    }

    -- N1 is no fault of theirs: there are so many processes
    processes_right : (t.asked.processes ≡ 0) ⊎ (most_processes < t.asked.processes) → ⊥
    processes_right h =
        let some = read.compiled.some in
        let few = read.compiled.few in
        absurd (elim h [ inl z ↦ omega (arith, z, some) | inr z ↦ omega (arith, z, few) ])

    processes_here : (o.processes ≡ 0) ⊎ (most_processes < o.processes) → (t.asked.processes ≡ 0) ⊎ (most_processes < t.asked.processes)
    processes_here h = subst (λ (k : ℕ). (k ≡ 0) ⊎ (most_processes < k)) read.compiled.processes h

    run_says : (e : PlayFault) → IsRunFault o calls items e → IsFaultOf Allowed t (of_play e)
    run_says Play.Processes h = processes_here h
    run_says (Play.TooLong number) h =
        record { object = o; compiled = read.compiled; calls = calls; calls_are = read.calls_are; items = items; items_are = read.items_are; long = h }
    run_says Play.NoMemory h = tt

    run_none : (e : PlayFault) → IsRunFault o calls items e → ShowsNone o calls items e → IsNumbered (of_play e) → HasNoRun Allowed t
    run_none Play.Processes h none numbered r p = absurd (processes_right (processes_here h))
    run_none (Play.TooLong number) h none numbered r p = none r (shows_of p)
    run_none Play.NoMemory h none numbered r p = let bad : true ≡ false = numbered.0 in cc

    run_unread : (e : PlayFault) → IsRunFault o calls items e → IsOfTexts (of_play e) → HasNoReading Allowed t
    run_unread Play.Processes h of_texts other others more c s i = absurd (processes_right (processes_here h))
    run_unread (Play.TooLong number) h of_texts other others more c s i = absurd of_texts
    run_unread Play.NoMemory h of_texts other others more c s i = absurd of_texts

    run_memory : (e : PlayFault) → TellsMemoryApart (of_play e)
    run_memory Play.Processes = (tt, λ bad. cc)
    run_memory (Play.TooLong number) = tt
    run_memory Play.NoMemory = tt

    pub run_refused : (e : PlayFault) → IsRunFault o calls items e → ShowsNone o calls items e → IsRefusal Allowed t (of_play e)
    run_refused e h none = record { says = run_says e h; none = run_none e h none; unread = run_unread e h; memory = run_memory e }
