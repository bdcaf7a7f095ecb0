-- Laws of runs from texts.
use Rattle.std.specs.Prelude.{◌≡◌, map}
use Rattle.ob_code_correct.specs.CodeMeaning.{code_meaning}
use Rattle.ob_code_correct.specs.Compiled.{body_limit}
use Rattle.ob_meaning.specs.ByNameObject.{replies_to}
use Rattle.ob_object_run.specs.OrderFaults.{IsOrderFault}
use Rattle.ob_object_run.specs.declared.order_checker.OrderFault.{OrderFault}
use Rattle.ob_object_run.specs.declared.order_checker.OrderFault.TheVariants.{NoMemory}
use Rattle.ob_object_perform.specs.Performance.{IsPerformance}
use Rattle.ob_object_perform.specs.Texts.{Texts}
use Rattle.ob_text_record.specs.Record.{Record}
use Rattle.ob_object_run.specs.KeepsBound.{KeepsLimit}
use Rattle.ob_object_run.specs.OwnCalls.{HasReplies}
use Rattle.ob_text_words.specs.ScriptCalls.{object_call}
use Rattle.wf_play.specs.Played.{scripts_of}
use Rattle.wf_theorems.specs.FirstCalls.{AreFirstCalls}

-- where there is one process, the order of a run from texts is a beginning of the script's calls
abbrev pub OneProcessInTurn : Type 0
OneProcessInTurn =
    (t : Texts) (r : Record) → t.asked.processes ≡ 1 → (p : IsPerformance t r) →
    AreFirstCalls 0 (map object_call p.calls) r.history r.order

-- and each call that ended has the reply of its place among those that the script's calls have when they are made one at a time, from
-- the state with which the object begins, by what they mean by name with the budget
abbrev pub OneProcessAnswers : Type 0
OneProcessAnswers =
    (t : Texts) (r : Record) → t.asked.processes ≡ 1 → (p : IsPerformance t r) →
    HasReplies 0 r.history (replies_to p.object.program t.asked.budget p.compiled.opens.state (map object_call p.calls))

-- behind each beginning of the schedule no call of a run from texts has taken more own steps than the promised number and, in each of
-- 2n bodies, one time more than its budget as many as the code has instructions. Nothing is asked of the calls
abbrev pub PerformancesKeepTotal : Type 0
PerformancesKeepTotal =
    (t : Texts) (r : Record) → (p : IsPerformance t r) →
    KeepsLimit (code_meaning p.object.engine) t.asked.processes (scripts_of p.calls) p.shows.recorded.played.runs.start (body_limit p.object.program t.asked.budget) r.schedule

-- from the opening by position, with the budget, a checker of orders would refuse the order of a run from texts for want of memory
-- alone
abbrev pub PerformancesPassCheck : Type 0
PerformancesPassCheck =
    (t : Texts) (r : Record) → (p : IsPerformance t r) →
    (fault : OrderFault) → IsOrderFault p.object.program t.asked.budget p.object.opening r.history r.order fault → fault ≡ NoMemory
