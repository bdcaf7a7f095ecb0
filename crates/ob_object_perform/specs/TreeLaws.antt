-- Laws of runs from texts over a module's tree: those of runs over code, for code of any length.
use Rattle.std.specs.Prelude.{◌≡◌}
use Rattle.ob_code_correct.specs.CodeMeaning.{code_meaning}
use Rattle.ob_code_correct.specs.Compiled.{body_limit}
use Rattle.ob_object_run.specs.OrderFaults.{IsOrderFault}
use Rattle.ob_object_run.specs.declared.order_checker.OrderFault.{OrderFault}
use Rattle.ob_object_run.specs.declared.order_checker.OrderFault.TheVariants.{NoMemory}
use Rattle.ob_object_perform.specs.Performance.{IsTreePerformance}
use Rattle.ob_object_perform.specs.Texts.{Texts}
use Rattle.ob_text_record.specs.Record.{Record}
use Rattle.ob_object_run.specs.KeepsBound.{KeepsLimit}
use Rattle.wf_play.specs.Played.{scripts_of}

-- behind each beginning of the schedule no call of a run from texts has taken more own steps than the promised number and, in each of
-- 2n bodies, one time more than its budget as many as the code of the scheme has instructions. Nothing is asked of the calls, and nothing of
-- the code's length
abbrev pub PerformancesKeepTotal : Type 0
PerformancesKeepTotal =
    (t : Texts) (r : Record) → (p : IsTreePerformance t r) →
    KeepsLimit (code_meaning p.object.engine) t.asked.processes (scripts_of p.calls) p.shows.recorded.played.runs.start (body_limit p.object.program t.asked.budget) r.schedule

-- from the opening by position, with the budget, a checker of orders would refuse the order of a run from texts for want of memory
-- alone
abbrev pub PerformancesPassCheck : Type 0
PerformancesPassCheck =
    (t : Texts) (r : Record) → (p : IsTreePerformance t r) →
    (fault : OrderFault) → IsOrderFault p.object.program t.asked.budget p.object.opening r.history r.order fault → fault ≡ NoMemory
