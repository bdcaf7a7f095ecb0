use Rattle.std.proofs.Common.{IfOk, Option, refl, subst}
use Rattle.std.proofs.lemmas.Result.{IfOk-weaker}
use Rattle.ob_answer.specs.AllRuns.{AllRuns}
use Rattle.ob_answer.specs.Answers.{IsAllRunsObeyed, IsCallsObeyed, IsRunObeyed}
use Rattle.ob_answer.specs.declared.printed_forms.CallsProduct.{CallsProduct}
use Rattle.ob_answer.specs.declared.printed_forms.Product.TheVariants as Products
use Rattle.ob_command.specs.Commands.{outcomes_request_of, run_request_of, seq_request_of}
use Rattle.ob_picture_chart.specs.declared.charts.CallRange.{CallRange}
use Rattle.ob_answer.proofs.answer.obey.Goals as goal

pub returns-in-Check : goal.returns-in-Check
returns-in-Check g c = rw c.in-Check.is c.obey_check.ensures

pub returns-in-List : goal.returns-in-List
returns-in-List g c = rw c.in-List.is c.obey_list.ensures

pub returns-in-Seq : goal.returns-in-Seq
returns-in-Seq g c =
    let request = seq_request_of c.in-Seq.sequence in
    rw c.in-Seq.is
    (subst (λ (p : CallsProduct). IfOk c.obey_calls.result (λ a. IsCallsObeyed g.F.Files.reads p request.calls c.args.files.now a c.obey_calls.new.files))
    c.product_of.ensures c.obey_calls.ensures)

pub returns-in-Live : goal.returns-in-Live
returns-in-Live g c = rw c.in-Live.is (IfOk-weaker c.live_apart.result _ _ (λ a h. (h, refl)) c.live_apart.ensures)

pub returns-in-Run : goal.returns-in-Run
returns-in-Run g c = rw c.in-Run.is c.obey_run.ensures

pub returns-in-RunTree : goal.returns-in-RunTree
returns-in-RunTree g c = rw c.in-RunTree.is c.obey_run-in-RunTree.ensures

pub returns-in-RunSteps : goal.returns-in-RunSteps
returns-in-RunSteps g c = rw c.in-RunSteps.is c.obey_run-in-RunSteps.ensures

pub returns-in-RunFinished : goal.returns-in-RunFinished
returns-in-RunFinished g c = rw c.in-RunFinished.is c.obey_finished.ensures

pub returns-in-RunByChance : goal.returns-in-RunByChance
returns-in-RunByChance g c = rw c.in-RunByChance.is c.obey_chance.ensures

pub returns-in-State : goal.returns-in-State
returns-in-State g c = rw c.in-State.is c.obey_run-in-State.ensures

pub returns-in-Draw : goal.returns-in-Draw
returns-in-Draw g c =
    rw c.in-Draw.is (subst (λ (r : Option CallRange). IfOk c.obey_run-in-Draw.result
    (λ a. IsRunObeyed g.F.Files.reads (Products.Picture r) (run_request_of c.in-Draw.run') c.args.files.now a c.obey_run-in-Draw.new.files))
    c.range_of.ensures c.obey_run-in-Draw.ensures)

pub returns-in-DrawRecord : goal.returns-in-DrawRecord
returns-in-DrawRecord g c = rw c.in-DrawRecord.is c.obey_draw_seen.ensures

pub returns-in-DrawHistory : goal.returns-in-DrawHistory
returns-in-DrawHistory g c = rw c.in-DrawHistory.is c.obey_draw_history.ensures

pub returns-in-Outcomes : goal.returns-in-Outcomes
returns-in-Outcomes g c =
    let request = outcomes_request_of c.in-Outcomes.outcomes in
    rw c.in-Outcomes.is
    (subst (λ (all : AllRuns). IfOk c.obey_all_runs.result (λ a. IsAllRunsObeyed g.F.Files.reads all request.calls c.args.files.now a c.obey_all_runs.new.files))
    c.all_runs_for.ensures c.obey_all_runs.ensures)

pub returns-in-Verify : goal.returns-in-Verify
returns-in-Verify g c = rw c.in-Verify.is c.obey_verify.ensures

pub returns-in-Order : goal.returns-in-Order
returns-in-Order g c = rw c.in-Order.is c.obey_order.ensures

pub returns-in-Explain : goal.returns-in-Explain
returns-in-Explain g c = rw c.in-Explain.is (IfOk-weaker c.obey_explain_module.result _ _ (λ a h. h 0) c.obey_explain_module.ensures)

pub returns-in-ExplainFault : goal.returns-in-ExplainFault
returns-in-ExplainFault g c = rw c.in-ExplainFault.is (IfOk-weaker c.answer_fault.result _ _ (λ a h. (h, refl)) c.answer_fault.ensures)

pub returns-in-ExplainCalls : goal.returns-in-ExplainCalls
returns-in-ExplainCalls g c = rw c.in-ExplainCalls.is c.obey_calls-in-ExplainCalls.ensures

pub returns-in-ExplainTraps : goal.returns-in-ExplainTraps
returns-in-ExplainTraps g c = rw c.in-ExplainTraps.is c.obey_calls-in-ExplainTraps.ensures

pub returns-in-ExplainRun : goal.returns-in-ExplainRun
returns-in-ExplainRun g c = rw c.in-ExplainRun.is c.obey_run-in-ExplainRun.ensures

pub returns-in-ExplainAlways : goal.returns-in-ExplainAlways
returns-in-ExplainAlways g c = rw c.in-ExplainAlways.is c.obey_all_runs-in-ExplainAlways.ensures

pub returns-in-ExplainRecord : goal.returns-in-ExplainRecord
returns-in-ExplainRecord g c = rw c.in-ExplainRecord.is c.obey_explain_record.ensures

pub returns-in-ExplainRecordTraps : goal.returns-in-ExplainRecordTraps
returns-in-ExplainRecordTraps g c = rw c.in-ExplainRecordTraps.is c.obey_explain_record_traps.ensures

pub returns-in-ExplainHistory : goal.returns-in-ExplainHistory
returns-in-ExplainHistory g c = rw c.in-ExplainHistory.is c.obey_explain_history.ensures

pub returns-in-Bound : goal.returns-in-Bound
returns-in-Bound g c = rw c.in-Bound.is c.obey_bound.ensures
