-- One script more.
use Rattle.std.proofs.Common.{sym, ap, ◌∙◌, ◌<◌, List, [], ◌++◌, length, get_or, map, arith}
use Rattle.std.proofs.lemmas.List.{length-map}
use Rattle.wf_history.specs.View.{kept_call}
use Rattle.wf_history.specs.declared.event.CallId.{CallId}
use Rattle.wf_outcomes.specs.Explored.{calls_in}
use Rattle.wf_outcomes.proofs.OrderLists.{one_more_script}
use Rattle.wf_outcomes.specs.OutcomeOrders.{calls_of}
use Rattle.wf_outcomes.proofs.all_replies.calls_told.Goals as goal

pub loop-process-preserved : goal.loop-process-preserved
loop-process-preserved g c =
    let scripts = c.args.explored.now.scripts.now in
    let process = c.loop-process.process in
    let size = length-map scripts (λ s. map kept_call s.items) in
    let less = c.loop-process-test.true in
    let within : process < length (calls_in scripts) = omega (arith, size, less) in
    record {
      listed = c.in_ok-tell_script.ensures.listed ∙ ap (λ (l : List CallId). l ++ calls_of process 1 (get_or (calls_in scripts) process [])) c.loop-process.invariant.listed
          ∙ sym (one_more_script (calls_in scripts) process within);
      told = c.in_ok-tell_script.ensures.told;
    }
