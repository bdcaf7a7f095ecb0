-- One call more of the process.
use Rattle.std.proofs.Common.{◌≡◌, sym, ap, ◌∙◌, ◌<◌, ◌+◌, List, ◌∷◌, [], ◌++◌, length, get_or, map, take, append_assoc, arith, Vec, Global, vec_len}
use Rattle.std.proofs.lemmas.List.{length-map, map-append}
use Rattle.std.proofs.lemmas.Option.{get_or_from_slice_get}
use Rattle.wf_history.specs.View.{kept_call}
use Rattle.wf_history.specs.declared.event.CallId.{CallId}
use Rattle.wf_history.specs.declared.kept.KeptCall.{KeptCall}
use Rattle.wf_outcomes.proofs.OutcomesLists.{item_here}
use Rattle.wf_outcomes.specs.Explored.{calls_in}
use Rattle.wf_outcomes.proofs.Calling.{one_told}
use Rattle.wf_outcomes.proofs.OrderLists.{one_more_call}
use Rattle.wf_outcomes.specs.OutcomeOrders.{calls_of, id_told}
use Rattle.wf_outcomes.specs.View.{call_in}
use Rattle.wf_outcomes.specs.declared.all_replies.ToldCall.{ToldCall}
use Rattle.wf_outcomes.proofs.all_replies.tell_script.Goals as goal

pub loop-made-preserved : goal.loop-made-preserved
loop-made-preserved g c =
    let explored = c.args.explored.now in
    let object = explored.object.now in
    let scripts = explored.scripts.now in
    let process = c.args.process in
    let made = c.loop-made.made in
    let script = get_or (calls_in scripts) process [] in
    let calls = c.index-explored-process.result.items in
    let here : script ≡ map kept_call calls =
    get_or_from_slice_get (calls_in scripts) process (map kept_call calls) [] (item_here (λ s. map kept_call s.items) scripts process c.index-explored-process.result c.requires.process c.index-explored-process.is) in
    let size : length script ≡ length calls = ap length here ∙ length-map calls kept_call in
    let count : c.len-made-end.result ≡ length calls =
    c.len-made-end.ensures ∙ ap (λ (v : Vec KeptCall Global). vec_len v) (sym c.index-explored-process.is) ∙ c.index-explored-process.result.ok.0 in
    let less : made < c.len-made-end.result = c.loop-made-test.true in
    let within : made < length script = omega (arith, size, count, less) in
    let id : CallId = record { process = process; number = made + 1 } in
    let one : ToldCall = record { id = id; replies = c.in_ok-replies.replies } in
    let so_far = map call_in c.loop-made.told.items in
    let pushed : map call_in c.push.new.self.items ≡ so_far ++ call_in one ∷ [] = ap (map call_in) c.in_ok-push.ensures.items ∙ map-append call_in c.loop-made.told.items (one ∷ []) in
    let base = map id_told (map call_in c.args.told.now.items) in
    record {
      listed = ap (map id_told) pushed ∙ map-append id_told so_far (call_in one ∷ []) ∙ ap (λ (l : List CallId). l ++ id ∷ []) c.loop-made.invariant.listed
          ∙ append_assoc base (calls_of process 1 (take made script)) (id ∷ []) ∙ ap (λ (l : List CallId). base ++ l) (sym (one_more_call process script made within));
      told = one_told (g.O.Object.effect object) (calls_in scripts) (g.O.Object.opening object) so_far c.loop-made.invariant.told (call_in one) c.in_ok-replies.ensures
          (map call_in c.push.new.self.items) pushed;
    }
