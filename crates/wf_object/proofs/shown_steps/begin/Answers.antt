use Rattle.std.proofs.Common.{◌≡◌, ◌<◌, ◌-◌, ◌+◌, ℕ, List, length, ap, ap₂, sym, ◌∙◌, subst, arith}
use Rattle.std.specs.Prelude.{Option, slice_index_or}
use Rattle.ob_interface.specs.Call.{ObjectCall, Reply}
use Rattle.wf_history.specs.View.{kept_call}
use Rattle.wf_history.specs.History.{Event, IsHistory}
use Rattle.wf_table.specs.StepTable.{Process}
use Rattle.wf_table.specs.Object.{history_after}
use Rattle.wf_records.specs.CallsKept.{no_call}
use Rattle.wf_object.proofs.Scripts.{began_is}
use Rattle.wf_object.proofs.shown_steps.begin.Goals as goal

pub note_begin-requires : goal.note_begin-requires
note_begin-requires g c =
    let q = c.q.inside in
    let lt : q.begun < length q.calls.calls = omega (arith, c.len.ensures) in
    let place : q.begun + 1 - 1 ≡ q.begun = omega arith in
    let call : kept_call c.in_ok-call.call ≡ slice_index_or q.calls.calls q.begun no_call =
    c.in_ok-call.ensures.kept
    ∙ c.at_hand.ensures
    ∙ ap₂ (λ (cs : List ObjectCall) (n : ℕ). slice_index_or cs (n - 1) no_call) c.in_ok-bring_to_hand.ensures.calls c.in_ok-bring_to_hand.ensures.number
    ∙ ap (λ (k : ℕ). slice_index_or q.calls.calls k no_call) place in
    let is = began_is c.args.p c.args.q.now q.begun q.calls.calls (kept_call c.in_ok-call.call) (ap (λ (o : Process _). o.begun) (sym c.q.view_is)) (ap (λ (o : Process _). o.calls) (sym c.q.view_is)) lt call in
    subst (λ (e : Option (Event ObjectCall Reply)). IsHistory (history_after c.args.records.now.history e)) is c.requires.in_turn
