use Rattle.std.proofs.Common.{◌∙◌, ap, length, map, refl, sym}
use Rattle.std.proofs.lemmas.List.{length-map}
use Rattle.std.proofs.lemmas.Result.{err_from_is_err_and}
use Rattle.ob_checked.specs.CheckedModule.{program_in}
use Rattle.ob_mean.specs.View.{call_of}
use Rattle.ob_object_calls.proofs.Records.{no_opening, no_record}
use Rattle.ob_store.specs.View.{state_of}
use Rattle.wf_history.specs.View.{event_of}
use Rattle.ob_explained_traps.proofs.Begun.{all_begun, begun_long}
use Rattle.ob_explained_traps.proofs.record_traps.told_of.Goals as goal

pub returns-in_err-read-clause-lawful : goal.returns-in_err-read-clause-lawful
returns-in_err-read-clause-lawful c =
    let p = err_from_is_err_and c.from_residual.result c.from_residual.ensures.1 in
    rw (p.1, p.2) (no_record (program_in c.args.checked.now) c.args.text.now c.in_err-read.field-0.0 c.in_err-read.ensures.fault)

pub returns-in_err-begun-clause-lawful : goal.returns-in_err-begun-clause-lawful
returns-in_err-begun-clause-lawful c =
    let p = err_from_is_err_and c.from_residual-in_err-begun.result c.from_residual-in_err-begun.ensures.1 in
    rw (p.1, p.2)
    (no_opening (program_in c.args.checked.now) c.args.text.now _ c.in_ok-read.ensures.record c.in_ok-read.ensures.alone c.in_err-begun.field-0.0 c.in_err-begun.ensures.fault)

pub returns-in_err-calls-clause-lawful : goal.returns-in_err-calls-clause-lawful
returns-in_err-calls-clause-lawful c =
    let p = err_from_is_err_and c.from_residual-in_err-calls.result c.from_residual-in_err-calls.ensures.1 in
    rw (p.1, p.2)
    (all_begun (program_in c.args.checked.now) c.args.text.now _ c.in_ok-read.ensures.alone c.in_err-calls.field-0.0
    (rw (c.events.ensures.value, c.deref.ensures.value) at c.in_err-calls.ensures.fault))

pub returns-in_err-told_from-clause-lawful : goal.returns-in_err-told_from-clause-lawful
returns-in_err-told_from-clause-lawful c =
    let p = err_from_is_err_and c.from_residual-in_err-told_from.result c.from_residual-in_err-told_from.ensures.1 in
    rw (p.1, p.2) (λ r. refl)

pub told_from-requires : goal.told_from-requires
told_from-requires c =
    ap length (c.deref-3.ensures.value ∙ sym c.deref.ensures.value)
    ∙ begun_long (map event_of c.events.result.now) c.deref.result.now (map call_of c.in_ok-calls.calls.items) c.in_ok-calls.ensures.calls
    ∙ length-map c.in_ok-calls.calls.items call_of ∙ sym (ap length c.deref-2.ensures.value)

pub returns-clause-told : goal.returns-clause-told
returns-clause-told c =
    record {
      tells = _;
      is_record = c.in_ok-read.ensures.record;
      opening = state_of c.in_ok-begun.begun;
      begins = c.in_ok-begun.ensures.state;
      calls = map call_of c.in_ok-calls.calls.items;
      begun = rw (c.events.ensures.value, c.deref.ensures.value) at c.in_ok-calls.ensures.calls;
      printed = rw (c.deref-2.ensures.value, c.deref-3.ensures.value) at c.in_ok-told_from.ensures;
    }
