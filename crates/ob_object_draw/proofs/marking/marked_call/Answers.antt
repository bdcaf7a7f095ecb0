-- The order is legal, or the record has a fault.
use Rattle.std.proofs.Common.{◌≡◌, ◌∙◌, Err, Option, Result, ap, subst, sym}
use Rattle.ob_object_draw.proofs.Refused.{refused}
use Rattle.ob_object_draw.specs.Marks.{of_verify}
use Rattle.ob_object_draw.specs.RecordPictures.{IsRefusal}
use Rattle.ob_object_draw.specs.declared.record_pictures.DrawRecordFault.{DrawRecordFault}
use Rattle.ob_object_draw.specs.declared.marking.Marked.{Marked}
use Rattle.ob_object_calls.specs.VerifyFaults.{IsVerifyFault, too_long}
use Rattle.ob_object_calls.specs.declared.verifying.VerifyFault.{VerifyFault}
use Rattle.ob_object_draw.proofs.marking.marked_call.Goals as goal

pub returns-in_ok-marked-in-Err-Order-clause-call : goal.returns-in_ok-marked-in-Err-Order-clause-call
returns-in_ok-marked-in-Err-Order-clause-call c =
    record {
      fault = c.in-Err-Order.fault;
      fails = subst (λ (f : VerifyFault). IsVerifyFault c.args.module.now c.args.record.now f) c.in-Err-Order.field-0-is c.in-Err-Order.ensures.fault;
      is_of = c.in_ok-marked-in-Err-Order.ensures;
    }

pub returns-in-Err-clause-refused : goal.returns-in-Err-clause-refused
returns-in-Err-clause-refused c =
    let module_text = c.args.module.now in
    let record_text = c.args.record.now in
    subst (λ (f : DrawRecordFault). IsRefusal module_text record_text f) (sym c.of_verify.ensures)
    (refused module_text record_text c.in-Err.other c.in-Err.ensures.fault c.in-Err.ensures.none c.in-Err.ensures.exact c.in-Err.ensures.memory)

pub returns-in-Err-clause-too_long : goal.returns-in-Err-clause-too_long
returns-in-Err-clause-too_long c = λ long.
    let bounded = c.in-Err.ensures.too_long long in
    let same : c.in-Err.other ≡ too_long = cc in
    let E : DrawRecordFault → Result (Option Marked) DrawRecordFault = λ (f : DrawRecordFault). Err f in
    ap E (c.of_verify.ensures ∙ ap of_verify same)
