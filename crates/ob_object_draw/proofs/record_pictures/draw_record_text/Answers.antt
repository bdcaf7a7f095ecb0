use Rattle.std.proofs.Common.{option_map, refl}
use Rattle.std.proofs.lemmas.Result.{err_from_is_err_and}
use Rattle.ob_checked.specs.CheckedModule.{program_in}
use Rattle.ob_checked.specs.Exports.{signatures}
use Rattle.ob_object_draw.proofs.Drawn.{marked_here}
use Rattle.ob_object_draw.proofs.FaultCalls.{range_fault, record_fault}
use Rattle.ob_object_draw.proofs.NoPicture.{no_module, no_range, no_record}
use Rattle.ob_object_draw.specs.RecordPictures.{moments_of}
use Rattle.ob_picture_chart.specs.ChartView.{mark_of}
use Rattle.ob_text_reading.specs.RecordContents.{told_of}
use Rattle.ob_object_draw.proofs.record_pictures.draw_record_text.Goals as goal

pub returns-in_err-marked-clause-fault : goal.returns-in_err-marked-clause-fault
returns-in_err-marked-clause-fault c =
    let p = err_from_is_err_and c.from_residual.result c.from_residual.ensures.1 in
    rw (p.1, p.2) (c.in_err-marked.ensures.refused.says c.args.calls)

pub returns-in_err-marked-clause-none : goal.returns-in_err-marked-clause-none
returns-in_err-marked-clause-none c =
    let p = err_from_is_err_and c.from_residual.result c.from_residual.ensures.1 in
    rw (p.1, p.2) (λ numbered. c.in_err-marked.ensures.refused.none numbered c.args.calls)

pub returns-in_err-checked-clause-none : goal.returns-in_err-checked-clause-none
returns-in_err-checked-clause-none c =
    let p = err_from_is_err_and c.from_residual-in_err-checked.result c.from_residual-in_err-checked.ensures.1 in
    rw (p.1, p.2) (no_module c.args.module.now c.args.record.now c.args.calls c.in_err-checked.field-0.0 c.in_err-checked.ensures.none)

pub returns-in_err-read-clause-fault : goal.returns-in_err-read-clause-fault
returns-in_err-read-clause-fault c =
    let p = err_from_is_err_and c.from_residual-in_err-read.result c.from_residual-in_err-read.ensures.1 in
    rw (p.1, p.2)
    (record_fault c.args.module.now c.args.record.now c.args.calls (program_in c.in_ok-checked.checked) c.in_ok-checked.ensures.program
    c.in_err-read.field-0.0 c.in_err-read.ensures.fault)

pub returns-in_err-read-clause-none : goal.returns-in_err-read-clause-none
returns-in_err-read-clause-none c =
    let p = err_from_is_err_and c.from_residual-in_err-read.result c.from_residual-in_err-read.ensures.1 in
    rw (p.1, p.2)
    (no_record c.args.module.now c.args.record.now c.args.calls (program_in c.in_ok-checked.checked) c.in_ok-checked.ensures.alone
    c.in_err-read.field-0.0 c.in_err-read.ensures.fault)

pub returns-in_err-drawn-clause-fault : goal.returns-in_err-drawn-clause-fault
returns-in_err-drawn-clause-fault c =
    let p = err_from_is_err_and c.from_residual-in_err-drawn.result c.from_residual-in_err-drawn.ensures.1 in
    rw (p.1, p.2)
    (range_fault c.args.module.now c.args.record.now c.args.calls (program_in c.in_ok-checked.checked) c.in_ok-checked.ensures.program
    (told_of c.in_ok-read.read) c.in_ok-read.ensures.record c.in_err-drawn.field-0.0 c.in_err-drawn.ensures.fault)

pub returns-in_err-drawn-clause-none : goal.returns-in_err-drawn-clause-none
returns-in_err-drawn-clause-none c =
    let p = err_from_is_err_and c.from_residual-in_err-drawn.result c.from_residual-in_err-drawn.ensures.1 in
    rw (p.1, p.2)
    (no_range c.args.module.now c.args.record.now c.args.calls (program_in c.in_ok-checked.checked) c.in_ok-checked.ensures.alone
    (told_of c.in_ok-read.read) c.in_ok-read.ensures.alone (moments_of (told_of c.in_ok-read.read)) refl c.in_err-drawn.field-0.0 c.in_err-drawn.ensures.fault)

pub returns-clause-picture : goal.returns-clause-picture
returns-clause-picture c =
    record {
      program = program_in c.in_ok-checked.checked;
      tells = told_of c.in_ok-read.read;
      read = record { is_module = c.in_ok-checked.ensures.program; is_record = c.in_ok-read.ensures.record };
      mark = option_map mark_of c.mark_of-mark.result;
      marks = marked_here c.args.module.now c.args.record.now c.in_ok-marked.marked (option_map mark_of c.mark_of-mark.result) c.mark_of-mark.ensures c.in_ok-marked.ensures.call;
      drawn = c.in_ok-drawn.ensures.picture;
    }
