use Rattle.std.proofs.Common.{None}
use Rattle.ob_answer.specs.Answers.{IsPictureAnswer}
use Rattle.ob_answer_files.proofs.HandedOver.{handed_whole}
use Rattle.ob_object_compile.specs.Asked.{Asked}
use Rattle.ob_object_compile.specs.View.{asked_of}
use Rattle.ob_object_perform.specs.Texts.{run_texts}
use Rattle.obl0_c.proofs.WholeModules.{object_made}
use Rattle.obl0_c.proofs.obl0_draw.Goals as goal

pub returns : goal.returns
returns c =
    let module_bytes = c.args.module.now in
    handed_whole _ c.answer_picture.result c.hand_whole.result c.hand_whole.new.len c.args.room.now c.hand_whole.new.room
    (object_made (λ (a : Asked). IsPictureAnswer None (run_texts a c.args.script.now c.args.schedule.now)) (asked_of c.object.result) module_bytes _ c.args.turns c.answer_picture.result c.object.ensures c.answer_picture.ensures)
    c.hand_whole.ensures
