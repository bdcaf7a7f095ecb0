use Rattle.ob_answer.specs.Answers.{IsSeqAnswer}
use Rattle.ob_answer_files.proofs.HandedOver.{handed_whole}
use Rattle.ob_object_compile.specs.Asked.{Asked}
use Rattle.ob_object_compile.specs.View.{asked_of}
use Rattle.obl0_c.proofs.WholeModules.{object_made}
use Rattle.obl0_c.proofs.obl0_seq.Goals as goal

pub returns : goal.returns
returns c =
    let module_bytes = c.args.module.now in
    handed_whole _ c.answer_seq.result c.hand_whole.result c.hand_whole.new.len c.args.room.now c.hand_whole.new.room
    (object_made (λ (a : Asked). IsSeqAnswer a c.args.script.now) (asked_of c.object-asked.result) module_bytes _ c.args.turns c.answer_seq.result c.object-asked.ensures c.answer_seq.ensures)
    c.hand_whole.ensures
