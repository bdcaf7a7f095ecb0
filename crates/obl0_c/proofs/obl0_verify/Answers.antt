use Rattle.ob_answer.specs.Answers.{IsVerifyAnswer}
use Rattle.ob_answer_files.proofs.HandedOver.{handed_whole}
use Rattle.obl0_c.proofs.WholeModules.{of_beginning}
use Rattle.obl0_c.proofs.obl0_verify.Goals as goal

pub returns : goal.returns
returns c =
    let module_bytes = c.args.module.now in
    handed_whole (IsVerifyAnswer module_bytes c.args.record.now) c.answer_verify.result c.hand_whole.result c.hand_whole.new.len c.args.room.now c.hand_whole.new.room
    (of_beginning (λ whole. IsVerifyAnswer whole c.args.record.now) c.beginning.result.now module_bytes c.answer_verify.result c.answer_verify.ensures c.beginning.ensures)
    c.hand_whole.ensures
