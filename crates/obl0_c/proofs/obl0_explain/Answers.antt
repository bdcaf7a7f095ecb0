use Rattle.ob_answer_explained.specs.Explains.{IsModuleExplained}
use Rattle.obl0_c.specs.Asked.{module_name}
use Rattle.ob_answer_files.proofs.HandedOver.{handed_whole}
use Rattle.obl0_c.proofs.WholeModules.{of_beginning}
use Rattle.obl0_c.proofs.obl0_explain.Goals as goal

pub returns : goal.returns
returns c =
    let module_bytes = c.args.module.now in
    handed_whole (IsModuleExplained module_name module_bytes) c.explain_module.result c.hand_whole.result c.hand_whole.new.len c.args.room.now c.hand_whole.new.room
    (of_beginning (λ whole. IsModuleExplained module_name whole) c.beginning.result.now module_bytes c.explain_module.result c.explain_module.ensures c.beginning.ensures)
    c.hand_whole.ensures
