use Rattle.std.proofs.Common.{None}
use Rattle.ob_answer_searches.specs.Orders.{IsOrderAnswer}
use Rattle.ob_answer_files.proofs.HandedOver.{handed_whole}
use Rattle.obl0_c.proofs.WholeModules.{of_beginning}
use Rattle.obl0_c.proofs.obl0_order.Goals as goal

pub returns : goal.returns
returns c =
    let module_bytes = c.args.module.now in
    handed_whole (IsOrderAnswer module_bytes c.args.history.now None c.args.most) c.answer_order-made.result c.hand_whole.result c.hand_whole.new.len c.args.room.now c.hand_whole.new.room
    (of_beginning (λ whole. IsOrderAnswer whole c.args.history.now None c.args.most) c.beginning.result.now module_bytes c.answer_order-made.result c.answer_order-made.ensures c.beginning.ensures)
    c.hand_whole.ensures
