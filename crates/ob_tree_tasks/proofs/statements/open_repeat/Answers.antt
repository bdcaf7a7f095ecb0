use Rattle.std.proofs.Common.{refl}
use Rattle.ob_typing.specs.Program as Program
use Rattle.ob_checked.specs.View.{expression_of, statements_in}
use Rattle.ob_layout.specs.Layout.{block_in}
use Rattle.ob_tree_law.specs.Work.{Doing, doing_parts}
use Rattle.ob_tree_tasks.specs.Scoped.{own_in}
use Rattle.ob_tree_tasks.proofs.Giving.{by_parts}
use Rattle.ob_tree_tasks.proofs.Pushed.{four}
use Rattle.ob_tree_tasks.proofs.statements.open_repeat.Goals as goal

pub returns : goal.returns
returns c =
    let g = block_in c.args.layout.now in
    let o = own_in c.args.own in
    let s = Program.Repeat (statements_in c.args.body.now) (expression_of c.args.condition.now) in
    by_parts g (Doing o s) c.args.work.now (doing_parts g o s) _ refl
    (four _ _ _ _ _ _ _ _ _ c.push.ensures c.push-2.ensures c.push-3.ensures c.push-4.ensures) c.requires.fits
