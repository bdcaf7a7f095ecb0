use Rattle.std.proofs.Common.{refl, ap}
use Rattle.ob_typing.specs.Program as Program
use Rattle.ob_checked.specs.View.{expression_of, statements_in}
use Rattle.ob_layout.specs.Layout.{block_in}
use Rattle.ob_tree_law.specs.Work.{Doing, Value, doing_parts}
use Rattle.ob_tree_tasks.specs.Scoped.{own_in}
use Rattle.ob_tree_tasks.specs.WorkTasks.{with_first}
use Rattle.ob_tree_tasks.proofs.Giving.{first_fits, by_parts, then_gives}
use Rattle.ob_tree_tasks.proofs.statements.open_while.Goals as goal

pub open_value-requires-clause-room : goal.open_value-requires-clause-room
open_value-requires-clause-room c =
    let g = block_in c.args.layout.now in
    let o = own_in c.args.own in
    let e = expression_of c.args.condition.now in
    let s = Program.While e (statements_in c.args.body.now) in
    let first = by_parts g (Doing o s) c.args.work.now (doing_parts g o s) (with_first (Value o e) c.push.new.self) refl (ap (with_first (Value o e)) c.push.ensures) c.requires.fits in
    (first_fits g (Value o e) c.push.new.self first.fits).0

pub open_value-requires-clause-fits : goal.open_value-requires-clause-fits
open_value-requires-clause-fits c =
    let g = block_in c.args.layout.now in
    let o = own_in c.args.own in
    let e = expression_of c.args.condition.now in
    let s = Program.While e (statements_in c.args.body.now) in
    let first = by_parts g (Doing o s) c.args.work.now (doing_parts g o s) (with_first (Value o e) c.push.new.self) refl (ap (with_first (Value o e)) c.push.ensures) c.requires.fits in
    first.fits

pub returns : goal.returns
returns c =
    let g = block_in c.args.layout.now in
    let o = own_in c.args.own in
    let e = expression_of c.args.condition.now in
    let s = Program.While e (statements_in c.args.body.now) in
    let first = by_parts g (Doing o s) c.args.work.now (doing_parts g o s) (with_first (Value o e) c.push.new.self) refl (ap (with_first (Value o e)) c.push.ensures) c.requires.fits in
    then_gives g _ _ _ first c.open_value.ensures
