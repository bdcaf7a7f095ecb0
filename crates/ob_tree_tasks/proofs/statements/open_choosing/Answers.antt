use Rattle.std.proofs.Common.{refl}
use Rattle.ob_checked.specs.View.{branches_in, expression_of, otherwise_of}
use Rattle.ob_layout.specs.Layout.{block_in}
use Rattle.ob_tree_law.specs.Work.{Choosing, Value, choosing_parts}
use Rattle.ob_tree_tasks.specs.Scoped.{own_in}
use Rattle.ob_tree_tasks.specs.WorkTasks.{with_first}
use Rattle.ob_tree_tasks.proofs.Giving.{first_fits, by_parts, then_gives}
use Rattle.ob_tree_tasks.proofs.Pushed.{nothing_in, choosing_two, choosing_last}
use Rattle.ob_tree_tasks.proofs.statements.open_choosing.Goals as goal

pub open_value-requires-clause-room : goal.open_value-requires-clause-room
open_value-requires-clause-room c =
    let g = block_in c.args.layout.now in
    let o = own_in c.args.own in
    let bs = branches_in c.args.branches.now (otherwise_of c.args.otherwise.now) in
    let e = expression_of c.in-Some.branch.now.condition in
    let first = by_parts g (Choosing o bs) c.args.work.now (choosing_parts g o bs) (with_first (Value o e) c.push.new.self) refl (choosing_two g o c.args.work.now c.push.new.self _ _ _ _ _ c.in-Some.ensures.cases.0 c.as_slice.ensures.value c.push.ensures) c.requires.fits in
    (first_fits g (Value o e) c.push.new.self first.fits).0

pub open_value-requires-clause-fits : goal.open_value-requires-clause-fits
open_value-requires-clause-fits c =
    let g = block_in c.args.layout.now in
    let o = own_in c.args.own in
    let bs = branches_in c.args.branches.now (otherwise_of c.args.otherwise.now) in
    let e = expression_of c.in-Some.branch.now.condition in
    let first = by_parts g (Choosing o bs) c.args.work.now (choosing_parts g o bs) (with_first (Value o e) c.push.new.self) refl (choosing_two g o c.args.work.now c.push.new.self _ _ _ _ _ c.in-Some.ensures.cases.0 c.as_slice.ensures.value c.push.ensures) c.requires.fits in
    first.fits

pub returns-in-Some : goal.returns-in-Some
returns-in-Some c =
    let g = block_in c.args.layout.now in
    let o = own_in c.args.own in
    let bs = branches_in c.args.branches.now (otherwise_of c.args.otherwise.now) in
    let e = expression_of c.in-Some.branch.now.condition in
    let first = by_parts g (Choosing o bs) c.args.work.now (choosing_parts g o bs) (with_first (Value o e) c.push.new.self) refl (choosing_two g o c.args.work.now c.push.new.self _ _ _ _ _ c.in-Some.ensures.cases.0 c.as_slice.ensures.value c.push.ensures) c.requires.fits in
    then_gives g _ _ _ first c.open_value.ensures

pub returns-in-None : goal.returns-in-None
returns-in-None c =
    let g = block_in c.args.layout.now in
    let o = own_in c.args.own in
    let bs = branches_in c.args.branches.now (otherwise_of c.args.otherwise.now) in
    by_parts g (Choosing o bs) c.args.work.now (choosing_parts g o bs) _ refl
    (choosing_last g o c.args.work.now _ _ _ (nothing_in c.args.branches.now c.in-None.ensures.cases) (c.open_otherwise.ensures g)) c.requires.fits
