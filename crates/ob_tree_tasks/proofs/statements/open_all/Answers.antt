use Rattle.std.proofs.Common.{refl, ap, sym}
use Rattle.ob_checked.specs.View.{statement_of, statements_in}
use Rattle.ob_layout.specs.Layout.{block_in}
use Rattle.ob_tree_law.specs.Work.{All, Doing, all_parts}
use Rattle.ob_tree_tasks.specs.Scoped.{own_in}
use Rattle.ob_tree_tasks.specs.WorkTasks.{before, with_first}
use Rattle.ob_tree_tasks.proofs.Giving.{first_fits, by_parts, then_gives}
use Rattle.ob_tree_tasks.proofs.Pushed.{nothing_in, all_two}
use Rattle.ob_tree_tasks.proofs.statements.open_all.Goals as goal

pub returns-in_default : goal.returns-in_default
returns-in_default c =
    let g = block_in c.args.layout.now in
    let o = own_in c.args.own in
    let ss = statements_in c.args.statements.now in
    by_parts g (All o ss) c.args.work.now (all_parts g o ss) _ refl
    (sym (ap (λ l. before (all_parts g o (statements_in l)) c.args.work.now) (nothing_in c.args.statements.now c.in_default.ensures.cases))) c.requires.fits

pub open_doing-requires-clause-room : goal.open_doing-requires-clause-room
open_doing-requires-clause-room c =
    let g = block_in c.args.layout.now in
    let o = own_in c.args.own in
    let ss = statements_in c.args.statements.now in
    let s = statement_of c.in-Some.statement.now in
    let first = by_parts g (All o ss) c.args.work.now (all_parts g o ss) (with_first (Doing o s) c.leave_statements.new.work) refl (all_two g o c.args.work.now c.leave_statements.new.work _ _ _ c.in-Some.ensures.cases.0 c.leave_statements.ensures.left) c.requires.fits in
    (first_fits g (Doing o s) c.leave_statements.new.work first.fits).0

pub open_doing-requires-clause-fits : goal.open_doing-requires-clause-fits
open_doing-requires-clause-fits c =
    let g = block_in c.args.layout.now in
    let o = own_in c.args.own in
    let ss = statements_in c.args.statements.now in
    let s = statement_of c.in-Some.statement.now in
    let first = by_parts g (All o ss) c.args.work.now (all_parts g o ss) (with_first (Doing o s) c.leave_statements.new.work) refl (all_two g o c.args.work.now c.leave_statements.new.work _ _ _ c.in-Some.ensures.cases.0 c.leave_statements.ensures.left) c.requires.fits in
    first.fits

pub returns : goal.returns
returns c =
    let g = block_in c.args.layout.now in
    let o = own_in c.args.own in
    let ss = statements_in c.args.statements.now in
    let s = statement_of c.in-Some.statement.now in
    let first = by_parts g (All o ss) c.args.work.now (all_parts g o ss) (with_first (Doing o s) c.leave_statements.new.work) refl (all_two g o c.args.work.now c.leave_statements.new.work _ _ _ c.in-Some.ensures.cases.0 c.leave_statements.ensures.left) c.requires.fits in
    then_gives g _ _ _ first c.open_doing.ensures
