use Rattle.std.proofs.Common.{map, refl, sym, subst, arith}
use Rattle.ob_checked.specs.View.{actual_of, branches_in, designator_of, otherwise_of, statement_of}
use Rattle.ob_layout.specs.Layout.{block_in}
use Rattle.ob_tree_law.specs.Work.{Doing, Address, Handing, Choosing, doing_parts, address_parts}
use Rattle.ob_tree_tasks.specs.Opening.{CanBeOpened, GivesWay}
use Rattle.ob_tree_tasks.specs.Scoped.{own_in}
use Rattle.ob_tree_tasks.specs.WorkTasks.{with_first}
use Rattle.ob_tree_tasks.proofs.Giving.{first_fits, by_parts, then_gives}
use Rattle.ob_tree_tasks.proofs.Pushed.{assign_three, call_two, if_one, while_same, repeat_same}
use Rattle.ob_tree_tasks.proofs.statements.open_doing.Goals as goal

pub open_address-requires-clause-room : goal.open_address-requires-clause-room
open_address-requires-clause-room c =
    let g = block_in c.args.layout.now in
    let o = own_in c.args.own in
    let s = statement_of c.args.statement.now in
    let d = designator_of c.in-Assign.target in
    let first = by_parts g (Doing o s) c.args.work.now (doing_parts g o s) (with_first (Address o d) c.push-in-Assign.new.self) refl (assign_three g o c.args.work.now c.push.new.self c.push-in-Assign.new.self _ _ _ c.in-Assign.is c.push.ensures c.push-in-Assign.ensures) c.requires.fits in
    (first_fits g (Address o d) c.push-in-Assign.new.self first.fits).0

pub open_address-requires-clause-small : goal.open_address-requires-clause-small
open_address-requires-clause-small c =
    let g = block_in c.args.layout.now in
    let o = own_in c.args.own in
    let s = statement_of c.args.statement.now in
    let d = designator_of c.in-Assign.target in
    let first = by_parts g (Doing o s) c.args.work.now (doing_parts g o s) (with_first (Address o d) c.push-in-Assign.new.self) refl (assign_three g o c.args.work.now c.push.new.self c.push-in-Assign.new.self _ _ _ c.in-Assign.is c.push.ensures c.push-in-Assign.ensures) c.requires.fits in
    (first_fits g (Address o d) c.push-in-Assign.new.self first.fits).1

pub returns-in-Assign : goal.returns-in-Assign
returns-in-Assign c =
    let g = block_in c.args.layout.now in
    let o = own_in c.args.own in
    let s = statement_of c.args.statement.now in
    let d = designator_of c.in-Assign.target in
    let first = by_parts g (Doing o s) c.args.work.now (doing_parts g o s) (with_first (Address o d) c.push-in-Assign.new.self) refl (assign_three g o c.args.work.now c.push.new.self c.push-in-Assign.new.self _ _ _ c.in-Assign.is c.push.ensures c.push-in-Assign.ensures) c.requires.fits in
    then_gives g _ _ _ first (by_parts g (Address o d) c.push-in-Assign.new.self (address_parts g o d) _ refl c.open_address.ensures first.fits)

pub open_handing-requires-clause-room : goal.open_handing-requires-clause-room
open_handing-requires-clause-room c =
    let g = block_in c.args.layout.now in
    let o = own_in c.args.own in
    let s = statement_of c.args.statement.now in
    let xs = map actual_of c.as_slice.result.now in
    let first = by_parts g (Doing o s) c.args.work.now (doing_parts g o s) (with_first (Handing o xs) c.push-in-Call.new.self) refl (call_two g o c.args.work.now c.push-in-Call.new.self _ _ _ _ _ c.in-Call.is (omega (arith, c.len.ensures, c.in-Call.actuals.ok)) c.as_slice.ensures.value c.push-in-Call.ensures) c.requires.fits in
    (first_fits g (Handing o xs) c.push-in-Call.new.self first.fits).0

pub open_handing-requires-clause-fits : goal.open_handing-requires-clause-fits
open_handing-requires-clause-fits c =
    let g = block_in c.args.layout.now in
    let o = own_in c.args.own in
    let s = statement_of c.args.statement.now in
    let xs = map actual_of c.as_slice.result.now in
    let first = by_parts g (Doing o s) c.args.work.now (doing_parts g o s) (with_first (Handing o xs) c.push-in-Call.new.self) refl (call_two g o c.args.work.now c.push-in-Call.new.self _ _ _ _ _ c.in-Call.is (omega (arith, c.len.ensures, c.in-Call.actuals.ok)) c.as_slice.ensures.value c.push-in-Call.ensures) c.requires.fits in
    first.fits

pub returns-in-Call : goal.returns-in-Call
returns-in-Call c =
    let g = block_in c.args.layout.now in
    let o = own_in c.args.own in
    let s = statement_of c.args.statement.now in
    let xs = map actual_of c.as_slice.result.now in
    let first = by_parts g (Doing o s) c.args.work.now (doing_parts g o s) (with_first (Handing o xs) c.push-in-Call.new.self) refl (call_two g o c.args.work.now c.push-in-Call.new.self _ _ _ _ _ c.in-Call.is (omega (arith, c.len.ensures, c.in-Call.actuals.ok)) c.as_slice.ensures.value c.push-in-Call.ensures) c.requires.fits in
    then_gives g _ _ _ first c.open_handing.ensures

pub open_choosing-requires-clause-fits : goal.open_choosing-requires-clause-fits
open_choosing-requires-clause-fits c =
    let g = block_in c.args.layout.now in
    let o = own_in c.args.own in
    let s = statement_of c.args.statement.now in
    let bs = branches_in c.as_slice-in-If.result.now (otherwise_of c.in-If.otherwise) in
    let first = by_parts g (Doing o s) c.args.work.now (doing_parts g o s) (with_first (Choosing o bs) c.args.work.now) refl (if_one g o c.args.work.now (with_first (Choosing o bs) c.args.work.now) _ _ _ _ c.in-If.is c.as_slice-in-If.ensures.value refl) c.requires.fits in
    first.fits

pub returns-in-If : goal.returns-in-If
returns-in-If c =
    let g = block_in c.args.layout.now in
    let o = own_in c.args.own in
    let s = statement_of c.args.statement.now in
    let bs = branches_in c.as_slice-in-If.result.now (otherwise_of c.in-If.otherwise) in
    let first = by_parts g (Doing o s) c.args.work.now (doing_parts g o s) (with_first (Choosing o bs) c.args.work.now) refl (if_one g o c.args.work.now (with_first (Choosing o bs) c.args.work.now) _ _ _ _ c.in-If.is c.as_slice-in-If.ensures.value refl) c.requires.fits in
    then_gives g _ _ _ first c.open_choosing.ensures

pub open_while-requires-clause-fits : goal.open_while-requires-clause-fits
open_while-requires-clause-fits c =
    let g = block_in c.args.layout.now in
    let o = own_in c.args.own in
    subst (λ s. CanBeOpened g (with_first (Doing o s) c.args.work.now)) (sym (while_same _ _ _ _ c.in-While.is c.as_slice-in-While.ensures.value)) c.requires.fits

pub returns-in-While : goal.returns-in-While
returns-in-While c =
    let g = block_in c.args.layout.now in
    let o = own_in c.args.own in
    subst (λ s. GivesWay g (with_first (Doing o s) c.args.work.now) c.open_while.new.work) (while_same _ _ _ _ c.in-While.is c.as_slice-in-While.ensures.value) c.open_while.ensures

pub open_repeat-requires-clause-fits : goal.open_repeat-requires-clause-fits
open_repeat-requires-clause-fits c =
    let g = block_in c.args.layout.now in
    let o = own_in c.args.own in
    subst (λ s. CanBeOpened g (with_first (Doing o s) c.args.work.now)) (sym (repeat_same _ _ _ _ c.in-Repeat.is c.as_slice-in-Repeat.ensures.value)) c.requires.fits

pub returns-in-Repeat : goal.returns-in-Repeat
returns-in-Repeat c =
    let g = block_in c.args.layout.now in
    let o = own_in c.args.own in
    subst (λ s. GivesWay g (with_first (Doing o s) c.args.work.now) c.open_repeat.new.work) (repeat_same _ _ _ _ c.in-Repeat.is c.as_slice-in-Repeat.ensures.value) c.open_repeat.ensures
