use Rattle.std.proofs.Common.{refl, ap, sym, ◌∙◌}
use Rattle.ob_checked.specs.View.{designator_of, expression_of}
use Rattle.ob_layout.specs.Layout.{block_in}
use Rattle.ob_tree_law.specs.Work.{Value, Address, value_parts, address_parts}
use Rattle.ob_tree_tasks.specs.Scoped.{own_in}
use Rattle.ob_tree_tasks.specs.WorkTasks.{before, with_first}
use Rattle.ob_tree_tasks.proofs.Giving.{first_fits, by_parts, then_gives}
use Rattle.ob_tree_tasks.proofs.Pushed.{value_two, computed_two}
use Rattle.ob_tree_tasks.proofs.expressions.open_outer.Goals as goal

pub open_address-requires-clause-room : goal.open_address-requires-clause-room
open_address-requires-clause-room c =
    let g = block_in c.args.layout.now in
    let o = own_in c.args.own in
    let e = expression_of c.args.expression.now in
    let d = designator_of c.in-ValueOf.variable in
    let first = by_parts g (Value o e) c.args.work.now (value_parts g o e) (with_first (Address o d) c.push.new.self) refl (value_two g o c.args.work.now c.push.new.self _ _ _ _ c.in-ValueOf.is c.push.ensures refl) c.requires.fits in
    (first_fits g (Address o d) c.push.new.self first.fits).0

pub open_address-requires-clause-small : goal.open_address-requires-clause-small
open_address-requires-clause-small c =
    let g = block_in c.args.layout.now in
    let o = own_in c.args.own in
    let e = expression_of c.args.expression.now in
    let d = designator_of c.in-ValueOf.variable in
    let first = by_parts g (Value o e) c.args.work.now (value_parts g o e) (with_first (Address o d) c.push.new.self) refl (value_two g o c.args.work.now c.push.new.self _ _ _ _ c.in-ValueOf.is c.push.ensures refl) c.requires.fits in
    (first_fits g (Address o d) c.push.new.self first.fits).1

pub returns-in-ValueOf : goal.returns-in-ValueOf
returns-in-ValueOf c =
    let g = block_in c.args.layout.now in
    let o = own_in c.args.own in
    let e = expression_of c.args.expression.now in
    let d = designator_of c.in-ValueOf.variable in
    let first = by_parts g (Value o e) c.args.work.now (value_parts g o e) (with_first (Address o d) c.push.new.self) refl (value_two g o c.args.work.now c.push.new.self _ _ _ _ c.in-ValueOf.is c.push.ensures refl) c.requires.fits in
    then_gives g _ _ _ first (by_parts g (Address o d) c.push.new.self (address_parts g o d) _ refl c.open_address.ensures first.fits)

pub returns-in-Literal : goal.returns-in-Literal
returns-in-Literal c =
    let g = block_in c.args.layout.now in
    let o = own_in c.args.own in
    let e = expression_of c.args.expression.now in
    by_parts g (Value o e) c.args.work.now (value_parts g o e) _ refl
    (c.open_literal.ensures g o ∙ sym (ap (λ x. before (value_parts g o (expression_of x)) c.args.work.now) c.in-Literal.is)) c.requires.fits

pub returns-in-Computed : goal.returns-in-Computed
returns-in-Computed c =
    let g = block_in c.args.layout.now in
    let o = own_in c.args.own in
    computed_two g o c.args.work.now c.push-in-Computed.new.self _ _ _ _ _ _ c.in-Computed.is c.deref-in-Computed.ensures c.as_slice.ensures.value
    c.push-in-Computed.ensures refl
