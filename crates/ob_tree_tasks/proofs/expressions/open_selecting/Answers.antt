use Rattle.std.proofs.Common.{◌∷◌, refl, ap, sym, ◌∙◌, subst}
use Rattle.ob_checked.specs.View.{expression_of, selectors_in}
use Rattle.ob_layout.specs.Layout.{block_in}
use Rattle.ob_tree_law.specs.Work.{Selecting, Value, selecting_parts}
use Rattle.ob_tree_tasks.specs.Opening.{IsSmallSelector}
use Rattle.ob_tree_tasks.specs.Scoped.{own_in, type_in}
use Rattle.ob_tree_tasks.specs.WorkTasks.{before, with_first}
use Rattle.ob_tree_tasks.proofs.Giving.{first_fits, by_parts, then_gives}
use Rattle.ob_tree_tasks.proofs.Pushed.{nothing_in, selecting_field, selecting_element}
use Rattle.ob_tree_tasks.proofs.expressions.open_selecting.Goals as goal

pub returns-in_default : goal.returns-in_default
returns-in_default c =
    let g = block_in c.args.layout.now in
    let o = own_in c.args.own in
    let t = type_in c.args.types.now c.args.data_type in
    let ss = selectors_in c.args.selectors.now in
    by_parts g (Selecting o t ss) c.args.work.now (selecting_parts g o t ss) _ refl
    (sym (ap (λ l. before (selecting_parts g o t (selectors_in l)) c.args.work.now) (nothing_in c.args.selectors.now c.in_default.ensures.cases))) c.requires.fits

pub open_field-requires-clause-small : goal.open_field-requires-clause-small
open_field-requires-clause-small c =
    let g = block_in c.args.layout.now in
    let o = own_in c.args.own in
    let t = type_in c.args.types.now c.args.data_type in
    let ss = selectors_in c.args.selectors.now in
    subst (λ l. IsSmallSelector t (selectors_in l)) (c.in-Some.ensures.cases.0 ∙ ap (λ x. x ∷ c.in-Some.rest.now) c.in-Field.is) (first_fits g (Selecting o t ss) c.args.work.now c.requires.fits).1

pub leave_element-requires-clause-short : goal.leave_element-requires-clause-short
leave_element-requires-clause-short c =
    let g = block_in c.args.layout.now in
    let o = own_in c.args.own in
    let t = type_in c.args.types.now c.args.data_type in
    let ss = selectors_in c.args.selectors.now in
    (subst (λ l. IsSmallSelector t (selectors_in l)) (c.in-Some.ensures.cases.0 ∙ ap (λ x. x ∷ c.in-Some.rest.now) c.in-Element.is) (first_fits g (Selecting o t ss) c.args.work.now c.requires.fits).1).0

pub leave_element-requires-clause-small : goal.leave_element-requires-clause-small
leave_element-requires-clause-small c =
    let g = block_in c.args.layout.now in
    let o = own_in c.args.own in
    let t = type_in c.args.types.now c.args.data_type in
    let ss = selectors_in c.args.selectors.now in
    (subst (λ l. IsSmallSelector t (selectors_in l)) (c.in-Some.ensures.cases.0 ∙ ap (λ x. x ∷ c.in-Some.rest.now) c.in-Element.is) (first_fits g (Selecting o t ss) c.args.work.now c.requires.fits).1).1

pub returns-in-Field : goal.returns-in-Field
returns-in-Field c =
    let g = block_in c.args.layout.now in
    let o = own_in c.args.own in
    let t = type_in c.args.types.now c.args.data_type in
    let ss = selectors_in c.args.selectors.now in
    by_parts g (Selecting o t ss) c.args.work.now (selecting_parts g o t ss) _ refl
    (selecting_field g o c.args.work.now _ t _ _ _ _ _ c.in-Some.ensures.cases.0 c.in-Field.is c.open_field.ensures) c.requires.fits

pub open_value-requires-clause-room : goal.open_value-requires-clause-room
open_value-requires-clause-room c =
    let g = block_in c.args.layout.now in
    let o = own_in c.args.own in
    let t = type_in c.args.types.now c.args.data_type in
    let ss = selectors_in c.args.selectors.now in
    let e = expression_of c.in-Element.index in
    let first = by_parts g (Selecting o t ss) c.args.work.now (selecting_parts g o t ss) (with_first (Value o e) c.leave_element.new.work) refl (selecting_element g o c.args.work.now c.leave_element.new.work t _ _ _ _ _ c.in-Some.ensures.cases.0 c.in-Element.is c.leave_element.ensures) c.requires.fits in
    (first_fits g (Value o e) c.leave_element.new.work first.fits).0

pub open_value-requires-clause-fits : goal.open_value-requires-clause-fits
open_value-requires-clause-fits c =
    let g = block_in c.args.layout.now in
    let o = own_in c.args.own in
    let t = type_in c.args.types.now c.args.data_type in
    let ss = selectors_in c.args.selectors.now in
    let e = expression_of c.in-Element.index in
    let first = by_parts g (Selecting o t ss) c.args.work.now (selecting_parts g o t ss) (with_first (Value o e) c.leave_element.new.work) refl (selecting_element g o c.args.work.now c.leave_element.new.work t _ _ _ _ _ c.in-Some.ensures.cases.0 c.in-Element.is c.leave_element.ensures) c.requires.fits in
    first.fits

pub returns-in-Element : goal.returns-in-Element
returns-in-Element c =
    let g = block_in c.args.layout.now in
    let o = own_in c.args.own in
    let t = type_in c.args.types.now c.args.data_type in
    let ss = selectors_in c.args.selectors.now in
    let e = expression_of c.in-Element.index in
    let first = by_parts g (Selecting o t ss) c.args.work.now (selecting_parts g o t ss) (with_first (Value o e) c.leave_element.new.work) refl (selecting_element g o c.args.work.now c.leave_element.new.work t _ _ _ _ _ c.in-Some.ensures.cases.0 c.in-Element.is c.leave_element.ensures) c.requires.fits in
    then_gives g _ _ _ first c.open_value.ensures
