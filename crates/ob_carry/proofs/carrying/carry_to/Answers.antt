use Rattle.std.proofs.Common.{◌≡◌, ◌∙◌, [], ap, ap₂, arith, get_or, map, subst, sym}
use Rattle.std.proofs.lemmas.List.{with_items_is}
use Rattle.std.proofs.lemmas.List.Elements.{All-nil}
use Rattle.ob_checked.specs.View.{program_of, table_of, variable_of}
use Rattle.ob_meaning.specs.ByPositionStore.{begun, with_held}
use Rattle.ob_meaning.specs.Same.{SameState}
use Rattle.ob_store.specs.View.{value_in, variables_in}
use Rattle.ob_carry.specs.Carried.{IsCarriable, carried, position_from}
use Rattle.ob_carry.proofs.Carried.{carriable_more, carried_none, state_more, unfit_at, unknown_at}
use Rattle.ob_carry.proofs.Variables.{IsFirst, found_below, found_variable}
use Rattle.ob_carry.proofs.carrying.carry_to.Goals as goal

pub loop-place-init : goal.loop-place-init
loop-place-init c =
    let program = program_of c.args.program.now in
    let begins : variables_in c.into_values-all.result.items ≡ begun program.variables =
    c.into_values-all.ensures ∙ c.in_ok-state_begun.ensures ∙ ap (λ vs. begun (map (variable_of (table_of c.args.program.now.types)) vs)) c.as_slice-variables.ensures.value in
    record {
      same = subst (λ a. SameState program (carried program []) a) (sym begins) (carried_none program c.requires.distinct);
      carriable = All-nil (IsCarriable program.variables);
    }

pub returns-in_default-clause-fault : goal.returns-in_default-clause-fault
returns-in_default-clause-fault c =
    let types = table_of c.args.program.now.types in
    unknown_at c.args.program.now c.args.values.now c.loop-place.place c.index-values-place.result c.loop-place-test.true c.index-values-place.is c.loop-place.invariant.carriable
    (c.in_default.ensures ∙ ap₂ (λ vs name. position_from 0 (map (variable_of types) vs) name) c.as_slice-variables.ensures.value c.deref.ensures)

pub offset_bounds-variables-position : goal.offset_bounds-variables-position
offset_bounds-variables-position c =
    let below = found_below (table_of c.args.program.now.types) c.as_slice-variables.result.now c.deref.result.now c.in-Some.position c.in-Some.ensures in
    omega (arith, below, c.as_slice-variables.type_inv.1)

pub bounds-variables-position : goal.bounds-variables-position
bounds-variables-position c = found_below (table_of c.args.program.now.types) c.as_slice-variables.result.now c.deref.result.now c.in-Some.position c.in-Some.ensures

pub bounds-variables-position-in-Some : goal.bounds-variables-position-in-Some
bounds-variables-position-in-Some c = found_below (table_of c.args.program.now.types) c.as_slice-variables.result.now c.deref.result.now c.in-Some.position c.in-Some.ensures

pub returns-in_default-2-clause-fault : goal.returns-in_default-2-clause-fault
returns-in_default-2-clause-fault c =
    let types = table_of c.args.program.now.types in
    let p = c.in-Some.position in
    let v = variable_of types (get_or c.as_slice-variables.result.now p c.index-variables-position.result) in
    let found = found_variable types c.as_slice-variables.result.now c.deref.result.now p c.index-variables-position.result c.in-Some.ensures in
    let first =
    subst (λ name. IsFirst (program_of c.args.program.now).variables name p v) c.deref.ensures
    (subst (λ vs. IsFirst (map (variable_of types) vs) c.deref.result.now p v) c.as_slice-variables.ensures.value found) in
    unfit_at c.args.program.now c.args.values.now c.loop-place.place c.index-values-place.result c.loop-place-test.true c.index-values-place.is c.loop-place.invariant.carriable
    p v first (rw c.in_default-2.is at c.in_ok-value.ensures)

pub loop-place-preserved : goal.loop-place-preserved
loop-place-preserved c =
    let types = table_of c.args.program.now.types in
    let p = c.in-Some.position in
    let v = variable_of types (get_or c.as_slice-variables.result.now p c.index-variables-position.result) in
    let found = found_variable types c.as_slice-variables.result.now c.deref.result.now p c.index-variables-position.result c.in-Some.ensures in
    let first =
    subst (λ name. IsFirst (program_of c.args.program.now).variables name p v) c.deref.ensures
    (subst (λ vs. IsFirst (map (variable_of types) vs) c.deref.result.now p v) c.as_slice-variables.ensures.value found) in
    let fit = rw c.in-Some-2.is at c.in_ok-value.ensures in
    let all = c.loop-place.all in
    record {
      same =
          state_more c.args.program.now c.args.values.now c.loop-place.place c.index-values-place.result c.loop-place-test.true c.index-values-place.is c.loop-place.invariant.carriable
          p v first (variables_in all.items) _ (value_in c.in-Some-2.value) c.loop-place.invariant.same fit.1
          (ap variables_in (with_items_is all c.overwrite.new.variables (omega (arith, all.ok.0)))
          ∙ c.overwrite.ensures ∙ ap (λ vs. with_held (variables_in vs) p [] (value_in c.in-Some-2.value)) c.as_mut_slice.ensures.value);
      carriable =
          carriable_more c.args.program.now c.args.values.now c.loop-place.place c.index-values-place.result c.loop-place-test.true c.index-values-place.is c.loop-place.invariant.carriable
          p v first fit.0;
    }
