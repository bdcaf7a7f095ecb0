use Rattle.std.proofs.Common.{◌∙◌, ap, subst, sym, List, map}
use Rattle.std.specs.Coded.{Coded-set}
use Rattle.std.specs.Prelude.{Option}
use Rattle.std.proofs.Math.Logic.{∥∥₁_elim, ∥∥₁_map}
use Rattle.ob_checked.specs.CheckedModule.{program_in}
use Rattle.ob_checked.specs.View.{table_of}
use Rattle.ob_code_calls.specs.Calls.{asked}
use Rattle.ob_code_calls.specs.Parts.{parts_in}
use Rattle.ob_code_calls.specs.Scalars.{IsMadeOf, held_of}
use Rattle.ob_code_calls.specs.declared.scalar_calls.ScalarCalls.{ScalarCalls}
use Rattle.ob_interface.specs.View.{reply_of}
use Rattle.ob_interface.specs.declared.scalar.Scalar.{Scalar}
use Rattle.ob_object_search.specs.Code.{IsCodeOf}
use Rattle.ob_object_search.specs.Kept.{kept_in}
use Rattle.ob_object_search.proofs.ByCode.{coded_effect, leads, some_at, variables_are}
use Rattle.wf_history.specs.View.{seen_call}
use Rattle.ob_object_search.proofs.instance.ModuleObjectObject.apply.Goals as goal

pub called-requires : goal.called-requires
called-requires c =
    let o = c.args.self.now in
    let program = program_in o.checked.now in
    let are = variables_are c.program.result.now program c.as_slice-variables.result.now c.program.ensures.program c.as_slice-variables.ensures.value in
    ∥∥₁_map (subst (λ (code : Option ScalarCalls). ∥ IsCodeOf program o.budget code ∥₁) c.in-Some.is o.coded)
    (λ h. record { program = program; types = table_of c.program.result.now.types; compiled = h.compiled; are = are })

pub returns-in-Some-made : goal.returns-in-Some-made
returns-in-Some-made c =
    let o = c.args.self.now in
    let program = program_in o.checked.now in
    let types = table_of c.program.result.now.types in
    let are = variables_are c.program.result.now program c.as_slice-variables.result.now c.program.ensures.program c.as_slice-variables.ensures.value in
    let call = seen_call c.args.call in
    let arguments = c.as_slice.result.now in
    let scalars = c.as_slice-scalars.result.now in
    let coded = subst (λ (code : Option ScalarCalls). ∥ IsCodeOf program o.budget code ∥₁) c.in-Some.is o.coded in
    let same = ap (asked c.args.call.proc) (c.as_slice.ensures ∙ c.lent-lent.ensures) in
    let before = ap (λ (ss : List Scalar). map held_of ss) c.as_slice-scalars.ensures ∙ sym (ap kept_in c.in-Scalars.is) in
    ∥∥₁_elim coded (Coded-set coded_effect _ _) (λ h.
    leads program (parts_in c.in-Some.code.calls) o.budget h.turns (asked c.args.call.proc arguments) call same scalars c.in-Some-made.after.items (reply_of c.in-Some-made.answer)
    (kept_in c.args.state.now) before
    (some_at c.in_ok-made.made _ (λ made. IsMadeOf program (parts_in c.in-Some.code.calls) (asked c.args.call.proc arguments) scalars made.0.items (reply_of made.1)) c.in-Some-made.is
    (c.in_ok-made.ensures program types h.compiled are)))
