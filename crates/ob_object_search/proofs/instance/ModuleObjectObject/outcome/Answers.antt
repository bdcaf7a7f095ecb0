-- By the code, where there is any.
use Rattle.std.proofs.Common.{◌≡◌, ◌∙◌, ap, subst, sym, List, map}
use Rattle.std.specs.Prelude.{Option, option_map}
use Rattle.std.proofs.Math.Logic.{∥∥₁_map}
use Rattle.ob_checked.specs.CheckedModule.{program_in}
use Rattle.ob_checked.specs.View.{table_of}
use Rattle.ob_code_calls.specs.Calls.{asked}
use Rattle.ob_code_calls.specs.Scalars.{held_of}
use Rattle.ob_code_calls.specs.declared.scalar_calls.Led.{Led}
use Rattle.ob_code_calls.specs.declared.scalar_calls.ScalarCalls.{ScalarCalls}
use Rattle.ob_interface.specs.declared.scalar.Scalar.{Scalar}
use Rattle.ob_object_search.specs.Code.{IsCodeOf, IsLedSo}
use Rattle.ob_object_search.specs.Kept.{kept_in}
use Rattle.ob_object_search.specs.Objects.{effect_in}
use Rattle.ob_object_search.proofs.ByCode.{led_as, variables_are}
use Rattle.wf_history.specs.View.{seen_call, seen_reply}
use Rattle.ob_object_search.proofs.instance.ModuleObjectObject.outcome.Goals.{In_ok-led}
use Rattle.ob_object_search.proofs.instance.ModuleObjectObject.outcome.Goals as goal

pub led-requires : goal.led-requires
led-requires c =
    let o = c.args.self.now in
    let program = program_in o.checked.now in
    let are = variables_are c.program.result.now program c.as_slice-variables.result.now c.program.ensures.program c.as_slice-variables.ensures.value in
    ∥∥₁_map (subst (λ (code : Option ScalarCalls). ∥ IsCodeOf program o.budget code ∥₁) c.in-Some.is o.coded)
    (λ h. record { program = program; types = table_of c.program.result.now.types; compiled = h.compiled; are = are })

-- where the code leads, the call does
leads : (c : In_ok-led) (came : Led) → c.in_ok-led.led ≡ came → IsLedSo (effect_in c.args.self.now (seen_call c.args.call)) (kept_in c.args.state.now) (option_map seen_reply c.args.known) came
leads c came named =
    let o = c.args.self.now in
    let program = program_in o.checked.now in
    let code = c.in-Some.code in
    let types = table_of c.program.result.now.types in
    let are = variables_are c.program.result.now program c.as_slice-variables.result.now c.program.ensures.program c.as_slice-variables.ensures.value in
    let coded = subst (λ (code : Option ScalarCalls). ∥ IsCodeOf program o.budget code ∥₁) c.in-Some.is o.coded in
    let same = ap (asked c.args.call.proc) (c.as_slice-arguments.ensures ∙ c.lent-lent.ensures) in
    let holds = ap (λ (ss : List Scalar). map held_of ss) c.as_slice-scalars.ensures ∙ sym (ap kept_in c.in-Scalars.is) in
    led_as program o.budget code coded (asked c.args.call.proc c.as_slice-arguments.result.now) (seen_call c.args.call) same c.as_slice-scalars.result.now (option_map seen_reply c.args.known)
    (kept_in c.args.state.now) holds c.in_ok-led.led (λ has. c.in_ok-led.ensures program types has.compiled are) came named

pub returns-in-To : goal.returns-in-To
returns-in-To c = leads (goal.at.returns-in-To c).In_ok-led _ c.in-To.is

pub returns-in-Elsewhere : goal.returns-in-Elsewhere
returns-in-Elsewhere c = leads (goal.at.returns-in-Elsewhere c).In_ok-led _ c.in-Elsewhere.is
