use Rattle.std.proofs.Common.{◌∙◌, List, ap, sym}
use Rattle.std.specs.Prelude.{ℤ, Option, option_map}
use Rattle.ob_layout.specs.Layout.{parts_of}
use Rattle.ob_code_scheme.specs.Layout.{decoded}
use Rattle.ob_code_calls.proofs.Stands.{never_unread, read_back}
use Rattle.ob_store.specs.View.{state_of}
use Rattle.ob_store.specs.declared.state.State.{State}
use Rattle.ob_code_calls.proofs.standing_state.CodedState.state.Goals as goal

pub unreachable-requires : goal.unreachable-requires
unreachable-requires c =
    let layout = parts_of c.args.layout.now in
    never_unread layout c.args.self.now c.requires
    (ap (λ (o : Option State). option_map state_of o) (sym c.in-None.is) ∙ c.in_ok-state.ensures ∙ ap (λ (ws : List ℤ). decoded layout.variables ws) c.as_slice.ensures.value)

pub returns : goal.returns
returns c = λ program budget state layout_is stands.
    let layout = parts_of c.args.layout.now in
    read_back program budget state (state_of c.in-Some.state) layout c.args.self.now layout_is stands
    (ap (λ (o : Option State). option_map state_of o) (sym c.in-Some.is) ∙ c.in_ok-state.ensures ∙ ap (λ (ws : List ℤ). decoded layout.variables ws) c.as_slice.ensures.value)
