-- A call that fits comes to the same by position as by name, so it carries legal orders.
use Rattle.std.proofs.Common.{ℕ, ap, sym, ◌∙◌, subst}
use Rattle.ob_interface.specs.Call.{Reply}
use Rattle.ob_interface.specs.Export.{CallFits}
use Rattle.ob_typing.specs.Program.{Program}
use Rattle.ob_checked.specs.Exports.{signatures}
use Rattle.ob_meaning.specs.ByNameObject as Named
use Rattle.ob_meaning.specs.ByPositionStore.{Activation}
use Rattle.ob_meaning.specs.ByPositionObject.{Effect, effect}
use Rattle.ob_meaning.specs.Resolved.{IsResolved}
use Rattle.ob_meaning.specs.Same.{SameState}
use Rattle.ob_meaning.proofs.SameCalls.{call_same}
use Rattle.ob_code_correct.specs.Compiled.{Fits, CallEnds}
use Rattle.ob_code_correct.specs.Carried.{Simulates}
use Rattle.ob_code_correct.specs.Named.{CallMeans, PositionsCarryLegal}
use Rattle.ob_code_correct.proofs.CodeLaw.{fitting_signed}
use Rattle.ob_code_correct.proofs.Carried.{carries}

module _ (program : Program) (budget : ℕ) (good : IsResolved program) where
  abbrev IsNamed : Activation → Named.State → Type 0
  IsNamed activation state = SameState program state activation

  abbrev IsPlaced : Named.State → Activation → Type 0
  IsPlaced state activation = SameState program state activation

  pub signed_to_names : Simulates (CallFits (signatures program)) IsNamed (CallEnds program budget) (CallMeans program budget)
  signed_to_names call here after there reply fit is does =
      let same = call_same program good call fit budget there here is in
      let named = Named.effect program call budget there in
      record {
        next = named.state;
        ends = ap (λ (r : Reply). record { state = named.state; reply = r }) (same.reply ∙ ap (λ (e : Effect). e.reply) does);
        is = subst (λ (e : Effect). SameState program named.state e.state) does same.state;
      }

  pub names_simulate : Simulates (Fits program) IsNamed (CallEnds program budget) (CallMeans program budget)
  names_simulate call here after there reply fit is does =
      let f = signed_to_names call here after there reply ((fitting_signed program call).signed fit) is does in
      record { next = f.next; ends = f.ends; is = f.is }

  -- and the other way round
  pub signed_to_positions : Simulates (CallFits (signatures program)) IsPlaced (CallMeans program budget) (CallEnds program budget)
  signed_to_positions call here after there reply fit is does =
      let same = call_same program good call fit budget here there is in
      let found = effect program call budget there in
      record {
        next = found.state;
        ends = ap (λ (r : Reply). record { state = found.state; reply = r }) (sym same.reply ∙ ap (λ (e : Named.Effect). e.reply) does);
        is = subst (λ (e : Named.Effect). SameState program e.state found.state) does same.state;
      }

  pub positions_simulate : Simulates (Fits program) IsPlaced (CallMeans program budget) (CallEnds program budget)
  positions_simulate call here after there reply fit is does =
      let f = signed_to_positions call here after there reply ((fitting_signed program call).signed fit) is does in
      record { next = f.next; ends = f.ends; is = f.is }

pub positions_carry : PositionsCarryLegal
positions_carry program budget good =
    carries (Fits program) (λ (activation : Activation) (state : Named.State). SameState program state activation) (CallEnds program budget) (CallMeans program budget)
    (names_simulate program budget good)
