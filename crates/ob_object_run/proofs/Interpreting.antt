-- What the interpreter makes of a call in its turn.
use Rattle.std.proofs.Common.{◌≡◌, ◌∙◌, ℕ, ap, sym}
use Rattle.ob_checked.specs.CheckedModule.{program_in}
use Rattle.ob_interface.specs.Call.{ObjectCall, Reply}
use Rattle.ob_object_run.specs.InTurn.{IsMadeInTurn}
use Rattle.ob_object_run.specs.Interpreting.{IsAt}
use Rattle.ob_object_run.specs.declared.interpreted.Interpreted.{Interpreted}
use Rattle.ob_meaning.specs.ByPositionObject.{Effect, effect}
use Rattle.ob_meaning.specs.ByPositionStore.{Activation}
use Rattle.ob_store.specs.View.{state_of}
use Rattle.ob_typing.specs.Program.{Program}

same_effect : (p q : Program) (c d : ObjectCall) (a b : ℕ) (s t : Activation) → p ≡ q → c ≡ d → a ≡ b → s ≡ t → effect p c a s ≡ effect q d b t
same_effect p q c d a b s t program call budget state = cc

pub interpreted_in_turn : (old new : Interpreted) (given : Program) (asked call : ObjectCall) (state : Activation) (e : Effect) (reply : Reply) →
    given ≡ program_in old.checked.now → asked ≡ call → state ≡ state_of old.state → effect given asked old.budget state ≡ e →
    program_in new.checked.now ≡ program_in old.checked.now → new.budget ≡ old.budget → state_of new.state ≡ e.state → reply ≡ e.reply →
    (program : Program) (budget : ℕ) (before : Activation) → IsAt program budget before old → IsMadeInTurn IsAt program budget call before new reply
interpreted_in_turn old new given asked call state e reply programs calls states is same_program same_budget left answered program budget before at =
    let ends : effect program call budget before ≡ e =
    sym (same_effect given program asked call old.budget budget state before (programs ∙ at.program_is) calls at.turns (states ∙ at.state_is)) ∙ is in
    record {
      reply_is = ap (λ (x : Effect). x.reply) ends ∙ sym answered;
      stands = record {
        program_is = same_program ∙ at.program_is;
        turns = same_budget ∙ at.turns;
        state_is = left ∙ sym (ap (λ (x : Effect). x.state) ends);
      };
    }
