-- What a call leaves, and the state that words are read as.
use Rattle.std.proofs.Common.{◌≡◌, ◌∙◌, ℕ, List, ap, Some, None}
use Rattle.std.specs.Prelude.{ℤ}
use Rattle.std.proofs.Math.Logic.{∥∥₁_elim, ∥∥₁_map}
use Rattle.std.proofs.lemmas.Option.{same_Some}
use Rattle.ob_code_calls.specs.Calls as Calls
use Rattle.ob_code_correct.proofs.CodeLaw.{lawful_decoded}
use Rattle.ob_code_correct.specs.CodeMeaning.{EngineParts}
use Rattle.ob_code_correct.specs.Parts.{IsCompiledTo, IsLawfulFor}
use Rattle.ob_layout.specs.Layout.{LayoutParts, layout_of}
use Rattle.ob_code_scheme.specs.Layout.{IsEncoding, decoded}
use Rattle.ob_code_calls.specs.Standing.{IsLaidOut, StandsAt}
use Rattle.ob_code_calls.specs.declared.standing_state.CodedState.{CodedState}
use Rattle.ob_interface.specs.Call.{ObjectCall, Reply}
use Rattle.ob_meaning.specs.ByPositionObject.{effect}
use Rattle.ob_meaning.specs.ByPositionStore.{Activation}
use Rattle.ob_typing.specs.Program.{Program}

-- behind a call the words are those of a state
pub still_lawful : (parts : EngineParts) (call : ObjectCall) (block after : List ℤ) (reply : Reply) → ∥ IsLawfulFor parts block ∥₁ →
    ((program : Program) (before : Activation) → IsCompiledTo program parts → IsEncoding program.variables before block → Calls.IsMade program parts.budget call before after reply) →
    ∥ IsLawfulFor parts after ∥₁
still_lawful parts call block after reply lawful made =
    ∥∥₁_map lawful (λ l. record {
      program = l.program;
      compiled = l.compiled;
      is = record { state = (effect l.program call parts.budget l.is.state).state; encodes = (made l.program l.is.state l.compiled l.is.encodes).block_is };
    })

-- words of a state are read
pub never_unread : (layout : LayoutParts) (o : CodedState) → ∥ IsLaidOut layout o ∥₁ → None ≡ decoded layout.variables o.block.items → ⊥
never_unread layout o laid none =
    ∥∥₁_elim laid (λ a b. absurd a) (λ l.
    let never : None ≡ Some l.state =
    none ∙ ap (λ (q : LayoutParts). decoded q.variables o.block.items) l.layout_is ∙ lawful_decoded l.program o.block.items l.state l.stands.encodes in
    cc)

-- as that state
pub read_back : (program : Program) (budget : ℕ) (state read : Activation) (layout : LayoutParts) (o : CodedState) → layout ≡ layout_of program → StandsAt program budget state o →
    Some read ≡ decoded layout.variables o.block.items → read ≡ state
read_back program budget state read layout o layout_is stands is =
    same_Some _ _ (is ∙ ap (λ (q : LayoutParts). decoded q.variables o.block.items) layout_is ∙ lawful_decoded program o.block.items state stands.encodes)
