-- What the laws say of both meanings of a resolved program: what one comes to by name, the other comes to by position.
use Rattle.std.specs.Prelude.{◌≡◌, ℕ, ◌<◌, List, [], ◌∷◌, length, slice_get, Some}
use Rattle.ob_interface.specs.Call.{ObjectCall}
use Rattle.ob_interface.specs.Export.{CallFits}
use Rattle.ob_checked.specs.Exports.{signatures}
use Rattle.ob_typing.specs.Program.{Procedure, Program}
use Rattle.ob_meaning.specs.ByNameObject as Objects
use Rattle.ob_meaning.specs.ByNameObject.{State}
use Rattle.ob_meaning.specs.ByNameStatements as Meanings
use Rattle.ob_meaning.specs.ByNameStore as Names
use Rattle.ob_meaning.specs.ByPositionObject as ObjectsByPosition
use Rattle.ob_meaning.specs.ByPositionStatements as Positions
use Rattle.ob_meaning.specs.ByPositionStore.{Activation, Store, Held}
use Rattle.ob_meaning.specs.Resolved.{module_scope}
use Rattle.ob_meaning.specs.Same.{Scopes, scope_at, SameStore, SameHanded, SameOutcome, SameState, SameEffect}

-- a call in the text of a procedure, over one store and one list of what is handed over
abbrev pub SameCall : Program → ℕ → Scopes → ℕ → Procedure → Type 0
SameCall program more scopes number p =
    (handed : List Names.Held) (held : List Held) (turns : ℕ) (store : Names.Store) (placed : Store)
    → SameStore scopes store placed
    → SameHanded scopes p.parameters handed held
    → SameOutcome scopes (Meanings.calls program more number handed turns store) (Positions.calls program more number held turns placed)

-- calls in the text come to the same, however many may still be nested, wherever the module's variables stand at the bottom of the store
abbrev pub SameCalls : Program → Type 0
SameCalls program =
    (more : ℕ) (scopes : Scopes)
    → 0 < length scopes
    → scope_at scopes 0 ≡ module_scope program
    → (number : ℕ) (p : Procedure)
    → slice_get program.procedures number ≡ Some p
    → SameCall program more scopes number p

-- so does the opening
abbrev pub SameOpenings : Program → Type 0
SameOpenings program =
    (turns : ℕ)
    → SameOutcome (module_scope program ∷ []) (Objects.opening program turns) (ObjectsByPosition.opening program turns)

-- and so does each call from outside that fits the exports, on one state
abbrev pub SameEffects : Program → Type 0
SameEffects program =
    (call : ObjectCall)
    → CallFits (signatures program) call
    → (budget : ℕ) (state : State) (activation : Activation)
    → SameState program state activation
    → SameEffect program (Objects.effect program call budget state) (ObjectsByPosition.effect program call budget activation)
