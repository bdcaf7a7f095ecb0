-- The values of a state, told by the names of its variables.
use Rattle.std.specs.Prelude.{◌≡◌, ℕ, List, map}
use Rattle.ob_typing.specs.Program.{Program, Variable}
use Rattle.ob_meaning.specs.ByNameObject.{State}
use Rattle.ob_meaning.specs.ByPositionStore.{Activation}
use Rattle.ob_meaning.specs.Resolved.{as_parameter}
use Rattle.ob_meaning.specs.Same.{SameActivation, SameState, Scopes}
use Rattle.ob_carry.specs.Carried.{AreCarriable, Entry, IsCarried, carried_to}

-- the entries come to the state by name that is the same as this one by position
abbrev pub CarryBack : Program → List Entry → Activation → Type 0
CarryBack program entries activation = (state : State) → SameState program state activation → IsCarried program entries state

-- entries that come to a state of these variables
pub record IsCarriedTo (variables : List Variable) (entries : List Entry) (state : State) : Type 0 where
  pub carriable : AreCarriable variables entries
  pub is : state ≡ carried_to variables entries

-- the same of variables, wherever their activation stands
abbrev pub AreToldOf : List Variable → List Entry → Activation → Type 0
AreToldOf variables entries activation =
    (scopes : Scopes) (k : ℕ) (state : State) → SameActivation scopes k (map as_parameter variables) state activation → IsCarriedTo variables entries state
