-- What carries a legal order from states of one kind to states of another, and from the words of blocks to the states of a program.
use Rattle.std.specs.Prelude.{◌≡◌, ℕ, ℤ, List, Some}
use Rattle.ob_interface.specs.Call.{ObjectCall, Reply}
use Rattle.ob_typing.specs.Program.{Program}
use Rattle.ob_meaning.specs.ByPositionStore.{Activation}
use Rattle.ob_code_scheme.specs.WellFormed.{IsWellFormed}
use Rattle.ob_code_scheme.specs.Layout.{decoded, IsEncoding}
use Rattle.wf_history.specs.declared.event.CallId.{CallId}
use Rattle.wf_history.specs.History.{Event}
use Rattle.wf_history.specs.Legal.{HasBegun, IsLegal}
use Rattle.ob_code_correct.specs.Compiled.{Fits, CallEnds, IsEffect}

-- ---- from states of one kind to states of another, of the calls that fit

module _ {Call Reply : Type 0} (fits : Call → Type 0) where
  -- each call of the history is one that fits
  abbrev pub BegunFit : List (Event Call Reply) → Type 0
  BegunFit history = (id : CallId) (call : Call) → HasBegun history id call → fits call

  -- Is: a state of the first kind is one of the second kind
  module _ {From To : Type 0} (Is : From → To → Type 0) (Effect : Call → From → From → Reply → Type 0) (Meant : Call → To → To → Reply → Type 0) where
    -- there the call has the same reply, and leads to a state that the one here is
    pub record Follows (call : Call) (there : To) (after : From) (reply : Reply) : Type 0 where
      pub next : To
      pub ends : Meant call there next reply
      pub is : Is after next

    -- what a call does here, it does there
    abbrev pub Simulates : Type 0
    Simulates =
        (call : Call) (here after : From) (there : To) (reply : Reply) → fits call → Is here there → Effect call here after reply → Follows call there after reply

    -- the order is legal there, and leads to a state that the last one here is
    pub record LegalTo (opening : To) (history : List (Event Call Reply)) (order : List CallId) (last : From) : Type 0 where
      pub end : To
      pub legal : IsLegal Meant opening history order end
      pub is : Is last end

    -- an order that is legal here is legal there
    abbrev pub CarriesLegal : Type 0
    CarriesLegal =
        (history : List (Event Call Reply)) (order : List CallId) (opening last : From) (there : To) → BegunFit history → Is opening there →
        IsLegal Effect opening history order last → LegalTo there history order last

-- ---- words and states

-- the block has the words of the state
abbrev pub IsOfState : Program → List ℤ → Activation → Type 0
IsOfState program block state = IsEncoding program.variables state block

-- an order that is legal by the words of blocks, with the engine's effect, is legal by states, with what calls come to
abbrev pub WordsCarryLegal : Type 0
WordsCarryLegal =
    (program : Program) (budget : ℕ) → CarriesLegal (Fits program) (IsOfState program) (IsEffect program budget) (CallEnds program budget)

-- and the other way round
abbrev pub StatesCarryLegal : Type 0
StatesCarryLegal =
    (program : Program) (budget : ℕ) → IsWellFormed program →
    CarriesLegal (Fits program) (λ state block. IsOfState program block state) (CallEnds program budget) (IsEffect program budget)

-- of a run, of which it is only told that its order is legal: the order leads to the state that the last words are read as
abbrev pub WordsAreRead : Type 0
WordsAreRead =
    (program : Program) (budget : ℕ) (opening last : Activation) (block words : List ℤ) (history : List (Event ObjectCall Reply)) (order : List CallId) →
    IsEncoding program.variables opening block → BegunFit (Fits program) history → decoded program.variables words ≡ Some last →
    ∥ IsLegal (IsEffect program budget) block history order words ∥₁ → ∥ IsLegal (CallEnds program budget) opening history order last ∥₁
