-- The call before which another one stands too early in an order.
use Rattle.std.specs.Prelude.{◌≡◌, List, ◌∷◌, ◌++◌, Option, Contains, MatchOption}
use Rattle.ob_interface.specs.Call.{ObjectCall, Reply}
use Rattle.ob_object_run.specs.OrderFaults.{IsListFault}
use Rattle.ob_object_run.specs.declared.order_checker.OrderFault.TheVariants as Order
use Rattle.wf_history.specs.History.{Before, End, Event}
use Rattle.wf_history.specs.declared.event.CallId.{CallId}

-- the one of the calls that ends with the event, if one does
abbrev pub IsEndedWith : Event ObjectCall Reply → (Listed : CallId → Type 0) → Option CallId → Type 0
IsEndedWith event Listed ended =
    MatchOption ended ((id : CallId) (reply : Reply) → Listed id → event ≡ End id reply → ⊥)
    (λ id. Listed id × ((reply : Reply) × (event ≡ End id reply)))

-- one of the calls whose End is among the events, where there is one
abbrev pub IsEnded : List (Event ObjectCall Reply) → (Listed : CallId → Type 0) → Option CallId → Type 0
IsEnded events Listed ended =
    MatchOption ended ((id : CallId) (reply : Reply) → Listed id → ¬ Contains events (End id reply))
    (λ id. Listed id × ((reply : Reply) × Contains events (End id reply)))

module _ (history : List (Event ObjectCall Reply)) (order : List CallId) (id : CallId) where
  -- the other call ended before this one began, and stands behind it in the order
  pub record IsOvertaken (other : CallId) : Type 0 where
    pub before : List CallId
    pub behind : List CallId
    pub here : order ≡ before ++ id ∷ behind
    pub listed : Contains behind other
    pub ended : Before history other id

  -- such a call, where one is found; it is where the order has the fault that this call stands too early
  abbrev pub IsOvertakenFound : Option CallId → Type 0
  IsOvertakenFound other = MatchOption other (¬ IsListFault history order (Order.TooEarly id)) IsOvertaken
