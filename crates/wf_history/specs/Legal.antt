-- Legal orders of a history, over any effect of a call on a state.
use Rattle.std.specs.Prelude.{◌≡◌, List, [], ◌∷◌, ◌++◌, Contains}
use Rattle.wf_history.specs.declared.event.CallId.{CallId}
use Rattle.wf_history.specs.History.{Event, Begin, End, Before}

-- a list without repeats
abbrev pub NoRepeats : List CallId → Type 0
NoRepeats [] = Unit {0}
NoRepeats (id ∷ ids) = ¬ Contains ids id × NoRepeats ids

-- Made: this id is of this call. Effect: a call, made alone on the first state, leaves the second state and has the answer
module _ {State Call Answer : Type 0} (Made : CallId → Call → Type 0) (Effect : Call → State → State → Answer → Type 0) where
  -- from one state, calls made one at a time, with the answer of each, lead to another
  pub data OneAtATime : State → List CallId → List Answer → State → Type 0 where
    none : {state : State} → OneAtATime state [] [] state
    more : {before between after : State} {id : CallId} {ids : List CallId} {call : Call} {answer : Answer} {answers : List Answer} →
        Made id call → Effect call before between answer →
        OneAtATime between ids answers after →
        OneAtATime before (id ∷ ids) (answer ∷ answers) after

module _ {Call Reply : Type 0} (history : List (Event Call Reply)) where
  -- the id began as this call
  abbrev pub HasBegun : CallId → Call → Type 0
  HasBegun id call = Contains history (Begin id call)

  -- each ended call of the order has the reply that stands at its position
  pub data RepliesAgree : List CallId → List Reply → Type 0 where
    none : RepliesAgree [] []
    more : {id : CallId} {ids : List CallId} {reply : Reply} {replies : List Reply} →
        ((other : Reply) → Contains history (End id other) → other ≡ reply) →
        RepliesAgree ids replies → RepliesAgree (id ∷ ids) (reply ∷ replies)

module _ {State Call Reply : Type 0} (Effect : Call → State → State → Reply → Type 0) where
  -- the order is legal for the history, and leads from an opening state to the last one
  pub record IsLegal (opening : State) (history : List (Event Call Reply)) (order : List CallId) (last : State) : Type 0 where
    pub once : NoRepeats order
    -- each ended call stands in it
    pub ended : (id : CallId) (reply : Reply) → Contains history (End id reply) → Contains order id
    -- of two of its calls of which one ended before the other began, that one stands first
    pub in_time : (first second third : List CallId) (a b : CallId) → order ≡ first ++ a ∷ (second ++ b ∷ third) → ¬ Before history b a
    -- its calls, which have all begun, end one at a time, and the replies are the history's
    pub replies : List Reply
    pub made : OneAtATime (HasBegun history) Effect opening order replies last
    pub agree : RepliesAgree history order replies
