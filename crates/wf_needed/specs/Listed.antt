-- The calls of an order, with what the history says of each.
use Rattle.std.specs.Prelude.{◌≡◌, ◌<◌, ◌≤◌, ℕ, List, [], ◌∷◌, ◌++◌, Some, None, IfSome, MatchOption, All, Contains, drop, length, map, slice_get, take}
use Rattle.ob_interface.specs.Call.{ObjectCall, Reply}
use Rattle.wf_history.specs.declared.event.CallId.{CallId}
use Rattle.wf_history.specs.History.{Event, End}
use Rattle.wf_history.specs.Legal.{HasBegun}
use Rattle.wf_history.specs.View.{seen_call, seen_reply}
use Rattle.wf_needed.specs.Needed.{IsOpen, LeavesOut}
use Rattle.wf_needed.specs.declared.listed_calls.Listed.{Listed}

-- the call has begun so, and has this reply, or none where it does not end
pub record IsListed (history : List (Event ObjectCall Reply)) (c : Listed) : Type 0 where
  pub begun : HasBegun history c.id (seen_call c.call)
  pub reply : MatchOption c.reply (IsOpen history c.id) (λ r. Contains history (End c.id (seen_reply r)))

abbrev pub AreListed : List (Event ObjectCall Reply) → List Listed → Type 0
AreListed history all = (k : ℕ) (c : Listed) → slice_get all k ≡ Some c → IsListed history c

-- all of the calls have ended
abbrev pub NoneIsOpen : List (Event ObjectCall Reply) → List CallId → Type 0
NoneIsOpen history order = All (λ id. ¬ IsOpen history id) order

abbrev pub id_of : Listed → CallId
id_of c = c.id

abbrev pub ids_of : List Listed → List CallId
ids_of all = map id_of all

-- no reply is known
abbrev pub IsOpenCall : Listed → Type 0
IsOpenCall c = c.reply ≡ None

module _ {State : Type 0} (Effect : ObjectCall → State → State → Reply → Type 0) where
  -- the call leads from one state to another, with its reply, if it has one
  abbrev pub Ends : Listed → State → State → Type 0
  Ends c before after = (reply : Reply) × Effect (seen_call c.call) before after reply × IfSome c.reply (λ r. seen_reply r ≡ reply)

  -- the calls, made one after the other, lead from one state to another, each with its reply
  pub data Replays : State → List Listed → State → Type 0 where
    over : {state : State} → Replays state [] state
    next : {before between after : State} {c : Listed} {all : List Listed} → Ends c before between → Replays between all after → Replays before (c ∷ all) after

  module _ (opening : State) (all : List Listed) where
    -- of the first so many calls no open one can be left out
    abbrev pub AreNeeded : ℕ → Type 0
    AreNeeded count =
        (first rest : List Listed) (c : Listed) (last : State) → all ≡ first ++ c ∷ rest → length first < count → IsOpenCall c → ¬ Replays opening (first ++ rest) last

    -- no open call can be left out
    abbrev pub EachIsNeeded : Type 0
    EachIsNeeded = AreNeeded (length all)

    -- a round has come to a place, with these calls kept and this state
    pub record IsRound (place : ℕ) (kept : List Listed) (state : State) : Type 0 where
      pub here : Replays opening kept state
      pub last : State
      pub behind : Replays state (drop place all) last
      pub left_out : LeavesOut IsOpenCall all (kept ++ drop place all)
      pub size : length kept ≤ place
      pub within : place ≤ length all
      pub whole : length kept ≡ place → (kept ≡ take place all) × AreNeeded place

    -- what a round leaves: where that is no less, all calls are needed
    pub record IsThinner (kept : List Listed) : Type 0 where
      pub last : State
      pub replays : Replays opening kept last
      pub left_out : LeavesOut IsOpenCall all kept
      pub size : length kept ≤ length all
      pub needed : length kept ≡ length all → (kept ≡ all) × EachIsNeeded
