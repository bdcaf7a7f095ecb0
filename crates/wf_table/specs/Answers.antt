-- Answered replies: each call that ended has the reply that its words in the order stand for.
use Rattle.std.specs.Prelude.{◌≡◌, ℕ, ℤ, List, slice_index_or, [], Contains}
use Rattle.ob_interface.specs.Call.{ObjectCall, Reply}
use Rattle.wf_history.specs.declared.event.CallId.{CallId}
use Rattle.wf_history.specs.History.{Event, End}
use Rattle.wf_history.specs.Legal.{OneAtATime, HasBegun}
use Rattle.wf_table.specs.Meaning.{Meaning}
use Rattle.wf_table.specs.Order.{IsAt}
use Rattle.wf_table.specs.HelpAlone.{Alone}

-- the words are of a call that began under this id, and stand for the reply
pub record IsReply {Run : Type 0} (m : Meaning Run) (history : List (Event ObjectCall Reply)) (id : CallId) (words : List ℤ) (reply : Reply) : Type 0 where
  pub call : ObjectCall
  pub begun : HasBegun history id call
  pub stands_for : reply ≡ m.reply call words

-- each call of these that ended has the reply that the words in its place stand for
abbrev pub Agree : {Run : Type 0} → Meaning Run → List (Event ObjectCall Reply) → List CallId → List (List ℤ) → Type 0
Agree m history ids words = (i : ℕ) (id : CallId) (reply : Reply) → IsAt ids i id → Contains history (End id reply) → IsReply m history id (slice_index_or words i []) reply

-- of the words of an order whose calls are made one at a time from the opening
abbrev pub AreAnswered : {Run : Type 0} → Meaning Run → List ℤ → List (Event ObjectCall Reply) → List CallId → Type 0
AreAnswered m opening history order = (words : List (List ℤ)) (last : List ℤ) → OneAtATime (HasBegun history) (Alone m) opening order words last → Agree m history order words
