-- Calls that were made and are remembered.
use Rattle.std.specs.Prelude.{◌≡◌, ℕ, ◌↔◌, List, length, get_or, Some, None, Bool, IsTrue}
use Rattle.ob_interface.specs.Call.{ObjectCall, Reply}
use Rattle.ob_interface.specs.View.{reply_of}
use Rattle.wf_history.specs.View.{seen_call}
use Rattle.wf_order.specs.declared.made_calls.MadeCall.{MadeCall}
use Rattle.wf_order.specs.declared.made_calls.MadeCalls.{MadeCalls}

-- what stands at this row is the call, made on the state with these words
pub record StandsAt {S : Type 0} (calls : MadeCalls S) (row : ℕ) (words : List ℕ) (call : ObjectCall) (made : MadeCall S) : Type 0 where
  pub at : get_or calls.rows.items row None ≡ Some made
  pub words_are : made.words.items ≡ words
  pub call_is : seen_call made.call ≡ call

-- what stands at this row is a call of the procedure, made on the state with these words
pub record IsToldAt {S : Type 0} (calls : MadeCalls S) (words : List ℕ) (call : ObjectCall) (made : MadeCall S) : Type 0 where
  pub row : ℕ
  pub at : get_or calls.rows.items row None ≡ Some made
  pub words_are : made.words.items ≡ words
  pub same : (seen_call made.call).export ≡ call.export

-- made on the state, the call has another reply
pub record IsOtherwise {M : Type 0} (Effect : M → M → Reply → Type 0) (before : M) (reply : Reply) : Type 0 where
  pub after : M
  pub answer : Reply
  pub effect : Effect before after answer
  pub other : ¬ (answer ≡ reply)

-- the call, made on the state, has this reply where it is so, and else another one
pub record IsAsked {M : Type 0} (Effect : ObjectCall → M → M → Reply → Type 0) (call : ObjectCall) (before : M) (reply : Reply) (so : Bool) : Type 0 where
  pub after : M
  pub answer : Reply
  pub effect : Effect call before after answer
  pub same : IsTrue so ↔ (answer ≡ reply)

module _ {S M : Type 0} (meaning : S → M) (words_of : M → List ℕ) (Effect : ObjectCall → M → M → Reply → Type 0) where
  -- the call did so on the state that has these words
  abbrev pub IsOfState : MadeCall S → Type 0
  IsOfState made = (before : M) → words_of before ≡ made.words.items → Effect (seen_call made.call) before (meaning made.state) (reply_of made.reply)

  -- there are all rows, and what stands there was made
  pub record AreMade (calls : MadeCalls S) : Type 0 where
    pub whole : length calls.rows.items ≡ 256
    pub each : (row : ℕ) (made : MadeCall S) → get_or calls.rows.items row None ≡ Some made → IsOfState made

  -- at this row stands what the call made of the state
  pub record HasMade (calls : MadeCalls S) (row : ℕ) (call : ObjectCall) (before : M) : Type 0 where
    pub made : MadeCall S
    pub at : get_or calls.rows.items row None ≡ Some made
    pub effect : Effect call before (meaning made.state) (reply_of made.reply)
