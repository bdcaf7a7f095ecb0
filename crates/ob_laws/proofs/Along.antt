-- Along a legal order each call has a reply that fits it, and the last state is one of the variables.
use Rattle.std.proofs.Common.{◌≡◌, ℕ, zero, suc, List, [], ◌∷◌, sym, subst}
use Rattle.std.specs.Prelude.{slice_get, Contains, All, Some}
use Rattle.std.proofs.lemmas.List.Elements.{All-cons, All-nil}
use Rattle.std.proofs.lemmas.Option.{same_Some}
use Rattle.ob_code_correct.specs.Compiled.{CallEnds, Fits}
use Rattle.ob_code_scheme.specs.Types.{IsStateOf}
use Rattle.ob_code_scheme.specs.WellFormed.{IsWellFormed}
use Rattle.ob_interface.specs.Call.{ObjectCall, Reply}
use Rattle.ob_laws.proofs.Replies as Made
use Rattle.ob_meaning.specs.ByPositionObject.{Effect}
use Rattle.ob_meaning.specs.ByPositionStore.{Activation}
use Rattle.ob_laws.specs.Writable.{IsReplyOf}
use Rattle.ob_typing.specs.Program.{Program}
use Rattle.wf_history.specs.declared.event.CallId.{CallId}
use Rattle.wf_history.specs.History.{Event, End}
use Rattle.wf_history.specs.Legal.{HasBegun, OneAtATime, RepliesAgree, more, none}

module _ (program : Program) (budget : ℕ) (well : IsWellFormed program) (history : List (Event ObjectCall Reply))
    (fit : (id : CallId) (call : ObjectCall) → HasBegun history id call → Fits program call) where
  -- the call that this id began as, which the reply fits
  pub record IsReplied (id : CallId) (reply : Reply) : Type 0 where
    pub call : ObjectCall
    pub begun : HasBegun history id call
    pub fits : IsReplyOf program call.export reply

  abbrev Goes : Activation → List CallId → List Reply → Activation → Type 0
  Goes before ids replies after = OneAtATime (HasBegun history) (CallEnds program budget) before ids replies after

  -- one call: what it leaves, and what it answers
  left_typed : (call : ObjectCall) → Fits program call → (before between : Activation) (reply : Reply) → IsStateOf program.variables before → CallEnds program budget call before between reply → IsStateOf program.variables between
  left_typed call fits before between reply typed does =
      subst (λ (e : Effect). IsStateOf program.variables e.state) does (Made.next_typed program budget well call fits before typed)

  answer_fits : (call : ObjectCall) → Fits program call → (before between : Activation) (reply : Reply) → IsStateOf program.variables before → CallEnds program budget call before between reply → IsReplyOf program call.export reply
  answer_fits call fits before between reply typed does =
      subst (λ (e : Effect). IsReplyOf program call.export e.reply) does (Made.replies program budget well call fits before typed)

  pub last_typed : (ids : List CallId) (replies : List Reply) (before after : Activation) → IsStateOf program.variables before → Goes before ids replies after → IsStateOf program.variables after
  last_typed ids replies before after typed none = typed
  last_typed ids replies before after typed (more {between = between} {id = id} {ids = others} {call = call} {answer = reply} {answers = rest} begun does behind) =
      last_typed others rest between after (left_typed call (fit id call begun) before between reply typed does) behind

  -- the ids of an order began
  pub all_begun : (P : CallId → Type 0) → ((id : CallId) (call : ObjectCall) → HasBegun history id call → P id) → (ids : List CallId) (replies : List Reply) (before after : Activation) → Goes before ids replies after → All P ids
  all_begun P holds ids replies before after none = All-nil P
  all_begun P holds ids replies before after (more {between = between} {id = id} {ids = others} {call = call} {answers = rest} begun does behind) =
      All-cons P id others (holds id call begun) (all_begun P holds others rest between after behind)

  -- the first of the order, or one behind it
  pub replied : (ids : List CallId) (replies : List Reply) (before after : Activation) → IsStateOf program.variables before → Goes before ids replies after → RepliesAgree history ids replies →
      (k : ℕ) (id : CallId) (reply : Reply) → slice_get ids k ≡ Some id → Contains history (End id reply) → IsReplied id reply
  replied [] replies before after typed made agree k id reply here ended = absurd (cc)
  replied (i ∷ ids) [] before after typed made agree k id reply here ended = elim made [ ]
  replied (i ∷ ids) (a ∷ replies) before after typed (more {between = between} {call = call} begun does behind) (more first rest) zero id reply here ended =
      let same : i ≡ id = same_Some i id here in
      let answer : reply ≡ a = first reply (subst (λ (x : CallId). Contains history (End x reply)) (sym same) ended) in
      subst (λ (x : CallId). IsReplied x reply) same
      (subst (λ (x : Reply). IsReplied i x) (sym answer)
      (record { call = call; begun = begun; fits = answer_fits call (fit i call begun) before between a typed does }))
  replied (i ∷ ids) (a ∷ replies) before after typed (more {between = between} {call = call} begun does behind) (more first rest) (suc k) id reply here ended =
      replied ids replies between after (left_typed call (fit i call begun) before between a typed does) behind rest k id reply here ended
