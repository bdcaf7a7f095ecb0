-- An order that is legal by the effect of an engine is legal by what the calls of its program come to, by position.
use Rattle.std.proofs.Common.{List, ap}
use Rattle.std.specs.Prelude.{ℤ}
use Rattle.ob_code_correct.proofs.PartsLaw.{effect_of_each}
use Rattle.ob_code_correct.specs.Carried.{IsOfState}
use Rattle.ob_code_correct.specs.CodeMeaning.{EngineParts}
use Rattle.ob_code_correct.specs.Compiled.{CallEnds, IsFitting}
use Rattle.ob_code_correct.specs.Parts.{IsCompiledTo, IsEffectOf}
use Rattle.ob_interface.specs.Call.{ObjectCall, Reply}
use Rattle.ob_meaning.specs.ByPositionObject.{effect}
use Rattle.ob_meaning.specs.ByPositionStore.{Activation}
use Rattle.ob_typing.specs.Program.{Program}
use Rattle.wf_history.specs.declared.event.CallId.{CallId}
use Rattle.wf_history.specs.History.{Event}
use Rattle.wf_history.specs.Legal.{HasBegun, IsLegal, OneAtATime, more, none}

module _ (program : Program) (parts : EngineParts) (compiled : IsCompiledTo program parts) (history : List (Event ObjectCall Reply))
    (fit : (id : CallId) (call : ObjectCall) → HasBegun history id call → IsFitting parts.exports call) where
  -- calls of the program, which lead to a state that these words are of
  record Leads (before : Activation) (ids : List CallId) (replies : List Reply) (words : List ℤ) : Type 0 where
    last : Activation
    made : OneAtATime (HasBegun history) (CallEnds program parts.budget) before ids replies last
    is : IsOfState program words last

  leads : (ids : List CallId) (replies : List Reply) (a b : List ℤ) (s : Activation) → IsOfState program a s →
      OneAtATime (HasBegun history) (IsEffectOf parts) a ids replies b → Leads s ids replies b
  leads ids replies a b s is none = record { last = s; made = none; is = is }
  leads ids replies a b s is (more {between = between} {id = id} {ids = rest} {call = call} {answer = reply} {answers = others} begun does later) =
      let next = (effect program call parts.budget s).state in
      let e = effect_of_each program parts call s a between reply compiled (fit id call begun) is does in
      let l = leads rest others between b next e.1 later in
      record { last = l.last; made = more begun (ap (λ (r : Reply). record { state = next; reply = r }) e.0) l.made; is = l.is }

  -- the order is legal so, and leads to a state that the words are of
  pub record ByPosition (opening : Activation) (order : List CallId) (words : List ℤ) : Type 0 where
    pub last : Activation
    pub legal : IsLegal (CallEnds program parts.budget) opening history order last
    pub is : IsOfState program words last

  pub by_position : (opening : Activation) (order : List CallId) (block words : List ℤ) → IsOfState program block opening → IsLegal (IsEffectOf parts) block history order words →
      ByPosition opening order words
  by_position opening order block words is l =
      let c = leads order l.replies block words opening is l.made in
      record { last = c.last; legal = record { once = l.once; ended = l.ended; in_time = l.in_time; replies = l.replies; made = c.made; agree = l.agree }; is = c.is }
