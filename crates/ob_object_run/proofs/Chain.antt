-- An order that is legal by the effect of an engine is legal by what the calls of its program come to, and by what they mean.
use Rattle.std.proofs.Common.{◌≡◌, ℕ, List, ap, sym, subst}
use Rattle.std.specs.Prelude.{ℤ, Some, None}
use Rattle.std.proofs.Math.Logic.{∥∥₁_elim, ∥∥₁_map}
use Rattle.ob_interface.specs.Call.{ObjectCall, Reply}
use Rattle.ob_typing.specs.Program.{Program, Variable}
use Rattle.ob_meaning.specs.ByNameObject as Named
use Rattle.ob_meaning.specs.ByPositionStore.{Activation}
use Rattle.ob_meaning.specs.ByPositionObject.{effect}
use Rattle.ob_meaning.specs.Same.{SameState}
use Rattle.ob_code_scheme.specs.Layout.{decoded}
use Rattle.ob_code_correct.specs.CodeMeaning.{EngineParts}
use Rattle.ob_code_correct.specs.Compiled.{IsFitting, Fits, CallEnds}
use Rattle.ob_code_correct.specs.Carried.{BegunFit, IsOfState, LegalTo}
use Rattle.ob_code_correct.specs.Named.{CallMeans, PositionsCarryLegal}
use Rattle.ob_code_correct.specs.Parts.{IsCompiledTo, IsEffectOf}
use Rattle.ob_code_correct.proofs.CodeLaw.{lawful_decoded}
use Rattle.ob_code_correct.proofs.PartsLaw.{effect_of_each, parts_are_read}
use Rattle.ob_object_run.specs.LegalOrder.{IsLegalOrder}
use Rattle.ob_text_record.specs.Record.{Record}
use Rattle.ob_object_run.specs.Recorded.{DoFit, IsLegalFor, IsMeantFor, IsNamedObjectOf, IsObject, IsObjectOf}
use Rattle.wf_history.specs.declared.event.CallId.{CallId}
use Rattle.wf_history.specs.History.{Event}
use Rattle.wf_history.specs.Legal.{HasBegun, IsLegal, OneAtATime, more, none}

module _ (program : Program) (parts : EngineParts) (compiled : IsCompiledTo program parts) where
  -- calls of the program, which lead to a state that these words are of
  record Made (HasMade : CallId → ObjectCall → Type 0) (before : Activation) (ids : List CallId) (replies : List Reply) (words : List ℤ) : Type 0 where
    last : Activation
    made : OneAtATime HasMade (CallEnds program parts.budget) before ids replies last
    is : IsOfState program words last

  -- calls made one at a time on the words of states are calls made one at a time on the states
  chain : (HasMade : CallId → ObjectCall → Type 0) → ((id : CallId) (call : ObjectCall) → HasMade id call → IsFitting parts.exports call) →
      (ids : List CallId) (replies : List Reply) (a b : List ℤ) (s : Activation) → IsOfState program a s → OneAtATime HasMade (IsEffectOf parts) a ids replies b → Made HasMade s ids replies b
  chain HasMade fit ids replies a b s is none = record { last = s; made = none; is = is }
  chain HasMade fit ids replies a b s is (more {between = between} {id = id} {ids = rest} {call = call} {answer = reply} {answers = others} made does later) =
      let next = (effect program call parts.budget s).state in
      let e = effect_of_each program parts call s a between reply compiled (fit id call made) is does in
      let l = chain HasMade fit rest others between b next e.1 later in
      record { last = l.last; made = more made (ap (λ (r : Reply). record { state = next; reply = r }) e.0) l.made; is = l.is }

module _ (parts : EngineParts) (block words : List ℤ) (history : List (Event ObjectCall Reply)) (fit : DoFit parts history) (order : List CallId) where
  abbrev IsLegalByWords : Type 0
  IsLegalByWords = IsLegal (IsEffectOf parts) block history order words

  -- the order is legal by what the program's calls come to, and leads to a state that the words are of
  pub record ByPosition (program : Program) (opening : Activation) : Type 0 where
    pub last : Activation
    pub legal : IsLegalOrder program parts.budget opening history order last
    pub is : IsOfState program words last

  pub by_position : (program : Program) (opening : Activation) → IsObjectOf program parts opening block → IsLegalByWords → ByPosition program opening
  by_position program opening is l =
      let c = chain program parts is.compiled (HasBegun history) fit order l.replies block words opening is.encodes l.made in
      record { last = c.last; legal = record { once = l.once; ended = l.ended; in_time = l.in_time; replies = l.replies; made = c.made; agree = l.agree }; is = c.is }

  -- words that the order leads to are read as a state
  pub never_none : (variables : List Variable) → ∥ IsObject variables parts block ∥₁ → ∥ IsLegalByWords ∥₁ → decoded variables words ≡ None → ⊥
  never_none variables object legal none_read =
      ∥∥₁_elim object (λ a b. absurd a) (λ o.
      ∥∥₁_elim legal (λ a b. absurd a) (λ l.
      let t = by_position o.program o.opening o.is l in
      let read = lawful_decoded o.program words t.last t.is in
      let there = subst (λ (vs : List Variable). decoded vs words ≡ Some t.last) o.same read in
      absurd (cc)))

-- by what the calls mean
abbrev ByName : Program → ℕ → Named.State → List (Event ObjectCall Reply) → List CallId → Activation → Type 0
ByName program budget opening history order last =
    LegalTo (Fits program) (λ (activation : Activation) (state : Named.State). SameState program state activation) (CallEnds program budget) (CallMeans program budget) opening history order last

pub by_name : PositionsCarryLegal → (program : Program) (parts : EngineParts) (opening : Named.State) (block : List ℤ) (is : IsNamedObjectOf program parts opening block) (history : List (Event ObjectCall Reply)) (order : List CallId) (last : Activation) →
    DoFit parts history → IsLegalOrder program parts.budget is.activation history order last → ByName program parts.budget opening history order last
by_name carry program parts opening block is history order last fit l =
    carry program parts.budget is.resolved history order is.activation last opening
    (subst (λ (q : EngineParts). BegunFit (IsFitting q.exports) history) is.is.compiled.parts_are fit) is.same l

-- of a record whose state is read from the words
module _ (variables : List Variable) (parts : EngineParts) (block words : List ℤ) (r : Record) (fit : DoFit parts r.history) (read : decoded variables words ≡ Some r.state) (legal : ∥ IsLegal (IsEffectOf parts) block r.history r.order words ∥₁) where
  pub legal_for : IsLegalFor variables parts block r
  legal_for program opening same is =
      parts_are_read program parts opening r.state block words r.history r.order is.compiled is.encodes fit
      (subst (λ (vs : List Variable). decoded vs words ≡ Some r.state) (sym same) read) legal

pub meant_for : PositionsCarryLegal → (variables : List Variable) (parts : EngineParts) (block : List ℤ) (r : Record) → DoFit parts r.history → IsLegalFor variables parts block r → IsMeantFor variables parts block r
meant_for carry variables parts block r fit legal program opening same is =
    ∥∥₁_map (legal program is.activation same is.is) (λ l.
    let t = by_name carry program parts opening block is r.history r.order r.state fit l in
    record { last = t.end; legal = t.legal; same = t.is })
