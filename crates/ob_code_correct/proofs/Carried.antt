-- A simulation carries a legal order from states of one kind to states of another.
use Rattle.std.proofs.Common.{◌≡◌, ℕ, ℤ, List, Some, refl, sym, ap, ◌∙◌, subst}
use Rattle.std.proofs.Math.Logic.{∥∥₁_map}
use Rattle.ob_interface.specs.Call.{ObjectCall, Reply}
use Rattle.ob_typing.specs.Program.{Program}
use Rattle.ob_meaning.specs.ByPositionStore.{Activation}
use Rattle.ob_meaning.specs.ByPositionObject.{Effect, effect}
use Rattle.ob_code_scheme.specs.Types.{IsStateOf}
use Rattle.ob_code_scheme.specs.WellFormed.{IsWellFormed}
use Rattle.ob_code_scheme.specs.Layout.{encoded, decoded, IsEncoding}
use Rattle.wf_history.specs.declared.event.CallId.{CallId}
use Rattle.wf_history.specs.History.{Event}
use Rattle.wf_history.specs.Legal.{HasBegun, OneAtATime, none, more, IsLegal}
use Rattle.wf_table.specs.Law.{Effects}
use Rattle.ob_code_correct.specs.Compiled.{Fits, CallEnds, IsEffect}
use Rattle.ob_code_correct.specs.Carried.{BegunFit, Simulates, CarriesLegal, IsOfState, WordsCarryLegal, StatesCarryLegal, WordsAreRead}
use Rattle.ob_code_correct.proofs.CallLaw.{next_typed}
use Rattle.ob_code_correct.proofs.CodeLaw.{effect_called, called_effect, lawful_decoded}

module _ {Call Answer From To : Type 0} (fits : Call → Type 0) (Is : From → To → Type 0) (Effect : Call → From → From → Answer → Type 0) (Meant : Call → To → To → Answer → Type 0) where
  -- calls made there, which lead to a state that this one is
  pub record MadeThere (Made : CallId → Call → Type 0) (there : To) (ids : List CallId) (answers : List Answer) (last : From) : Type 0 where
    pub end : To
    pub made : OneAtATime Made Meant there ids answers end
    pub is : Is last end

  chain : (Made : CallId → Call → Type 0) → ((id : CallId) (call : Call) → Made id call → fits call) → Simulates fits Is Effect Meant →
      (ids : List CallId) (answers : List Answer) (here last : From) (there : To) → Is here there → OneAtATime Made Effect here ids answers last → MadeThere Made there ids answers last
  chain Made fit simulates ids answers here last there is none = record { end = there; made = none; is = is }
  chain Made fit simulates ids answers here last there is (more {between = between} {id = id} {ids = rest} {call = call} {answer = answer} {answers = others} made does later) =
      let f = simulates call here between there answer (fit id call made) is does in
      let l = chain Made fit simulates rest others between last f.next f.is later in
      record { end = l.end; made = more made f.ends l.made; is = l.is }

  pub carries : Simulates fits Is Effect Meant → CarriesLegal fits Is Effect Meant
  carries simulates history order opening last there fit is l =
      let c = chain (HasBegun history) fit simulates order l.replies opening last there is l.made in
      record { end = c.end; legal = record { once = l.once; ended = l.ended; in_time = l.in_time; replies = l.replies; made = c.made; agree = l.agree }; is = c.is }

-- ---- words and states

module _ (program : Program) (budget : ℕ) where
  words_simulate : Simulates (Fits program) (IsOfState program) (IsEffect program budget) (CallEnds program budget)
  words_simulate call here after there reply fit is does =
      let c = effect_called program budget call there here after reply is does in
      record { next = (effect program call budget there).state; ends = ap (λ (r : Reply). record { state = (effect program call budget there).state; reply = r }) c.0; is = c.1 }

  states_simulate : IsWellFormed program → Simulates (Fits program) (λ state block. IsOfState program block state) (CallEnds program budget) (IsEffect program budget)
  states_simulate well call here after there reply fit is does =
      let e = called_effect program budget well call here there fit is in
      record {
        next = encoded after;
        ends = subst (λ (x : Effect). IsEffect program budget call there (encoded x.state) x.reply) does e;
        is = record { typed = subst (λ (x : Effect). IsStateOf program.variables x.state) does (next_typed program budget well call fit here is.typed); words_are = refl };
      }

pub words_carry : WordsCarryLegal
words_carry program budget = carries (Fits program) (IsOfState program) (IsEffect program budget) (CallEnds program budget) (words_simulate program budget)

pub states_carry : StatesCarryLegal
states_carry program budget well =
    carries (Fits program) (λ state block. IsOfState program block state) (CallEnds program budget) (IsEffect program budget) (states_simulate program budget well)

-- an effect on words that simulates the program's calls
module _ (program : Program) (budget : ℕ) (fits : ObjectCall → Type 0) (Effect : Effects) (simulates : Simulates fits (IsOfState program) Effect (CallEnds program budget)) where
  pub are_read : (opening last : Activation) (block words : List ℤ) (history : List (Event ObjectCall Reply)) (order : List CallId) →
      IsEncoding program.variables opening block → BegunFit fits history → decoded program.variables words ≡ Some last →
      ∥ IsLegal Effect block history order words ∥₁ → ∥ IsLegal (CallEnds program budget) opening history order last ∥₁
  are_read opening last block words history order encodes fit read h =
      ∥∥₁_map h (λ l.
      let t = carries fits (IsOfState program) Effect (CallEnds program budget) simulates history order block words opening fit encodes l in
      let same : t.end ≡ last = by t.end (sym (lawful_decoded program words t.end t.is) ∙ read) in
      subst (λ (s : Activation). IsLegal (CallEnds program budget) opening history order s) same t.legal)
    where
      by : (s : Activation) → Some s ≡ Some last → s ≡ last
      by s e = cc

pub words_are_read : WordsAreRead
words_are_read program budget = are_read program budget (Fits program) (IsEffect program budget) (words_simulate program budget)
