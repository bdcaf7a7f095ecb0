-- Calls that are made one at a time, and others behind them.
use Rattle.std.proofs.Common.{◌≡◌, ◌∙◌, ℕ, List, [], ◌∷◌, ◌++◌, refl, ap, ap₂, sym, subst}
use Rattle.ob_meaning.specs.Same.{SameState}
use Rattle.ob_code_correct.specs.Named.{CallMeans}
use Rattle.ob_interface.specs.Call.{ObjectCall, Reply}
use Rattle.ob_meaning.specs.ByNameObject.{Effect, State, effect, replies_to, state_behind}
use Rattle.ob_text_record.specs.Record.{Record}
use Rattle.ob_object_run.specs.Recorded.{IsMeantOrder}
use Rattle.ob_object_twice.specs.Twice.{AreCallsOf, IsMeantTwice}
use Rattle.ob_typing.specs.Program.{Program}
use Rattle.wf_history.specs.declared.event.CallId.{CallId}
use Rattle.wf_history.specs.History.{Event}
use Rattle.wf_history.specs.Legal.{HasBegun, OneAtATime, more, none}

module _ (program : Program) (budget : ℕ) where
  -- the calls of an order, which give these replies and lead to this state
  record Chained (history : List (Event ObjectCall Reply)) (before : State) (ids : List CallId) (replies : List Reply) (last : State) : Type 0 where
    calls : List ObjectCall
    are : AreCallsOf history ids calls
    made : replies ≡ replies_to program budget before calls
    behind : last ≡ state_behind program budget before calls

  chained : (history : List (Event ObjectCall Reply)) (before : State) (ids : List CallId) (replies : List Reply) (last : State) →
      OneAtATime (HasBegun history) (CallMeans program budget) before ids replies last → Chained history before ids replies last
  chained history before ids replies last none = record { calls = []; are = tt; made = refl; behind = refl }
  chained history before ids replies last (more {between = between} {id = id} {ids = rest} {call = call} {answer = reply} {answers = others} made does later) =
      let l = chained history between rest others last later in
      let reply_is : (effect program call budget before).reply ≡ reply = ap (λ (e : Effect). e.reply) does in
      let state_is : (effect program call budget before).state ≡ between = ap (λ (e : Effect). e.state) does in
      record {
        calls = call ∷ l.calls;
        are = (made, l.are);
        made = ap₂ (λ r rs. r ∷ rs) (sym reply_is) (l.made ∙ ap (λ s. replies_to program budget s l.calls) (sym state_is));
        behind = l.behind ∙ ap (λ s. state_behind program budget s l.calls) (sym state_is);
      }

  replies_appended : (s : State) (calls others : List ObjectCall) →
      replies_to program budget s (calls ++ others) ≡ replies_to program budget s calls ++ replies_to program budget (state_behind program budget s calls) others
  replies_appended s [] others = refl
  replies_appended s (call ∷ calls) others =
      ap (λ rs. (effect program call budget s).reply ∷ rs) (replies_appended (effect program call budget s).state calls others)

  behind_appended : (s : State) (calls others : List ObjectCall) →
      state_behind program budget s (calls ++ others) ≡ state_behind program budget (state_behind program budget s calls) others
  behind_appended s [] others = refl
  behind_appended s (call ∷ calls) others = behind_appended (effect program call budget s).state calls others

  -- the second order begins where the first one ends
  pub meant_twice : (opening next : State) (first second : Record) (one : IsMeantOrder program budget opening first) → IsMeantOrder program budget next second → one.last ≡ next →
      IsMeantTwice program budget opening first second
  meant_twice opening next first second one two same =
      let a = chained first.history opening first.order one.legal.replies one.last one.legal.made in
      let b = chained second.history next second.order two.legal.replies two.last two.legal.made in
      let middle : state_behind program budget opening a.calls ≡ next = sym a.behind ∙ same in
      record {
        calls = a.calls;
        calls_are = a.are;
        others = b.calls;
        others_are = b.are;
        replies = one.legal.replies;
        agree = one.legal.agree;
        more = two.legal.replies;
        more_agree = two.legal.agree;
        made =
            replies_appended opening a.calls b.calls
            ∙ ap₂ (λ rs os. rs ++ os) (sym a.made) (ap (λ s. replies_to program budget s b.calls) middle ∙ sym b.made);
        last =
            subst (λ s. SameState program s second.state)
            (b.behind ∙ ap (λ s. state_behind program budget s b.calls) (sym middle) ∙ sym (behind_appended opening a.calls b.calls)) two.same;
      }
