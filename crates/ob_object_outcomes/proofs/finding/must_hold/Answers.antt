-- The question as it is asked, and the first place at which it fails.
use Rattle.std.proofs.Common.{◌≡◌, ℕ, List, subst}
use Rattle.std.proofs.Math.Logic.{∥∥₁_map}
use Rattle.std.proofs.lemmas.Option.{MatchOption-at_none, MatchOption-at_some}
use Rattle.ob_checked.specs.CheckedModule.{program_in}
use Rattle.ob_interface.specs.Call.{ObjectCall, Reply}
use Rattle.ob_object_run.specs.LegalOrder.{CallEnds}
use Rattle.ob_object_outcomes.specs.Questions.{FailsFirst, question_call, yes}
use Rattle.ob_object_search.specs.Kept.{kept_in}
use Rattle.ob_store.specs.View.{state_of}
use Rattle.wf_history.specs.View.{kept_call, kept_reply}
use Rattle.wf_history.specs.declared.event.CallId.{CallId}
use Rattle.wf_outcomes.specs.Explored.{Kept, all_kept, calls_in}
use Rattle.wf_outcomes.specs.Outcomes.{AlwaysGood, Answers, IsFirstBad}
use Rattle.ob_object_outcomes.proofs.finding.must_hold.Goals as goal

-- a first place at which a property fails, without the place
first_of : {State : Type 0} (Effect : ObjectCall → State → State → Reply → Type 0) (scripts : List (List ObjectCall)) (opening : State) (found : List (Kept State)) (IsGood : State → Type 0) (place : ℕ) (path : List CallId) →
    IsFirstBad Effect scripts opening found IsGood place path → FailsFirst Effect scripts opening IsGood path
first_of Effect scripts opening found IsGood place path h = record { here = h.it.here; leads = h.leads; fails = h.fails; shortest = h.shortest }

-- what is said of a call and a reply is said of the question and its answer
asked_as : (P : ObjectCall → Reply → Type 0) (call : ObjectCall) (reply : Reply) (number : ℕ) → call ≡ question_call number → reply ≡ yes → P call reply → P (question_call number) yes
asked_as P call reply number is also h = subst (λ (r : Reply). P (question_call number) r) also (subst (λ (c : ObjectCall). P c reply) is h)

pub returns-in_default-clause-always : goal.returns-in_default-clause-always
returns-in_default-clause-always c = rw (c.in_default.is) tt

pub returns-in-None-clause-always : goal.returns-in-None-clause-always
returns-in-None-clause-always c =
    let e = c.args.explored.now in
    let o = e.object.now in
    let effect = CallEnds (program_in o.checked.now) o.budget in
    let number = c.in-Some.number in
    let call = kept_call c.in_ok-call.call in
    let reply = kept_reply c.in_ok-wanted.wanted in
    rw (c.in-Some.is)
    (asked_as (λ x r. ∥ AlwaysGood effect (calls_in e.scripts.now) (state_of o.opening.now) (Answers effect x r) ∥₁) call reply number c.in_ok-call.ensures c.in_ok-wanted.ensures
    (MatchOption-at_none _ _ c.in-None.is c.in_ok-first_bad.ensures))

pub returns-clause-fault : goal.returns-clause-fault
returns-clause-fault c =
    let e = c.args.explored.now in
    let o = e.object.now in
    let effect = CallEnds (program_in o.checked.now) o.budget in
    let scripts = calls_in e.scripts.now in
    let opening = state_of o.opening.now in
    let number = c.in-Some.number in
    let call = kept_call c.in_ok-call.call in
    let reply = kept_reply c.in_ok-wanted.wanted in
    let bad = c.in-Some-2.bad in (
      number,
      c.in-Some.is,
      asked_as (λ x r. ∥ FailsFirst effect scripts opening (Answers effect x r) bad.path.items ∥₁) call reply number c.in_ok-call.ensures c.in_ok-wanted.ensures
          (∥∥₁_map (MatchOption-at_some _ _ bad c.in-Some-2.is c.in_ok-first_bad.ensures)
          (λ f. first_of effect scripts opening (all_kept kept_in e.seen) (Answers effect call reply) bad.place bad.path.items f)),
    )
