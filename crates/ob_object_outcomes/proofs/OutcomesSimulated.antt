-- What a simulation carries from merges over states of one kind to merges over states of another.
use Rattle.std.proofs.Common.{◌≡◌, ℕ, List, [], get_or, Some}
use Rattle.std.specs.List.{slice_get}
use Rattle.ob_code_correct.specs.Carried.{Follows, Simulates}
use Rattle.wf_history.specs.declared.event.CallId.{CallId}
use Rattle.wf_outcomes.specs.Merges.{Configuration, IsStep, Leads, none, more}
use Rattle.wf_outcomes.specs.Outcomes.{Answers}

-- each call that stands in the scripts fits
abbrev pub EachFits : {Call : Type 0} → (Call → Type 0) → List (List Call) → Type 0
EachFits {Call} fits scripts = (process k : ℕ) (call : Call) → slice_get (get_or scripts process []) k ≡ Some call → fits call

-- the configuration with another state
abbrev pub over : {From To : Type 0} → Configuration From → To → Configuration To
over c state = record { counts = c.counts; state = state }

module _ {From To Call Reply : Type 0} (fits : Call → Type 0) (Is : From → To → Type 0) (Effect : Call → From → From → Reply → Type 0) (Meant : Call → To → To → Reply → Type 0) (simulates : Simulates fits Is Effect Meant)
    (scripts : List (List Call)) (each : EachFits fits scripts) where
  -- the same step, over states of the other kind
  pub record StepThere (c d : Configuration From) (id : CallId) (reply : Reply) (there : To) : Type 0 where
    pub next : To
    pub step : IsStep Meant scripts (over c there) id reply (over d next)
    pub is : Is d.state next

  pub step_there : (c d : Configuration From) (id : CallId) (reply : Reply) (there : To) → Is c.state there → IsStep Effect scripts c id reply d → StepThere c d id reply there
  step_there c d id reply there is h =
      let f : Follows fits Is Effect Meant h.call there d.state reply =
      simulates h.call c.state d.state there reply (each id.process (get_or c.counts id.process 0) h.call h.listed) is h.effect in
      record {
        next = f.next;
        step = record { call = h.call; process = h.process; listed = h.listed; number = h.number; effect = f.ends; counts = h.counts };
        is = f.is;
      }

  -- the same calls, which lead to such a state
  pub record LeadsThere (c d : Configuration From) (ids : List CallId) (there : To) : Type 0 where
    pub last : To
    pub leads : Leads Meant scripts (over c there) ids (over d last)
    pub is : Is d.state last

  pub leads_there : {c d : Configuration From} {ids : List CallId} → Leads Effect scripts c ids d → (there : To) → Is c.state there → LeadsThere c d ids there
  leads_there none there is = record { last = there; leads = none; is = is }
  leads_there (more {c} {d} {e} {id} {ids} reply h l) there is =
      let t = step_there c d id reply there is h in
      let r = leads_there l t.next t.is in
      record { last = r.last; leads = more reply t.step r.leads; is = r.is }

  -- what is answered on one state is answered on the other
  pub answers_there : (call : Call) (reply : Reply) → fits call → (here : From) (there : To) → Is here there → Answers Effect call reply here → Answers Meant call reply there
  answers_there call reply fit here there is a =
      let f : Follows fits Is Effect Meant call there a.0 reply = simulates call here a.0 there reply fit is a.1 in
      (f.next, f.ends)
