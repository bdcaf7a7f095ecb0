-- What a simulation carries of a merge from states of one kind to states of another.
use Rattle.std.proofs.Common.{◌≡◌, ℕ, List, [], get_or, Some}
use Rattle.std.specs.List.{slice_get}
use Rattle.ob_code_correct.specs.Carried.{Follows, Simulates}
use Rattle.wf_history.specs.declared.event.CallId.{CallId}
use Rattle.wf_outcomes.specs.Merges.{Configuration, IsStep, Leads, none, more}

-- the configuration with another state
abbrev pub over : {From To : Type 0} → Configuration From → To → Configuration To
over c state = record { counts = c.counts; state = state }

module _ {From To Call Reply : Type 0} (fits : Call → Type 0) (Is : From → To → Type 0) (Effect : Call → From → From → Reply → Type 0) (Meant : Call → To → To → Reply → Type 0) (simulates : Simulates fits Is Effect Meant)
    (scripts : List (List Call)) (each : (process k : ℕ) (call : Call) → slice_get (get_or scripts process []) k ≡ Some call → fits call) where
  -- the same calls, which lead to such a state
  pub record LeadsThere (c d : Configuration From) (ids : List CallId) (there : To) : Type 0 where
    pub last : To
    pub leads : Leads Meant scripts (over c there) ids (over d last)
    pub is : Is d.state last

  pub leads_there : {c d : Configuration From} {ids : List CallId} → Leads Effect scripts c ids d → (there : To) → Is c.state there → LeadsThere c d ids there
  leads_there none there is = record { last = there; leads = none; is = is }
  leads_there (more {c} {d} {e} {id} {ids} reply h l) there is =
      let f : Follows fits Is Effect Meant h.call there d.state reply = simulates h.call c.state d.state there reply (each id.process (get_or c.counts id.process 0) h.call h.listed) is h.effect in
      let r = leads_there l f.next f.is in
      let step : IsStep Meant scripts (over c there) id reply (over d f.next) = record { call = h.call; process = h.process; listed = h.listed; number = h.number; effect = f.ends; counts = h.counts } in
      record { last = r.last; leads = more reply step r.leads; is = r.is }
