-- What a simulation carries from tellings over states of one kind to tellings over states of another.
use Rattle.std.proofs.Common.{List, length}
use Rattle.ob_code_correct.specs.Carried.{Follows, Simulates}
use Rattle.ob_object_outcomes.proofs.OutcomesSimulated.{EachFits}
use Rattle.wf_history.specs.declared.event.CallId.{CallId}
use Rattle.wf_whole_outcomes.specs.Tellings.{IsTold, Telling, Tells, none, more, replies_to}

-- the telling with another state
abbrev pub over : {From To Reply : Type 0} → Telling From Reply → To → Telling To Reply
over t state = record { replies = t.replies; state = state }

module _ {From To Call Reply : Type 0} (fits : Call → Type 0) (Is : From → To → Type 0) (Effect : Call → From → From → Reply → Type 0) (Meant : Call → To → To → Reply → Type 0) (simulates : Simulates fits Is Effect Meant)
    (scripts : List (List Call)) (each : EachFits fits scripts) where
  -- the same call, over states of the other kind
  record ToldThere (t u : Telling From Reply) (id : CallId) (there : To) : Type 0 where
    next : To
    told : IsTold Meant scripts (over t there) id (over u next)
    is : Is u.state next

  told_there : (t u : Telling From Reply) (id : CallId) (there : To) → Is t.state there → IsTold Effect scripts t id u → ToldThere t u id there
  told_there t u id there is h =
      let f : Follows fits Is Effect Meant h.call there u.state h.reply =
      simulates h.call t.state u.state there h.reply (each id.process (length (replies_to t id.process)) h.call h.listed) is h.effect in
      record {
        next = f.next;
        told = record { call = h.call; reply = h.reply; process = h.process; listed = h.listed; number = h.number; effect = f.ends; replies = h.replies };
        is = f.is;
      }

  -- the same calls, which lead to such a state
  pub record TellsThere (t u : Telling From Reply) (ids : List CallId) (there : To) : Type 0 where
    pub last : To
    pub tells : Tells Meant scripts (over t there) ids (over u last)
    pub is : Is u.state last

  pub tells_there : {t u : Telling From Reply} {ids : List CallId} → Tells Effect scripts t ids u → (there : To) → Is t.state there → TellsThere t u ids there
  tells_there none there is = record { last = there; tells = none; is = is }
  tells_there (more {t} {u} {v} {id} {ids} h l) there is =
      let s = told_there t u id there is h in
      let r = tells_there l s.next s.is in
      record { last = r.last; tells = more s.told r.tells; is = r.is }
