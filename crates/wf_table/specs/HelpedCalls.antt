-- What holds of a call that a process helps to make (its own or another's), in the words of the theorems.
use Rattle.std.specs.Prelude.{◌≡◌, ◌≢◌, ℕ, ℤ, List, Some, slice_get, take, Contains}
use Rattle.ob_interface.specs.Call.{ObjectCall, Reply}
use Rattle.wf_history.specs.declared.event.CallId.{CallId}
use Rattle.wf_history.specs.History.{Event}
use Rattle.wf_history.specs.Legal.{NoRepeats, OneAtATime, HasBegun}
use Rattle.wf_table.specs.declared.process.Sizes.{Sizes}
use Rattle.wf_table.specs.Meaning.{Meaning}
use Rattle.wf_table.specs.Law.{Effects}
use Rattle.wf_table.specs.StepTable.{Process, own_block, toggle_in, announced_toggle, open_call}
use Rattle.wf_table.specs.Object.{State}
use Rattle.wf_table.specs.Helping.{Settled}
use Rattle.wf_table.specs.HelpAndOrder.{phase}
use Rattle.wf_table.specs.HelpAlone.{Alone}

module _ {Run : Type 0} (m : Meaning Run) (z : Sizes) (s : State Run) where
  -- the process p, which stands at q, has the words of the open call of the process that it serves: that one is between its
  -- FLIP and READ, its call is not in the order, and it's not made in the own block of p
  pub record ServesOpen (p : ℕ) (q : Process Run) : Type 0 where
    pub served : Process Run
    pub stands : slice_get s.processes q.registers.j ≡ Some served
    pub trying : phase served.label ≢ Settled
    pub laid : q.list ≡ m.lay (open_call served)
    pub absent : ¬ Contains s.records.order (record { process = q.registers.j; number = served.begun })
    pub wanted : toggle_in z (own_block s.cell p) q.registers.j ≢ announced_toggle z s.cell q.registers.j

  -- the variables of the own block of p are what some calls lead to, made one at a time from the opening. They have all begun
  -- and none comes twice; the call that p makes next has begun too, and is not among them
  pub record MakesAnother (opening : List ℤ) (p : ℕ) (q : Process Run) : Type 0 where
    pub made_before : List CallId
    pub words : List (List ℤ)
    pub once : NoRepeats made_before
    pub made : OneAtATime (HasBegun s.records.history) (Alone m) opening made_before words (take z.variables (own_block s.cell p))
    pub id : CallId
    pub call : ObjectCall
    pub begun : HasBegun s.records.history id call
    pub laid : q.list ≡ m.lay call
    pub absent : ¬ Contains made_before id

-- the order leads from the opening to these variables: its calls, which have all begun, have their effects one at a time
pub record OrderLeads (Effect : Effects) (opening : List ℤ) (history : List (Event ObjectCall Reply)) (order : List CallId) (last : List ℤ) : Type 0 where
  pub replies : List Reply
  pub made : OneAtATime (HasBegun history) (λ call before after reply. ∥ Effect call before after reply ∥₁) opening order replies last
