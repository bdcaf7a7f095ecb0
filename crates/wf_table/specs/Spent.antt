-- What a process has spent on its open call, or on its last one where none is open.
use Rattle.std.specs.Prelude.{ℕ, ◌+◌, Bool, true, false, List, [], ◌∷◌, length, if◌then◌else◌, nat_lt}
use Rattle.wf_table.specs.declared.process.Label.{Label}
use Rattle.wf_table.specs.declared.process.Label.TheVariants.{Next, Enter, Body}
use Rattle.wf_table.specs.Labels.{at_body}
use Rattle.wf_table.specs.StepTable.{Process}
use Rattle.wf_table.specs.declared.spent.Spent.{Spent}

-- before the first call
abbrev pub unspent : Spent
unspent = record { bodies = 0; inside = 0; outside = 0 }

-- a step at the label; at NEXT it begins a call or is halted. The step that begins a call is its first one
abbrev pub spent_after : Label → Bool → Spent → Spent
spent_after Next begins s = if begins then record { bodies = 0; inside = 0; outside = 1 } else s
spent_after Enter begins s = record { bodies = s.bodies + 1; inside = s.inside; outside = s.outside + 1 }
spent_after Body begins s = record s { inside = s.inside + 1 }
spent_after _ begins s = record s { outside = s.outside + 1 }

-- one step more of the first body
abbrev pub one_more : List ℕ → List ℕ
one_more [] = []
one_more (k ∷ ks) = (k + 1) ∷ ks

-- own steps in each body that the call has begun, the present body first
abbrev pub body_steps_after : Label → Bool → List ℕ → List ℕ
body_steps_after Next begins steps = if begins then [] else steps
body_steps_after Enter begins steps = 0 ∷ steps
body_steps_after Body begins steps = one_more steps
body_steps_after _ begins steps = steps

-- calls of the script have not begun
abbrev pub has_more : {Run : Type 0} → Process Run → Bool
has_more q = nat_lt q.begun (length q.calls)
