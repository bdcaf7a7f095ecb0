-- Bodies at which processes stand.
use Rattle.std.specs.Prelude.{◌≡◌, ◌≢◌}
use Rattle.wf_table.specs.declared.engine_turn.EngineTurn.TheVariants.{Stuck}
use Rattle.wf_table.specs.declared.process.Label.TheVariants.{Body}
use Rattle.wf_table.specs.declared.process.Sizes.{Sizes}
use Rattle.wf_table.specs.Each.{Each}
use Rattle.wf_table.specs.Meaning.{Meaning}
use Rattle.wf_table.specs.Object.{State}
use Rattle.wf_table.specs.StepTable.{body_turn}

-- the next step of each process that stands at BODY is none of a stuck body
abbrev pub IsNeverStuck : {Run : Type 0} → Meaning Run → Sizes → State Run → Type 0
IsNeverStuck m z s = Each (λ p q. q.label ≡ Body → (body_turn m z s.cell p q).turn ≢ Stuck) s.processes
