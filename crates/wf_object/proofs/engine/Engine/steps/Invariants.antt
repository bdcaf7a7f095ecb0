use Rattle.std.proofs.Common.{◌≡◌, ℕ, ◌<◌}
use Rattle.wf_table.specs.declared.engine_turn.EngineTurn.TheVariants.{On}
use Rattle.wf_table.specs.Meaning.{steps}
use Rattle.wf_object.proofs.engine.Engine.steps.Given as goal

-- the body has gone on so far
abbrev pub invariant-loop-count : goal.invariant-loop-count
invariant-loop-count g l =
    record {
      ready : g.Self.Engine.ready l.self l.run;
      on : (j : ℕ) → j < l.count → (steps (g.Self.Engine.meaning l.self) j l.initial.run l.initial.block).turn ≡ On;
      here : steps (g.Self.Engine.meaning l.self) l.count l.initial.run l.initial.block ≡ record { turn = On; run = l.run; block = l.block };
    }
