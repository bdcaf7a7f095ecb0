use Rattle.std.proofs.Common.{◌≡◌, ℕ, ◌-◌, ◌<◌, ◌≤◌, ◌++◌, replicate}
use Rattle.ob_text_words.specs.declared.item.Item.TheVariants as Items
use Rattle.wf_object.specs.InARow.{after_steps}
use Rattle.wf_play.specs.ItemSteps.{IsAtEnd}
use Rattle.wf_play.specs.Played.{IsSameObject}
use Rattle.wf_table.specs.Schedule.{steps_of}
use Rattle.wf_play.proofs.played_item.step_until.Given as goal

abbrev pub invariant-loop-taken : goal.invariant-loop-taken
invariant-loop-taken g l =
    record {
      object : IsSameObject l.machine l.initial.machine;
      few : l.taken ≤ l.limit;
      leads : l.machine.state ≡ after_steps (g.E.Engine.meaning l.initial.machine.engine) l.initial.machine.sizes l.p l.taken l.initial.machine.state;
      turns : steps_of l.machine.state.records.schedule ≡ steps_of l.initial.machine.state.records.schedule ++ replicate l.taken l.p;
      goes_on : (j : ℕ) → j < l.taken → IsAtEnd (g.E.Engine.meaning l.initial.machine.engine) l.initial.machine.sizes (Items.Until l.p l.label) j l.initial.machine.state → ⊥;
    }

abbrev pub decreases-loop-taken : goal.decreases-loop-taken
decreases-loop-taken g l = l.limit - l.taken
