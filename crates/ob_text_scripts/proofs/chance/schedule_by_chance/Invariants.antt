-- The steps so far, and those that are left.
use Rattle.std.proofs.Common.{◌-◌, ◌≤◌, string_bytes}
use Rattle.ob_text_scripts.specs.Chance.{IsOfSteps}
use Rattle.ob_text_scripts.proofs.chance.schedule_by_chance.Given as goal

abbrev pub invariant-loop-left : goal.invariant-loop-left
invariant-loop-left l = (l.left ≤ l.steps) × IsOfSteps l.processes (l.steps - l.left) (string_bytes l.text)

abbrev pub decreases-loop-left : goal.decreases-loop-left
decreases-loop-left l = l.left
