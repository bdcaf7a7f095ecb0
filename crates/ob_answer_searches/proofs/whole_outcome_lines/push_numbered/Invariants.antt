-- The lines so far, and those of the outcomes that are left.
use Rattle.std.proofs.Common.{◌≡◌, ◌++◌, drop, map, string_bytes}
use Rattle.ob_answer_searches.proofs.Outcomes.{lines_from}
use Rattle.ob_checked.specs.View.{program_of}
use Rattle.ob_object_outcomes.specs.WholesView.{numbered}
use Rattle.ob_answer_searches.proofs.whole_outcome_lines.push_numbered.Given as goal

abbrev pub invariant-loop-index : goal.invariant-loop-index
invariant-loop-index l =
    string_bytes l.text ++ lines_from (program_of l.source.program.now).variables l.source.wholes.now l.index (drop l.index (map (numbered l.source.states.now) l.source.wholes.now.states.items))
    ≡ string_bytes l.fn.text ++ lines_from (program_of l.source.program.now).variables l.source.wholes.now 0 (map (numbered l.source.states.now) l.source.wholes.now.states.items)
