-- What the lines so far add.
use Rattle.std.proofs.Common.{length}
use Rattle.ob_text_words.specs.Words.{lines}
use Rattle.ob_text_scripts.proofs.Answering.{GoOn}
use Rattle.ob_text_scripts.proofs.finish.finished_schedule.Given as goal

abbrev pub invariant-loop-line : goal.invariant-loop-line
invariant-loop-line l = GoOn (lines l.script) l.schedule (length l.yielded) l.text.items
