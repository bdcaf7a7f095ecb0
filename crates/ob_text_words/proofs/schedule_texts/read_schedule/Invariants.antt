-- The items of the words so far.
use Rattle.std.proofs.Common.{map, take}
use Rattle.ob_text_words.specs.Schedule.{AreItems}
use Rattle.ob_text_words.proofs.schedule_texts.read_schedule.Given as goal

abbrev pub invariant-loop-index : goal.invariant-loop-index
invariant-loop-index l = AreItems l.processes (take l.index (map (λ w. w.now) l.word-items)) l.items.items
