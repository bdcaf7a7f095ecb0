-- What the lines so far say.
use Rattle.std.proofs.Common.{◌≡◌, length, map, take}
use Rattle.std.specs.List.{flat_map}
use Rattle.ob_text_words.specs.Words.{lines}
use Rattle.ob_text_words.specs.Schedule.{line_items}
use Rattle.ob_text_words.proofs.schedule_texts.item_words.Given as goal

abbrev pub invariant-loop-line : goal.invariant-loop-line
invariant-loop-line l = map (λ w. w.now) l.items.items ≡ flat_map line_items (take (length l.yielded) (lines l.text))
