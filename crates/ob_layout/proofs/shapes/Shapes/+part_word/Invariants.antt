use Rattle.std.proofs.Common.{length}
use Rattle.ob_layout.proofs.shapes.Shapes.+part_word.Given as goal

abbrev pub decreases-part_word : goal.decreases-part_word
decreases-part_word l = length l.path.now
