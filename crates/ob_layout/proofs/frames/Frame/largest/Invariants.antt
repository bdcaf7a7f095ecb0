use Rattle.std.proofs.Common.{◌≡◌, max, map, drop}
use Rattle.ob_code_scheme.specs.Temporaries as Counts
use Rattle.ob_layout.specs.Frames.{frame_words_of}
use Rattle.ob_layout.proofs.frames.Frame.largest.Given as goal

-- the largest so far, and those that are left
abbrev pub invariant-loop-frame : goal.invariant-loop-frame
invariant-loop-frame l = max l.largest (Counts.largest (map frame_words_of (drop l.frame-index l.frames))) ≡ Counts.largest (map frame_words_of l.frames)
