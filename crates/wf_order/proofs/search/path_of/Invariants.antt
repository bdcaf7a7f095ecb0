-- The calls of the frames so far.
use Rattle.std.proofs.Common.{◌≡◌, take}
use Rattle.wf_order.specs.Search.{ids_of}
use Rattle.wf_order.proofs.search.path_of.Given as goal

abbrev pub invariant-loop-frame : goal.invariant-loop-frame
invariant-loop-frame l = l.path.items ≡ ids_of (take l.frame-index l.stack)
