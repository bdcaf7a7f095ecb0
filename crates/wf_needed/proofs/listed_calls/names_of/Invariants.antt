-- The names of the calls so far.
use Rattle.std.proofs.Common.{◌≡◌, take}
use Rattle.wf_needed.specs.Listed.{ids_of}
use Rattle.wf_needed.proofs.listed_calls.names_of.Given as goal

abbrev pub invariant-loop-listed : goal.invariant-loop-listed
invariant-loop-listed l = l.ids.items ≡ ids_of (take l.listed-index l.all)
