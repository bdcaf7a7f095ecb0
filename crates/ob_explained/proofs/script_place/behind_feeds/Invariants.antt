-- The bytes so far, and those up to the line feeds that are left.
use Rattle.std.proofs.Common.{◌≡◌, ◌+◌, drop}
use Rattle.ob_explained.specs.ScriptPlaces.{behind_feeds}
use Rattle.ob_explained.proofs.script_place.behind_feeds.Given as goal

abbrev pub invariant-loop-index : goal.invariant-loop-index
invariant-loop-index l = behind_feeds l.feeds l.text ≡ l.index + behind_feeds l.left (drop l.index l.text)
