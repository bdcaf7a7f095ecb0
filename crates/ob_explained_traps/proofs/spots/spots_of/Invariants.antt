-- The places of the calls so far.
use Rattle.std.proofs.Common.{◌≡◌, map, option_map, take}
use Rattle.ob_grammar.specs.View.{module_of}
use Rattle.ob_trap_places.specs.Reaching.{site_of}
use Rattle.ob_explained_traps.specs.TrapPlaces.{spot_of}
use Rattle.ob_explained_traps.proofs.spots.spots_of.Given as goal

abbrev pub invariant-loop-site : goal.invariant-loop-site
invariant-loop-site l = l.spots.items ≡ map (spot_of (module_of l.tree)) (map (option_map site_of) (take l.site-index l.sites))
