-- What is told so far.
use Rattle.std.proofs.Common.{◌≡◌, ◌≤◌, length, map, option_map, string_bytes}
use Rattle.ob_explained_traps.proofs.Firsts.{told_below}
use Rattle.ob_explained_traps.specs.TrapLines.{lines_at, setting_of}
use Rattle.ob_explained_traps.specs.TrapPlaces.{is_first, spots_of}
use Rattle.ob_trap_places.specs.Reaching.{site_of}
use Rattle.ob_explained_traps.proofs.trap_lines.each_place.Given as goal

abbrev pub invariant-loop-position : goal.invariant-loop-position
invariant-loop-position l =
    (l.position ≤ length l.sites)
    × (string_bytes l.told
    ≡ told_below
    (lines_at (setting_of l.setting) (map (option_map site_of) l.sites) (spots_of (setting_of l.setting).tree (map (option_map site_of) l.sites)))
    (is_first (spots_of (setting_of l.setting).tree (map (option_map site_of) l.sites))) l.position)
