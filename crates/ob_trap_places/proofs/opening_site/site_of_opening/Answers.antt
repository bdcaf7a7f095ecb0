use Rattle.std.proofs.Common.{◌≡◌, IfOk, option_map, subst}
use Rattle.ob_meaning.specs.ByNameObject.{most_turns}
use Rattle.ob_trap_places.specs.TrapOfCall as Sites
use Rattle.ob_trap_places.specs.Reaching.{site_of}
use Rattle.ob_trap_places.proofs.opening_site.site_of_opening.Goals as goal

pub returns : goal.returns
returns c =
    subst (λ p. IfOk c.site_in_body.result (λ found. option_map site_of found ≡ Sites.site_of_opening p most_turns)) c.program.ensures.program
    c.site_in_body.ensures
