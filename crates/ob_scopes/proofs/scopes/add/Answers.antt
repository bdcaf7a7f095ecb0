use Rattle.std.proofs.Common.{ap, ◌∙◌}
use Rattle.std.specs.String.{string_cmp}
use Rattle.ob_scopes.specs.Objects.{known_names}
use Rattle.ob_scopes.proofs.Declared.{scope_of-updated, known-inserted}
use Rattle.ob_scopes.proofs.scopes.add.Goals as goal

pub returns-clause-ok : goal.returns-clause-ok
returns-clause-ok c = λ types. scope_of-updated types c.args.scope.now c.insert.new.self _ _ c.args.object c.in_ok-key.ensures.ok c.in_ok-insert.ensures.updates

pub returns-clause-known : goal.returns-clause-known
returns-clause-known c =
    λ n h j. ap (known_names n) c.in_ok-insert.ensures.entries ∙ known-inserted string_cmp n c.args.scope.now.entries c.in_ok-key.key c.args.object h j
