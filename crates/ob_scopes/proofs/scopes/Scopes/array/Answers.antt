use Rattle.ob_scopes.specs.Names.{types_in}
use Rattle.ob_scopes.proofs.Kept.{env_kept, invariant_kept}
use Rattle.ob_scopes.proofs.scopes.Scopes.array.Goals as goal

pub invariant_of-self : goal.invariant_of-self
invariant_of-self c =
    let s = c.args.self.now in
    record { known = invariant_kept (types_in s) _ c.array.ensures.extends s.own s.around.items s.known }

pub returns-clause-names : goal.returns-clause-names
returns-clause-names c =
    let s = c.args.self.now in
    env_kept (types_in s) _ c.array.ensures.extends s.own s.around.items s.known
