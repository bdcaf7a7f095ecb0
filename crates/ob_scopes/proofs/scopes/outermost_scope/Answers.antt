use Rattle.std.proofs.Common.{true, false, refl, ap, ◌∙◌}
use Rattle.std.specs.Prelude.{codes}
use Rattle.ob_interface.specs.declared.scalar.Scalar.TheVariants.{Bool}
use Rattle.ob_interface.specs.declared.scalar.ScalarType.TheVariants.{Integer, Boolean}
use Rattle.ob_typing.specs.Program.{Simple}
use Rattle.ob_typing.specs.Scopes.{Scope, Constant, TypeName, with_name}
use Rattle.ob_scopes.specs.Objects.{known_names}
use Rattle.ob_scopes.proofs.Declared.{scope_of-empty}
use Rattle.ob_scopes.proofs.scopes.outermost_scope.Goals as goal

pub returns-clause-names : goal.returns-clause-names
returns-clause-names c = λ types.
    c.in_ok-add-4.ensures.ok types ∙ ap (λ (s : Scope). with_name s (codes "INTEGER") (TypeName (Simple Integer)))
    (c.in_ok-add-3.ensures.ok types ∙ ap (λ (s : Scope). with_name s (codes "BOOLEAN") (TypeName (Simple Boolean)))
    (c.in_ok-add-2.ensures.ok types ∙ ap (λ (s : Scope). with_name s (codes "TRUE") (Constant (Bool true)))
    (c.in_ok-add.ensures.ok types ∙ ap (λ (s : Scope). with_name s (codes "FALSE") (Constant (Bool false))) (scope_of-empty types c.new-names.result c.new-names.ensures.empty))))

pub returns-clause-known : goal.returns-clause-known
returns-clause-known c = λ n.
    c.in_ok-add-4.ensures.known n (c.in_ok-add-3.ensures.known n (c.in_ok-add-2.ensures.known n (c.in_ok-add.ensures.known n (ap (known_names n) c.new-names.ensures.empty) refl) refl) refl) refl
