-- The verdict on a heading, step by step.
use Rattle.std.proofs.Common.{◌≡◌, ℕ, List, ◌∷◌, Bool, true, false, refl, sym, ap, ◌∙◌}
use Rattle.std.specs.Prelude.{not, ◌||◌}
use Rattle.ob_grammar.specs.Tree.{Heading, Section}
use Rattle.ob_typing.specs.declared.rule.Rule.TheVariants.{BadExport}
use Rattle.ob_typing.specs.Program.{Parameter}
use Rattle.ob_typing.specs.Scopes.{Environment, Scope, no_names}
use Rattle.ob_typing.specs.Statements.{listed}
use Rattle.ob_typing.specs.Declarations.{all_simple, inner_scope, with_procedure}
use Rattle.ob_typing.specs.ExpressionFaults.{broken}
use Rattle.ob_typing.specs.Verdict.{Verdict, Right, Wrong, ◌>>=◌, test}
use Rattle.ob_typing.specs.ModuleVerdicts.{WithParameters, parameters}
use Rattle.ob_check.specs.CheckingProcedures.{headed}

module _ (env : Environment) (n : ℕ) (heading : Heading) where
  abbrev pub headed_parameters : Verdict WithParameters
  headed_parameters = parameters (listed heading.parameters) (no_names ∷ env) 0

  module _ (inside : Environment) (ps : List Parameter) (right : headed_parameters ≡ Right (record { env = inside; parameters = ps })) where
    abbrev pub behind_test : WithParameters → Verdict WithParameters
    behind_test qs =
        ◌>>=◌ (test (not heading.is_exported || all_simple qs.parameters) BadExport heading.name.place) (λ simple.
        Right (record { env = inner_scope qs.env (with_procedure env n heading qs.parameters); parameters = qs.parameters }))

    pub headed_right : (not heading.is_exported || all_simple ps) ≡ true → (after : Environment) → after ≡ inner_scope inside (with_procedure env n heading ps) →
        headed env n heading ≡ Right (record { env = after; parameters = ps })
    headed_right simple after is =
        ap (λ v. ◌>>=◌ v behind_test) right
        ∙ ap (λ b. ◌>>=◌ (test b BadExport heading.name.place) (λ s. Right (record { env = inner_scope inside (with_procedure env n heading ps); parameters = ps }))) simple
        ∙ ap (λ e. Right (record { env = e; parameters = ps })) (sym is)

    pub headed_wrong : (not heading.is_exported || all_simple ps) ≡ false → headed env n heading ≡ Wrong (broken BadExport heading.name.place)
    headed_wrong structured =
        ap (λ v. ◌>>=◌ v behind_test) right
        ∙ ap (λ b. ◌>>=◌ (test b BadExport heading.name.place) (λ s. Right (record { env = inner_scope inside (with_procedure env n heading ps); parameters = ps }))) structured

-- what was read as the sections of a heading, in a scope that was entered without names
pub parameters_entered : (xs ys : List Section) (env after : Environment) (scope : Scope) → ys ≡ xs → after ≡ scope ∷ env → scope ≡ no_names →
    parameters xs (no_names ∷ env) 0 ≡ parameters ys after 0
parameters_entered xs ys env after scope read entered empty =
    ap (λ zs. parameters zs (no_names ∷ env) 0) (sym read)
    ∙ ap (λ (s : Scope). parameters ys (s ∷ env) 0) (sym empty)
    ∙ ap (λ e. parameters ys e 0) (sym entered)

pub structured_export : (b s : Bool) → b ≡ true → s ≡ false → (not b || s) ≡ false
structured_export b s h k = rw h k

pub simple_export : (b s : Bool) → s ≡ true → (not b || s) ≡ true
simple_export true s k = k
simple_export false s k = refl

pub no_export : (b s : Bool) → b ≡ false → (not b || s) ≡ true
no_export b s h = rw h refl
