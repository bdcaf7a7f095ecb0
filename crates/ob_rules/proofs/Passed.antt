-- Actuals, one more at a time.
use Rattle.std.proofs.Common.{◌≡◌, ◌≤◌, ℕ, ◌+◌, List, [], ◌∷◌, ◌++◌, length, drop, map, refl, ap, ◌∙◌, append-nil}
use Rattle.std.proofs.lemmas.List.{drop_all}
use Rattle.ob_grammar.specs.declared.tree.Expr as Written
use Rattle.ob_grammar.specs.View.{expr_of}
use Rattle.ob_typing.specs.Program as Programs
use Rattle.ob_typing.specs.Program.{ByValue, ByPlace}
use Rattle.ob_typing.specs.Scopes.{Environment}
use Rattle.ob_typing.specs.Verdict.{Verdict, Right, ◌>>=◌}
use Rattle.ob_typing.specs.StatementVerdicts.{actual, actuals}
use Rattle.ob_checked.specs.declared.program.Actual.{Actual}
use Rattle.ob_checked.specs.declared.program.Parameter.{Parameter}
use Rattle.ob_checked.specs.Types.{Entry}
use Rattle.ob_checked.specs.View.{actual_of, parameter_of}
use Rattle.ob_scopes.specs.declared.fault.CheckFault.{CheckFault}
use Rattle.ob_rules.specs.Checking.{Fails}
use Rattle.ob_rules.proofs.Steps.{bind_assoc, bind_same, fails_as, fails_on, goes_on}

passed_on-push : (done : List Actual) (x : Actual) (rest : List Programs.Actual) → map actual_of done ++ actual_of x ∷ rest ≡ map actual_of (done ++ x ∷ []) ++ rest
passed_on-push [] x rest = refl
passed_on-push (y ∷ done) x rest = ap (λ cs. actual_of y ∷ cs) (passed_on-push done x rest)

-- what is left, behind what is done
abbrev pub behind_passed : List Actual → List Programs.Actual → Verdict (List Programs.Actual)
behind_passed done rest = Right (map actual_of done ++ rest)

pub passed_all : (done : List Actual) → behind_passed done [] ≡ Right (map actual_of done)
passed_all done = ap (λ cs. Right cs) (append-nil (map actual_of done))

module _ (env : Environment) (types : List Entry) (ps : List Parameter) (es : List Written.Expr) where
  -- what is left of the parameters and actuals
  abbrev pub actuals_from : ℕ → Verdict (List Programs.Actual)
  actuals_from n = actuals env (map (parameter_of types) (drop n ps)) (map expr_of (drop n es))

  module _ (k : ℕ) (p : Parameter) (e : Written.Expr) (next : drop k ps ≡ p ∷ drop (k + 1) ps) (next' : drop k es ≡ e ∷ drop (k + 1) es) where
    actuals_first : actuals_from k ≡ ◌>>=◌ (actual env (parameter_of types p) (expr_of e)) (λ c. ◌>>=◌ (actuals_from (k + 1)) (λ cs. Right (c ∷ cs)))
    actuals_first =
        ap (λ xs. actuals env (map (parameter_of types) xs) (map expr_of (drop k es))) next
        ∙ ap (λ xs. actuals env (map (parameter_of types) (p ∷ drop (k + 1) ps)) (map expr_of xs)) next'

    pub first_fails : (f : CheckFault) (done : List Actual) → Fails f (actual env (parameter_of types p) (expr_of e)) → Fails f (◌>>=◌ (actuals_from k) (behind_passed done))
    first_fails f done h = fails_on f _ _ (fails_as f _ _ actuals_first (fails_on f _ _ h))

    pub actuals_next : (x : Actual) → actual env (parameter_of types p) (expr_of e) ≡ Right (actual_of x) → (done : List Actual) →
        ◌>>=◌ (actuals_from k) (behind_passed done) ≡ ◌>>=◌ (actuals_from (k + 1)) (behind_passed (done ++ x ∷ []))
    actuals_next x is done =
        ap (λ v. ◌>>=◌ v (behind_passed done)) (actuals_first ∙ goes_on _ _ _ _ is refl)
        ∙ bind_assoc (actuals_from (k + 1)) (λ cs. Right (actual_of x ∷ cs)) (behind_passed done)
        ∙ bind_same (actuals_from (k + 1)) _ _ (λ rest. ap (λ cs. Right cs) (passed_on-push done x rest))

  -- behind the last one
  pub actuals_end : (k : ℕ) (done : List Actual) → length ps ≤ k → length es ≤ k → ◌>>=◌ (actuals_from k) (behind_passed done) ≡ Right (map actual_of done)
  actuals_end k done h h' =
      ap (λ xs. ◌>>=◌ (actuals env (map (parameter_of types) xs) (map expr_of (drop k es))) (behind_passed done)) (drop_all k ps h)
      ∙ ap (λ xs. ◌>>=◌ (actuals env [] (map expr_of xs)) (behind_passed done)) (drop_all k es h')
      ∙ passed_all done
