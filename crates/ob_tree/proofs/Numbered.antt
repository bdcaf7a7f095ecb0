-- The work of the procedure of a number.
use Rattle.std.proofs.Common.{◌≡◌, ℕ, zero, suc, ◌≤◌, List, [], ◌∷◌, ◌++◌, length, map, drop, Option, Some, None, refl, ap, sym, ◌∙◌, arith}
use Rattle.std.specs.Prelude.{slice_get}
use Rattle.ob_typing.specs.Program as Program
use Rattle.ob_checked.specs.Types.{Entry}
use Rattle.ob_checked.specs.declared.program.Parameter.{Parameter}
use Rattle.ob_checked.specs.declared.program.Procedure.{Procedure}
use Rattle.ob_checked.specs.declared.program.Statement.{Statement}
use Rattle.ob_checked.specs.View.{parameter_of, procedure_of, statements_in}
use Rattle.ob_code_words.specs.declared.instr.Instr.TheVariants as Instrs
use Rattle.ob_code_scheme.specs.Types.{Scope, extent, scope_at, parameters_scope, frame_scope, variables_scope}
use Rattle.ob_code_scheme.specs.Layout.{variable_words}
use Rattle.ob_tree_law.specs.Work.{All, Instruction, Leaving, procedure_tasks}
use Rattle.ob_tree_tasks.specs.WorkTasks.{WorkTasks, with_tasks}
use Rattle.ob_tree.specs.Procedures.{AreSmallFrames}

module _ (types : List Entry) where
  abbrev left_of : List Procedure → List Program.Procedure
  left_of ps = map (procedure_of types) ps

  procedure_there : (ps : List Procedure) (i : ℕ) (p : Procedure) → slice_get ps i ≡ Some p → slice_get (left_of ps) i ≡ Some (procedure_of types p)
  procedure_there [] i p h = absurd (cc)
  procedure_there (q ∷ ps) zero p h = let same : q ≡ p = cc in ap (λ (x : Procedure). Some (procedure_of types x)) same
  procedure_there (q ∷ ps) (suc i) p h = procedure_there ps i p h

  procedure_none : (ps : List Procedure) (i : ℕ) → slice_get ps i ≡ None → slice_get (left_of ps) i ≡ None
  procedure_none [] i h = refl
  procedure_none (q ∷ ps) zero h = absurd (cc)
  procedure_none (q ∷ ps) (suc i) h = procedure_none ps i h

  scope_there : (ps : List Procedure) (i : ℕ) (p : Procedure) → slice_get ps i ≡ Some p → scope_at (map frame_scope (left_of ps)) i ≡ frame_scope (procedure_of types p)
  scope_there [] i p h = absurd (cc)
  scope_there (q ∷ ps) zero p h = let same : q ≡ p = cc in ap (λ (x : Procedure). frame_scope (procedure_of types x)) same
  scope_there (q ∷ ps) (suc i) p h = scope_there ps i p h

  -- behind the parameters stand the variables
  behind_parameters : (ps : List Parameter) (behind : Scope) → drop (length ps) (parameters_scope (map (parameter_of types) ps) ++ behind) ≡ behind
  behind_parameters [] behind = refl
  behind_parameters (p ∷ ps) behind = behind_parameters ps behind

  module _ (frames : List Scope) (ps : List Procedure) (i : ℕ) (p : Procedure) (are : frames ≡ map frame_scope (left_of ps)) (there : slice_get ps i ≡ Some p) where
    scope_is : scope_at frames i ≡ frame_scope (procedure_of types p)
    scope_is = ap (λ (fs : List Scope). scope_at fs i) are ∙ scope_there ps i p there

    pub words_are : (words : ℕ) → words ≡ extent (drop (length p.parameters.items) (scope_at frames i)) → words ≡ variable_words (procedure_of types p).variables
    words_are words is =
        is
        ∙ ap (λ (s : Scope). extent (drop (length p.parameters.items) s)) scope_is
        ∙ ap extent (behind_parameters p.parameters.items (variables_scope (procedure_of types p).variables))

    pub words_few : AreSmallFrames (left_of ps) → (words : ℕ) → words ≡ extent (drop (length p.parameters.items) (scope_at frames i)) → words ≤ 65535
    words_few small words is =
        let same = words_are words is in
        let few = small i (procedure_of types p) (procedure_there ps i p there) in
        omega (arith, same, few)

    pub pushed : (w a b n : WorkTasks) (words : ℕ) (ss : List Statement) → words ≡ extent (drop (length p.parameters.items) (scope_at frames i)) → ss ≡ p.body.items →
        a ≡ with_tasks w (Leaving ∷ w.tasks) → b ≡ with_tasks a (All (scope_at frames i) (statements_in ss) ∷ a.tasks) → n ≡ with_tasks b (Instruction (Instrs.Frame words) ∷ b.tasks) →
        n ≡ with_tasks w (procedure_tasks (slice_get (left_of ps) i) w.tasks)
    pushed w a b n words ss counted items first second third =
        third
        ∙ ap (λ (x : WorkTasks). with_tasks x (Instruction (Instrs.Frame words) ∷ x.tasks)) second
        ∙ ap (λ (x : WorkTasks). with_tasks x (Instruction (Instrs.Frame words) ∷ All (scope_at frames i) (statements_in ss) ∷ x.tasks)) first
        ∙ ap (λ (k : ℕ). with_tasks w (Instruction (Instrs.Frame k) ∷ All (scope_at frames i) (statements_in ss) ∷ Leaving ∷ w.tasks)) (words_are words counted)
        ∙ ap (λ (s : Scope). with_tasks w (Instruction (Instrs.Frame (variable_words (procedure_of types p).variables)) ∷ All s (statements_in ss) ∷ Leaving ∷ w.tasks)) scope_is
        ∙ ap (λ (xs : List Statement). with_tasks w (Instruction (Instrs.Frame (variable_words (procedure_of types p).variables)) ∷ All (frame_scope (procedure_of types p)) (statements_in xs) ∷ Leaving ∷ w.tasks)) items
        ∙ ap (λ (o : Option Program.Procedure). with_tasks w (procedure_tasks o w.tasks)) (sym (procedure_there ps i p there))

  pub none_pushed : (ps : List Procedure) (i : ℕ) (w n : WorkTasks) → slice_get ps i ≡ None → n ≡ with_tasks w [] → n ≡ with_tasks w (procedure_tasks (slice_get (left_of ps) i) w.tasks)
  none_pushed ps i w n h is = is ∙ ap (λ (o : Option Program.Procedure). with_tasks w (procedure_tasks o w.tasks)) (sym (procedure_none ps i h))
