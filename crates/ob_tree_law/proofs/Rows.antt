-- Rows of worked programs with the engine over the tree, by computation: as many steps as the code takes instructions, and how many
-- tasks the work list comes to.
use Rattle.std.proofs.Common.{◌≡◌, ℕ, zero, suc, max, pos, List, [], ◌∷◌, length, Option, Some, None, refl}
use Rattle.std.specs.Prelude.{slice_get}
use Rattle.ob_interface.specs.declared.scalar.Scalar.{Scalar}
use Rattle.ob_interface.specs.declared.scalar.Scalar.TheVariants.{Int}
use Rattle.ob_meaning.specs.ByPositionValue.{Single}
use Rattle.ob_meaning.specs.ByPositionStore.{Activation, Holds}
use Rattle.ob_typing.specs.Program.{Procedure, Program}
use Rattle.ob_code_scheme.specs.Types.{variables_scope}
use Rattle.ob_code_scheme.specs.Temporaries.{stack_words}
use Rattle.ob_code_scheme.specs.Layout.{encoded, variable_words}
use Rattle.ob_code_scheme.specs.Correct.{arguments_of}
use Rattle.ob_code_scheme.proofs.Samples.{down, up, choosing, filling}
use Rattle.ob_tree_law.specs.Work.{TreeState, Answer, On, Finished, Failed, opened, tree_start, step, steps}
use Rattle.ob_tree_law.specs.Reserve.{activation_most}

abbrev begun_of : Program → ℕ → Option Procedure → List Scalar → ℕ → Activation → TreeState
begun_of program i None arguments budget state = tree_start program.procedures i 0 [] budget []
begun_of program i (Some p) arguments budget state =
    tree_start program.procedures i (variable_words program.variables) (arguments_of p.parameters arguments) budget (encoded state)

abbrev begun : Program → ℕ → List Scalar → ℕ → Activation → TreeState
begun program i arguments budget state = begun_of program i (slice_get program.procedures i) arguments budget state

-- after so many steps
abbrev run : Program → ℕ → List Scalar → ℕ → Activation → (count : ℕ) → Answer
run program i arguments budget state count = steps program (stack_words program.procedures) count (begun program i arguments budget state)

-- the most tasks at the beginning of any of so many steps, before and after opening
abbrev most_from : Program → ℕ → ℕ → Answer → ℕ
most_from program zero most (On t) = most
most_from program (suc k) most (On t) =
    most_from program k (max most (max (length t.body.work) (length (opened (variables_scope program.variables) t.body.work)))) (step program (stack_words program.procedures) t)
most_from program k most _ = most

abbrev most_tasks : Program → ℕ → List Scalar → ℕ → Activation → (count : ℕ) → ℕ
most_tasks program i arguments budget state count = most_from program count 0 (On (begun program i arguments budget state))

down_64 : run down 0 (Int (pos 64) ∷ []) 63 [] 763 ≡ Finished [] []
down_64 = refl

down_65 : run down 0 (Int (pos 65) ∷ []) 63 [] 704 ≡ Failed 4
down_65 = refl

down_no_turn : run down 0 (Int (pos 3) ∷ []) 1 [] 22 ≡ Failed 5
down_no_turn = refl

-- tasks of an activation that are counted, and that a run comes to
down_tasks : activation_most down.procedures ∷ most_tasks down 0 (Int (pos 3) ∷ []) 3 [] 31 ∷ [] ≡ 11 ∷ 8 ∷ []
down_tasks = refl

up_done : run up 0 (Int (pos 3) ∷ []) 3 (Holds (Single (Int (pos 0))) ∷ []) 41 ≡ Finished (pos 3 ∷ []) []
up_done = refl

up_tasks : activation_most up.procedures ∷ most_tasks up 0 (Int (pos 3) ∷ []) 3 (Holds (Single (Int (pos 0))) ∷ []) 41 ∷ [] ≡ 11 ∷ 7 ∷ []
up_tasks = refl

choosing_tasks : activation_most choosing.procedures ∷ most_tasks choosing 1 (Int (pos 3) ∷ []) 3 [] 500 ∷ [] ≡ 14 ∷ 10 ∷ []
choosing_tasks = refl

-- 64 activations, each of which has one task that waits
filling_tasks : activation_most filling.procedures ∷ most_tasks filling 0 [] 63 [] 127 ∷ [] ≡ 4 ∷ 66 ∷ []
filling_tasks = refl
