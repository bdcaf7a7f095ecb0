-- Opening can't be seen: a step from opened work does what a step from the work does.
use Rattle.std.proofs.Common.{◌≡◌, ℕ, ℤ, List, [], ◌∷◌, length, take, refl, ap, ◌∙◌}
use Rattle.std.specs.Prelude.{nat_lt, if◌then◌else◌}
use Rattle.ob_typing.specs.Program.{Program}
use Rattle.ob_code_scheme.specs.Types.{Scope, variables_scope}
use Rattle.ob_tree_law.specs.Work.{Task, Instruction, Leaving, opened, TreeState, Answer, Lost, settled, leaving_to, does, does_first, step}
use Rattle.ob_tree_law.proofs.Ready.{opened_ready, opened_left}

-- opened work stays as it is
pub opened_twice : (globals : Scope) (work : List Task) → opened globals (opened globals work) ≡ opened globals work
opened_twice globals work = opened_left globals (opened globals work) (opened_ready globals work)

module _ (program : Program) (reserve : ℕ) where
  abbrev globals : Scope
  globals = variables_scope program.variables

  -- the same state with other work
  abbrev with_work : TreeState → List Task → TreeState
  with_work t work = record t { body = record t.body { work = work } }

  leaves_same : (saved : List ℕ) (rest : List Task) (stack : List ℤ) (t : TreeState) (work : List Task) → leaving_to saved rest stack (with_work t work) ≡ leaving_to saved rest stack t
  leaves_same [] rest stack t work = refl
  leaves_same (fp ∷ saved) rest stack t work = refl

  -- what is done goes by the task and the work behind it
  does_same : (task : Task) (rest : List Task) (t : TreeState) (work : List Task) → does program reserve task rest (with_work t work) ≡ does program reserve task rest t
  does_same (Instruction i) rest t work = refl
  does_same Leaving rest t work =
      ap (λ (a : Answer). if nat_lt (length t.body.stack) t.body.fp then Lost else a) (leaves_same t.body.saved rest (take t.body.fp t.body.stack) t work)
  does_same _ rest t work = refl

  first_same : (first : List Task) (t : TreeState) (work : List Task) → does_first program reserve first (with_work t work) ≡ does_first program reserve first t
  first_same [] t work = refl
  first_same (task ∷ rest) t work = does_same task rest t work

  pub step_settled : (t : TreeState) → step program reserve (record t { body = settled globals t.body }) ≡ step program reserve t
  step_settled t =
      first_same (opened globals (opened globals t.body.work)) t (opened globals t.body.work)
      ∙ ap (λ (work : List Task). does_first program reserve work t) (opened_twice globals t.body.work)
