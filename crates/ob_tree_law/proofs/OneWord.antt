-- A task reads and writes at most one word of the block, as the instruction does that stands for it in the code.
use Rattle.std.proofs.Common.{◌≡◌, ℕ, zero, suc, Bool, true, false, ℤ, List, [], ◌∷◌, length, take, refl, sym, ap, ◌∙◌}
use Rattle.std.specs.Prelude.{pos, nat_le, nat_lt, if◌then◌else◌}
use Rattle.std.specs.Ordering.{int_eq}
use Rattle.ob_typing.specs.Program.{Program}
use Rattle.ob_code_words.specs.Words.{Made, Gives, Traps, Sticks, ◌>>=◌}
use Rattle.ob_code_words.specs.Effect.{popped, effect}
use Rattle.ob_code_scheme.specs.Types.{variables_scope}
use Rattle.wf_table.specs.Meaning.{Turned}
use Rattle.wf_table.specs.Law.{TouchesOneWord}
use Rattle.ob_code_correct.proofs.OneWord.{place_of, IsSameAt, left_of, on_other, keeps, effect_follows}
use Rattle.ob_tree_law.specs.Work.{Task, Instruction, AndThen, OrElse, Alternative, Over, Looping, Again, Until, Taking, Calling, Leaving, TreeBody, TreeState, Answer, On, Finished, Failed, Lost, opened, made_on, taking, leaving_to, does, does_first, step}
use Rattle.ob_tree_law.specs.TreeEngine.{TreeRun, tree_shown, tree_step, tree_engine}

-- the place of the word; behind a block of so many words where there is none
abbrev task_place : ℕ → Task → List ℤ → ℕ
task_place words (Instruction i) stack = place_of words i stack
task_place words task stack = words

abbrev work_place : ℕ → List Task → List ℤ → ℕ
work_place words [] stack = words
work_place words (task ∷ rest) stack = task_place words task stack

module _ (block other : List ℤ) where
  -- what comes of a task on the other block
  abbrev answer_on : ℕ → Answer → Answer
  answer_on k (On t) = On (record { block = left_of block other k t.block; body = t.body })
  answer_on k (Finished left stack) = Finished (left_of block other k left) stack
  answer_on k (Failed n) = Failed n
  answer_on k Lost = Lost

  abbrev holding : List ℤ → TreeBody → TreeState
  holding ws body = record { block = ws; body = body }

  done_by : (k : ℕ) (body : TreeBody) (rest : List Task) (m : Made (List ℤ × List ℤ)) →
      made_on (m >>= on_other block other k) (λ made. On (record { block = made.0; body = record body { work = rest; stack = made.1 } }))
      ≡ answer_on k (made_on m (λ made. On (record { block = made.0; body = record body { work = rest; stack = made.1 } })))
  done_by k body rest (Gives made) = refl
  done_by k body rest (Traps n) = refl
  done_by k body rest Sticks = refl

  module _ (k : ℕ) (same : IsSameAt block other k) where
    goes : (body : TreeBody) → On (holding other body) ≡ answer_on k (On (holding block body))
    goes body = ap (λ (ws : List ℤ). On (holding ws body)) (sym (keeps block other k same))

    then_follows : {A : Type 0} (m : Made A) (f g : A → Answer) → ((a : A) → g a ≡ answer_on k (f a)) → made_on m g ≡ answer_on k (made_on m f)
    then_follows (Gives a) f g h = h a
    then_follows (Traps n) f g h = refl
    then_follows Sticks f g h = refl

    if_follows : (b : Bool) (x y x' y' : Answer) → x' ≡ answer_on k x → y' ≡ answer_on k y → (if b then x' else y') ≡ answer_on k (if b then x else y)
    if_follows true x y x' y' h l = h
    if_follows false x y x' y' h l = l

    taking_follows : (turns : ℕ) (f g : ℕ → Answer) → ((left : ℕ) → g left ≡ answer_on k (f left)) → taking turns g ≡ answer_on k (taking turns f)
    taking_follows zero f g h = refl
    taking_follows (suc left) f g h = h left

    leaves_follows : (body : TreeBody) (saved : List ℕ) (rest : List Task) (stack : List ℤ) →
        leaving_to saved rest stack (holding other body) ≡ answer_on k (leaving_to saved rest stack (holding block body))
    leaves_follows body [] rest stack = ap (λ (ws : List ℤ). Finished ws stack) (sym (keeps block other k same))
    leaves_follows body (fp ∷ saved) rest stack = goes _

    -- of a word that is popped, and two ways to go on
    either_follows : (body : TreeBody) (test : ℤ → Bool) (f g : ℤ × List ℤ → TreeBody) →
        made_on (popped body.stack) (λ x. if test x.0 then On (holding other (f x)) else On (holding other (g x)))
        ≡ answer_on k (made_on (popped body.stack) (λ x. if test x.0 then On (holding block (f x)) else On (holding block (g x))))
    either_follows body test f g = then_follows (popped body.stack) _ _ (λ x. if_follows (test x.0) _ _ _ _ (goes (f x)) (goes (g x)))

  module _ (program : Program) (reserve : ℕ) (long : length other ≡ length block) where
    does_follows : (task : Task) (rest : List Task) (body : TreeBody) → IsSameAt block other (task_place (length block) task body.stack) →
        does program reserve task rest (holding other body) ≡ answer_on (task_place (length block) task body.stack) (does program reserve task rest (holding block body))
    does_follows (Instruction i) rest body same =
        ap (λ (m : Made (List ℤ × List ℤ)). made_on m (λ made. On (record { block = made.0; body = record body { work = rest; stack = made.1 } })))
        (effect_follows block other long reserve body.fp i body.stack same)
        ∙ done_by (place_of (length block) i body.stack) body rest (effect reserve body.fp i block body.stack)
    does_follows (AndThen own right) rest body same = either_follows (length block) same body (λ w. int_eq w (pos 0)) _ _
    does_follows (OrElse own right) rest body same = either_follows (length block) same body (λ w. int_eq w (pos 1)) _ _
    does_follows (Alternative own ss others) rest body same = either_follows (length block) same body (λ w. int_eq w (pos 0)) _ _
    does_follows Over rest body same = goes (length block) same _
    does_follows (Looping own condition inner) rest body same = either_follows (length block) same body (λ w. int_eq w (pos 0)) _ _
    does_follows (Again own condition inner) rest body same = goes (length block) same _
    does_follows (Until own inner condition) rest body same = either_follows (length block) same body (λ w. int_eq w (pos 0)) _ _
    does_follows Taking rest body same = taking_follows (length block) same body.turns _ _ (λ left. goes (length block) same _)
    does_follows (Calling number parameters) rest body same =
        if_follows (length block) same (nat_le 63 (length body.saved)) _ _ _ _ refl
        (taking_follows (length block) same body.turns _ _ (λ left. if_follows (length block) same (nat_le parameters (length body.stack)) _ _ _ _ (goes (length block) same _) refl))
    does_follows Leaving rest body same =
        if_follows (length block) same (nat_lt (length body.stack) body.fp) _ _ _ _ refl (leaves_follows (length block) same body body.saved rest (take body.fp body.stack))
    does_follows task rest body same = refl

    first_follows : (work : List Task) (body : TreeBody) → IsSameAt block other (work_place (length block) work body.stack) →
        does_first program reserve work (holding other body) ≡ answer_on (work_place (length block) work body.stack) (does_first program reserve work (holding block body))
    first_follows [] body same = refl
    first_follows (task ∷ rest) body same = does_follows task rest body same

module _ (program : Program) where
  abbrev turned_on : (block other : List ℤ) → ℕ → Turned TreeRun → Turned TreeRun
  turned_on block other k t = record { turn = t.turn; run = t.run; block = left_of block other k t.block }

  shown_follows : (block other : List ℤ) (k : ℕ) → IsSameAt block other k → (run : TreeRun) (a : Answer) →
      tree_shown program run other (answer_on block other k a) ≡ turned_on block other k (tree_shown program run block a)
  shown_follows block other k same run (On t) = refl
  shown_follows block other k same run (Finished left stack) = refl
  shown_follows block other k same run (Failed n) = ap (λ (ws : List ℤ). tree_shown program run ws (Failed n)) (sym (keeps block other k same))
  shown_follows block other k same run Lost = ap (λ (ws : List ℤ). tree_shown program run ws Lost) (sym (keeps block other k same))

  abbrev work_of : TreeRun → List Task
  work_of run = opened (variables_scope program.variables) run.body.work

  step_follows : (block other : List ℤ) → length other ≡ length block → (run : TreeRun) → IsSameAt block other (work_place (length block) (work_of run) run.body.stack) →
      tree_step program run other ≡ turned_on block other (work_place (length block) (work_of run) run.body.stack) (tree_step program run block)
  step_follows block other long run same =
      let k = work_place (length block) (work_of run) run.body.stack in
      ap (tree_shown program run other)
      (if_follows block other k same run.is_over Lost (step program run.reserve (record { block = block; body = run.body })) Lost (step program run.reserve (record { block = other; body = run.body })) refl
      (first_follows block other program run.reserve long (work_of run) run.body same))
      ∙ shown_follows block other k same run (if run.is_over then Lost else step program run.reserve (record { block = block; body = run.body }))

  pub tree_touches : (budget : ℕ) (run : TreeRun) (block : List ℤ) → TouchesOneWord (tree_engine program budget) run block
  tree_touches budget run block = record {
    place = work_place (length block) (work_of run) run.body.stack;
    same = λ other long is. step_follows block other long run is;
  }
