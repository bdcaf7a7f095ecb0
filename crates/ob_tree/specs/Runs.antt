-- What runs over a tree stand for, and by what they are told apart.
use Rattle.std.specs.Prelude.{ℕ, Bool, List, ℤ, refl}
use Rattle.std.specs.Coded.{Coded, coded_ℕ, coded_ℤ, coded_bool, coded_list, coded×, code_by}
use Rattle.ob_code_words.specs.StackWords.{StackWords}
use Rattle.ob_tree_law.specs.Work.{Task, TreeBody}
use Rattle.ob_tree_tasks.specs.Codes.{coded_task}
use Rattle.ob_tree_tasks.specs.WorkTasks.{WorkTasks}
use Rattle.ob_tree_law.specs.TreeEngine.{TreeRun}

-- a run of its stack, its work list, the frames of its callers and its numbers
abbrev pub tree_run_view : StackWords → WorkTasks → (fp : ℕ) → (saved : List ℕ) → (turns : ℕ) → (is_over : Bool) → TreeRun
tree_run_view stack work fp saved turns is_over = record {
  reserve = stack.reserve;
  room = work.room;
  is_over = is_over;
  body = record { work = work.tasks; stack = stack.words; fp = fp; saved = saved; turns = turns };
}

abbrev coded_body : Coded TreeBody
coded_body =
    code_by (List Task × (List ℤ × (ℕ × (List ℕ × ℕ)))) (coded× (coded_list coded_task) (coded× (coded_list coded_ℤ) (coded× coded_ℕ (coded× (coded_list coded_ℕ) coded_ℕ))))
    (λ b. (b.work, (b.stack, (b.fp, (b.saved, b.turns)))))
    (λ p. record { work = p.0; stack = p.1.0; fp = p.1.1.0; saved = p.1.1.1.0; turns = p.1.1.1.1 })
    (λ _. refl)

abbrev pub coded_run : Coded TreeRun
coded_run =
    code_by (ℕ × (ℕ × (Bool × TreeBody))) (coded× coded_ℕ (coded× coded_ℕ (coded× coded_bool coded_body)))
    (λ r. (r.reserve, (r.room, (r.is_over, r.body))))
    (λ p. record { reserve = p.0; room = p.1.0; is_over = p.1.1.0; body = p.1.1.1 })
    (λ _. refl)
