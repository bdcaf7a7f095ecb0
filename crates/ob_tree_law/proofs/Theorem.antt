-- The tree engine shows what the code shows, keeps within the reserve of its work list, and is correct where the code is.
use Rattle.std.proofs.Common.{◌≡◌, ℕ, ◌≤◌, ℤ, List, length, refl, ap, ◌∙◌, subst, sym, arith}
use Rattle.std.specs.Prelude.{slice_get}
use Rattle.ob_interface.specs.declared.scalar.Scalar.{Scalar}
use Rattle.ob_interface.specs.Call.{Reply, Answers, Trapped as TrapReply}
use Rattle.ob_typing.specs.Program.{Procedure, Program}
use Rattle.ob_meaning.specs.ByPositionStore.{Activation}
use Rattle.ob_meaning.specs.ByPositionObject.{Effect}
use Rattle.ob_code_scheme.specs.Temporaries.{stack_words}
use Rattle.ob_code_scheme.specs.Layout.{encoded, variable_words}
use Rattle.ob_code_machine.specs.declared.saved.Saved.{Saved}
use Rattle.ob_code_machine.specs.Machine.{Configuration, Outcome, Unfinished, Returned, Trapped, Stuck}
use Rattle.ob_code_machine.specs.Laws as Laws
use Rattle.ob_code_scheme.specs.Scheme.{entry_of, code_of}
use Rattle.ob_code_scheme.specs.Correct as Code
use Rattle.ob_code_scheme.specs.Correct.{arguments_of, CodeIsCorrect}
use Rattle.ob_code_correct.proofs.Entries.{entry_is}
use Rattle.ob_tree_law.specs.Work.{Task, TreeState, Answer, On, Finished, Failed, Lost, tree_start}
use Rattle.ob_tree_law.specs.Reserve.{activation_most, KeepsWithin, AnswerKeepsWithin}
use Rattle.ob_tree_law.specs.LikeCode.{Going, Stopped, shown_by_tree, shown_by_code, TreeIsLikeCode, WorkKeepsWithin, after_steps, IsOver, end_with, end_of, meant, TreeBehaves, TreeIsCorrect}
use Rattle.ob_tree_law.specs.Places.{Alike}
use Rattle.ob_tree_law.proofs.Alike.{call_alike}
use Rattle.ob_tree_law.proofs.Standing.{is_placed}
use Rattle.ob_tree_law.proofs.Within.{start_low, steps_keep, within_reserve}

-- what is alike shows the same
alike_shown : (reads : List Task → ℕ → List Saved → Type 0) (a : Answer) (o : Outcome) → Alike reads a o → shown_by_tree a ≡ shown_by_code o
alike_shown reads (On t) (Unfinished c) h = ap (λ (s : TreeState). Going s.block s.body.stack s.body.fp s.body.turns) h.1
alike_shown reads (Finished block stack) (Returned block' stack') h = let e = h.0 in let f = h.1 in cc
alike_shown reads (Failed k) (Trapped k') h = ap (λ (n : ℕ). Stopped n) h
alike_shown reads Lost Stuck h = refl
alike_shown reads _ _ h = absurd h

pub tree_is_like_code : TreeIsLikeCode
tree_is_like_code program reserve number variables arguments budget block count =
    alike_shown _ _ _ (call_alike program (code_of program).instructions reserve (is_placed program) number variables arguments budget block count)

pub work_keeps_within : WorkKeepsWithin
work_keeps_within program reserve number variables arguments budget block count t h n =
    let most = activation_most program.procedures in
    let start = tree_start program.procedures number variables arguments budget block in
    let begins : KeepsWithin most start.body = record { low = start_low program reserve number (slice_get program.procedures number) refl; depth = omega arith } in
    let kept : KeepsWithin most t.body = subst (AnswerKeepsWithin most) h (steps_keep program reserve count start begins) in
    within_reserve program reserve n t.body kept

-- ---- what is shown says what was come to

-- what is over is told by what is shown
over_shown : (a b : Answer) → IsOver a → IsOver b → shown_by_tree a ≡ shown_by_tree b → a ≡ b
over_shown (On t) b over over' h = absurd over
over_shown a (On t) over over' h = absurd over'
over_shown (Finished block stack) (Finished block' stack') over over' h = cc
over_shown (Finished block stack) (Failed k) over over' h = absurd (cc)
over_shown (Finished block stack) Lost over over' h = absurd (cc)
over_shown (Failed k) (Finished block stack) over over' h = absurd (cc)
over_shown (Failed k) (Failed k') over over' h = cc
over_shown (Failed k) Lost over over' h = absurd (cc)
over_shown Lost (Finished block stack) over over' h = absurd (cc)
over_shown Lost (Failed k) over over' h = absurd (cc)
over_shown Lost Lost over over' h = refl

-- ends are over, and show what the ends of code show
end_over : (state : Activation) (r : Reply) → IsOver (end_with state r)
end_over state (Answers values) = tt
end_over state (TrapReply k) = tt

end_shown : (state : Activation) (r : Reply) → shown_by_code (Code.end_with state r) ≡ shown_by_tree (end_with state r)
end_shown state (Answers values) = refl
end_shown state (TrapReply k) = refl

-- where the engine goes on, the code does with the same stack
code_going : (o : Outcome) (t : TreeState) → shown_by_tree (On t) ≡ shown_by_code o → (c : Configuration) × (o ≡ Unfinished c) × (c.body.stack ≡ t.body.stack)
code_going (Unfinished c) t h = (c, refl, cc)
code_going (Returned block stack) t h = absurd (cc)
code_going (Trapped k) t h = absurd (cc)
code_going Stuck t h = absurd (cc)

-- where one of them is over, the other one is
over_too : (a : Answer) (o : Outcome) → shown_by_tree a ≡ shown_by_code o → Laws.IsOver o → IsOver a
over_too (On t) (Unfinished c) h over = over
over_too (On t) (Returned block stack) h over = absurd (cc)
over_too (On t) (Trapped k) h over = absurd (cc)
over_too (On t) Stuck h over = absurd (cc)
over_too (Finished block stack) o h over = tt
over_too (Failed k) o h over = tt
over_too Lost o h over = tt

over_there : (a : Answer) (o : Outcome) → shown_by_tree a ≡ shown_by_code o → IsOver a → Laws.IsOver o
over_there (On t) o h over = absurd over
over_there (Finished block stack) (Unfinished c) h over = absurd (cc)
over_there (Failed k) (Unfinished c) h over = absurd (cc)
over_there Lost (Unfinished c) h over = absurd (cc)
over_there a (Returned block stack) h over = tt
over_there a (Trapped k) h over = tt
over_there a Stuck h over = tt

module _ (program : Program) (reserve number : ℕ) (p : Procedure) (state : Activation) (arguments : List Scalar) (budget : ℕ) where
  abbrev by_code : ℕ → Outcome
  by_code = Code.after program (code_of program).instructions reserve (entry_of program.procedures number) p state arguments budget

  abbrev by_tree : ℕ → Answer
  by_tree = after_steps program reserve number p state arguments budget

  abbrev effect : Effect
  effect = meant program reserve number p state arguments budget

  same : (count : ℕ) → shown_by_tree (by_tree count) ≡ shown_by_code (by_code count)
  same count =
      tree_is_like_code program reserve number (variable_words program.variables) (arguments_of p.parameters arguments) budget (encoded state) count

  behaves : Code.Behaves program (code_of program).instructions reserve (entry_of program.procedures number) p state arguments budget →
      TreeBehaves program reserve number p state arguments budget
  behaves b = record {
    ends_so = λ count over.
        over_shown (by_tree count) (end_of effect) over (end_over effect.state effect.reply)
        (same count ∙ ap shown_by_code (b.ends_so count (over_there (by_tree count) (by_code count) (same count) over)) ∙ end_shown effect.state effect.reply);
    ends = λ count long. over_too (by_tree count) (by_code count) (same count) (b.ends count long);
    state_fits = b.state_fits;
    reply_fits = b.reply_fits;
    within = λ count t h.
        let c = code_going (by_code count) t (sym (ap shown_by_tree h) ∙ same count) in
        subst (λ (s : List ℤ). length s ≤ reserve) c.2 (b.within count c.0 c.1);
    work_within = λ count t h n.
        work_keeps_within program reserve number (variable_words program.variables) (arguments_of p.parameters arguments) budget (encoded state) count t h n;
  }

pub tree_is_correct : CodeIsCorrect → TreeIsCorrect
tree_is_correct code_correct program fine i p is exported state arguments budget typed fitting =
    behaves program (stack_words program.procedures) i p state arguments budget
    (code_correct program fine i p (entry_of program.procedures i) is exported (entry_is program i p is) state arguments budget typed fitting)
