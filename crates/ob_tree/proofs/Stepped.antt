-- A step is what the task in front does, and the work behind it opened.
use Rattle.std.proofs.Common.{◌≡◌, ◌≢◌, ℕ, ◌+◌, ◌≤◌, Bool, false, ℤ, List, [], ◌∷◌, length, ap, sym, ◌∙◌, subst, arith}
use Rattle.std.specs.Prelude.{if◌then◌else◌}
use Rattle.ob_typing.specs.Program.{Program}
use Rattle.ob_code_scheme.specs.Types.{Scope, variables_scope}
use Rattle.ob_code_scheme.specs.Scheme.{entry_of, code_of}
use Rattle.ob_code_scheme.specs.WellFormed.{IsWellFormed}
use Rattle.wf_table.specs.declared.engine_turn.EngineTurn.{EngineTurn}
use Rattle.wf_table.specs.declared.engine_turn.EngineTurn.TheVariants.{On}
use Rattle.wf_table.specs.Meaning.{Turned}
use Rattle.ob_tree_law.specs.Work.{Task, TreeState, Answer, settled, opened_by, does_first, step}
use Rattle.ob_tree_law.specs.Work as Work
use Rattle.ob_tree_law.specs.Reserve.{activation_most, AnswerKeepsWithin}
use Rattle.ob_tree_law.proofs.Opening.{opened_by_kept}
use Rattle.ob_tree_law.proofs.Ready.{IsReady, opened_left}
use Rattle.ob_tree_law.proofs.Within.{opened_by_low, step_keeps, within_reserve}
use Rattle.ob_tree_law.specs.TreeEngine.{TreeRun, tree_shown, tree_step, IsOpened, IsTreeReady}
use Rattle.ob_tree_law.proofs.TreeLaw.{AnswerStands, step_stands}
use Rattle.ob_tree_tasks.specs.Opening.{CanBeOpened}
use Rattle.ob_tree.specs.Acting.{state_in, Comes}
use Rattle.ob_tree.proofs.Fronts.{first_fits}

module _ (program : Program) where
  abbrev g : Scope
  g = variables_scope program.variables

  abbrev most : ℕ
  most = activation_most program.procedures

  is_ready : (work : List Task) → IsOpened program work → IsReady g work
  is_ready [] h = tt
  is_ready (t ∷ rest) h = h

  -- ---- what is shown

  pub shown_on : (run : TreeRun) (before : List ℤ) (a : Answer) (turn : EngineTurn) (new : TreeRun) (after : List ℤ) → Comes turn new after run before a → turn ≡ On →
      let t : Turned TreeRun = record { turn = turn; run = record new { body = settled g new.body }; block = after } in t ≡ tree_shown program run before a
  shown_on run before (Work.On t) turn new after h on = ap (λ (x : Turned TreeRun). record { turn = x.turn; run = record x.run { body = settled g x.run.body }; block = x.block }) h
  shown_on run before (Work.Finished left stack) turn new after h on = let e = ap (λ (x : Turned TreeRun). x.turn) h in absurd (cc)
  shown_on run before (Work.Failed k) turn new after h on = let e = ap (λ (x : Turned TreeRun). x.turn) h in absurd (cc)
  shown_on run before Work.Lost turn new after h on = let e = ap (λ (x : Turned TreeRun). x.turn) h in absurd (cc)

  pub shown_off : (run : TreeRun) (before : List ℤ) (a : Answer) (turn : EngineTurn) (new : TreeRun) (after : List ℤ) → Comes turn new after run before a → turn ≢ On →
      let t : Turned TreeRun = record { turn = turn; run = new; block = after } in t ≡ tree_shown program run before a
  shown_off run before (Work.On t) turn new after h off = absurd (off (ap (λ (x : Turned TreeRun). x.turn) h))
  shown_off run before (Work.Finished left stack) turn new after h off = h
  shown_off run before (Work.Failed k) turn new after h off = h
  shown_off run before Work.Lost turn new after h off = h

  module _ (run : TreeRun) (ready : IsTreeReady program run) where
    -- room for what the task in front puts there
    pub has_room : length run.body.work + 3 ≤ run.room
    has_room =
        let few = within_reserve program run.reserve 0 run.body ready.within in
        let room = ready.room in
        omega (arith, few, room)

    module _ (before : List ℤ) where
      abbrev answer : Answer
      answer = does_first program run.reserve run.body.work (state_in run before)

      step_is : step program run.reserve (state_in run before) ≡ answer
      step_is =
          ap (λ (ts : List Task). does_first program run.reserve ts (state_in run before)) (opened_left g run.body.work (is_ready run.body.work ready.opened))

      pub step_shown : run.is_over ≡ false → tree_shown program run before answer ≡ tree_step program run before
      step_shown over =
          ap (tree_shown program run before) (sym step_is)
          ∙ ap (λ (b : Bool). tree_shown program run before (if b then Work.Lost else step program run.reserve (state_in run before))) (sym over)

      answer_keeps : AnswerKeepsWithin most answer
      answer_keeps = subst (AnswerKeepsWithin most) step_is (step_keeps program run.reserve (state_in run before) ready.within)

      answer_stands : AnswerStands program 0 answer
      answer_stands = subst (AnswerStands program 0) step_is (step_stands program 0 run.reserve before run.body ready.stands)

    opens_by : ∥ IsWellFormed program ∥₁ → (before : List ℤ) (a : Answer) → AnswerKeepsWithin most a → AnswerStands program 0 a → (turn : EngineTurn) (new : TreeRun) (after : List ℤ) → Comes turn new after run before a → turn ≡ On →
        CanBeOpened g (record { room = new.room; tasks = new.body.work })
    opens_by well before (Work.On s) keeps stands turn new after h on =
        subst (λ (x : Turned TreeRun). CanBeOpened g (record { room = x.run.room; tasks = x.run.body.work })) (sym h)
        (λ n.
        first_fits program well run.room (length s.body.saved) (opened_by g n s.body.work) stands.pc stands.saved ready.room keeps.depth
        (opened_by_low g most n (length s.body.saved) s.body.work keeps.low)
        (opened_by_kept (code_of program).instructions g (entry_of program.procedures) stands.saved n stands.pc s.body.work stands.stands))
    opens_by well before (Work.Finished left stack) keeps stands turn new after h on = let e = ap (λ (x : Turned TreeRun). x.turn) h in absurd (cc)
    opens_by well before (Work.Failed k) keeps stands turn new after h on = let e = ap (λ (x : Turned TreeRun). x.turn) h in absurd (cc)
    opens_by well before Work.Lost keeps stands turn new after h on = let e = ap (λ (x : Turned TreeRun). x.turn) h in absurd (cc)

    pub can_open : ∥ IsWellFormed program ∥₁ → (before : List ℤ) (turn : EngineTurn) (new : TreeRun) (after : List ℤ) → Comes turn new after run before (answer before) → turn ≡ On →
        CanBeOpened g (record { room = new.room; tasks = new.body.work })
    can_open well before turn new after h on = opens_by well before (answer before) (answer_keeps before) (answer_stands before) turn new after h on
