use Rattle.std.proofs.Common.{◌≡◌, ◌∙◌, ◌++◌, ℕ, List, ap, map, string_bytes}
use Rattle.ob_interface.specs.Call.{ObjectCall}
use Rattle.ob_mean.specs.Sequences.{replies_to}
use Rattle.ob_mean.specs.View.{call_of}
use Rattle.ob_object_compile.specs.View.{object_in}
use Rattle.ob_object_calls.proofs.SequenceByCode.{asked_in}
use Rattle.ob_object_calls.specs.DetailLines.{budget_line, told_lines}
use Rattle.ob_object_calls.specs.DetailedRun.{replies_at}
use Rattle.ob_meaning.specs.ByPositionStore.{Activation}
use Rattle.ob_text_words.specs.declared.script_call.ScriptCall.{ScriptCall}
use Rattle.ob_mean.specs.Turns.{IsLeastBudget, all_turns_at}
use Rattle.ob_typing.specs.Program.{Program}
use Rattle.ob_object_calls.proofs.details.text_with_turns.Goals as goal

-- the same calls of the same program, from the same state, with the same budget
module _ (p q : Program) (program : p ≡ q) (b d : ℕ) (budget : b ≡ d) (s t : Activation) (opening : s ≡ t) (xs ys : List ObjectCall) (calls : xs ≡ ys) where
  turns_of : all_turns_at p b s xs ≡ all_turns_at q d t ys
  turns_of = cc

  least_of : (least : ℕ) → IsLeastBudget (λ n. replies_to p n s xs) b least → IsLeastBudget (λ n. replies_to q n t ys) d least
  least_of least h = rw (← program, ← budget, ← opening, ← calls) h

pub returns : goal.returns
returns c =
    let o = object_in c.args.object.now in
    let calls = asked_in c.args.calls.now in
    let asked = ap (map call_of) c.deref.ensures.value ∙ c.in_ok-asked.ensures in
    let least = c.in_ok-turns.turns.least in
    let begun = c.in_ok-opening.ensures ∙ c.opening.ensures in
    let changes = map string_bytes c.args.changes.now in
    let processes = map (λ (x : ScriptCall). x.process) c.args.calls.now in
    let turns = c.deref-2.ensures.value ∙ c.in_ok-turns.ensures.taken
    ∙ turns_of _ o.program c.checked.ensures.program _ o.engine.budget c.budget.ensures _ o.opening begun _ calls asked in (
      least,
      (
        least_of _ o.program c.checked.ensures.program _ o.engine.budget c.budget.ensures _ o.opening begun _ calls asked least c.in_ok-turns.ensures.least,
        c.in_ok-push_budget_line.ensures
            ∙ ap (λ lines. lines ++ budget_line least)
            (c.in_ok-text.ensures ∙ ap (λ ts. told_lines ts changes processes (replies_at o calls o.engine.budget)) turns),
      ),
    )
