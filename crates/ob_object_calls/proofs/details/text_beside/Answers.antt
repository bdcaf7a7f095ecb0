use Rattle.std.proofs.Common.{◌≡◌, ◌<◌, ◌∙◌, ℕ, List, All, ap, map, string_bytes, subst, sym}
use Rattle.ob_interface.specs.Call.{Reply}
use Rattle.ob_interface.specs.View.{reply_of}
use Rattle.ob_object_compile.specs.View.{object_in}
use Rattle.ob_object_calls.proofs.SequenceByCode.{asked_in}
use Rattle.ob_object_calls.proofs.Runs.{callers_below}
use Rattle.ob_object_calls.specs.DetailLines.{told_lines}
use Rattle.ob_object_calls.specs.DetailedRun.{replies_at}
use Rattle.ob_text_words.specs.declared.script_call.ScriptCall.{ScriptCall}
use Rattle.ob_object_calls.proofs.details.text_beside.Goals as goal

pub print_told-requires : goal.print_told-requires
print_told-requires c =
    callers_below c.processes.result c.args.calls.now c.deref.result.now (c.deref.ensures.value ∙ c.in_ok-callers.ensures)
    (subst (λ (n : ℕ). All (λ (x : ScriptCall). x.process < n) c.args.calls.now) (sym c.processes.ensures) c.requires.processes)

lines_of : (turns : List ℕ) (changes : List (List ℕ)) (callers processes : List ℕ) → callers ≡ processes → (rs replies : List Reply) → rs ≡ replies →
    told_lines turns changes callers rs ≡ told_lines turns changes processes replies
lines_of turns changes callers processes is rs replies same = cc

pub returns : goal.returns
returns c =
    let o = object_in c.args.object.now in
    c.in_ok-print_told.ensures
    ∙ lines_of c.args.beside.turns.now (map string_bytes c.args.beside.changes.now) _ (map (λ (x : ScriptCall). x.process) c.args.calls.now)
    (c.deref.ensures.value ∙ c.in_ok-callers.ensures) _ (replies_at o (asked_in c.args.calls.now) o.engine.budget) (ap (map reply_of) c.deref-2.ensures.value ∙ c.in_ok-replies.ensures)
