use Rattle.std.proofs.Common.{◌∙◌, ap, sym, Bool, false, List, get_or}
use Rattle.ob_checked.specs.CheckedModule.{program_in}
use Rattle.ob_object_search.proofs.Silent.{leaves_state}
use Rattle.wf_history.specs.View.{seen_call, seen_reply}
use Rattle.ob_object_search.proofs.instance.ModuleObjectObject.is_silent.Goals as goal

pub returns-else-matches : goal.returns-else-matches
returns-else-matches c =
    let o = c.args.self.now in
    λ t before after. leaves_state (program_in o.checked.now) o.read_only.items o.tells o.budget (seen_call c.args.call) before after (seen_reply c.args.reply) (ap (λ (l : List Bool). get_or l c.args.call.proc false) (sym c.deref.ensures.value) ∙ sym c.is_told.ensures ∙ t)
