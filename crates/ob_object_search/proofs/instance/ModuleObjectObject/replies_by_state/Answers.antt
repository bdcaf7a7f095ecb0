use Rattle.std.proofs.Common.{◌∙◌, ap, sym, Bool, false, List, get_or}
use Rattle.ob_checked.specs.CheckedModule.{program_in}
use Rattle.ob_object_search.proofs.Silent.{replies_so}
use Rattle.wf_history.specs.View.{seen_call}
use Rattle.ob_object_search.proofs.instance.ModuleObjectObject.replies_by_state.Goals as goal

pub returns : goal.returns
returns c =
    let o = c.args.self.now in
    λ t other same. replies_so (program_in o.checked.now) o.of_state.items o.tells_of_state o.budget (seen_call c.args.call) other (ap (λ (l : List Bool). get_or l c.args.call.proc false) (sym c.deref.ensures.value) ∙ sym c.is_told.ensures ∙ t) same
