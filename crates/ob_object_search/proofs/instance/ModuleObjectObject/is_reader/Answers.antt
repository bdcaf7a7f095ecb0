use Rattle.std.proofs.Common.{◌∙◌, ap, sym, Bool, false, List, get_or}
use Rattle.ob_checked.specs.CheckedModule.{program_in}
use Rattle.ob_object_search.proofs.Silent.{leaves_state}
use Rattle.wf_history.specs.View.{seen_call}
use Rattle.ob_object_search.proofs.instance.ModuleObjectObject.is_reader.Goals as goal

pub returns : goal.returns
returns c =
    let o = c.args.self.now in
    λ t before after reply. leaves_state (program_in o.checked.now) o.read_only.items o.tells o.budget (seen_call c.args.call) before after reply (ap (λ (l : List Bool). get_or l c.args.call.proc false) (sym c.deref.ensures.value) ∙ sym c.is_told.ensures ∙ t)
