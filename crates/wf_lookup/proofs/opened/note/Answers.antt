use Rattle.std.proofs.Common.{◌∙◌, ap, rules, tests}
use Rattle.std.proofs.lemmas.Fn.{filter_same}
use Rattle.std.specs.Prelude.{not}
use Rattle.ob_interface.specs.Call.{ObjectCall, Reply}
use Rattle.wf_lookup.specs.Beginnings.{is_same, open_behind}
use Rattle.wf_history.specs.History.{Event}
use Rattle.wf_history.specs.declared.event.CallId.{CallId}
use Rattle.wf_lookup.proofs.opened.note.Goals as goal

pub returns-in-End : goal.returns-in-End
returns-in-End c =
    let kept = filter_same _ (λ (o : CallId). not (is_same c.in-End.id o)) _ (λ x b q k. search (rules, tests)) c.args.ids.now.items c.retain.new.self.items c.retain.ensures.filtered in
    kept ∙ ap (λ (e : Event ObjectCall Reply). open_behind c.args.ids.now.items e) c.in-End.ensures
