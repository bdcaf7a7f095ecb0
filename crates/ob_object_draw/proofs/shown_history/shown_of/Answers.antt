use Rattle.std.proofs.Common.{◌∙◌, ◌<◌, ◌≤◌, ℕ, List, ap, length, subst, sym}
use Rattle.std.proofs.lemmas.List.{length-map}
use Rattle.std.proofs.lemmas.Result.{err_from_is_err_and}
use Rattle.ob_checked.specs.CheckedModule.{program_in}
use Rattle.ob_interface.specs.Call.{ObjectCall, Reply}
use Rattle.ob_interface.specs.Processes.{most_processes}
use Rattle.ob_object_draw.proofs.Seen.{fault_apart, fault_heard, shows_heard}
use Rattle.ob_object_search.proofs.Recorded.{many_heard}
use Rattle.ob_store.specs.View.{state_of}
use Rattle.ob_text_reading.specs.Names.{named, named_all}
use Rattle.wf_lookup.specs.Beginnings.{process_count}
use Rattle.wf_history.specs.History.{Event}
use Rattle.ob_object_draw.proofs.shown_history.shown_of.Goals as goal

abbrev Events : Type 0
Events = List (Event ObjectCall Reply)

pub returns-in_default-clause-fault : goal.returns-in_default-clause-fault
returns-in_default-clause-fault c = λ calls.
    many_heard (program_in c.args.checked.now) c.args._text.now c.args.search.now.budget c.args.heard.now c.requires
    (subst (λ (es : Events). most_processes < process_count es)
    (c.events.ensures.value ∙ c.in_ok-history.ensures ∙ ap (λ (ns : List ℕ). named_all ns c.args.heard.now.read.history) c.as_slice-names.ensures.value) c.in_default.ensures)

pub returns-in_err-part-clause-fault : goal.returns-in_err-part-clause-fault
returns-in_err-part-clause-fault c =
    let p = err_from_is_err_and c.from_residual-in_err-part.result c.from_residual-in_err-part.ensures.1 in
    λ calls. rw (p.1, p.2)
    (fault_heard (program_in c.args.checked.now) c.args._text.now c.args.search.now.budget c.args.heard.now c.requires c.in_ok-object.object c.as_slice-names.result.now
    (ap program_in c.in_ok-object.ensures.checked) c.in_ok-object.ensures.budget (ap state_of c.in_ok-object.ensures.opening) c.as_slice-names.ensures.value
    c.args.search.now.most calls c.in_err-part.field-0.0 c.in_err-part.ensures.fault)

pub returns-in_err-part-clause-memory : goal.returns-in_err-part-clause-memory
returns-in_err-part-clause-memory c =
    let p = err_from_is_err_and c.from_residual-in_err-part.result c.from_residual-in_err-part.ensures.1 in
    rw (p.1, p.2) (fault_apart c.in_ok-object.object c.args.heard.now.read.history c.as_slice-names.result.now c.args.search.now.most c.in_err-part.field-0.0 c.in_err-part.ensures.fault)

pub returns-clause-shown : goal.returns-clause-shown
returns-clause-shown c =
    let size = ap (λ (es : Events). length es) c.in_ok-history.ensures ∙ length-map c.args.heard.now.read.history (named c.as_slice-names.result.now) in
    let within = c.in_ok-part.ensures.within in
    shows_heard (program_in c.args.checked.now) c.args._text.now c.args.search.now.budget c.args.heard.now c.requires c.in_ok-object.object c.as_slice-names.result.now
    (ap program_in c.in_ok-object.ensures.checked) c.in_ok-object.ensures.budget (ap state_of c.in_ok-object.ensures.opening) c.as_slice-names.ensures.value
    _ c.in_ok-history.ensures (c.in-Some.ensures.0 ∙ ap process_count c.events.ensures.value) c.in-Some.ensures.1
    (subst (λ (n : ℕ). c.in_ok-part.part.count ≤ n) (sym size) within) c.in_ok-part.ensures.shown
