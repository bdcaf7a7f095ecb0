use Rattle.std.proofs.Common.{◌≤◌, ℕ, ap, subst, sym}
use Rattle.std.proofs.lemmas.Result.{err_from_is_err_and}
use Rattle.ob_code_correct.specs.CodeMeaning.{EngineParts}
use Rattle.ob_meaning.specs.ByNameObject.{most_turns}
use Rattle.ob_object_compile.specs.Compilation.{IsAny}
use Rattle.ob_object_compile.specs.View.{tree_object_in}
use Rattle.ob_object_perform.proofs.Readings.{performs}
use Rattle.ob_object_perform.proofs.Refusals.{run_refused}
use Rattle.ob_object_perform.specs.Texts.{texts_of}
use Rattle.ob_text_record.specs.Record.{record_of}
use Rattle.ob_object_perform.proofs.TreeObjects.{of_code}
use Rattle.ob_object_perform.proofs.OneText.{text_of_code}
use Rattle.ob_object_perform.proofs.tree_performing.performed_tree.Goals as goal

pub run_on_tree-requires-clause-within : goal.run_on_tree-requires-clause-within
run_on_tree-requires-clause-within c =
    let compiled = c.in_ok-object.ensures.read.compiled in
    subst (λ (k : ℕ). k ≤ most_turns) (sym (ap (λ (e : EngineParts). e.budget) compiled.engine_is)) compiled.within

pub returns-in_err-record-clause-refused : goal.returns-in_err-record-clause-refused
returns-in_err-record-clause-refused c =
    let p = err_from_is_err_and c.from_residual-in_err-record.result c.from_residual-in_err-record.ensures.1 in
    rw (p.1, p.2)
    (run_refused IsAny (texts_of c.args.texts) (tree_object_in c.in_ok-object.object) c.in_ok-object.calls c.in_ok-object.items.items c.in_ok-object.ensures.read
    c.in_err-record.field-0.0 c.in_err-record.ensures.fault c.in_err-record.ensures.none)

pub returns-clause-performance : goal.returns-clause-performance
returns-clause-performance c =
    performs IsAny (texts_of c.args.texts) (tree_object_in c.in_ok-object.object) c.in_ok-object.calls c.in_ok-object.items.items c.in_ok-object.ensures.read
    (record_of c.in_ok-record.record) c.in_ok-record.ensures.shows c.in_ok-record.ensures.meant

pub returns-clause-coded : goal.returns-clause-coded
returns-clause-coded c =
    of_code (texts_of c.args.texts) (tree_object_in c.in_ok-object.object).program c.in_ok-object.ensures.read.alone
    (record_of c.in_ok-record.record) (returns-clause-performance c)

pub returns-clause-same : goal.returns-clause-same
returns-clause-same c = λ other p.
    text_of_code c.texts_agree.ensures (texts_of c.args.texts) (tree_object_in c.in_ok-object.object) c.in_ok-object.calls c.in_ok-object.items.items c.in_ok-object.ensures.read
    (record_of c.in_ok-record.record) c.in_ok-record.ensures.shows c.in_ok-record.ensures.meant c.in_ok-record.ensures.whole other p
