use Rattle.std.proofs.Common.{◌≡◌, ◌∙◌, ap, false, sym, true}
use Rattle.std.proofs.lemmas.Result.{err_from_is_err_and}
use Rattle.ob_object_compile.specs.Compilation.{IsAny}
use Rattle.ob_object_perform.specs.Performance.{IsRefusal}
use Rattle.ob_object_perform.specs.Texts.{Texts, texts_of}
use Rattle.ob_object_perform.specs.declared.performing.PerformFault.TheVariants as Faults
use Rattle.ob_text_record.specs.Record.{record_of}
use Rattle.ob_text_record.specs.RecordText.{record_text}
use Rattle.ob_typing.specs.Program.{Program}
use Rattle.ob_object_perform.proofs.tree_printing.run_tree_text.Goals as goal

no_memory : (t : Texts) → IsRefusal IsAny t Faults.NoMemory
no_memory t = record {
  says = tt;
  none = λ h p. let bad : true ≡ false = h.0 in cc;
  unread = λ h. absurd h;
  memory = tt;
}

pub returns-in_err-write_record-clause-refused : goal.returns-in_err-write_record-clause-refused
returns-in_err-write_record-clause-refused c =
    let p = err_from_is_err_and c.from_residual-in_err-write_record.result c.from_residual-in_err-write_record.ensures.1 in
    rw (p.1, p.2) (no_memory (texts_of c.args.texts))

pub returns-clause-run : goal.returns-clause-run
returns-clause-run c =
    let shown = record_of c.in_ok-object.record in
    let performs = c.in_ok-object.ensures.performance in
    record {
      shown = shown;
      performs = performs;
      events = c.in_ok-object.ensures.events;
      printed = c.in_ok-write_record.ensures
          ∙ ap (λ (p : Program). record_text p shown) (c.checked.ensures.program ∙ sym (c.in_ok-object.ensures.alone performs.object.program performs.compiled.is_module));
    }

pub returns-clause-same : goal.returns-clause-same
returns-clause-same c = λ other is.
    is.printed ∙ c.in_ok-object.ensures.same is.shown is.performs
    ∙ ap (λ (p : Program). record_text p (record_of c.in_ok-object.record)) (c.in_ok-object.ensures.alone is.performs.object.program is.performs.compiled.is_module ∙ sym c.checked.ensures.program)
    ∙ sym c.in_ok-write_record.ensures
