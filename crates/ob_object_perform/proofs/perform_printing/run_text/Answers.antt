use Rattle.std.proofs.Common.{◌∙◌, ap, sym}
use Rattle.ob_text_record.specs.Record.{record_of}
use Rattle.ob_text_record.specs.RecordText.{record_text}
use Rattle.ob_typing.specs.Program.{Program}
use Rattle.ob_object_perform.proofs.perform_printing.run_text.Goals as goal

pub returns-clause-run : goal.returns-clause-run
returns-clause-run c =
    let shown = record_of c.in_ok-checked.record in
    let performs = c.in_ok-checked.ensures.performance in
    record {
      shown = shown;
      performs = performs;
      events = c.in_ok-checked.ensures.events;
      printed = c.in_ok-write_record.ensures
          ∙ ap (λ (p : Program). record_text p shown) (sym (c.in_ok-checked.ensures.alone performs.object.program performs.compiled.is_module));
    }
