use Rattle.std.proofs.Common.{sym}
use Rattle.ob_interface.specs.View.{signature_of}
use Rattle.ob_text_reading.specs.RecordLines.{done}
use Rattle.ob_text_reading.proofs.OneEvent.{no_done}
use Rattle.ob_text_reading.proofs.line.read_done.Goals as goal

pub returns-in_default-2 : goal.returns-in_default-2
returns-in_default-2 c =
    λ reply h. no_done _ _ _ reply (signature_of c.in-Some.export.now) (sym c.in-Some.ensures) (rw (c.in_default-2.is, c.deref.ensures.value) at c.in_ok-values.ensures) h

pub returns : goal.returns
returns c = done {signature = signature_of c.in-Some.export.now} (sym c.in-Some.ensures) (rw (c.in-Some-2.is, c.deref.ensures.value) at c.in_ok-values.ensures)
