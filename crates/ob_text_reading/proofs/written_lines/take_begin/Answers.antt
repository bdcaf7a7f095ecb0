use Rattle.std.proofs.Common.{map, sym}
use Rattle.ob_interface.specs.View.{signature_of}
use Rattle.ob_text_words.specs.Words.{lines, words}
use Rattle.ob_text_reading.proofs.written_lines.take_begin.Goals as goal

pub begin-requires-clause-next : goal.begin-requires-clause-next
begin-requires-clause-next c = (c.may_begin.ensures _).0 c.if-not-may_begin.false

pub returns-clause-taken : goal.returns-clause-taken
returns-clause-taken c =
    let taken = rw (c.in-Some-2.is, c.deref.ensures.value) at c.in_ok-args.ensures in
    record {
      name = c.in-Some.name.now;
      line = taken.line;
      parts = c.in-Some.ensures taken.line (map words (lines c.in-Some-2.rest.now)) taken.parts;
      signature = signature_of c.in-Some-export_named.export.now;
      call = record { export = c.in-Some-export_named.proc; arguments = c.in-Some-2.args.items };
      named = sym c.in-Some-export_named.ensures;
      says = taken.says;
      turn = (c.may_begin.ensures _).0 c.if-not-may_begin.false;
      leads = c.in_ok-begin.ensures.ok;
    }
