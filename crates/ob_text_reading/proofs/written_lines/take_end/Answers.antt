use Rattle.std.proofs.Common.{◌≡◌, ◌∷◌, ◌∙◌, ℕ, List, ap, map, sym, codes}
use Rattle.ob_interface.specs.Call.{Answers}
use Rattle.ob_interface.specs.View.{signature_of}
use Rattle.ob_text_words.specs.Words.{lines, words}
use Rattle.ob_text_reading.specs.RecordLines.{done}
use Rattle.ob_text_reading.proofs.written_lines.take_end.Goals as goal

pub returns-clause-taken : goal.returns-clause-taken
returns-clause-taken c =
    let taken = rw (c.in-Some-2.is, c.deref.ensures.value) at c.in_ok-values.ensures in
    let rest = map words (lines c.in-Some-2.rest.now) in
    let is : c.in-Some.kind.now ≡ codes "done" = c.is_done.ensures.0 c.if-not-is_done.false in
    record {
      line = codes "done" ∷ taken.line;
      parts = c.in-Some.ensures taken.line rest taken.parts ∙ ap (λ (w : List ℕ). (w ∷ taken.line) ∷ rest) is;
      export = c.in-Some-export_to_end.proc;
      reply = Answers c.in-Some-2.values.items;
      ends = c.in-Some-export_to_end.ensures;
      says = done {signature = signature_of c.in-Some-export_at.export.now} (sym c.in-Some-export_at.ensures) taken.says;
      leads = c.in_ok-end.ensures.ok;
    }
