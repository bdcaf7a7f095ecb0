use Rattle.std.proofs.Common.{◌∙◌, sym}
use Rattle.std.proofs.lemmas.Bool.{false≢true}
use Rattle.ob_text_reading.specs.RecordLines.{begin}
use Rattle.ob_text_reading.proofs.OneEvent.{no_arguments, no_name}
use Rattle.ob_text_reading.proofs.Telling.{no_begin}
use Rattle.ob_text_reading.proofs.event.read_begin.Goals as goal

pub returns-in_default-next_word : goal.returns-in_default-next_word
returns-in_default-next_word c =
    let t = c.in-Some.ensures.taken in rw (t.parts, c.in_default-next_word.ensures.words) (λ e n. no_name _ _ _ _ e n.next)

pub returns-then-not-may_begin : goal.returns-then-not-may_begin
returns-then-not-may_begin c =
    let t = c.in-Some.ensures.taken in
    rw (t.parts, c.in-Some-next_word.ensures.words)
    (λ e n. no_begin _ _ _ _ _ e c.in-Some.id t.names (λ call h. false≢true (sym c.if-not-may_begin.true ∙ (c.may_begin.ensures call).1 h)) n)

pub returns-in_default-2 : goal.returns-in_default-2
returns-in_default-2 c =
    let t = c.in-Some.ensures.taken in
    rw (t.parts, c.in-Some-next_word.ensures.words)
    (λ e n. no_arguments _ _ _ _ _ _ e _ (sym c.in-Some-export_named.ensures) (rw (c.in_default-2.is, c.deref.ensures.value) at c.in_ok-args.ensures) n.next)

pub returns : goal.returns
returns c =
    let t = c.in-Some.ensures.taken in
    let m = (c.may_begin.ensures _).0 c.if-not-may_begin.false in
    rw (t.parts, c.in-Some-next_word.ensures.words, c.in_ok-kept.ensures.kept)
    (record {
      next = record {
        form = begin t.names (sym c.in-Some-export_named.ensures) (rw (c.in-Some-2.is, c.deref.ensures.value) at c.in_ok-args.ensures);
        place = m.turn;
      };
      few = m.few;
    })
