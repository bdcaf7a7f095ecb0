use Rattle.std.proofs.Common.{◌+◌, ◌<◌, length, sym, ◌∙◌, arith}
use Rattle.ob_text_words.proofs.LineWords.{no_blank_more, no_blank_yet, said_all, said_more}
use Rattle.ob_text_words.proofs.words.put_words.Goals as goal
use Rattle.ob_text_words.proofs.words.put_words.Goals.{then-is_blank+in_ok-push_word, else-is_blank}

pub loop-index-preserved : goal.loop-index-preserved
loop-index-preserved c =
    let line = c.args.line.now in
    let start = c.loop-index.start in
    let i = c.loop-index.index in
    let before = c.loop-index.invariant in
    let within : i < length line = omega arith in
    elim c.if-is_blank.branch [
      | then-is_blank+in_ok-push_word w ↦ record {
        started = omega (arith, w.start-is);
        unbroken = rw w.start-is (no_blank_yet line (i + 1));
        said = rw (w.list-is, w.start-is) (said_more line start i _ _ before.started within (sym c.is_blank.ensures ∙ w.if-is_blank.true) before.unbroken w.in_ok-push_word.ensures before.said);
      }
      | else-is_blank w ↦ record {
        started = omega (arith, w.start-is, before.started);
        unbroken = rw w.start-is (no_blank_more line start i before.started within (sym c.is_blank.ensures ∙ w.if-is_blank.false) before.unbroken);
        said = rw (w.list-is, w.start-is) before.said;
      }
    ]

pub returns : goal.returns
returns c =
    let before = c.loop-index.invariant in
    said_all c.args.line.now c.loop-index.start c.loop-index.index _ _ c.push_word-2.result (omega arith) before.unbroken before.said c.push_word-2.ensures
