use Rattle.std.proofs.Common.{◌≡◌, ◌+◌, ◌-◌, ◌∙◌, ap, arith, take}
use Rattle.ob_text_words.specs.Words.{lines}
use Rattle.ob_explain_sentences.specs.Places.{line_from}
use Rattle.ob_explained.specs.ScriptPlaces.{behind_feeds}
use Rattle.ob_explained.proofs.Feeds.{begun, line_told}
use Rattle.ob_explained.proofs.Lines.{shown_in}
use Rattle.ob_explained.proofs.script_place.script_line.Goals as goal

pub returns-clause-counted : goal.returns-clause-counted
returns-clause-counted c bytes is =
    let text = c.args.text.now in
    c.line_around.ensures.behind ∙ (ap (line_from text) c.behind_feeds-begin.ensures.count
    ∙ (ap (λ n. line_from text (behind_feeds n text)) c.saturating_sub.ensures ∙ line_told text (c.args.line - 1) bytes is))

pub returns-clause-placed : goal.returns-clause-placed
returns-clause-placed c bytes at is within =
    let text = c.args.text.now in
    let begin : c.behind_feeds-begin.result ≡ behind_feeds (c.args.line - 1) text =
    c.behind_feeds-begin.ensures.count ∙ ap (λ n. behind_feeds n text) c.saturating_sub.ensures in
    ap (λ n. lines (take (n + at) text)) begin ∙ begun text (c.args.line - 1) at bytes is within

pub returns-clause-shown : goal.returns-clause-shown
returns-clause-shown c bytes at first is within =
    let text = c.args.text.now in
    let begin : c.behind_feeds-begin.result ≡ behind_feeds (c.args.line - 1) text =
    c.behind_feeds-begin.ensures.count ∙ ap (λ n. behind_feeds n text) c.saturating_sub.ensures in
    let counted : 1 + (c.args.line - 1) ≡ c.args.line = omega (arith, first) in
    shown_in text (c.args.line - 1) (c.behind_feeds-begin.result + at) bytes (record { line = 1; column = 1 }) is
    (omega (arith, begin)) (omega (arith, begin, within)) ∙ counted
