-- One list more.
use Rattle.std.proofs.Common.{◌≡◌, ap, length, string_bytes}
use Rattle.std.proofs.lemmas.Option.{MatchOption-at_some}
use Rattle.std.specs.Option.{ForSome}
use Rattle.ob_answer_searches.proofs.Made.{none_right, one_longer, one_right}
use Rattle.ob_answer_searches.specs.RowTexts.{row_in}
use Rattle.ob_answer_searches.specs.WholeLines.{row_lines}
use Rattle.ob_answer_searches.proofs.listed_replies.process_texts.Goals as goal

pub loop-number-init : goal.loop-number-init
loop-number-init c = record {
  size = ap length c.in_ok-texts.ensures.items;
  made = none_right (λ number made. ForSome made (λ text. string_bytes text ≡ row_lines c.args.process 0 (row_in c.args.wholes.now number))) c.in_ok-texts.texts.items
      c.in_ok-texts.ensures.items;
}

pub loop-number-preserved : goal.loop-number-preserved
loop-number-preserved c =
    let i = c.loop-number.invariant in
    let one = c.in_ok-wanted_text.field-0 in
    record {
      size = one_longer c.loop-number.texts.items c.loop-number.number i.size one c.push.new.self.items c.in_ok-push.ensures.items;
      made = one_right (λ number made. ForSome made (λ text. string_bytes text ≡ row_lines c.args.process 0 (row_in c.args.wholes.now number))) c.loop-number.texts.items c.loop-number.number
          i.size i.made one (λ text is. MatchOption-at_some _ _ text is c.in_ok-wanted_text.ensures) c.push.new.self.items c.in_ok-push.ensures.items;
    }
