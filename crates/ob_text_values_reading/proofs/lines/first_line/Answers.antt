use Rattle.std.proofs.Common.{◌≡◌, ◌∙◌, ◌+◌, ◌==◌, Some, None, ap, map, sym}
use Rattle.std.specs.List.{position}
use Rattle.std.proofs.lemmas.List.{take_rest}
use Rattle.ob_text_words.specs.Words.{words}
use Rattle.ob_text_values_reading.proofs.FirstLines.{only_part, part_at}
use Rattle.ob_text_values_reading.proofs.SaidLines.{front_alone}
use Rattle.ob_text_values_reading.proofs.lines.first_line.Goals as goal

pub returns-in-Some-clause-lines : goal.returns-in-Some-clause-lines
returns-in-Some-clause-lines c =
    let place : position (λ b. b == 10) c.args.text.now ≡ Some c.in-Some.place = sym c.feed_in.ensures ∙ c.in-Some.is in
    rw (take_rest c.args.text.now (c.in-Some.place + 1))
    (ap (map words) (part_at (λ b. b == 10) c.args.text.now 0 c.in-Some.place place))

pub returns-in-Some-clause-alone : goal.returns-in-Some-clause-alone
returns-in-Some-clause-alone c = ap (map words) (front_alone (λ b. b == 10) c.args.text.now c.in-Some.place (sym c.feed_in.ensures ∙ c.in-Some.is))

pub returns-in-None-clause-lines : goal.returns-in-None-clause-lines
returns-in-None-clause-lines c =
    let none : position (λ b. b == 10) c.args.text.now ≡ None = sym c.feed_in.ensures ∙ c.in-None.is in
    ap (map words) (only_part (λ b. b == 10) c.args.text.now none)

pub returns-in-None-clause-alone : goal.returns-in-None-clause-alone
returns-in-None-clause-alone c =
    let none : position (λ b. b == 10) c.args.text.now ≡ None = sym c.feed_in.ensures ∙ c.in-None.is in
    ap (map words) (only_part (λ b. b == 10) c.args.text.now none)
