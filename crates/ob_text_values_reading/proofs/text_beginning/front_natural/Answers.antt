use Rattle.std.proofs.Common.{◌≡◌, ◌≤◌, ◌-◌, ◌∷◌, ◌∙◌, drop, length, sym, take, true, arith, rules}
use Rattle.std.proofs.lemmas.List.{take_rest}
use Rattle.ob_text_values_reading.specs.LineBeginnings.{ends_word}
use Rattle.ob_text_values_reading.proofs.WrittenWords.{natural_begins}
use Rattle.ob_text_values_reading.proofs.text_beginning.front_natural.Goals as goal

pub returns : goal.returns
returns c =
    let front = c.front_number-number in
    let some : 1 ≤ front.result.1 = omega arith in
    let parts : take (length c.args.text.now - front.result.1) (drop front.result.1 c.args.text.now) ≡ c.in_ok-ender.ender.now ∷ c.in_ok-ender._rest.now = search rules in
    let behind : drop front.result.1 c.args.text.now ≡ c.in_ok-ender.ender.now ∷ c.in_ok-ender._rest.now = sym (take_rest c.args.text.now front.result.1) ∙ parts in
    let ends : ends_word c.in_ok-ender.ender.now ≡ true = search rules in
    rw (take_rest c.args.text.now front.result.1, c.in_ok-value.ensures.0)
    (natural_begins c.args.text.now front.result.0 front.result.1 _ _ front.ensures.digits front.ensures.spells some front.ensures.few front.ensures.within c.in_ok-value.ensures.1 behind ends)
