use Rattle.std.proofs.Common.{◌≤◌, sym, arith}
use Rattle.std.proofs.lemmas.List.{take_rest}
use Rattle.ob_text_values_reading.proofs.WrittenWords.{front_word_said}
use Rattle.ob_text_values_reading.proofs.text_beginning.front_word.Goals as goal

pub returns : goal.returns
returns c =
    let some : 1 ≤ c.in_ok-place.place = omega arith in
    rw (take_rest c.args.text.now c.in_ok-place.place) (front_word_said c.args.text.now c.in_ok-place.place (sym c.in_ok-place.ensures) some)
