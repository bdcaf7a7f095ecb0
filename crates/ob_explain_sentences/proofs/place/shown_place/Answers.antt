use Rattle.std.proofs.Common.{◌≡◌, ◌-◌, arith, length}
use Rattle.std.proofs.lemmas.Bool.Decides.{nat_tests}
use Rattle.std.proofs.lemmas.List.Sums.{suffix_len_is}
use Rattle.std.specs.Char.{is_ascii_whitespace}
use Rattle.std.specs.List.{suffix_len}
use Rattle.ob_explain_sentences.proofs.place.shown_place.Goals as goal

pub returns-else-at-text : goal.returns-else-at-text
returns-else-at-text c =
    let s = c.args.text.now in
    let h = c.trim_ascii_end.ensures.value in
    let tail = suffix_len_is is_ascii_whitespace s h.0 0 h.3 h.4 h.5 in
    let kept : length c.trim_ascii_end.result.now ≡ length s - suffix_len is_ascii_whitespace s = omega (arith, tail, h.2, h.3) in
    grind (arith, nat_tests, kept, c.if-at-text.false)
