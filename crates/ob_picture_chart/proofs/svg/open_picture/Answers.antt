use Rattle.std.proofs.Common.{◌≡◌, ℕ, List, ◌++◌, append_assoc, codes, string_bytes}
use Rattle.ob_picture_chart.specs.Svg.{opening_text}
use Rattle.ob_picture_chart.proofs.svg.open_picture.Goals as goal

five_parts : (old a b c d e p q r s t : List ℕ) → p ≡ old ++ a → q ≡ p ++ b → r ≡ q ++ c → s ≡ r ++ d → t ≡ s ++ e → t ≡ old ++ (a ++ b ++ c ++ d ++ e)
five_parts old a b c d e p q r s t ap bp cp dp ep = rw (ep, dp, cp, bp, ap) (simp append_assoc)

pub returns : goal.returns
unfolding opening_text
returns c =
    five_parts (string_bytes c.args.text.now) (codes "<svg xmlns=\"http://www.w3.org/2000/svg\"") _ _ _ _ _ _ _ _ _ c.in_ok-push_str.ensures.bytes c.in_ok-push_view_box.ensures c.in_ok-push_size.ensures c.in_ok-push_str-2.ensures.bytes c.in_ok-push_style.ensures
