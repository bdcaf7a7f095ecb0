use Rattle.std.proofs.Common.{codes, string_bytes}
use Rattle.ob_picture.proofs.Appended.{four_parts}
use Rattle.ob_picture.specs.Shapes.{heading_words}
use Rattle.ob_picture.proofs.drawing.push_heading_words.Goals as goal

pub returns : goal.returns
unfolding heading_words
returns c =
    four_parts (string_bytes c.args.text.now) (codes "processes: ") _ _ _ _ _ _ _ c.in_ok-push_str.ensures.bytes c.in_ok-push_number.ensures.ok c.in_ok-push_str-2.ensures.bytes c.in_ok-push_calls.ensures
