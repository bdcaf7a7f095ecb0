use Rattle.std.proofs.Common.{string_bytes}
use Rattle.ob_picture.proofs.Appended.{three_and_more}
use Rattle.ob_picture.specs.Shapes.{helped_keys}
use Rattle.ob_picture.proofs.legend.push_helped_keys.Goals as goal

pub returns : goal.returns
unfolding helped_keys
returns c =
    three_and_more (string_bytes c.args.text.now) _ _ _ _ _ _ _ _ c.in_ok-push_line.ensures c.in_ok-push_circle.ensures c.in_ok-push_words.ensures c.in_ok-push_mark_key.ensures
