use Rattle.std.proofs.Common.{string_bytes}
use Rattle.ob_picture.proofs.Appended.{four_and_none}
use Rattle.ob_picture.specs.Shapes.{word_keys}
use Rattle.ob_picture.proofs.legend.push_word_keys.Goals as goal

pub returns : goal.returns
unfolding word_keys
returns c =
    four_and_none (string_bytes c.args.text.now) _ _ _ _ _ _ _ _ c.in_ok-push_words.ensures c.in_ok-push_words-2.ensures c.in_ok-push_words-3.ensures c.in_ok-push_words-4.ensures
