use Rattle.std.proofs.Common.{string_bytes}
use Rattle.ob_picture.proofs.Appended.{three_and_none}
use Rattle.ob_picture.specs.Shapes.{event_keys}
use Rattle.ob_picture.proofs.legend.push_event_keys.Goals as goal

pub returns : goal.returns
unfolding event_keys
returns c =
    three_and_none (string_bytes c.args.text.now) _ _ _ _ _ _ c.in_ok-push_words.ensures c.in_ok-push_words-2.ensures c.in_ok-push_words-3.ensures
