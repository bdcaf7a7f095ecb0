use Rattle.std.proofs.Common.{append-nil}
use Rattle.ob_picture.proofs.drawing.push_mark_words.Goals as goal

pub returns-in-Some : goal.returns-in-Some
returns-in-Some c = rw (c.in-Some.is, append-nil) c.push_words.ensures
