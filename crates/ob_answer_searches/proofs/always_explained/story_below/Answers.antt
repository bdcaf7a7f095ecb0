use Rattle.std.proofs.Common.{rules, string_bytes}
use Rattle.ob_object_outcomes.specs.Scripted.{scripted_in}
use Rattle.ob_answer_searches.proofs.always_explained.story_below.Goals as goal

pub returns : goal.returns
returns c = (scripted_in c.in-Ok.scripted, string_bytes c.in_ok-told.told, c.in-Ok.ensures.scripted, c.in_ok-told.ensures, search rules)
