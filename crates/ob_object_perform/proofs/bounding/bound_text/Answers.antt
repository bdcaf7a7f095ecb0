use Rattle.std.proofs.Common.{◌∙◌, ap}
use Rattle.ob_object_perform.specs.Numbers.{numbers_text}
use Rattle.ob_object_compile.specs.View.{object_in}
use Rattle.ob_object_perform.proofs.bounding.bound_text.Goals as goal

pub returns-clause-numbers : goal.returns-clause-numbers
returns-clause-numbers c = record {
  object = object_in c.in_ok-object.object;
  compiled = c.in_ok-object.ensures.object;
  printed = c.in_ok-numbers_text.ensures ∙ ap numbers_text c.numbers_of.ensures;
}
