use Rattle.std.proofs.Common.{Option, refl, ap, ◌∙◌}
use Rattle.ob_scan.specs.declared.token.Token.{Token}
use Rattle.ob_evidence.specs.Sites.{kind_of}
use Rattle.ob_diagnosis.proofs.told_by_tables.told.Goals as goal

pub told_by-requires-clause-sees : goal.told_by-requires-clause-sees
told_by-requires-clause-sees c = record {
  here = c.kind_of.ensures ∙ ap (λ (t : Option Token). kind_of t) c.here.ensures;
  last = c.kind_of-2.ensures ∙ ap (λ (t : Option Token). kind_of t) c.last.ensures;
  second = c.kind_of-3.ensures ∙ ap (λ (t : Option Token). kind_of t) c.second.ensures;
  next = c.kind_of-4.ensures ∙ ap (λ (t : Option Token). kind_of t) c.next.ensures;
  from = c.halves.ensures.behind;
  could = refl;
  word = c.undeclared.ensures;
  word_before = c.undeclared-2.ensures;
  called = c.undeclared-3.ensures;
}
