use Rattle.std.proofs.Common.{refl}
use Rattle.ob_evidence.specs.Sites.{scene_of}
use Rattle.ob_diagnosis.proofs.Asked.{asked_or_name}
use Rattle.ob_diagnosis.proofs.syntax.expected_remark.Goals as goal

pub told-requires : goal.told-requires
told-requires c = record {
  shown = c.in_ok-found.found.shown;
  are_shown = c.in_ok-found.ensures.shown;
  expected = c.requires;
  name = rw (c.word_of-before.ensures, c.last-last.ensures) refl;
  keyword = rw (c.kind_or_name.ensures, c.opening_of-opening.ensures) refl;
  line = rw (c.line_of.ensures, c.opening_of-opening.ensures) refl;
  lone = c.lone_end-lone.result;
  are_lone = c.lone_end-lone.ensures;
  lone_name = c.word_of-lone_name.ensures;
  lone_line = c.line_of-lone_line.ensures;
  asked = asked_or_name (scene_of c.args.site.now) c.in_ok-found.found.keyword c.unwrap_or.result c.unwrap_or.ensures c.in_ok-found.ensures.asked;
  other_line = rw (c.line_of-2.ensures, c.inner_of.ensures) refl;
}
