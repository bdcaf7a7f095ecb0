use Rattle.std.proofs.Common.{refl}
use Rattle.ob_diagnosis.proofs.syntax.name_remark.Goals as goal

pub told-requires : goal.told-requires
told-requires c = record {
  renamed = c.is_renamed.result;
  opening = c.open_around-opening.result;
  name = rw (c.word_of-wanted.ensures, c.end_name-name.ensures) refl;
  is_open = c.open_around-opening.ensures;
  keyword = c.kind_or_name.ensures;
  line = c.line_of.ensures;
  lone = c.lone_end-lone.result;
  are_lone = c.lone_end-lone.ensures;
  lone_name = c.word_of-lone_name.ensures;
  lone_line = c.line_of-lone_line.ensures;
  noted = rw (c.of_facts.ensures, c.deref.ensures.value, c.in_ok-facts.ensures, c.is_token.ensures, c.is_token-2.ensures, c.is_token-3.ensures, c.is_kind.ensures, c.end_name-name.ensures) refl;
}
