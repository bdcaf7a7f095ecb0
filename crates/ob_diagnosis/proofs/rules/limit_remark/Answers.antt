use Rattle.std.proofs.Common.{refl}
use Rattle.ob_diagnosis.proofs.rules.limit_remark.Goals as goal

pub told-requires : goal.told-requires
told-requires c = record {
  count = rw (c.told_words.ensures, c.in_ok-words.ensures) refl;
  noted =
      rw (
        c.of_facts.ensures,
        c.deref.ensures.value,
        c.in_ok-facts.ensures,
        c.is_in_parens.ensures,
        c.is_in_procedure.ensures,
        c.is_counted.ensures,
        c.are_told.ensures,
        c.in_ok-words.ensures,
      ) refl;
}
