use Rattle.std.proofs.Common.{refl}
use Rattle.ob_diagnosis.proofs.rules.sort_remark.Goals as goal

pub told-requires : goal.told-requires
told-requires c = rw (c.of_facts.ensures, c.deref.ensures.value, c.in_ok-note_whole.ensures, c.in_ok-facts.ensures, c.sort_there.ensures) refl
