use Rattle.ob_object_compile.specs.Compilation.{IsAny, IsShort}
use Rattle.ob_laws.proofs.Runs.{printed_record}
use Rattle.ob_laws.proofs.printed_laws.printed_is_verified.Goals as goal

pub returns-clause-coded : goal.returns-clause-coded
returns-clause-coded c = printed_record IsShort c.legal_is_verified.ensures c.performed_is_writable.ensures.coded

pub returns-clause-trees : goal.returns-clause-trees
returns-clause-trees c = printed_record IsAny c.legal_is_verified.ensures c.performed_is_writable.ensures.trees
