use Rattle.ob_fault_pages.proofs.Named.{named}
use Rattle.ob_fault_pages.proofs.laws.faults_have_pages.Goals as goal

pub returns : goal.returns
returns c = named
