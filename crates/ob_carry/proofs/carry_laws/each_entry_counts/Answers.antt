use Rattle.ob_carry.proofs.Carried.{each_counts}
use Rattle.ob_carry.proofs.carry_laws.each_entry_counts.Goals as goal

pub returns : goal.returns
returns c = λ entries distinct e among. each_counts entries distinct e among
