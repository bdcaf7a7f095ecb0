use Rattle.std.proofs.Common.{ℕ, sym, subst}
use Rattle.ob_explained.specs.Marks.{BeginsWord}
use Rattle.ob_explained.proofs.WordPlaces.{at_first}
use Rattle.ob_explained.proofs.script_place.first_place.Goals as goal

pub returns-clause-word : goal.returns-clause-word
returns-clause-word c = subst (λ (k : ℕ). BeginsWord c.args.line.now 0 k) (sym c.blanks.ensures.count) (at_first c.args.line.now)
