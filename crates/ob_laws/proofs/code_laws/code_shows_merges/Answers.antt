use Rattle.ob_laws.proofs.Meant as Meant
use Rattle.ob_laws.proofs.code_laws.code_shows_merges.Goals as goal

pub returns : goal.returns
returns c = Meant.code_shows c.orders_are_carried.ensures.from_words
