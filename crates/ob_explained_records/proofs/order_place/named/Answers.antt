use Rattle.ob_explained_records.proofs.order_place.named.Goals as goal

pub returns-then-again : goal.returns-then-again
returns-then-again c = rw c.if-again.true c.next_naming.ensures
