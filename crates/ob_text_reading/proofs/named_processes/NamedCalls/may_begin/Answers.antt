use Rattle.std.proofs.lemmas.Bool.{false≢true}
use Rattle.ob_text_reading.proofs.Counting.{may_begin_as, never_begins}
use Rattle.ob_text_reading.proofs.named_processes.NamedCalls.may_begin.Goals as goal

pub returns-in-Some : goal.returns-in-Some
returns-in-Some c =
    let p = rw (← c.self.view_is, c.in-Some.is) at c.place_of.ensures in
    rw (← c.self.view_is) (may_begin_as _ c.self.invariant.0 c.args.id _ _ p c.may_begin.ensures)

pub returns-in-None : goal.returns-in-None
returns-in-None c =
    let p = rw (← c.self.view_is, c.in-None.is) at c.place_of.ensures in
    rw (← c.self.view_is) (λ call. (λ t. absurd (false≢true t), λ m. absurd (never_begins _ c.self.invariant.0 c.args.id call p m)))
