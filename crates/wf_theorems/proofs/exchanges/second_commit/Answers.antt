use Rattle.std.proofs.Common.{refl, inl, inr}
use Rattle.std.specs.Prelude.{slice_get}
use Rattle.wf_table.proofs.HelpAndOrderRuns.{founded}
use Rattle.wf_table.proofs.HelpAndOrderLaws.{exchange_gives, announced, after_two, two_lost}
use Rattle.wf_theorems.proofs.exchanges.second_commit.Goals as goal

pub returns-clause-own : goal.returns-clause-own
returns-clause-own g c = λ e z opening s p sound committed is linked.
    let i = g.E.Engine in
    let base = founded (i.meaning e) (i.lawful e) (i.fits e) (i.ready e) z opening s sound in
    let some = announced (i.meaning e) z s p (slice_get s.processes p) refl base is in
    exchange_gives (i.meaning e) z s p p (slice_get s.processes p) refl base committed is linked some.0 some.1 (inl refl)

pub returns-clause-older : goal.returns-clause-older
returns-clause-older g c = λ e z opening s p k sound committed is linked within some newer.
    let i = g.E.Engine in
    let base = founded (i.meaning e) (i.lawful e) (i.fits e) (i.ready e) z opening s sound in
    exchange_gives (i.meaning e) z s p k (slice_get s.processes p) refl base committed is linked within some (inr newer)

pub returns-clause-two_exchanges : goal.returns-clause-two_exchanges
returns-clause-two_exchanges g c = λ e z s k committed within some two. after_two z s.cell s.processes s.records k committed.ordered within some two

pub returns-clause-two_rounds : goal.returns-clause-two_rounds
returns-clause-two_rounds g c = λ e z opening s p q sound committed at is two.
    let i = g.E.Engine in two_lost (i.meaning e) z s p q at (founded (i.meaning e) (i.lawful e) (i.fits e) (i.ready e) z opening s sound) committed is two
