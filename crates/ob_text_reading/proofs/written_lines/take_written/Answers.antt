use Rattle.std.proofs.Common.{◌≡◌, ◌∷◌, rules}
use Rattle.ob_text_reading.specs.LineReading.{applied}
use Rattle.ob_text_reading.proofs.WrittenLines.{applied_taken, begin_taken, end_taken, more_applied}
use Rattle.ob_text_reading.proofs.written_lines.take_written.Goals as goal

pub returns-in-65-eq10-clause-taken : goal.returns-in-65-eq10-clause-taken
returns-in-65-eq10-clause-taken c =
    let behind : c.in-Some.behind.now ≡ c.in-Some-split_first.ender.now ∷ c.in-Some-split_first.rest.now = search rules in
    applied_taken _ _ _ (λ line h. applied h) _ _ _ (rw (c.processes-processes.ensures, c.in-65-eq10.is-0, behind, c.in-65-eq10.is-1) at c.in-Some.ensures)

pub returns-in-65-eq32-clause-taken : goal.returns-in-65-eq32-clause-taken
returns-in-65-eq32-clause-taken c =
    let behind : c.in-Some.behind.now ≡ c.in-Some-split_first.ender.now ∷ c.in-Some-split_first.rest.now = search rules in
    more_applied _ _ _ (λ line h. applied h) _ _ _ _ (rw (c.processes-processes.ensures, c.in-65-eq32.is-0, behind, c.in-65-eq32.is-1) at c.in-Some.ensures)
    (rw c.processes-processes.ensures at c.behind_ids.ensures)

pub returns-in-66-eq32-clause-taken : goal.returns-in-66-eq32-clause-taken
returns-in-66-eq32-clause-taken c =
    let behind : c.in-Some.behind.now ≡ c.in-Some-split_first.ender.now ∷ c.in-Some-split_first.rest.now = search rules in
    begin_taken _ _ _ _ _ _ _ _ (rw (c.processes-processes.ensures, c.in-66-eq32.is-0, behind, c.in-66-eq32.is-1) at c.in-Some.ensures) c.take_begin.ensures.taken

pub returns-in-69-eq32-clause-taken : goal.returns-in-69-eq32-clause-taken
returns-in-69-eq32-clause-taken c =
    let behind : c.in-Some.behind.now ≡ c.in-Some-split_first.ender.now ∷ c.in-Some-split_first.rest.now = search rules in
    end_taken _ _ _ _ _ _ _ _ (rw (c.processes-processes.ensures, c.in-69-eq32.is-0, behind, c.in-69-eq32.is-1) at c.in-Some.ensures) c.take_end.ensures.taken
