use Rattle.std.proofs.Common.{◌≡◌, ◌∙◌, ◌∷◌, refl, rules, sym}
use Rattle.ob_text_reading.specs.Reading.{applied}
use Rattle.ob_text_reading.proofs.HistoryPlaces.{known_place}
use Rattle.ob_text_reading.proofs.NamedLines.{begin_keeps, begin_taken, end_keeps, end_taken}
use Rattle.ob_text_reading.proofs.WrittenLines.{applied_taken, more_applied, named_taken}
use Rattle.ob_text_reading.proofs.named_processes.NamedCalls.take_written.Goals as goal

pub returns-in-65-eq10 : goal.returns-in-65-eq10
returns-in-65-eq10 c =
    let behind : c.in-Some.behind.now ≡ c.in-Some-split_first.ender.now ∷ c.in-Some-split_first.rest.now = search rules in
    applied_taken _ _ _ (λ line h. applied h) _ _ _ (rw (c.in-65-eq10.is-0, behind, c.in-65-eq10.is-1) at c.in-Some.ensures)

pub returns-in-65-eq32 : goal.returns-in-65-eq32
returns-in-65-eq32 c =
    let behind : c.in-Some.behind.now ≡ c.in-Some-split_first.ender.now ∷ c.in-Some-split_first.rest.now = search rules in
    more_applied _ _ _ (λ line h. applied h) _ _ _ _ (rw (c.in-65-eq32.is-0, behind, c.in-65-eq32.is-1) at c.in-Some.ensures) c.behind_ids.ensures

pub invariant_of-self : goal.invariant_of-self
invariant_of-self c =
    let at = known_place _ _ _ (rw (← c.self.view_is) at (sym c.place_known.ensures ∙ c.in-Some-place_known.is)) in
    (begin_keeps _ c.self.invariant.0 _ c.in-Some.id _ at _ _ _ c.take_begin.ensures.taken c.take_begin.ensures.kept, c.take_begin.ensures.processes ∙ c.self.invariant.1)

pub invariant_of-self-in-32-this : goal.invariant_of-self-in-32-this
invariant_of-self-in-32-this c =
    let at = known_place _ _ _ (rw (← c.self.view_is) at (sym c.place_known.ensures ∙ c.in-Some-place_known.is)) in
    (end_keeps _ c.self.invariant.0 _ c.in-Some.id _ at _ _ _ c.take_end.ensures.taken c.take_end.ensures.kept, c.take_end.ensures.processes ∙ c.self.invariant.1)

pub returns-in-66-eq32 : goal.returns-in-66-eq32
returns-in-66-eq32 c =
    let at = known_place _ _ _ (rw (← c.self.view_is) at (sym c.place_known.ensures ∙ c.in-Some-place_known.is)) in
    let behind : c.in-Some.behind.now ≡ c.in-Some-split_first.ender.now ∷ c.in-Some-split_first.rest.now = search rules in
    let taken = begin_taken _ c.self.invariant.0 _ c.in-Some.id _ at _ _ _ c.take_begin.ensures.taken in
    named_taken _ _ _ _ _ _ 66 _ refl (rw (c.in-66-eq32.is-0, behind, c.in-66-eq32.is-1) at c.in-Some.ensures) (rw (← c.self.view_is) taken)

pub returns-in-69-eq32 : goal.returns-in-69-eq32
returns-in-69-eq32 c =
    let at = known_place _ _ _ (rw (← c.self.view_is) at (sym c.place_known.ensures ∙ c.in-Some-place_known.is)) in
    let behind : c.in-Some.behind.now ≡ c.in-Some-split_first.ender.now ∷ c.in-Some-split_first.rest.now = search rules in
    let taken = end_taken _ c.self.invariant.0 _ c.in-Some.id _ at _ _ _ c.take_end.ensures.taken in
    named_taken _ _ _ _ _ _ 69 _ refl (rw (c.in-69-eq32.is-0, behind, c.in-69-eq32.is-1) at c.in-Some.ensures) (rw (← c.self.view_is) taken)
