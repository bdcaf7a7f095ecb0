use Rattle.ob_text_reading.proofs.OneEvent.{ended, no_end, no_reply}
use Rattle.ob_text_reading.proofs.event.read_end.Goals as goal

pub returns-in_default-export_to_end : goal.returns-in_default-export_to_end
returns-in_default-export_to_end c =
    let t = c.in-Some.ensures.taken in
    rw t.parts (λ e n. no_end _ _ _ _ _ e c.in-Some.id t.names c.in_default-export_to_end.ensures n.next)

pub returns-in_default-2 : goal.returns-in_default-2
returns-in_default-2 c =
    let t = c.in-Some.ensures.taken in
    rw t.parts
    (λ e n. no_reply _ _ _ _ _ e c.in-Some.id c.in-Some-export_to_end.proc t.names c.in-Some-export_to_end.ensures.ends (rw c.in_default-2.is at c.in_ok-reply.ensures) n.next)

pub returns : goal.returns
returns c =
    let t = c.in-Some.ensures.taken in
    rw (t.parts, c.in_ok-kept.ensures)
    (record {
      next = ended _ _ _ _ _ c.in-Some.id c.in-Some-export_to_end.proc _ t.names c.in-Some-export_to_end.ensures.ends (rw c.in-Some-2.is at c.in_ok-reply.ensures);
      few = c.in-Some-export_to_end.ensures.few _;
    })
