use Rattle.std.proofs.Common.{[], ◌∷◌}
use Rattle.std.proofs.lemmas.List.Elements.{Contains-append_left, Contains-push}
use Rattle.ob_object_calls.proofs.history_calls.meant_reply.Goals as goal
use Rattle.ob_store.specs.View.{state_of}

pub returns-in_default : goal.returns-in_default
returns-in_default c =
    let u = rw c.in_default.is at c.in_ok-state.ensures in
    (u.0, Contains-append_left c.args.before.now (c.args.id ∷ []) u.0 u.1, u.2)

pub returns-in_default-2 : goal.returns-in_default-2
returns-in_default-2 c = (c.args.id, Contains-push c.args.before.now c.args.id, rw c.in_default-2.is at c.in_ok-reply.ensures)

pub returns : goal.returns
returns c =
    let m = rw c.in-Some-2.is at c.in_ok-reply.ensures in
    record {
      state = state_of c.in-Some.state;
      lead = rw c.in-Some.is at c.in_ok-state.ensures;
      call = m.0;
      begun = m.1;
      after = state_of c.in-Some-2.field-0-0;
      ends = m.2;
    }
