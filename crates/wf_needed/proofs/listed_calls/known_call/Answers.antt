-- What the rows say of the call.
use Rattle.std.proofs.Common.{◌≡◌, ◌∙◌, ◌+◌, Option, arith, subst, sym}
use Rattle.std.specs.Prelude.{MatchOption}
use Rattle.ob_interface.specs.Call.{ObjectCall}
use Rattle.wf_history.specs.Legal.{HasBegun}
use Rattle.wf_needed.proofs.Placing.{begun_here, not_begun, not_numbered, replied_here}
use Rattle.wf_needed.proofs.listed_calls.known_call.Goals as goal
use Rattle.wf_needed.specs.Listed.{IsListed}
use Rattle.wf_needed.specs.declared.listed_calls.Listed.{Listed}

pub returns-in_err-place-clause-listed : goal.returns-in_err-place-clause-listed
returns-in_err-place-clause-listed c = λ history processes are.
    subst (λ (r : Option Listed). MatchOption r ((call : ObjectCall) → ¬ HasBegun history c.args.id call) (IsListed history)) (sym c.from_residual.ensures)
    (λ call. not_numbered history processes c.args.rows.now are c.args.id c.in_err-place.ensures call)

pub returns-in_err-begun-clause-listed : goal.returns-in_err-begun-clause-listed
returns-in_err-begun-clause-listed c = λ history processes are.
    let behind = c.in_ok-place.ensures in
    let is : c.in_ok-place.place + 1 ≡ c.args.id.number = omega (arith, behind) in
    subst (λ (r : Option Listed). MatchOption r ((call : ObjectCall) → ¬ HasBegun history c.args.id call) (IsListed history)) (sym c.from_residual-in_err-begun.ensures)
    (λ call. not_begun history processes c.args.rows.now are c.args.id c.in_ok-place.place is (sym c.begun_at.ensures.item ∙ c.in_err-begun.was) call)

pub returns-clause-listed : goal.returns-clause-listed
returns-clause-listed c = λ history processes are.
    let behind = c.in_ok-place.ensures in
    let is : c.in_ok-place.place + 1 ≡ c.args.id.number = omega (arith, behind) in
    record {
      begun = begun_here history processes c.args.rows.now are c.args.id c.in_ok-place.place is c.in_ok-begun.begun (sym c.begun_at.ensures.item ∙ c.in_ok-begun.was);
      reply = replied_here history processes c.args.rows.now are c.args.id c.in_ok-place.place is c.reply_at-reply.result c.reply_at-reply.ensures;
    }
