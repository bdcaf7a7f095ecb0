use Rattle.std.proofs.Common.{ap, ◌∙◌}
use Rattle.ob_store.specs.View.{variables_in}
use Rattle.ob_store.specs.Begun.{without_listed, taken_back}
use Rattle.ob_store.proofs.TakenBack.{taken_back-last}
use Rattle.ob_store.proofs.before.list_in.Goals as goal

pub returns-in-Err-push-clause-listed : goal.returns-in-Err-push-clause-listed
returns-in-Err-push-clause-listed c =
    let variables = variables_in c.args.variables.now in
    ap (λ writes. taken_back writes (variables_in c.take_back-in-Err-push.new.variables)) c.in-Err-push.ensures.items
    ∙ ap (taken_back c.args.writes.now.items)
    (c.take_back-in-Err-push.ensures ∙ ap (λ w. without_listed w variables) c.in-Err-push.ensures.value_returned
    ∙ ap (λ f. f variables) c.in-Ok.ensures.listed)

pub returns-clause-listed : goal.returns-clause-listed
returns-clause-listed c =
    let variables = variables_in c.args.variables.now in
    let old = c.args.writes.now.items in
    ap (λ writes. taken_back writes variables) c.in_default.ensures.items
    ∙ taken_back-last old c.in-Ok.listed variables
    ∙ ap (λ f. taken_back old (f variables)) c.in-Ok.ensures.listed

pub returns-in-Err-push-clause-refused : goal.returns-in-Err-push-clause-refused
returns-in-Err-push-clause-refused c =
    let variables = variables_in c.args.variables.now in
    c.take_back-in-Err-push.ensures ∙ ap (λ w. without_listed w variables) c.in-Err-push.ensures.value_returned
    ∙ ap (λ f. f variables) c.in-Ok.ensures.listed
