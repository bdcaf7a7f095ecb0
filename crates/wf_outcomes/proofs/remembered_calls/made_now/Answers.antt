-- What was made, with its words.
use Rattle.std.proofs.Common.{sym, ◌∙◌, subst}
use Rattle.ob_interface.specs.View.{reply_of}
use Rattle.wf_history.specs.View.{kept_call}
use Rattle.wf_outcomes.specs.RememberedCalls.{IsStated}
use Rattle.wf_outcomes.specs.declared.seen.Stated.{Stated}
use Rattle.wf_outcomes.proofs.remembered_calls.made_now.Goals as goal

pub returns-clause-made : goal.returns-clause-made
returns-clause-made g c =
    let effect = g.O.Object.effect c.args.task.now.object.now in
    let meaning = g.O.Object.meaning in
    let words_of = g.O.Object.words_of in
    let call = kept_call c.args.call.now in
    let from = c.as_ref.ensures ∙ sym c.in_ok-before.ensures.cases in
    let to = sym c.in_ok-after.ensures.ok in
    record {
      before = subst (λ (s : Stated g.row.O-State.Denot). IsStated meaning words_of s) (sym c.in_ok-before.ensures.cases) c.requires;
      after = subst (λ (s : Stated g.row.O-State.Denot). IsStated meaning words_of s) to c.in_ok-words.ensures;
      effect = subst (λ (s : Stated g.row.O-State.Denot). effect call (meaning c.in_ok-before.before.value.state) (meaning s.state) (reply_of c.in_ok-state.reply)) to
          (subst (λ (s : Stated g.row.O-State.Denot). effect call (meaning s.state) (meaning c.in_ok-state.state) (reply_of c.in_ok-state.reply)) from c.in_ok-state.ensures);
    }

pub returns-clause-before : goal.returns-clause-before
returns-clause-before g c = c.in_ok-before.ensures.cases
