-- The lines of one state more.
use Rattle.std.proofs.Common.{◌∙◌, Global, String, ap, string_bytes}
use Rattle.ob_checked.specs.View.{program_of}
use Rattle.ob_store.specs.View.{state_of}
use Rattle.ob_store.specs.declared.state.State.{State}
use Rattle.ob_text_record.specs.Variables.{state_text}
use Rattle.wf_whole_outcomes.proofs.Reading.{both_more}
use Rattle.ob_answer_searches.proofs.listed_replies.end_texts.Goals as goal

pub loop-state-preserved : goal.loop-state-preserved
loop-state-preserved c =
    let lines = λ (state : State). state_text (program_of c.args.program.now).variables (state_of state) in
    both_more (λ (text : String Global). string_bytes text) lines c.loop-state.ends.items c.args.states.now c.loop-state.state-index c.state-item.result c.loop-state-test.true
    c.loop-state.invariant c.in_ok-end_text.field-0 (c.in_ok-end_text.ensures ∙ ap lines c.state-item.is) c.push.new.self.items c.in_ok-push.ensures.items
