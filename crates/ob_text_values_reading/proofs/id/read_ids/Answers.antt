use Rattle.ob_text_words.specs.Words.{words}
use Rattle.ob_text_values_reading.proofs.IdsTaken.{all_named, none_named, not_named, one_named}
use Rattle.ob_text_values_reading.proofs.id.read_ids.Goals as goal

pub loop-id-init : goal.loop-id-init
loop-id-init c = rw c.new-ids.ensures.items (none_named c.args.processes (words c.args.line.now))

pub loop-id-preserved : goal.loop-id-preserved
loop-id-preserved c =
    rw c.in_ok-push.ensures.items
    (one_named c.args.processes c.args.line.now c.loop-id.left.now c.in-Some.rest.now c.loop-id.ids.items c.in-Some.id c.loop-id.invariant c.in-Some.ensures.taken)

pub returns-in-Some-next_word : goal.returns-in-Some-next_word
returns-in-Some-next_word c =
    not_named c.args.processes c.args.line.now c.loop-id.left.now c.loop-id.ids.items c.in-Some-next_word.field-0.0.now (words c.in-Some-next_word.field-0.1.now) c.loop-id.invariant
    c.in-Some-next_word.ensures.words c.in_default.ensures.taken

pub returns-in-None : goal.returns-in-None
returns-in-None c = all_named c.args.processes c.args.line.now c.loop-id.left.now c.loop-id.ids.items c.loop-id.invariant c.in-None.ensures.words
