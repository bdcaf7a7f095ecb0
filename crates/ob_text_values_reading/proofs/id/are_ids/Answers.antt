use Rattle.std.proofs.Common.{◌++◌, ◌∷◌, []}
use Rattle.ob_text_words.specs.Words.{words}
use Rattle.ob_text_values_reading.proofs.IdsTaken.{all_named, none_named, not_named, one_named}
use Rattle.ob_text_values_reading.proofs.id.are_ids.Goals as goal

pub loop-id-init : goal.loop-id-init
loop-id-init c = ([], none_named c.args.processes (words c.args.line.now))

pub loop-id-preserved : goal.loop-id-preserved
loop-id-preserved c = (
  c.loop-id.invariant.0 ++ c.in-Some._id ∷ [],
  one_named c.args.processes c.args.line.now c.loop-id.left.now c.in-Some.rest.now c.loop-id.invariant.0 c.in-Some._id c.loop-id.invariant.1 c.in-Some.ensures.taken,
)

pub returns-in-Some-next_word-clause-no : goal.returns-in-Some-next_word-clause-no
returns-in-Some-next_word-clause-no c h =
    not_named c.args.processes c.args.line.now c.loop-id.left.now c.loop-id.invariant.0 c.in-Some-next_word.field-0.0.now (words c.in-Some-next_word.field-0.1.now) c.loop-id.invariant.1
    c.in-Some-next_word.ensures.words c.in_default.ensures.taken

pub returns-in-None-clause-yes : goal.returns-in-None-clause-yes
returns-in-None-clause-yes c h = (
  c.loop-id.invariant.0,
  all_named c.args.processes c.args.line.now c.loop-id.left.now c.loop-id.invariant.0 c.loop-id.invariant.1 c.in-None.ensures.words,
)
