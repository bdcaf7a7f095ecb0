use Rattle.ob_answer_files.proofs.HandedOver.{hand_over}
use Rattle.obl0_c.specs.Asked.{IsJoinedAnswer}
use Rattle.obl0_c.proofs.obl0_answer.Goals as goal

pub returns : goal.returns
returns c =
    hand_over (IsJoinedAnswer c.args.words.now c.args.word_lengths.now c.args.files.now c.args.file_lengths.now) c.answer_joined.result c.hand.result
    c.hand.new.output c.hand.new.len c.args.room.now c.hand.new.room c.answer_joined.ensures c.hand.ensures
