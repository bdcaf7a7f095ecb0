use Rattle.std.proofs.Common.{arith}
use Rattle.ob_object_search.proofs.Wording.{words_more, words_parts}
use Rattle.ob_object_search.proofs.state_words.+words.Goals as goal

pub push_all-loop-value-preserved : goal.push_all-loop-value-preserved
push_all-loop-value-preserved t c =
    words_more c.args.words.now.items c.loop-value.words.items c.push_value.new.words.items c.args.values.now c.loop-value.value-index c.value-item.result
    c.loop-value-test.true c.value-item.is c.in_ok-push_value.ensures c.loop-value.invariant

pub push_value-returns-in_ok-push_all-in-Parts : goal.push_value-returns-in_ok-push_all-in-Parts
push_value-returns-in_ok-push_all-in-Parts t c =
    words_parts c.args.words.now.items c.push-in-Parts.new.self.items c.push-in-Parts-2.new.self.items c.push_all.new.words.items c.args.value.now c.in-Parts.parts
    c.as_slice.result.now c.len.result c.in-Parts.is c.as_slice.ensures.value (omega (arith, c.len.ensures, c.in-Parts.parts.ok.0))
    c.in_ok-push-in-Parts.ensures.ok c.in_ok-push-in-Parts-2.ensures.ok c.in_ok-push_all-in-Parts.ensures
