use Rattle.std.proofs.Common.{ℕ, Bor, List, arith, map, sym}
use Rattle.ob_answer_files.proofs.Cuts.{cut_short, left_over, next_joined, next_lengths}
use Rattle.ob_answer_files.proofs.joined_texts.texts_in.Goals as goal

pub returns-in_default : goal.returns-in_default
returns-in_default c =
    cut_short c.args.joined.bytes.now c.args.joined.lengths.now (map (λ (t : Bor (List ℕ)). t.now) c.loop-length.texts.items) c.loop-length.rest.now
    c.loop-length.length-index c.loop-length.invariant.joined c.loop-length.invariant.lengths c.loop-length-test.true c.in_default.ensures.cases

pub loop-length-preserved : goal.loop-length-preserved
loop-length-preserved c = record {
  joined = next_joined c.args.joined.bytes.now c.loop-length.texts.items c.push.new.self.items c.in-Some.text c.loop-length.rest.now c.in-Some.behind.now _
      c.in_ok-push.ensures.items c.loop-length.invariant.joined c.in-Some.ensures.cases;
  lengths = next_lengths c.args.joined.lengths.now c.loop-length.texts.items c.push.new.self.items c.in-Some.text c.loop-length.length-index
      c.in_ok-push.ensures.items c.loop-length.invariant.lengths c.loop-length-test.true c.in-Some.ensures.cases.3;
}

pub returns : goal.returns
returns c =
    left_over c.args.joined.bytes.now c.args.joined.lengths.now (map (λ (t : Bor (List ℕ)). t.now) c.loop-length.texts.items) c.loop-length.rest.now
    c.loop-length.length-index c.loop-length.invariant.joined c.loop-length.invariant.lengths (omega (arith, c.loop-length-test.false))
    (sym c.if-is_empty.ensures)
