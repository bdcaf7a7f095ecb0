use Rattle.std.proofs.Common.{refl}
use Rattle.ob_explain_sentences.specs.Said.{evidence_of}
use Rattle.ob_diagnosis.proofs.told_by_tables.told_by.Goals as goal

pub returns : goal.returns
returns c = record {
  view = c.args.view.now;
  evidence = evidence_of c.args.evidence.now;
  numbered = refl;
  sees = c.requires.sees;
  is_true = c.requires.known;
  placed = c.shown_at.ensures;
  says = c.in_ok-said.ensures;
  hints = c.in_ok-hinted.ensures;
}
