use Rattle.std.proofs.Common.{◌≡◌, ◌++◌, map, take, string_bytes}
use Rattle.ob_explain_sentences.specs.Rows.{piece_of}
use Rattle.ob_explain_sentences.specs.Said.{evidence_of, filled}
use Rattle.ob_explain_sentences.proofs.said.fill.Given as goal

abbrev pub invariant-loop-piece : goal.invariant-loop-piece
invariant-loop-piece l = string_bytes l.text ≡ string_bytes l.fn.text ++ filled (evidence_of l.evidence) (map piece_of (take l.piece-index l.pieces))
