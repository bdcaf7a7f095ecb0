use Rattle.std.proofs.Common.{◌≡◌, ◌∙◌, ◌+◌, ◌++◌, ap, arith, of_z, string_bytes, to_z, to_z-of_z, w64}
use Rattle.std.specs.Prelude.{ℤ}
use Rattle.ll_cell.specs.Cell.{announcement_of, word_at}
use Rattle.ob_text_record.specs.StateText.{word_text}
use Rattle.ob_text_record.proofs.Each.{one_more}
use Rattle.ob_text_record.proofs.block_lines.push_announced.Goals as goal

pub loop-i-preserved : goal.loop-i-preserved
loop-i-preserved c =
    let same : to_z w64 (of_z w64 c.read_announce.result) ≡ c.read_announce.result = search (arith, to_z-of_z) in
    one_more (λ k. word_text (word_at (announcement_of c.args.shared.now.cell c.args.p) (c.args.first + k))) c.loop-i.i _ _ _ c.loop-i.invariant
    (c.in_ok-push_word.ensures.ok ∙ ap (λ (w : ℤ). string_bytes c.loop-i.text ++ word_text w) (same ∙ c.read_announce.ensures))
