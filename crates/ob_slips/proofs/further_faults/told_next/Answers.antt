use Rattle.std.proofs.Common.{◌≡◌, ℕ, List, ◌++◌, ap, ◌∙◌, codes, option_map, string_bytes}
use Rattle.std.proofs.lemmas.Slice.{pushed}
use Rattle.ob_explain_sentences.specs.Remarks.{remark_of}
use Rattle.ob_mendings.specs.Mendings.{mending_text}
use Rattle.ob_slips.specs.Behind.{shown_own, stage_of}
use Rattle.ob_slips.proofs.further_faults.told_next.Goals as goal

pub returns : goal.returns
returns c =
    let begun : string_bytes c.in_ok-told.told ≡ mending_text c.args.before.now c.args.last.now = c.in_ok-told.ensures in
    let told = pushed (codes ", the next fault is:\n") begun c.in_ok-push_str.was c.push_str.ensures.bytes in
    let shown : c.as_str.result.now ≡ shown_own (stage_of c.args.stage) (option_map remark_of c.in_ok-remark.remark) = c.as_str.ensures.value ∙ c.in_ok-shown_own.ensures in
    record {
      remark = option_map remark_of c.in_ok-remark.remark;
      remarked = c.in_ok-remark.ensures;
      is =
          pushed c.as_str.result.now told c.in_ok-push_str-2.was c.push_str-2.ensures.bytes
          ∙ ap (λ (ws : List ℕ). mending_text c.args.before.now c.args.last.now ++ codes ", the next fault is:\n" ++ ws) shown;
    }
