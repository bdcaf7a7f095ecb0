use Rattle.std.proofs.Common.{◌≡◌, ◌+◌, refl, ap, sym, ◌∙◌}
use Rattle.ob_code_scheme.specs.Types.{width}
use Rattle.ob_layout.specs.Frames.{space_of}
use Rattle.ob_layout.specs.Shapes.{types_of}
use Rattle.ob_layout.specs.View.{shapes_of}
use Rattle.ob_layout.proofs.Framed.{frame_more}
use Rattle.ob_layout.proofs.frames.Frame.add.Goals.{then-is_var, else-is_var}
use Rattle.ob_layout.proofs.frames.Frame.add.Goals as goal

pub returns-clause-frame : goal.returns-clause-frame
returns-clause-frame c =
    let ts = types_of (shapes_of c.args.shapes.now) in
    let words : c.if-is_var.words ≡ width (space_of ts c.args.is_var c.args.data_type) =
    elim c.if-is_var.branch [
      | then-is_var w ↦ w.words-is ∙ sym (ap (λ b. width (space_of ts b c.args.data_type)) w.if-is_var.true)
      | else-is_var w ↦ w.words-is ∙ w.words-words.ensures ∙ sym (ap (λ b. width (space_of ts b c.args.data_type)) w.if-is_var.false)
    ] in
    frame_more ts c.args.self.now _ _ c.requires.frame c.in_ok-push.ensures.items refl (ap (λ n. c.args.self.now.words + n) words) c.requires.small
