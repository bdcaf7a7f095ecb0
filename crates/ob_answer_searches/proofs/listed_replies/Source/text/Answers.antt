-- By what is made.
use Rattle.std.proofs.Common.{◌≡◌, ◌∙◌, ap, refl, sym, Global, List, Option, Some, String, Vec}
use Rattle.std.proofs.lemmas.Option.{IfSome_then}
use Rattle.std.specs.List.{slice_get}
use Rattle.std.specs.Option.{option_copied}
use Rattle.ob_answer_searches.proofs.listed_replies.Source.text.Goals as goal

pub returns : goal.returns
returns c =
    let texts = c.in-Some.texts.now in
    let there : slice_get c.args.self.now.texts.items c.args.process ≡ Some texts =
    ap (λ (l : List (Vec (Option (String Global)) Global)). slice_get l c.args.process) (sym c.deref.ensures.value) ∙ sym c.item_at.ensures ∙ ap option_copied c.in-Some.is in
    IfSome_then c.text_of.result c.text_of.ensures (λ text at. c.args.self.now.made c.args.process texts there c.args.number (Some text.now)
    (ap (λ (l : List (Option (String Global))). slice_get l c.args.number) (sym c.deref-2.ensures.value) ∙ at) text.now refl)
