use Rattle.std.proofs.Common.{◌≡◌, ◌∙◌, ℕ, Bor, List, Option, Some, ap, map, subst}
use Rattle.ob_text_words.specs.Words.{Word, words}
use Rattle.ob_explained_records.specs.FormRemarks.{line_at}
use Rattle.ob_explained_records.specs.OrderPlaces.{IsNamed}
use Rattle.ob_explained_records.proofs.order_place.place_named.Goals as goal

pub returns-in-Some : goal.returns-in-Some
returns-in-Some c =
    let ws : map (λ (w : Bor Word). w.now) c.deref.result.now ≡ words (line_at c.args.text.now c.args.number) =
    ap (map (λ (w : Bor Word). w.now)) c.deref.ensures.value ∙ (c.in_ok-words.ensures ∙ ap words c.script_line.ensures.line) in (
      Some c.in-Some.word,
      subst (λ (word : Option ℕ). IsNamed c.args.again (words (line_at c.args.text.now c.args.number)) c.args.id word) c.in-Some.is
          (subst (λ (l : List Word). IsNamed c.args.again l c.args.id c.named.result) ws c.named.ensures),
      ap Some c.place_of_word.ensures.place,
    )
