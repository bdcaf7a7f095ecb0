use Rattle.std.proofs.Common.{◌∙◌, ◌++◌, ◌∷◌, [], List, ap, map, option_map, sym, ℕ}
use Rattle.ob_text_values_reading.proofs.SaidLines.{words_joined}
use Rattle.ob_text_values_reading.specs.Comments.{lines_of}
use Rattle.ob_text_values_reading.specs.RecordTexts.{Line}
use Rattle.ob_text_words.specs.Words.{lines, words}
use Rattle.ob_text_values_reading.proofs.comments.with_line.Goals as goal
use Rattle.ob_text_values_reading.proofs.comments.with_line.Goals.{in-Some+in_ok-push-in-Some, in-None}

pub returns : goal.returns
returns c =
    let line = c.args.line.now in
    elim c.match-before.branch [
      | in-Some+in_ok-push-in-Some w ↦
          ap (λ (bs : List ℕ). map words (lines bs))
          (c.in_ok-extend_from_slice.ensures.items ∙ ap (λ v. v.items ++ line) w.text-is ∙ ap (λ (bs : List ℕ). bs ++ line) w.in_ok-push-in-Some.ensures.items)
          ∙ words_joined w.in-Some.text.items line
          ∙ ap (λ (ls : List Line). map words (lines w.in-Some.text.items) ++ ls) c.requires
          ∙ ap (λ o. lines_of (option_map (λ v. v.items) o) ++ words line ∷ []) (sym w.in-Some.is)
      | in-None w ↦
          ap (λ (bs : List ℕ). map words (lines bs))
          (c.in_ok-extend_from_slice.ensures.items ∙ ap (λ v. v.items ++ line) w.text-is ∙ ap (λ (bs : List ℕ). bs ++ line) w.new-text.ensures.items)
          ∙ c.requires
          ∙ ap (λ o. lines_of (option_map (λ v. v.items) o) ++ words line ∷ []) (sym w.in-None.is)
    ]
