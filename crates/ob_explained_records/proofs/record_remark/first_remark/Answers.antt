use Rattle.std.proofs.Common.{◌≡◌, ◌∙◌, ◌+◌, ◌-◌, ℕ, ap, ap₂, drop, length, rules, string_bytes, take}
use Rattle.std.proofs.lemmas.List.{take_rest}
use Rattle.ob_explain_sentences.specs.Remarks.{at}
use Rattle.ob_explained.specs.ScriptPlaces.{first_place, in_line}
use Rattle.ob_explained_records.specs.FormRemarks.{form_sentence, from_word, line_at, own_number}
use Rattle.ob_explained_records.proofs.record_remark.first_remark.Goals as goal

pub returns-clause-remark : goal.returns-clause-remark
returns-clause-remark c =
    let text = c.args.text.now in
    let number = c.args.number in
    let behind_order = c.args.behind_order in
    let line = c.script_line-begin.result.1.now in
    let first = c.first_place-first.result in
    let here : first ≡ first_place (line_at text number) = c.first_place-first.ensures.place ∙ ap first_place c.script_line-begin.ensures.line in
    let place : c.script_line-begin.result.0 + first ≡ in_line first_place text number = ap₂ (λ (a b : ℕ). a + b) c.script_line-begin.ensures.begin here in
    let from : take (length line - first) (drop first line) ≡ from_word (line_at text number) = take_rest line first ∙ ap₂ drop here c.script_line-begin.ensures.line in
    let said : string_bytes c.in_ok-from_str.field-0 ≡ c.form_sentence-sentence.result.now = search rules in
    let sentence : string_bytes c.in_ok-from_str.field-0 ≡ form_sentence (own_number text number) behind_order (from_word (line_at text number)) =
    said ∙ (c.form_sentence-sentence.ensures ∙ ap (form_sentence c.said_number.result behind_order) from)
    ∙ ap (λ own. form_sentence own behind_order (from_word (line_at text number))) c.said_number.ensures in
    ap₂ at place sentence
