use Rattle.std.proofs.Common.{◌≡◌, ◌∙◌, ◌++◌, ◌==◌, ℕ, Bool, false, cond, List, ap, append_assoc, codes, length, rules, string_bytes, sym}
use Rattle.std.proofs.lemmas.Result.{on_ok_weaker}
use Rattle.ob_explained_records.specs.MadeTexts.{before_text, last_calls}
use Rattle.ob_explained_records.proofs.reply_sentence.push_before.Goals as goal

pub returns-in_ok-push_str : goal.returns-in_ok-push_str
returns-in_ok-push_str c =
    let ids = c.args.ids.now in
    let text = string_bytes c.args.text.now in
    let some : (length ids == 0) ≡ false = sym c.is_empty.ensures ∙ c.if-is_empty.false in
    let said : before_text ids ≡ codes " after" ++ last_calls ids = ap (λ (b : Bool). cond b (codes " as the first") (codes " after" ++ last_calls ids)) some in
    let after : string_bytes c.push_str-else-is_empty.new.self ≡ text ++ codes " after" = search rules in
    on_ok_weaker c.push_last.result
    (λ e. e ∙ (ap (λ (t : List ℕ). t ++ last_calls ids) after ∙ (append_assoc text (codes " after") (last_calls ids) ∙ ap (λ (t : List ℕ). text ++ t) (sym said))))
    c.push_last.ensures
