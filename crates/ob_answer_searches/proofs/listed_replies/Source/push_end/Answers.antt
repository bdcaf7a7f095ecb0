-- By the text that stands there, if there is one.
use Rattle.std.proofs.Common.{◌≡◌, ◌∙◌, ◌++◌, ◌∷◌, [], ap, refl, sym, Global, List, None, Some, String, ℕ, option_map, string_bytes}
use Rattle.std.proofs.lemmas.List.{append-nil}
use Rattle.std.proofs.lemmas.Option.{slice_get-map}
use Rattle.std.specs.List.{slice_get}
use Rattle.std.specs.Option.{option_copied}
use Rattle.ob_answer_searches.proofs.Ends.{text_none, text_there}
use Rattle.ob_checked.specs.View.{program_of}
use Rattle.ob_store.specs.View.{state_of}
use Rattle.ob_text_record.specs.Variables.{state_text}
use Rattle.ob_typing.specs.Program.{Variable}
use Rattle.ob_answer_searches.proofs.listed_replies.Source.push_end.Goals as goal

-- no variable has a value
none_said : (variables : List Variable) → state_text variables [] ≡ []
none_said [] = refl
none_said (variable ∷ variables) = refl

abbrev bytes_of : String Global → List ℕ
bytes_of text = string_bytes text

pub returns-in_default : goal.returns-in_default
returns-in_default c =
    let self = c.args.self.now in
    let variables = (program_of self.program.now).variables in
    let none : slice_get self.ends.items c.args.number ≡ None =
    ap (λ (l : List (String Global)). slice_get l c.args.number) (sym c.deref.ensures.value) ∙ sym c.item_at.ensures ∙ ap option_copied c.in_default.is in
    let lines = text_none state_of (state_text variables) (none_said variables) self.states.now c.args.number
    (ap (λ (l : List (List ℕ)). slice_get l c.args.number) (sym self.ended) ∙ slice_get-map bytes_of self.ends.items c.args.number ∙ ap (option_map bytes_of) none) in
    sym (ap (λ (l : List ℕ). string_bytes c.args.text.now ++ l) lines ∙ append-nil (string_bytes c.args.text.now))

pub returns : goal.returns
returns c =
    let self = c.args.self.now in
    let variables = (program_of self.program.now).variables in
    let there : slice_get self.ends.items c.args.number ≡ Some c.in-Some.lines.now =
    ap (λ (l : List (String Global)). slice_get l c.args.number) (sym c.deref.ensures.value) ∙ sym c.item_at.ensures ∙ ap option_copied c.in-Some.is in
    let lines = text_there state_of (state_text variables) self.states.now c.args.number (string_bytes c.in-Some.lines.now)
    (ap (λ (l : List (List ℕ)). slice_get l c.args.number) (sym self.ended) ∙ slice_get-map bytes_of self.ends.items c.args.number ∙ ap (option_map bytes_of) there) in
    c.in_ok-push_str.ensures.bytes ∙ ap (λ (l : List ℕ). string_bytes c.args.text.now ++ l) (c.deref-2.ensures ∙ sym lines)
