-- By the lists of the node, if there is one.
use Rattle.std.proofs.Common.{◌≡◌, ◌∙◌, ◌++◌, [], ap, sym, subst, List, ℕ, None, OnOk, Some, get_or, map, option_map, string_bytes}
use Rattle.std.proofs.lemmas.List.{append-nil}
use Rattle.std.proofs.lemmas.Option.{get_or_from_slice_get, slice_get-map}
use Rattle.std.specs.List.{slice_get}
use Rattle.std.specs.Option.{option_copied}
use Rattle.ob_answer_searches.proofs.Made.{none_or}
use Rattle.ob_answer_searches.specs.RowTexts.{row_in}
use Rattle.ob_answer_searches.specs.WholeLines.{rows_lines}
use Rattle.wf_whole_outcomes.specs.View.{told_by}
use Rattle.wf_whole_outcomes.specs.declared.nodes.Node.{Node}
use Rattle.ob_answer_searches.proofs.listed_replies.Source.push_rows.Goals as goal

abbrev told_of : Node → List ℕ
told_of node = node.told.items

pub returns-in-Some : goal.returns-in-Some
returns-in-Some c =
    let wholes = c.args.self.now.wholes.now in
    let node = c.in-Some.node.now in
    let keys = wholes.front.layer.keys in
    let there : slice_get keys c.args.at ≡ Some node = sym c.get_index.ensures.key ∙ ap option_copied c.in-Some.is in
    let own : c.deref.result.now ≡ node.told.items = cc in
    let told : c.deref.result.now ≡ get_or (told_by wholes.front) c.args.at [] =
    own ∙ sym (get_or_from_slice_get (told_by wholes.front) c.args.at node.told.items [] (slice_get-map told_of keys c.args.at ∙ ap (option_map told_of) there)) in
    subst (λ (l : List ℕ). OnOk c.push_told.result (string_bytes c.push_told.new.text ≡ string_bytes c.args.text.now ++ rows_lines 0 (map (row_in wholes) l))) told c.push_told.ensures

pub returns-in-None : goal.returns-in-None
returns-in-None c =
    let wholes = c.args.self.now.wholes.now in
    let keys = wholes.front.layer.keys in
    let none : slice_get keys c.args.at ≡ None = sym c.get_index.ensures.key ∙ ap option_copied c.in-None.is in
    let told : get_or (told_by wholes.front) c.args.at [] ≡ [] = none_or (told_by wholes.front) c.args.at [] (slice_get-map told_of keys c.args.at ∙ ap (option_map told_of) none) in
    sym (ap (λ (l : List ℕ). string_bytes c.args.text.now ++ rows_lines 0 (map (row_in wholes) l)) told ∙ append-nil (string_bytes c.args.text.now))
