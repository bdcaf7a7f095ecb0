-- By the list, if there is one.
use Rattle.std.proofs.Common.{◌≡◌, ◌∙◌, ◌++◌, [], ap, sym, subst, Global, List, ℕ, None, OnOk, Some, Vec, get_or, map, option_map, string_bytes}
use Rattle.std.proofs.lemmas.List.{append-nil}
use Rattle.std.proofs.lemmas.Option.{get_or_from_slice_get, slice_get-map}
use Rattle.std.specs.Borrow.{Bor}
use Rattle.std.specs.List.{slice_get}
use Rattle.std.specs.Option.{option_copied}
use Rattle.ob_answer_searches.proofs.Made.{none_or}
use Rattle.ob_answer_searches.specs.WholeLines.{row_lines}
use Rattle.ob_interface.specs.Call.{Reply}
use Rattle.wf_history.specs.View.{kept_reply}
use Rattle.wf_history.specs.declared.kept.KeptReply.{KeptReply}
use Rattle.wf_whole_outcomes.specs.Nodes.{lists_in}
use Rattle.wf_whole_outcomes.specs.View.{replies_of}
use Rattle.ob_answer_searches.proofs.listed_replies.push_list.Goals as goal

abbrev reply_at : Bor KeptReply → Reply
reply_at reply = kept_reply reply.now

abbrev numbers_in : Vec ℕ Global → List ℕ
numbers_in list = list.items

pub returns-in_default : goal.returns-in_default
returns-in_default c =
    let wholes = c.args.wholes.now in
    let lists = wholes.front.lists in
    let none : slice_get lists.items.items c.args.number ≡ None =
    ap (λ (l : List (Vec ℕ Global)). slice_get l c.args.number) (sym c.deref.ensures.value) ∙ sym c.item_at.ensures ∙ ap option_copied c.in_default.is in
    let list : get_or (lists_in lists) c.args.number [] ≡ [] = none_or (lists_in lists) c.args.number [] (slice_get-map numbers_in lists.items.items c.args.number ∙ ap (option_map numbers_in) none) in
    sym (ap (λ (l : List ℕ). string_bytes c.args.text.now ++ row_lines c.args.process 0 (replies_of (map kept_reply wholes.replies.items) l)) list ∙ append-nil (string_bytes c.args.text.now))

pub returns : goal.returns
returns c =
    let wholes = c.args.wholes.now in
    let lists = wholes.front.lists in
    let there : slice_get lists.items.items c.args.number ≡ Some c.in-Some.list.now =
    ap (λ (l : List (Vec ℕ Global)). slice_get l c.args.number) (sym c.deref.ensures.value) ∙ sym c.item_at.ensures ∙ ap option_copied c.in-Some.is in
    let list : get_or (lists_in lists) c.args.number [] ≡ c.in-Some.list.now.items =
    get_or_from_slice_get (lists_in lists) c.args.number c.in-Some.list.now.items [] (slice_get-map numbers_in lists.items.items c.args.number ∙ ap (option_map numbers_in) there) in
    let row = ap (map reply_at) c.deref-4.ensures.value ∙ c.in_ok-row.ensures ∙ ap (λ (l : List KeptReply). replies_of (map kept_reply l) c.deref-3.result.now) c.deref-2.ensures.value
    ∙ ap (replies_of (map kept_reply wholes.replies.items)) (c.deref-3.ensures.value ∙ sym list) in
    subst (λ (l : List Reply). OnOk c.push_row.result (string_bytes c.push_row.new.text ≡ string_bytes c.args.text.now ++ row_lines c.args.process 0 l)) row c.push_row.ensures
