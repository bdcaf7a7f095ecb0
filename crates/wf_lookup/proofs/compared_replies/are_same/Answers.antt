-- Both have no items.
use Rattle.std.proofs.Common.{◌≡◌, ◌==◌, ◌∙◌, [], List, sym, true, length}
use Rattle.std.proofs.lemmas.Bool.{eqb-true}
use Rattle.std.proofs.lemmas.List.{nil_from_length}
use Rattle.wf_lookup.proofs.compared_replies.are_same.Goals as goal

nothing : {A : Type 0} (xs : List A) → (length xs == 0) ≡ true → xs ≡ []
nothing xs e = nil_from_length xs (eqb-true (length xs) 0 e)

pub returns-then-is_empty : goal.returns-then-is_empty
returns-then-is_empty c = λ t.
    nothing c.args.kept.now.items (sym c.is_empty.ensures ∙ c.if-is_empty.true) ∙ sym (nothing c.args.other.now.items (sym c.is_empty-then-is_empty.ensures ∙ t))
