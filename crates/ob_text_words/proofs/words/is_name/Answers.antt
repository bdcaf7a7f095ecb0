use Rattle.std.proofs.Common.{◌≡◌, ◌∷◌, rules, tests, true, ◌∙◌}
use Rattle.std.specs.Char.{is_ascii_alphabetic, is_ascii_alphanumeric}
use Rattle.std.specs.List.{list_all}
use Rattle.std.proofs.lemmas.Iterator.{YieldsList-from_slice}
use Rattle.std.proofs.lemmas.Iterator.Search.{all_from_yields_List}
use Rattle.ob_text_words.proofs.Names.{found_name, found_no_name}
use Rattle.ob_text_words.proofs.words.is_name.Goals as goal
use Rattle.ob_text_words.proofs.words.is_name.Goals.{then-is_ascii_alphabetic, else-is_ascii_alphabetic}

pub returns-then-all : goal.returns-then-all
returns-then-all c =
    let parts : c.args.word.now ≡ c.in-Some.first.now ∷ c.in-Some.others.now = search rules in
    elim c.if-is_ascii_alphabetic.branch [
      | then-is_ascii_alphabetic w ↦
          let letter : is_ascii_alphabetic c.in-Some.first.now ≡ true = cc in
          let all : w.all.result ≡ list_all is_ascii_alphanumeric c.in-Some.others.now =
          all_from_yields_List is_ascii_alphanumeric _ _ w.all.result w.all.ensures.ran (YieldsList-from_slice c.in-Some.others.now cc) (λ x b q k. search (rules, tests)) in
          let others : list_all is_ascii_alphanumeric c.in-Some.others.now ≡ true = cc in
          found_name _ _ _ c.keyword.result _ parts letter others c.keyword.ensures.is c.keyword.ensures.none c.is_none.ensures
      | else-is_ascii_alphabetic w ↦ absurd (cc)
    ]

pub returns-else-all : goal.returns-else-all
returns-else-all c =
    let parts : c.args.word.now ≡ c.in-Some.first.now ∷ c.in-Some.others.now = search rules in
    elim c.if-is_ascii_alphabetic.branch [
      | then-is_ascii_alphabetic w ↦
          let all : w.all.result ≡ list_all is_ascii_alphanumeric c.in-Some.others.now =
          all_from_yields_List is_ascii_alphanumeric _ _ w.all.result w.all.ensures.ran (YieldsList-from_slice c.in-Some.others.now cc) (λ x b q k. search (rules, tests)) in
          found_no_name _ _ _ _ parts c.if-all.false (λ a b. w.value-is ∙ all ∙ b)
      | else-is_ascii_alphabetic w ↦
          found_no_name _ _ _ _ parts c.if-all.false (λ a b. w.value-is ∙ c.is_ascii_alphabetic.ensures.value ∙ a)
    ]
