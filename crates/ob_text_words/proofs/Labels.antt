-- Labels have different names.
use Rattle.std.proofs.Common.{◌≡◌, List, [], ◌∷◌, Option, Some, None, cond, refl, sym, ◌∙◌, ap}
use Rattle.std.specs.Prelude.{bytes_eq}
use Rattle.ob_text_words.specs.Words.{Word}
use Rattle.wf_table.specs.declared.process.Label.{Label}
use Rattle.wf_table.specs.declared.process.Label.TheVariants.{Next, Post, Flip, Try, Link, Load, Store, Check1, Mine, Seen, Fetch, Check2, Save, Enter, Body, Undo, Keep, Commit, Read, Take, Give}
use Rattle.ob_text_words.specs.LabelNames.{label_name}

first_named : List Label → Word → Option Label
first_named [] word = None
first_named (label ∷ labels) word = cond (bytes_eq (label_name label) word) (Some label) (first_named labels word)

named : Word → Option Label
named = first_named (Next ∷ Post ∷ Flip ∷ Try ∷ Link ∷ Load ∷ Store ∷ Check1 ∷ Mine ∷ Seen ∷ Fetch ∷ Check2 ∷ Save ∷ Enter ∷ Body ∷ Undo ∷ Keep ∷ Commit ∷ Read ∷ Take ∷ Give ∷ [])

named-label_name : (label : Label) → named (label_name label) ≡ Some label
unfolding named first_named
named-label_name Next = refl
named-label_name Post = refl
named-label_name Flip = refl
named-label_name Try = refl
named-label_name Link = refl
named-label_name Load = refl
named-label_name Store = refl
named-label_name Check1 = refl
named-label_name Mine = refl
named-label_name Seen = refl
named-label_name Fetch = refl
named-label_name Check2 = refl
named-label_name Save = refl
named-label_name Enter = refl
named-label_name Body = refl
named-label_name Undo = refl
named-label_name Keep = refl
named-label_name Commit = refl
named-label_name Read = refl
named-label_name Take = refl
named-label_name Give = refl

same_label : (a b : Label) → Some a ≡ Some b → a ≡ b
same_label a b e = cc

pub one_label : (a b : Label) → label_name a ≡ label_name b → a ≡ b
one_label a b e = same_label a b (sym (named-label_name a) ∙ ap named e ∙ named-label_name b)
