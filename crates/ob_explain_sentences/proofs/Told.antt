-- Phrases one by one.
use Rattle.std.proofs.Common.{◌≡◌, ℕ, suc, ◌+◌, ◌<◌, ◌≤◌, List, [], ◌∷◌, ◌++◌, length, drop, get_or, sym, ◌∙◌, ap, append_assoc, cond, true, false, add-one, drop-cons, drop_of_length-le}
use Rattle.std.specs.Prelude.{map}
use Rattle.ob_scan.specs.declared.token.Kind.{Kind}
use Rattle.ob_explain_sentences.specs.declared.groups.Group.{Group}
use Rattle.ob_explain_sentences.specs.declared.groups.Phrase.{Phrase}
use Rattle.ob_explain_sentences.specs.declared.groups.Phrase.TheVariants.{Whole, Single}
use Rattle.ob_explain_sentences.specs.Groups.{phrases, has_all, without}

pub told_whole : (told : List Phrase) (gs : List Group) (i : ℕ) (d : Group) (kinds : List Kind) (all : List Phrase) → i < length gs →
    has_all kinds (get_or gs i d) ≡ true → told ++ phrases (drop i gs) kinds ≡ all →
    (told ++ Whole (get_or gs i d) ∷ []) ++ phrases (drop (i + 1) gs) (without (get_or gs i d) kinds) ≡ all
unfolding phrases
told_whole told gs i d kinds all lt has e =
    let g : Group = get_or gs i d in
    append_assoc told (Whole g ∷ []) _
    ∙ ap (λ (l : List Phrase). told ++ l)
    (ap (λ n. Whole g ∷ phrases (drop n gs) (without g kinds)) (add-one i)
    ∙ sym (ap (λ b. cond b (Whole g ∷ phrases (drop (suc i) gs) (without g kinds)) (phrases (drop (suc i) gs) kinds)) has)
    ∙ sym (ap (λ l. phrases l kinds) (drop-cons gs i d lt)))
    ∙ e

pub told_on : (told : List Phrase) (gs : List Group) (i : ℕ) (d : Group) (kinds : List Kind) (all : List Phrase) → i < length gs →
    has_all kinds (get_or gs i d) ≡ false → told ++ phrases (drop i gs) kinds ≡ all → told ++ phrases (drop (i + 1) gs) kinds ≡ all
unfolding phrases
told_on told gs i d kinds all lt has e =
    let g : Group = get_or gs i d in
    ap (λ (l : List Phrase). told ++ l)
    (ap (λ n. phrases (drop n gs) kinds) (add-one i)
    ∙ sym (ap (λ b. cond b (Whole g ∷ phrases (drop (suc i) gs) (without g kinds)) (phrases (drop (suc i) gs) kinds)) has)
    ∙ sym (ap (λ l. phrases l kinds) (drop-cons gs i d lt)))
    ∙ e

pub told_end : (told : List Phrase) (gs : List Group) (i : ℕ) (kinds : List Kind) (all : List Phrase) → length gs ≤ i →
    told ++ phrases (drop i gs) kinds ≡ all → told ++ map Single kinds ≡ all
unfolding phrases
told_end told gs i kinds all n e = ap (λ (l : List Group). told ++ phrases l kinds) (sym (drop_of_length-le gs n)) ∙ e

-- the same, of what a loop's variables are then
pub whole_told : (told more : List Phrase) (gs : List Group) (i : ℕ) (d : Group) (kinds seen found left : List Kind) (all : List Phrase) → i < length gs →
    seen ≡ kinds → found ≡ kinds → has_all seen (get_or gs i d) ≡ true → more ≡ told ++ Whole (get_or gs i d) ∷ [] → left ≡ without (get_or gs i d) found →
    told ++ phrases (drop i gs) kinds ≡ all → more ++ phrases (drop (i + 1) gs) left ≡ all
whole_told told more gs i d kinds seen found left all lt s f has m l e =
    let g : Group = get_or gs i d in
    ap (λ (x : List Phrase). x ++ phrases (drop (i + 1) gs) left) m
    ∙ ap (λ x. (told ++ Whole g ∷ []) ++ phrases (drop (i + 1) gs) x) (l ∙ ap (without g) f)
    ∙ told_whole told gs i d kinds all lt (sym (ap (λ x. has_all x g) s) ∙ has) e

pub on_told : (told more : List Phrase) (gs : List Group) (i : ℕ) (d : Group) (kinds seen left : List Kind) (all : List Phrase) → i < length gs →
    seen ≡ kinds → has_all seen (get_or gs i d) ≡ false → more ≡ told → left ≡ kinds →
    told ++ phrases (drop i gs) kinds ≡ all → more ++ phrases (drop (i + 1) gs) left ≡ all
on_told told more gs i d kinds seen left all lt s has m l e =
    let g : Group = get_or gs i d in
    ap (λ (x : List Phrase). x ++ phrases (drop (i + 1) gs) left) m
    ∙ ap (λ x. told ++ phrases (drop (i + 1) gs) x) l
    ∙ told_on told gs i d kinds all lt (sym (ap (λ x. has_all x g) s) ∙ has) e
