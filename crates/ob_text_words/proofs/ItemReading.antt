-- A word says one item at most: the digits in front of its mark are its process.
use Rattle.std.proofs.Common.{◌≡◌, ℕ, Bool, ◌&&◌, true, List, [], ◌∷◌, ◌++◌, false, IsTrue, refl, sym, ◌∙◌, ap, ap₂, arith}
use Rattle.std.proofs.lemmas.Bool.{false≢true}
use Rattle.std.specs.Char.{is_ascii_digit}
use Rattle.std.specs.List.{list_all}
use Rattle.ob_scan.specs.Spelling.{number_value}
use Rattle.wf_table.specs.declared.process.Label.{Label}
use Rattle.ob_text_words.specs.Words.{Word, IsDigits, IsProcess}
use Rattle.ob_text_words.specs.LabelNames.{label_name}
use Rattle.ob_text_words.proofs.Labels.{one_label}
use Rattle.ob_text_words.specs.Schedule.{IsItem, steps, until, to_answer}
use Rattle.ob_text_words.specs.declared.item.Item.{Item}
use Rattle.ob_text_words.specs.declared.item.Item.TheVariants as Items

-- the parts of a word are the digits in front of a mark, the mark, and the rest
abbrev pub IsSplit : Word → Word → Word → Type 0
IsSplit word front back =
    (first : List ℕ) (mark : ℕ) (behind : List ℕ) → word ≡ first ++ mark ∷ behind → IsTrue (list_all is_ascii_digit first)
    → is_ascii_digit mark ≡ false → (front ≡ first) × (back ≡ mark ∷ behind)

-- what an item is, by its mark
pub data Parts (front back : Word) (item : Item) : Type 0 where
  counted : {p k : ℕ} {second : Word} → IsProcess front p → back ≡ 42 ∷ second → IsDigits 9 second k → item ≡ Items.Steps p k → Parts front back item
  labelled : {p : ℕ} {label : Label} → IsProcess front p → back ≡ 58 ∷ label_name label → item ≡ Items.Until p label → Parts front back item
  answering : {p : ℕ} → IsProcess front p → back ≡ 33 ∷ [] → item ≡ Items.ToAnswer p → Parts front back item

process_of_front : {front first : Word} {p : ℕ} → front ≡ first → IsProcess first p → IsProcess front p
process_of_front e h = rw e h

pub parts_of : (front back : Word) {word : Word} {item : Item} → IsSplit word front back → IsItem word item → Parts front back item
parts_of front back split (steps {first = first} {second = second} h k) =
    let s = split first 42 second refl h.digits refl in
    counted (process_of_front s.0 h) s.1 k refl
parts_of front back split (until {first = first} {label = label} h) =
    let s = split first 58 (label_name label) refl h.digits refl in
    labelled (process_of_front s.0 h) s.1 refl
parts_of front back split (to_answer {first = first} h) =
    let s = split first 33 [] refl h.digits refl in
    answering (process_of_front s.0 h) s.1 refl

-- a list has one head and one tail
one_head : {a b : ℕ} {xs ys back : Word} → back ≡ a ∷ xs → back ≡ b ∷ ys → a ≡ b
one_head e is = cc

one_tail : {a b : ℕ} {xs ys back : Word} → back ≡ a ∷ xs → back ≡ b ∷ ys → xs ≡ ys
one_tail e is = cc

both : (a b : Bool) → (a && b) ≡ true → (a ≡ true) × (b ≡ true)
both true b h = (refl, h)
both false b h = absurd (false≢true h)

all_parts : (x : ℕ) (xs : List ℕ) → IsTrue (list_all is_ascii_digit (x ∷ xs)) → (is_ascii_digit x ≡ true) × IsTrue (list_all is_ascii_digit xs)
all_parts x xs h = both (is_ascii_digit x) (list_all is_ascii_digit xs) h

-- digits in front of a mark are all the digits in front
digit_split : (front : Word) (mark : ℕ) (behind : Word) → IsTrue (list_all is_ascii_digit front) → is_ascii_digit mark ≡ false → IsSplit (front ++ mark ∷ behind) front (mark ∷ behind)
digit_split [] mark behind all other [] mark' behind' is all' other' = (refl, is)
digit_split [] mark behind all other (x ∷ first) mark' behind' is all' other' =
    let heads : mark ≡ x = one_head refl is in
    absurd (false≢true (sym other ∙ ap is_ascii_digit heads ∙ (all_parts x first all').0))
digit_split (x ∷ front) mark behind all other [] mark' behind' is all' other' =
    let heads : x ≡ mark' = one_head refl is in
    absurd (false≢true (sym other' ∙ sym (ap is_ascii_digit heads) ∙ (all_parts x front all).0))
digit_split (x ∷ front) mark behind all other (y ∷ first) mark' behind' is all' other' =
    let heads : x ≡ y = one_head refl is in
    let tails : front ++ mark ∷ behind ≡ first ++ mark' ∷ behind' = one_tail refl is in
    let rest = digit_split front mark behind (all_parts x front all).1 other first mark' behind' tails (all_parts y first all').1 other' in
    (ap₂ (λ (z : ℕ) (zs : Word). z ∷ zs) heads rest.0, rest.1)

one_number : {most m n : ℕ} {v w : Word} → v ≡ w → IsDigits most v m → IsDigits most w n → m ≡ n
one_number e h k = sym h.spells ∙ ap number_value e ∙ k.spells

same_steps : {front second : Word} {p k : ℕ} {item : Item} → IsProcess front p → IsDigits 9 second k → Parts front (42 ∷ second) item → Items.Steps p k ≡ item
same_steps h d (counted {second = second'} h' e d' is) =
    ap₂ Items.Steps (one_number refl h h') (one_number (one_tail refl e) d d') ∙ sym is
same_steps h d (labelled h' e is) = absurd (omega (arith, one_head refl e))
same_steps h d (answering h' e is) = absurd (omega (arith, one_head refl e))

same_until : {front : Word} {p : ℕ} {label : Label} {item : Item} → IsProcess front p → Parts front (58 ∷ label_name label) item → Items.Until p label ≡ item
same_until h (counted h' e d' is) = absurd (omega (arith, one_head refl e))
same_until {label = label} h (labelled {label = other} h' e is) =
    let names : label_name label ≡ label_name other = one_tail refl e in
    ap₂ Items.Until (one_number refl h h') (one_label label other names) ∙ sym is
same_until h (answering h' e is) = absurd (omega (arith, one_head refl e))

same_to_answer : {front : Word} {p : ℕ} {item : Item} → IsProcess front p → Parts front (33 ∷ []) item → Items.ToAnswer p ≡ item
same_to_answer h (counted h' e d' is) = absurd (omega (arith, one_head refl e))
same_to_answer h (labelled h' e is) = absurd (omega (arith, one_head refl e))
same_to_answer h (answering h' e is) = ap Items.ToAnswer (one_number refl h h') ∙ sym is

pub one_item : {word : Word} {a b : Item} → IsItem word a → IsItem word b → a ≡ b
one_item (steps {first = first} {second = second} h d) i = same_steps h d (parts_of first (42 ∷ second) (digit_split first 42 second h.digits refl) i)
one_item (until {first = first} {label = label} h) i = same_until h (parts_of first (58 ∷ label_name label) (digit_split first 58 (label_name label) h.digits refl) i)
one_item (to_answer {first = first} h) i = same_to_answer h (parts_of first (33 ∷ []) (digit_split first 33 [] h.digits refl) i)
