-- Each value that a record's text tells stands in the line that is counted for it.
use Rattle.std.proofs.Common.{◌≡◌, ◌∙◌, refl, ap, sym, ℕ, zero, suc, ◌+◌, ◌-◌, ◌<◌, ◌==◌, Bool, cond, true, false, List, [], ◌∷◌, ◌++◌, length, map, take, slice_get, Option, Some, None, option_map, subst, arith, if◌then◌else◌}
use Rattle.std.proofs.lemmas.Bool.{eqb-true, false≢true}
use Rattle.std.proofs.lemmas.Bool.Decides.{nat_tests}
use Rattle.std.proofs.lemmas.List.{length-append, map-append, take_all, take_more}
use Rattle.std.proofs.lemmas.List.Splits.{length-slice_split}
use Rattle.std.proofs.lemmas.Option.{slice_get-map, slice_get_within}
use Rattle.std.specs.Io.BufRead.{ends_with_byte}
use Rattle.std.specs.List.{onto_first}
use Rattle.std.specs.Prelude.{slice_index}
use Rattle.ob_text_words.specs.Words.{lines, words}
use Rattle.ob_carry.specs.Carried.{Entry}
use Rattle.ob_text_values_reading.proofs.SaidLines.{said_on, said_over}
use Rattle.ob_text_values_reading.specs.Comments.{is_comment, said}
use Rattle.ob_text_values_reading.specs.RecordTexts.{Line, record_lines}
use Rattle.ob_text_values_reading.specs.ReadValues as Told
use Rattle.ob_text_values_reading.specs.ReadValues.{AreTold, AreValuesIn, AreValuesOf}
use Rattle.ob_text_values_reading.specs.Variables.{BeginsWith, IsVariableLine}
use Rattle.ob_explained.specs.ValueLines.{EachValueHasItsLine, lines_from, tells_value}
use Rattle.ob_explained.proofs.ValueLines.{begins_so, tells}

-- among these lines, the one of the value at a position, by its number where the first line has this one
record IsIn (number : ℕ) (ls : List Line) (position : ℕ) (e : Entry) : Type 0 where
  before : ℕ
  line : Line
  counted : slice_get (lines_from number ls) position ≡ Some (number + before)
  is_line : slice_get ls before ≡ Some line
  tells_it : IsVariableLine 86 line e

silent : (line : Line) (t : Bool) → tells_value line ≡ t → (BeginsWith 86 line → ⊥) → t ≡ false
silent line true is none = absurd (none (begins_so line is))
silent line false is none = refl

-- behind one line more
behind_silent : (number : ℕ) (line : Line) (ls : List Line) (position : ℕ) (e : Entry) → tells_value line ≡ false →
    IsIn (suc number) ls position e → IsIn number (line ∷ ls) position e
behind_silent number line ls position e is i =
    let on : suc number + i.before ≡ number + suc i.before = omega arith in
    record {
      before = suc i.before;
      line = i.line;
      counted =
          ap (λ (b : Bool). slice_get (if b then number ∷ lines_from (suc number) ls else lines_from (suc number) ls) position) is
          ∙ i.counted ∙ ap Some on;
      is_line = i.is_line;
      tells_it = i.tells_it;
    }

behind_told : (number : ℕ) (line : Line) (ls : List Line) (position : ℕ) (e : Entry) → tells_value line ≡ true →
    IsIn (suc number) ls position e → IsIn number (line ∷ ls) (suc position) e
behind_told number line ls position e is i =
    let on : suc number + i.before ≡ number + suc i.before = omega arith in
    record {
      before = suc i.before;
      line = i.line;
      counted =
          ap (λ (b : Bool). slice_get (if b then number ∷ lines_from (suc number) ls else lines_from (suc number) ls) (suc position)) is
          ∙ i.counted ∙ ap Some on;
      is_line = i.is_line;
      tells_it = i.tells_it;
    }

at_once : (number : ℕ) (line : Line) (ls : List Line) (e : Entry) → tells_value line ≡ true → IsVariableLine 86 line e → IsIn number (line ∷ ls) 0 e
at_once number line ls e is told =
    let here : number ≡ number + 0 = omega arith in
    record {
      before = 0;
      line = line;
      counted =
          ap (λ (b : Bool). slice_get (if b then number ∷ lines_from (suc number) ls else lines_from (suc number) ls) 0) is ∙ ap Some here;
      is_line = refl;
      tells_it = told;
    }

line_begins : (line : Line) (e : Entry) → IsVariableLine 86 line e → BeginsWith 86 line
line_begins line e h = record { more = []; ws = h.ws; parts = h.parts }

-- ---- entries by their positions

got_left : {A : Type 0} (xs ys : List A) (k : ℕ) → k < length xs → slice_get (xs ++ ys) k ≡ slice_get xs k
got_left [] ys k below = absurd (omega (arith, below))
got_left (x ∷ xs) ys zero below = refl
got_left (x ∷ xs) ys (suc k) below = got_left xs ys k (omega (arith, below))

got_seam : {A : Type 0} (xs : List A) (y : A) → slice_get (xs ++ y ∷ []) (length xs) ≡ Some y
got_seam [] y = refl
got_seam (x ∷ xs) y = got_seam xs y

long_seam : {A : Type 0} (xs : List A) (y : A) → length (xs ++ y ∷ []) ≡ length xs + 1
long_seam xs y = length-append xs (y ∷ [])

-- those that were told before stay
kept : {told all : List Entry} {ls : List Line} → AreTold told ls all → (k : ℕ) → k < length told → slice_get all k ≡ slice_get told k
kept Told.nothing k below = refl
kept (Told.more (Told.other none) rest) k below = kept rest k below
kept {told} (Told.more (Told.variable {e = e} is new) rest) k below =
    kept rest k (omega (arith, below, long_seam told e)) ∙ got_left told (e ∷ []) k below

-- a remark tells none
remark_silent : (line : Line) → is_comment line ≡ true → tells_value line ≡ false
remark_silent [] h = absurd (false≢true h)
remark_silent ([] ∷ ws) h = absurd (false≢true h)
remark_silent ((b ∷ more) ∷ ws) h = ap (λ (n : ℕ). n == 86) (eqb-true b 35 h)

-- what is told by the lines of these that are no remarks is told by these
abbrev TellsIn : List Line → List Entry → Type 0
TellsIn ls all =
    (told : List Entry) → AreTold told (said ls) all → (number position : ℕ) (e : Entry) → slice_get all (length told + position) ≡ Some e → IsIn number ls position e

-- the next one is told by the first line that tells one
step : (line : Line) (ls : List Line) {told all : List Entry} → TellsIn ls all → AreTold told (line ∷ said ls) all → (number position : ℕ) (e : Entry) →
    slice_get all (length told + position) ≡ Some e → IsIn number (line ∷ ls) position e
step line ls {told} later (Told.more (Told.other none) rest) number position e got =
    behind_silent number line ls position e (silent line (tells_value line) refl none) (later told rest (suc number) position e got)
step line ls {told} later (Told.more (Told.variable {e = first} is new) rest) number zero e got =
    let here : length told + 0 ≡ length told = omega arith in
    let below : length told < length (told ++ first ∷ []) = omega (arith, long_seam told first) in
    let same : Some first ≡ Some e = sym (kept rest (length told) below ∙ got_seam told first) ∙ sym (ap (slice_get _) here) ∙ got in
    let one : first ≡ e = cc in
    at_once number line ls e (tells line (line_begins line first is)) (subst (IsVariableLine 86 line) one is)
step line ls {told} {all} later (Told.more (Told.variable {e = first} is new) rest) number (suc k) e got =
    let on : length told + suc k ≡ length (told ++ first ∷ []) + k = omega (arith, long_seam told first) in
    behind_told number line ls k e (tells line (line_begins line first is)) (later (told ++ first ∷ []) rest (suc number) k e (sym (ap (slice_get all) on) ∙ got))

nothing_in : {told all : List Entry} → AreTold told [] all → (number position : ℕ) (e : Entry) → slice_get all (length told + position) ≡ Some e → IsIn number [] position e
nothing_in {told} Told.nothing number position e got = absurd (omega (arith, slice_get_within told (length told + position) e got))

told_in : (ls : List Line) (all told : List Entry) → AreTold told (said ls) all → (number position : ℕ) (e : Entry) → slice_get all (length told + position) ≡ Some e → IsIn number ls position e
told_in [] all told h number position e got = nothing_in h number position e got
told_in (line ∷ ls) all told h number position e got = go (is_comment line) refl (told_in ls all)
  where
    go : (t : Bool) → is_comment line ≡ t → TellsIn ls all → IsIn number (line ∷ ls) position e
    go true is later =
        behind_silent number line ls position e (remark_silent line is)
        (later told (subst (λ (xs : List Line). AreTold told xs all) (said_over line ls is) h) (suc number) position e got)
    go false is later = step line ls later (subst (λ (xs : List Line). AreTold told xs all) (said_on line ls is) h) number position e got

first_of : {x y : Line} {xs ys : List Line} → x ∷ xs ≡ y ∷ ys → x ≡ y
first_of e = cc

rest_of : {x y : Line} {xs ys : List Line} → x ∷ xs ≡ y ∷ ys → xs ≡ ys
rest_of e = cc

-- behind a title, which is the first of these that is no remark
behind_title : (ls : List Line) (title : Line) (rest : List Line) (entries : List Entry) → title ∷ rest ≡ said ls → tells_value title ≡ false → AreTold [] rest entries →
    (number position : ℕ) (e : Entry) → slice_get entries position ≡ Some e → IsIn number ls position e
behind_title [] title rest entries parts quiet told number position e got = absurd cc
behind_title (line ∷ ls) title rest entries parts quiet told number position e got =
    go (is_comment line) refl (λ (own : title ∷ rest ≡ said ls). behind_title ls title rest entries own quiet told (suc number) position e got)
  where
    go : (t : Bool) → is_comment line ≡ t → (title ∷ rest ≡ said ls → IsIn (suc number) ls position e) → IsIn number (line ∷ ls) position e
    go true is later = behind_silent number line ls position e (remark_silent line is) (later (parts ∙ said_over line ls is))
    go false is later =
        let own : title ∷ rest ≡ line ∷ said ls = parts ∙ said_on line ls is in
        let begin : 0 + position ≡ position = omega arith in
        behind_silent number line ls position e (ap tells_value (sym (first_of own)) ∙ quiet)
        (told_in ls entries [] (subst (λ (xs : List Line). AreTold [] xs entries) (rest_of own) told) (suc number) position e (ap (slice_get entries) begin ∙ got))

told_of : {xs : List Line} {entries : List Entry} → AreValuesIn xs entries → (ls : List Line) → xs ≡ said ls → (position : ℕ) (e : Entry) → slice_get entries position ≡ Some e → IsIn 1 ls position e
told_of {entries = entries} (Told.values {title = title} {rest = rest} version is told) ls parts position e got =
    behind_title ls title rest entries parts (ap tells_value is) told 1 position e got

-- ---- with a line more at the end

lines_from-append : (number : ℕ) (ls more : List Line) → lines_from number (ls ++ more) ≡ lines_from number ls ++ lines_from (number + length ls) more
lines_from-append number [] more = let none : number ≡ number + 0 = omega arith in ap (λ (k : ℕ). lines_from k more) none
lines_from-append number (line ∷ ls) more =
    let on : suc number + length ls ≡ number + suc (length ls) = omega arith in
    go (tells_value line) (lines_from-append (suc number) ls more ∙ ap (λ (k : ℕ). lines_from (suc number) ls ++ lines_from k more) on)
  where
    go : (t : Bool) → lines_from (suc number) (ls ++ more) ≡ lines_from (suc number) ls ++ lines_from (number + suc (length ls)) more →
        (if t then number ∷ lines_from (suc number) (ls ++ more) else lines_from (suc number) (ls ++ more))
        ≡ (if t then number ∷ lines_from (suc number) ls else lines_from (suc number) ls) ++ lines_from (number + suc (length ls)) more
    go true rest = ap (λ (ns : List ℕ). number ∷ ns) rest
    go false rest = rest

in_more : (ls more : List Line) (position : ℕ) (e : Entry) → IsIn 1 ls position e → IsIn 1 (ls ++ more) position e
in_more ls more position e i =
    record {
      before = i.before;
      line = i.line;
      counted =
          ap (λ (ns : List ℕ). slice_get ns position) (lines_from-append 1 ls more)
          ∙ got_left (lines_from 1 ls) (lines_from (1 + length ls) more) position (slice_get_within (lines_from 1 ls) position (1 + i.before) i.counted) ∙ i.counted;
      is_line = got_left ls more i.before (slice_get_within ls i.before i.line i.is_line) ∙ i.is_line;
      tells_it = i.tells_it;
    }

-- ---- the lines of a text and of what stands before a line feed at its end

onto_more : (x : ℕ) (parts : List (List ℕ)) → 0 < length parts → onto_first x (parts ++ [] ∷ []) ≡ onto_first x parts ++ [] ∷ []
onto_more x [] some = absurd (omega (arith, some))
onto_more x (part ∷ parts) some = refl

lines_feed : (xs : List ℕ) → lines (xs ++ 10 ∷ []) ≡ lines xs ++ [] ∷ []
lines_feed [] = refl
lines_feed (x ∷ xs) = go (x == 10) (omega (arith, length-slice_split (λ b. b == 10) xs)) (lines_feed xs)
  where
    go : (t : Bool) → 0 < length (lines xs) → lines (xs ++ 10 ∷ []) ≡ lines xs ++ [] ∷ [] →
        cond t ([] ∷ lines (xs ++ 10 ∷ [])) (onto_first x (lines (xs ++ 10 ∷ []))) ≡ cond t ([] ∷ lines xs) (onto_first x (lines xs)) ++ [] ∷ []
    go true some rest = ap (λ (ls : List (List ℕ)). [] ∷ ls) rest
    go false some rest = ap (onto_first x) rest ∙ onto_more x (lines xs) some

ends_so : (text : List ℕ) → ends_with_byte 10 text ≡ true → text ≡ take (length text - 1) text ++ 10 ∷ []
ends_so text h =
    let some : 0 < length text = grind (arith, nat_tests, h) in
    let last : slice_index text (length text - 1) ≡ 10 = grind (arith, nat_tests, h) in
    let whole : length text - 1 + 1 ≡ length text = omega (arith, some) in
    let within : length text - 1 < length text = omega (arith, some) in
    sym (take_all (length text) text (omega arith)) ∙ sym (ap (λ (k : ℕ). take k text) whole) ∙ take_more text (length text - 1) 0 within
    ∙ ap (λ (b : ℕ). take (length text - 1) text ++ b ∷ []) last

in_text : (text : List ℕ) (t : Bool) → ends_with_byte 10 text ≡ t → (position : ℕ) (e : Entry) →
    IsIn 1 (map words (lines (if t then take (length text - 1) text else text))) position e → IsIn 1 (map words (lines text)) position e
in_text text false h position e i = i
in_text text true h position e i =
    let front = take (length text - 1) text in
    let same : map words (lines text) ≡ map words (lines front) ++ [] ∷ [] =
    ap (λ (xs : List ℕ). map words (lines xs)) (ends_so text h) ∙ ap (map words) (lines_feed front) ∙ map-append words (lines front) ([] ∷ []) in
    subst (λ (ls : List Line). IsIn 1 ls position e) (sym same) (in_more (map words (lines front)) ([] ∷ []) position e i)

-- ---- the line itself

of_words : (o : Option (List ℕ)) (ws : Line) → option_map words o ≡ Some ws → (line : List ℕ) × (o ≡ Some line) × (words line ≡ ws)
of_words None ws h = absurd cc
of_words (Some line) ws h = let same : words line ≡ ws = cc in (line, refl, same)

pub each_value_has_its_line : EachValueHasItsLine
each_value_has_its_line text entries position e told got =
    let i : IsIn 1 (map words (lines text)) position e = in_text text (ends_with_byte 10 text) refl position e (told_of told (record_lines text) refl position e got) in
    let found = of_words (slice_get (lines text) i.before) i.line (sym (slice_get-map words (lines text) i.before) ∙ i.is_line) in
    let back : 1 + i.before - 1 ≡ i.before = omega arith in
    record {
      number = 1 + i.before;
      line = found.0;
      counted = i.counted;
      is_line = ap (slice_get (lines text)) back ∙ found.1;
      tells = subst (λ (ws : Line). IsVariableLine 86 ws e) (sym found.2) i.tells_it;
    }
