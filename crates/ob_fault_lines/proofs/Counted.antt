-- Lines counted, and the calls and events that they say.
use Rattle.std.proofs.Common.{◌≡◌, ◌∙◌, ℕ, ◌+◌, ◌<◌, ◌≤◌, ◌==◌, not, cond, Bool, true, false, List, [], ◌∷◌, ◌++◌, All, codes, count_by, length, map, take, get_or, refl, sym, ap, arith}
use Rattle.std.specs.Char.{is_ascii_digit}
use Rattle.std.specs.List.{list_all}
use Rattle.std.proofs.lemmas.Bool.{and_parts, eqb-true, false≢true}
use Rattle.std.proofs.lemmas.List.{length-map, take_all}
use Rattle.std.proofs.lemmas.List.Elements.{All-head, All-tail}
use Rattle.std.proofs.lemmas.List.Sums.{count_by_more_no, count_by_more_yes, sum_by-append, sum_by-cons}
use Rattle.std.proofs.Math.ListN.{get_or-map}
use Rattle.ob_interface.specs.Call.{ObjectCall, Reply}
use Rattle.ob_interface.specs.Export.{Signature}
use Rattle.ob_fault_lines.specs.Counts.{CountsCalls, CountsEvents, begins_with, is_begin, is_end, makes_call, script_calls}
use Rattle.ob_text_reading.specs.Openings as Openings
use Rattle.ob_text_reading.specs.Openings.{AreOpenings}
use Rattle.ob_text_reading.specs.RecordLines as Lines
use Rattle.ob_text_reading.specs.RecordLines.{AreLines, IsApplied, IsBudget, IsCount, IsEvent, IsHead, IsOrder, IsTail, IsTitle, Line, Told, record_lines}
use Rattle.ob_text_values_reading.proofs.SaidLines.{said_on, said_over}
use Rattle.ob_text_values_reading.specs.Comments.{is_comment, said}
use Rattle.ob_text_scripts.specs.Script as Script
use Rattle.ob_text_scripts.specs.Script.{IsSkipped, Makes}
use Rattle.ob_text_words.specs.ScriptCalls.{ScriptCall}
use Rattle.ob_text_words.specs.Words.{Word, words}
use Rattle.ob_typing.specs.Program.{Variable}
use Rattle.wf_history.specs.History.{Event, Applied, Begin, End}

-- ---- one more line

pub line_read : (parts : List (List ℕ)) (n : ℕ) (line : List ℕ) → n < length parts → line ≡ get_or parts n line
    → (n < length (map words parts)) × (words line ≡ get_or (map words parts) n (words line))
line_read parts n line below at = (rw length-map below, ap words at ∙ sym (get_or-map words parts n line))

module _ (passes : Line → Bool) (ls : List Line) (n : ℕ) (line : Line) (within : n < length ls) (at : line ≡ get_or ls n line) where
  pub one_more : (count : ℕ) → count ≡ count_by passes (take n ls) → passes line ≡ true → count + 1 ≡ count_by passes (take (n + 1) ls)
  one_more count so_far is = ap (λ (k : ℕ). k + 1) so_far ∙ sym (count_by_more_yes passes ls n line within (ap passes (sym at) ∙ is))

  pub none_more : (count : ℕ) → count ≡ count_by passes (take n ls) → passes line ≡ false → count ≡ count_by passes (take (n + 1) ls)
  none_more count so_far is = so_far ∙ sym (count_by_more_no passes ls n line within (ap passes (sym at) ∙ is))

pub all_counted : (passes : Line → Bool) (ls : List Line) (n count : ℕ) → length ls ≤ n → count ≡ count_by passes (take n ls) → count ≡ count_by passes ls
all_counted passes ls n count past so_far = so_far ∙ ap (count_by passes) (take_all n ls past)

abbrev worth : Bool → ℕ
worth true = 1
worth false = 0

worth_is : (t : Bool) → cond t 1 0 ≡ worth t
worth_is true = refl
worth_is false = refl

counted : {A : Type 0} (passes : A → Bool) (x : A) (xs : List A) → count_by passes (x ∷ xs) ≡ worth (passes x) + count_by passes xs
counted passes x xs = sum_by-cons (λ y. cond (passes y) 1 0) x xs ∙ ap (λ (k : ℕ). k + count_by passes xs) (worth_is (passes x))

counted_both : {A : Type 0} (passes : A → Bool) (xs ys : List A) → count_by passes (xs ++ ys) ≡ count_by passes xs + count_by passes ys
counted_both passes xs ys = sum_by-append (λ y. cond (passes y) 1 0) xs ys

counted_yes : {A : Type 0} (passes : A → Bool) (x : A) (xs : List A) → passes x ≡ true → count_by passes (x ∷ xs) ≡ 1 + count_by passes xs
counted_yes passes x xs is = counted passes x xs ∙ ap (λ (t : Bool). worth t + count_by passes xs) is

counted_no : {A : Type 0} (passes : A → Bool) (x : A) (xs : List A) → passes x ≡ false → count_by passes (x ∷ xs) ≡ count_by passes xs
counted_no passes x xs is = counted passes x xs ∙ ap (λ (t : Bool). worth t + count_by passes xs) is ∙ omega arith

-- ---- the calls of a script

skips : {line : Line} → IsSkipped line → makes_call line ≡ false
skips Script.blank = refl
skips Script.comment = refl

no_sign : (b : ℕ) (more : List ℕ) (t : Bool) → (b == 35) ≡ t → list_all is_ascii_digit (b ∷ more) ≡ true → not t ≡ true
no_sign b more false e digits = refl
no_sign b more true e digits =
    let sign : is_ascii_digit 35 ≡ true = ap is_ascii_digit (sym (eqb-true b 35 e)) ∙ (and_parts (is_ascii_digit b) (list_all is_ascii_digit more) digits).0 in
    absurd (false≢true sign)

first_makes : (first : Word) (ws : List Word) → list_all is_ascii_digit first ≡ true → makes_call (first ∷ ws) ≡ true
first_makes [] ws digits = refl
first_makes (b ∷ more) ws digits = no_sign b more (b == 35) refl digits

module _ (signatures : List Signature) (processes : ℕ) where
  makes_one : {line : Line} {c : ScriptCall} → Makes signatures processes line c → makes_call line ≡ true
  makes_one (Script.makes {first = first} {name = name} {rest = rest} is below named export values) = first_makes first (name ∷ rest) is.digits

  counts_script : {ls : List Line} {calls : List ScriptCall} → Script.AreLines signatures processes ls calls → length calls ≡ count_by makes_call ls
  counts_script Script.none = refl
  counts_script (Script.skipped {line = line} {rest = rest} s h) = counts_script h ∙ sym (counted_no makes_call line rest (skips s))
  counts_script (Script.call {line = line} {rest = rest} {calls = calls} m h) =
      let of_rest = counts_script h in
      let own = counted_yes makes_call line rest (makes_one m) in
      omega (arith, of_rest, own)

pub counts_calls : (script : List ℕ) (count : ℕ) → count ≡ script_calls script → CountsCalls script count
counts_calls script count is signatures processes calls h = counts_script signatures processes h ∙ sym is

-- ---- the events of a record

module _ (letter : ℕ) (is_of_kind : Event ObjectCall Reply → Bool) where
  -- the letter stands for the kind of event, at the beginning of its line
  pub record IsLetter : Type 0 where
    pub begins : (ws : List Word) (e : Event ObjectCall Reply) → is_begin e ≡ true → begins_with letter (codes "B" ∷ ws) ≡ is_of_kind e
    pub ends : (ws : List Word) (e : Event ObjectCall Reply) → is_end e ≡ true → begins_with letter (codes "E" ∷ ws) ≡ is_of_kind e
    pub applied : (ws : List Word) → begins_with letter (codes "A" ∷ ws) ≡ false
    pub order : (ws : List Word) → begins_with letter (codes "O" ∷ ws) ≡ false
    pub title : (ws : List Word) → begins_with letter (codes "obl0" ∷ ws) ≡ false
    pub count : (ws : List Word) → begins_with letter (codes "n" ∷ ws) ≡ false
    pub budget : (ws : List Word) → begins_with letter (codes "b" ∷ ws) ≡ false
    pub opening : (ws : List Word) → begins_with letter ((73 ∷ []) ∷ ws) ≡ false
    pub schedule : (more : List ℕ) (ws : List Word) → begins_with letter ((83 ∷ more) ∷ ws) ≡ false
    pub variable : (more : List ℕ) (ws : List Word) → begins_with letter ((86 ∷ more) ∷ ws) ≡ false
    pub remark : (35 == letter) ≡ false

  module _ (is : IsLetter) where
    of_tail : {line : Line} → IsTail line → begins_with letter line ≡ false
    of_tail (Lines.schedule {more = more} {ws = ws}) = is.schedule more ws
    of_tail (Lines.variable {more = more} {ws = ws}) = is.variable more ws

    of_tails : (ls : List Line) → All IsTail ls → count_by (begins_with letter) ls ≡ 0
    of_tails [] h = refl
    of_tails (line ∷ ls) h = counted_no (begins_with letter) line ls (of_tail (All-head IsTail line ls h)) ∙ of_tails ls (All-tail IsTail line ls h)

    of_order : {processes : ℕ} {line : Line} {ids : _} → IsOrder processes line ids → begins_with letter line ≡ false
    of_order (Lines.order {ws = ws} h) = is.order ws

    of_event : {processes : ℕ} {signatures : List Signature} {before : List (Event ObjectCall Reply)} {line : Line} {e : Event ObjectCall Reply} →
        IsEvent processes signatures before line e → begins_with letter line ≡ is_of_kind e
    of_event {e = e} (Lines.begin {word = word} {name = name} {rest = rest} names export values) = is.begins (word ∷ name ∷ rest) e refl
    of_event {e = e} (Lines.end {word = word} {rest = rest} names call reply) = is.ends (word ∷ rest) e refl

    of_applied : {processes : ℕ} {line : Line} → IsApplied processes line → begins_with letter line ≡ false
    of_applied (Lines.applied {ws = ws} names) = is.applied ws

    -- lines behind events: those that they tell are counted
    of_lines : {processes : ℕ} {signatures : List Signature} {before all : List (Event ObjectCall Reply)} {ls : List Line} {ids : _} →
        AreLines processes signatures before ls all ids → count_by is_of_kind all ≡ count_by is_of_kind before + count_by (begins_with letter) ls
    of_lines {before = before} (Lines.event {line = line} {rest = rest} {e = e} next h) =
        let later = of_lines h in
        let joined = counted_both is_of_kind before (e ∷ []) in
        let last = counted is_of_kind e [] in
        let own = counted (begins_with letter) line rest in
        let same : worth (begins_with letter line) ≡ worth (is_of_kind e) = ap worth (of_event next.form) in
        let nothing : count_by is_of_kind [] ≡ 0 = refl in
        omega (arith, later, joined, last, own, same, nothing)
    of_lines (Lines.applied {line = line} {rest = rest} h k) =
        let later = of_lines k in
        let none = counted_no (begins_with letter) line rest (of_applied h) in
        omega (arith, later, none)
    of_lines {before = before} (Lines.order {line = line} {rest = rest} h tails) =
        let none = counted_no (begins_with letter) line rest (of_order h) in
        let later = of_tails rest tails in
        omega (arith, none, later)

    of_openings : {variables : List Variable} {ls : List Line} {held : _} → AreOpenings variables ls held → count_by (begins_with letter) ls ≡ 0
    of_openings Openings.none = refl
    of_openings (Openings.more {line = line} {ls = ls} h hs) =
        counted_no (begins_with letter) line ls (ap (begins_with letter) h.says.parts ∙ is.opening h.says.ws) ∙ of_openings hs

    of_title : {version : Word} {line : Line} → IsTitle version line → begins_with letter line ≡ false
    of_title {version = version} h = ap (begins_with letter) h ∙ is.title (codes "record" ∷ version ∷ [])

    of_count : {line : Line} {n : ℕ} → IsCount line n → begins_with letter line ≡ false
    of_count (Lines.count {number = number} h least most) = is.count (number ∷ [])

    of_budget : {line : Line} {b : ℕ} → IsBudget line b → begins_with letter line ≡ false
    of_budget (Lines.budget {number = number} h most) = is.budget (number ∷ [])

    two_more : (a b : Line) (ls : List Line) → begins_with letter a ≡ false → begins_with letter b ≡ false → count_by (begins_with letter) (a ∷ b ∷ ls) ≡ count_by (begins_with letter) ls
    two_more a b ls first second = counted_no (begins_with letter) a (b ∷ ls) first ∙ counted_no (begins_with letter) b ls second

    of_head : {variables : List Variable} {ls : List Line} {processes budget : ℕ} {carried : _} → IsHead variables ls processes budget carried → count_by (begins_with letter) ls ≡ 0
    of_head (Lines.of_version_1 {title = a} {second = b} t c) = two_more a b [] (of_title t) (of_count c)
    of_head (Lines.of_version_2 {title = a} {second = b} {third = d} t c u) =
        two_more a b (d ∷ []) (of_title t) (of_count c) ∙ counted_no (begins_with letter) d [] (of_budget u)
    of_head (Lines.of_version_3 {title = a} {second = b} {third = d} {openings = ls} t c u h) =
        two_more a b (d ∷ ls) (of_title t) (of_count c) ∙ counted_no (begins_with letter) d ls (of_budget u) ∙ of_openings h

    -- no remark begins so
    of_comment : (line : Line) → is_comment line ≡ true → begins_with letter line ≡ false
    of_comment [] h = absurd (false≢true h)
    of_comment ([] ∷ ws) h = absurd (false≢true h)
    of_comment ((b ∷ more) ∷ ws) h = ap (λ (n : ℕ). n == letter) (eqb-true b 35 h) ∙ is.remark

    of_said : (ls : List Line) → count_by (begins_with letter) (said ls) ≡ count_by (begins_with letter) ls
    of_said [] = refl
    of_said (line ∷ ls) = go (is_comment line) refl (of_said ls)
      where
        go : (t : Bool) → is_comment line ≡ t → count_by (begins_with letter) (said ls) ≡ count_by (begins_with letter) ls →
            count_by (begins_with letter) (said (line ∷ ls)) ≡ count_by (begins_with letter) (line ∷ ls)
        go true h so_far = ap (count_by (begins_with letter)) (said_over line ls h) ∙ so_far ∙ sym (counted_no (begins_with letter) line ls (of_comment line h))
        go false h so_far =
            ap (count_by (begins_with letter)) (said_on line ls h) ∙ counted (begins_with letter) line (said ls)
            ∙ ap (λ (k : ℕ). worth (begins_with letter line) + k) so_far ∙ sym (counted (begins_with letter) line ls)

    pub counts_events : (text : List ℕ) (count : ℕ) → count ≡ count_by (begins_with letter) (record_lines text) → CountsEvents is_of_kind text count
    counts_events text count counted program told h =
        let behind = of_lines h.tells in
        let head = of_head h.heads in
        let joined = counted_both (begins_with letter) h.head h.behind in
        let parts = sym (of_said (record_lines text)) ∙ ap (count_by (begins_with letter)) h.parts in
        omega (arith, behind, head, joined, parts, counted)

no_begin : (e : Event ObjectCall Reply) → is_end e ≡ true → false ≡ is_begin e
no_begin (Begin id call) h = absurd (false≢true h)
no_begin (Applied ids) h = refl
no_begin (End id reply) h = refl

no_end : (e : Event ObjectCall Reply) → is_begin e ≡ true → false ≡ is_end e
no_end (Begin id call) h = refl
no_end (Applied ids) h = refl
no_end (End id reply) h = absurd (false≢true h)

pub letter_of_begin : IsLetter 66 is_begin
letter_of_begin = record {
  begins = λ ws e h. sym h;
  ends = λ ws e h. no_begin e h;
  applied = λ ws. refl;
  order = λ ws. refl;
  title = λ ws. refl;
  count = λ ws. refl;
  budget = λ ws. refl;
  opening = λ ws. refl;
  schedule = λ more ws. refl;
  variable = λ more ws. refl;
  remark = refl;
}

pub letter_of_end : IsLetter 69 is_end
letter_of_end = record {
  begins = λ ws e h. no_end e h;
  ends = λ ws e h. sym h;
  applied = λ ws. refl;
  order = λ ws. refl;
  title = λ ws. refl;
  count = λ ws. refl;
  budget = λ ws. refl;
  opening = λ ws. refl;
  schedule = λ more ws. refl;
  variable = λ more ws. refl;
  remark = refl;
}
