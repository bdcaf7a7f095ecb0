-- The words that a text begins with, up to a blank or a line feed.
use Rattle.std.proofs.Common.{◌≡◌, ℕ, ◌+◌, ◌-◌, ◌<◌, ◌≤◌, ◌^◌, ◌==◌, pos, Bool, true, false, Some, List, [], ◌∷◌, ◌++◌, length, map, take, drop, get_or, refl, sym, ◌∙◌, ap, subst, arith, zero-add, zero, suc, append-nil, append_assoc, length-append}
use Rattle.ob_interface.specs.declared.scalar.Scalar.TheVariants.{Int}
use Rattle.ob_interface.specs.declared.scalar.ScalarType.TheVariants.{Integer}
use Rattle.ob_text_values_reading.specs.LineBeginnings as Beginnings
use Rattle.ob_text_values_reading.specs.CallNames as Names
use Rattle.std.specs.Char.{is_ascii_digit, digit_value}
use Rattle.std.specs.List.{All, list_all, position, onto_first}
use Rattle.std.proofs.lemmas.List.{take-append-drop, drop_more, length-take}
use Rattle.std.proofs.lemmas.List.Elements.{All-cons, All-nil, All-head, All-tail}
use Rattle.std.proofs.lemmas.List.Quantifiers.{position-Some}
use Rattle.std.proofs.lemmas.List.Splits.{slice_split-cons_yes, slice_split-cons_no, slice_split_at}
use Rattle.std.proofs.lemmas.Grind.{common_steps}
use Rattle.std.proofs.lemmas.Bool.Decides.{nat_tests}
use Rattle.ob_scan.specs.Spelling.{number_value}
use Rattle.ob_text_words.specs.Values.{integer}
use Rattle.ob_text_words.specs.Words.{Word, is_blank, lines, positive, words}
use Rattle.ob_text_values_reading.specs.CallNames.{AreIds, IsId, TakesId, id}
use Rattle.ob_text_values_reading.specs.LineBeginnings.{BeginsLine, BeginsWithId, BeginsWithProcess, BeginsWithValue, BeginsWithWord, EndsWord, TakesIds, ends_word}
use Rattle.ob_text_values_reading.specs.RecordTexts.{Line}
use Rattle.ob_text_values_reading.proofs.IdsTaken.{digit_is, both}
use Rattle.ob_text_values_reading.proofs.WordsTaken.{HasNoBlank, behind_blank, word_alone, word_then}
use Rattle.wf_history.specs.declared.event.CallId.{CallId}

-- no blank and no line feed
abbrev pub IsWhole : List ℕ → Type 0
IsWhole bytes = All (λ b. ends_word b ≡ false) bytes

neither : (b : ℕ) → ends_word b ≡ false → (is_blank b ≡ false) × ((b == 10) ≡ false)
neither b h = (grind (arith, nat_tests), grind (arith, nat_tests))

no_blanks : (bytes : List ℕ) → IsWhole bytes → HasNoBlank bytes
no_blanks bytes whole i d within = (neither (get_or bytes i d) (whole i d within)).0

no_feeds : (bytes : List ℕ) → IsWhole bytes → All (λ b. (b == 10) ≡ false) bytes
no_feeds bytes whole i d within = (neither (get_or bytes i d) (whole i d within)).1

-- the first line of a text, and the others
abbrev FirstLine : List ℕ → Type 0
FirstLine text = (x : List ℕ) × (xs : List (List ℕ)) × (lines text ≡ x ∷ xs)

one_more : (b : ℕ) (text : List ℕ) (t : Bool) → (b == 10) ≡ t → FirstLine text → FirstLine (b ∷ text)
one_more b text true e f = ([], lines text, slice_split-cons_yes (λ b. b == 10) b text e)
one_more b text false e f = (b ∷ f.0, f.1, slice_split-cons_no (λ b. b == 10) b text e ∙ ap (onto_first b) f.2)

first_line : (text : List ℕ) → FirstLine text
first_line [] = ([], [], refl)
first_line (b ∷ text) = one_more b text (b == 10) refl (first_line text)

-- what stands in front of a text stands in front of its first line
lines_front : (front text x : List ℕ) (xs : List (List ℕ)) → All (λ b. (b == 10) ≡ false) front → lines text ≡ x ∷ xs → lines (front ++ text) ≡ (front ++ x) ∷ xs
lines_front [] text x xs h e = e
lines_front (b ∷ front) text x xs h e =
    let one : (b == 10) ≡ false = All-head (λ b. (b == 10) ≡ false) b front h in
    slice_split-cons_no (λ b. b == 10) b (front ++ text) one
    ∙ ap (onto_first b) (lines_front front text x xs (All-tail (λ b. (b == 10) ≡ false) b front h) e)

-- a line that ends here has no words
pub feed_said : (b : ℕ) (rest : List ℕ) → (b == 10) ≡ true → map words (lines (b ∷ rest)) ≡ [] ∷ map words (lines rest)
feed_said b rest feed = ap (map words) (slice_split-cons_yes (λ b. b == 10) b rest feed)

blank_no_feed : (b : ℕ) → is_blank b ≡ true → (b == 10) ≡ false
blank_no_feed b blank = grind (arith, nat_tests)

-- a blank says nothing
pub blank_said : (b : ℕ) (rest : List ℕ) → is_blank b ≡ true → map words (lines (b ∷ rest)) ≡ map words (lines rest)
blank_said b rest blank =
    let f = first_line rest in
    ap (map words) (slice_split-cons_no (λ b. b == 10) b rest (blank_no_feed b blank) ∙ ap (onto_first b) f.2)
    ∙ ap (λ w. w ∷ map words f.1) (behind_blank b f.0 blank)
    ∙ sym (ap (map words) f.2)

firsts : {l k : Line} {ls ks : List Line} → l ∷ ls ≡ k ∷ ks → (w : Word) → (w ∷ l) ∷ ls ≡ (w ∷ k) ∷ ks
firsts e w = cc

-- a word, and a blank or a line feed that ends it
pub word_said : (word : Word) (b : ℕ) (rest : List ℕ) → IsWhole word → 1 ≤ length word → ends_word b ≡ true → BeginsWithWord (word ++ b ∷ rest) word (b ∷ rest)
word_said word b rest whole some ends l ls said = by_test (b == 10) refl
  where
    by_test : (t : Bool) → (b == 10) ≡ t → map words (lines (word ++ b ∷ rest)) ≡ (word ∷ l) ∷ ls
    by_test true feed =
        ap (map words) (slice_split_at (λ b. b == 10) word b rest (no_feeds word whole) feed)
        ∙ ap (λ ws. ws ∷ map words (lines rest)) (word_alone word (no_blanks word whole) some)
        ∙ firsts (sym (feed_said b rest feed) ∙ said) word
    by_test false other =
        let blank : is_blank b ≡ true = grind (arith, nat_tests) in
        let f = first_line rest in
        let line : lines (b ∷ rest) ≡ (b ∷ f.0) ∷ f.1 = slice_split-cons_no (λ b. b == 10) b rest other ∙ ap (onto_first b) f.2 in
        let here : words f.0 ∷ map words f.1 ≡ l ∷ ls = sym (ap (map words) f.2) ∙ sym (blank_said b rest blank) ∙ said in
        ap (map words) (lines_front word (b ∷ rest) (b ∷ f.0) f.1 (no_feeds word whole) line)
        ∙ ap (λ ws. ws ∷ map words f.1) (word_then word b f.0 (no_blanks word whole) some blank)
        ∙ firsts here word

-- up to the place of the first blank or line feed
pub front_word_said : (text : List ℕ) (i : ℕ) → position (λ b. ends_word b) text ≡ Some i → 1 ≤ i → BeginsWithWord text (take i text) (drop i text)
front_word_said text i placed some =
    let found = position-Some (λ b. ends_word b) text i 0 placed in
    let within : i < length text = found.0 in
    let parts : drop i text ≡ get_or text i 0 ∷ drop (i + 1) text = drop_more text i 0 within in
    let long : 1 ≤ length (take i text) = rw length-take (grind (arith, common_steps)) in
    let whole : IsWhole (take i text) = whole_to text i (omega arith) found.2 in
    subst (λ (t : List ℕ). BeginsWithWord t (take i text) (drop i text)) (take-append-drop i text)
    (subst (λ (t : List ℕ). BeginsWithWord (take i text ++ t) (take i text) t) (sym parts) (word_said (take i text) (get_or text i 0) (drop (i + 1) text) whole long found.1))
  where
    whole_to : (text : List ℕ) (i : ℕ) → i ≤ length text → ((k : ℕ) → k < i → ends_word (get_or text k 0) ≡ false) → IsWhole (take i text)
    whole_to text zero within h = All-nil (λ b. ends_word b ≡ false)
    whole_to [] (suc i) within h = All-nil (λ b. ends_word b ≡ false)
    whole_to (b ∷ text) (suc i) within h =
        All-cons (λ b. ends_word b ≡ false) b (take i text) (h 0 (omega arith)) (whole_to text i (omega arith) (λ k below. h (suc k) (omega arith)))

-- the name of a call has no blank and no line feed
digit_whole : (d : ℕ) → is_ascii_digit d ≡ true → ends_word d ≡ false
digit_whole d h = grind (arith, nat_tests)

digits_whole : (ds : List ℕ) → list_all is_ascii_digit ds ≡ true → IsWhole ds
digits_whole [] h = All-nil (λ b. ends_word b ≡ false)
digits_whole (d ∷ ds) h =
    let p = both (is_ascii_digit d) (list_all is_ascii_digit ds) h in
    All-cons (λ b. ends_word b ≡ false) d ds (digit_whole d p.0) (digits_whole ds p.1)

before_whole : (xs ys : List ℕ) → IsWhole xs → IsWhole ys → IsWhole (xs ++ ys)
before_whole [] ys h k = k
before_whole (x ∷ xs) ys h k =
    All-cons (λ b. ends_word b ≡ false) x (xs ++ ys) (All-head (λ b. ends_word b ≡ false) x xs h) (before_whole xs ys (All-tail (λ b. ends_word b ≡ false) x xs h) k)

behind_point : (first second : Word) → 1 ≤ length (first ++ 46 ∷ second)
behind_point [] second = omega arith
behind_point (b ∷ first) second = omega arith

id_whole : {processes : ℕ} {word : Word} {i : CallId} → IsId processes word i → IsWhole word × (1 ≤ length word)
id_whole (id {first = first} {second = second} process below number small) =
    (before_whole first (46 ∷ second) (digits_whole first process.digits) (All-cons (λ b. ends_word b ≡ false) 46 second refl (digits_whole second number.digits)), behind_point first second)

-- a short name of a call, taken off a line
longer : (word rest : List ℕ) → 1 ≤ length word → length rest < length (word ++ rest)
longer word rest some = let long = length-append word rest in omega (arith, long, some)

taken_to : (word behind rest : List ℕ) → IsWhole word → 1 ≤ length word → EndsWord behind rest → (words (word ++ behind) ≡ word ∷ words rest) × (length rest < length (word ++ behind))
taken_to word behind rest whole some Beginnings.at_end =
    (ap words (append-nil word) ∙ word_alone word (no_blanks word whole) some, longer word [] some)
taken_to word behind rest whole some (Beginnings.at_blank {b = b} blank) =
    (word_then word b rest (no_blanks word whole) some blank, let long = length-append word (b ∷ rest) in omega (arith, long, some))

pub short_taken : (processes : ℕ) (line : List ℕ) (i : CallId) (behind rest : List ℕ) → BeginsWithId processes line i behind → EndsWord behind rest →
    TakesId processes line i rest × (length rest < length line)
short_taken processes line i behind rest h ends =
    let name = id_whole h.names in
    let taken = taken_to h.word behind rest name.0 name.1 ends in
    (record { word = h.word; parts = ap words h.parts ∙ taken.0; names = h.names }, rw h.parts taken.1)

-- a kind and the name of a call, and what ends it
pub line_said : (processes : ℕ) (text : List ℕ) (kind : ℕ) (i : CallId) (b : ℕ) (rest : List ℕ) → ends_word kind ≡ false → ends_word b ≡ true →
    (h : BeginsLine processes text kind i (b ∷ rest)) → (l : Line) (ls : List Line) → map words (lines (b ∷ rest)) ≡ l ∷ ls →
    map words (lines text) ≡ ((kind ∷ []) ∷ h.named.word ∷ l) ∷ ls
line_said processes text kind i b rest whole ends h l ls said =
    let name = id_whole h.named.names in
    let behind : map words (lines h.line) ≡ (h.named.word ∷ l) ∷ ls = ap (λ t. map words (lines t)) h.named.parts ∙ word_said h.named.word b rest name.0 name.1 ends l ls said in
    let spaced : map words (lines (32 ∷ h.line)) ≡ (h.named.word ∷ l) ∷ ls = blank_said 32 h.line refl ∙ behind in
    let one : IsWhole (kind ∷ []) = All-cons (λ b. ends_word b ≡ false) kind [] whole (All-nil (λ b. ends_word b ≡ false)) in
    ap (λ t. map words (lines t)) h.parts ∙ word_said (kind ∷ []) 32 h.line one (omega arith) refl (h.named.word ∷ l) ls spaced

-- a process of one digit, and one of as many digits as are read
pub one_digit : (first : ℕ) (text : List ℕ) (process : ℕ) → is_ascii_digit first ≡ true → process ≡ first - 48 →
    BeginsWithProcess (first ∷ 46 ∷ text) process text
one_digit first text process digit is =
    record {
      word = first ∷ [];
      spells = record { digits = rw digit refl; some = omega arith; spells = zero-add (digit_value first) ∙ digit_is first digit ∙ sym is };
      parts = refl;
    }

pub many_digits : (text rest : List ℕ) (process count : ℕ) → list_all is_ascii_digit (take count text) ≡ true → number_value (take count text) ≡ process →
    1 ≤ count → count ≤ length text → drop count text ≡ 46 ∷ rest → BeginsWithProcess text process rest
many_digits text rest process count digits spells some within point =
    let long : 1 ≤ length (take count text) = rw length-take (grind (arith, common_steps)) in
    record {
      word = take count text;
      spells = record { digits = digits; some = long; spells = spells };
      parts = sym (take-append-drop count text) ∙ ap (λ t. take count text ++ t) point;
    }

-- a process, and the first digits behind the point
pub id_begins : (processes : ℕ) (text behind : List ℕ) (process number count : ℕ) → BeginsWithProcess text process behind →
    process < processes → list_all is_ascii_digit (take count behind) ≡ true → number_value (take count behind) ≡ number →
    number < 10 ^ 10 → 1 ≤ count → count ≤ length behind →
    BeginsWithId processes text (record { process = process; number = number }) (drop count behind)
id_begins processes text behind process number count h below digits spells small some within =
    let long : 1 ≤ length (take count behind) = rw length-take (grind (arith, common_steps)) in
    record {
      word = h.word ++ 46 ∷ take count behind;
      names = id {first = h.word} {second = take count behind} {p = process} {k = number} h.spells below
          (record { digits = digits; some = long; spells = spells }) (omega arith);
      parts = rw append_assoc (h.parts ∙ ap (λ t. h.word ++ 46 ∷ t) (sym (take-append-drop count behind)));
    }

-- an INTEGER of as many digits as are read
pub natural_begins : (text : List ℕ) (number count b : ℕ) (rest : List ℕ) → list_all is_ascii_digit (take count text) ≡ true → number_value (take count text) ≡ number →
    1 ≤ count → count ≤ 10 → count ≤ length text → number ≤ 2147483647 → drop count text ≡ b ∷ rest → ends_word b ≡ true →
    BeginsWithValue Integer text (Int (pos number)) (drop count text)
natural_begins text number count b rest digits spells some few within small behind ends =
    let exact : length (take count text) ≡ count = rw length-take (grind (arith, common_steps)) in
    let long : 1 ≤ length (take count text) = omega (arith, exact, some) in
    let short : length (take count text) ≤ 10 = omega (arith, exact, few) in
    let begins : BeginsWithWord (take count text ++ b ∷ rest) (take count text) (b ∷ rest) = word_said (take count text) b rest (digits_whole (take count text) digits) long ends in
    record {
      word = take count text;
      says = integer (positive (record { digits = digits; some = long; few = short; spells = spells }) small);
      parts = subst (λ (t : List ℕ). BeginsWithWord t (take count text) (drop count text)) (take-append-drop count text)
          (subst (λ (t : List ℕ). BeginsWithWord (take count text ++ t) (take count text) t) (sym behind) begins);
    }

-- the words of a text so far, in front of its first line's others
abbrev pub SaysFirst : List ℕ → List Word → List ℕ → Type 0
SaysFirst text said left = (l : Line) (ls : List Line) → map words (lines left) ≡ l ∷ ls → map words (lines text) ≡ (said ++ l) ∷ ls

word_more : (text : List ℕ) (said : List Word) (left : List ℕ) (word : Word) (rest : List ℕ) → SaysFirst text said left → BeginsWithWord left word rest →
    SaysFirst text (said ++ word ∷ []) rest
word_more text said left word rest so_far begins l ls e = rw append_assoc (so_far (word ∷ l) ls (begins l ls e))

-- the calls that a text names so far
pub record NamesTo (processes : ℕ) (text left : List ℕ) : Type 0 where
  pub said : List Word
  pub ids : List CallId
  pub names : (ws : List Word) (others : List CallId) → AreIds processes ws others → AreIds processes (said ++ ws) (ids ++ others)
  pub parts : SaysFirst text said left

pub no_name_yet : (processes : ℕ) (text : List ℕ) → NamesTo processes text text
no_name_yet processes text = record { said = []; ids = []; names = λ ws others h. h; parts = λ l ls e. e }

module _ (processes : ℕ) (text left : List ℕ) (i : CallId) where
  -- the name of a call is a word of the first line
  name_said : (b : ℕ) (rest : List ℕ) → ends_word b ≡ true → (h : BeginsWithId processes left i (b ∷ rest)) → BeginsWithWord left h.word (b ∷ rest)
  name_said b rest ends h l ls e =
      let name = id_whole h.names in
      ap (λ t. map words (lines t)) h.parts ∙ word_said h.word b rest name.0 name.1 ends l ls e

  pub one_name_more : (rest : List ℕ) → NamesTo processes text left → BeginsWithId processes left i (32 ∷ rest) → NamesTo processes text rest
  one_name_more rest so_far h =
      record {
        said = so_far.said ++ h.word ∷ [];
        ids = so_far.ids ++ i ∷ [];
        names = λ ws others k. rw (append_assoc, append_assoc) (so_far.names (h.word ∷ ws) (i ∷ others) (Names.more h.names k));
        parts = word_more text so_far.said left h.word rest so_far.parts (λ l ls e. name_said 32 rest refl h l ls (blank_said 32 rest refl ∙ e));
      }

  pub last_name : (rest : List ℕ) → NamesTo processes text left → BeginsWithId processes left i (10 ∷ rest) → TakesIds processes text rest
  last_name rest so_far h =
      record {
        line = so_far.said ++ h.word ∷ [];
        ids = so_far.ids ++ i ∷ [];
        names = so_far.names (h.word ∷ []) (i ∷ []) (Names.more h.names Names.none);
        parts = so_far.parts (h.word ∷ []) (map words (lines rest)) (name_said 10 rest refl h [] (map words (lines rest)) (feed_said 10 rest refl));
      }

  pub name_shorter : (b : ℕ) (rest : List ℕ) → BeginsWithId processes left i (b ∷ rest) → length rest < length left
  name_shorter b rest h = rw h.parts (let long = length-append h.word (b ∷ rest) in omega (arith, long))
