-- Lines that tell of variables, one after the other.
use Rattle.std.proofs.Common.{◌≡◌, ◌∙◌, ℕ, ◌+◌, ◌<◌, IsTrue, List, [], ◌∷◌, ◌++◌, Result, Ok, Err, IfOk, IfErr, OnOk, Option, Some, None, length, refl, sym, ap, subst, arith, append_assoc, append-nil, length-append, codes, slice_get, get_or, ◌==◌, ◌≤◌}
use Rattle.std.proofs.lemmas.Bool.Decides.{nat_tests}
use Rattle.ob_carry.specs.Carried.{AreDistinctEntries, Entry, NoneNamed}
use Rattle.ob_carry.specs.View.{entry_of}
use Rattle.ob_carry.specs.declared.fields_by_name.NamedField.{NamedField}
use Rattle.ob_interface.specs.declared.no_memory.NoMemory.{NoMemory}
use Rattle.ob_meaning.specs.ByNameValue.{Value}
use Rattle.ob_text_words.specs.Finding.{FindsAs}
use Rattle.ob_text_words.specs.Words.{IsName, Word}
use Rattle.ob_text_values_reading.proofs.Indexing.{distinct_more}
use Rattle.ob_text_values_reading.proofs.OneValue.{one_value_of}
use Rattle.ob_text_values_reading.specs.Comments.{said}
use Rattle.ob_text_values_reading.specs.RecordTexts.{IsTitle, Line, record_lines}
use Rattle.ob_text_values_reading.specs.ReadValues as Told
use Rattle.ob_text_values_reading.specs.ReadValues.{AreTold, AreValuesIn, BeginsValues, FailsAtLine, FaultAmong, FaultStands, IsValuesFault, LeadsOn, SaysNone}
use Rattle.ob_text_values_reading.specs.ValueTexts.{SaysValue}
use Rattle.ob_text_values_reading.specs.Turns.{FailsBehind, FaultBehind, TellsBehind}
use Rattle.ob_text_values_reading.specs.Variables as Variables
use Rattle.ob_text_values_reading.specs.Variables.{BeginsWith, IsVariableLine, SaysVariable}
use Rattle.ob_text_values_reading.specs.Versions.{version_word}
use Rattle.ob_text_values_reading.specs.declared.value_reading.ValuesFault.{ValuesFault}
use Rattle.ob_text_values_reading.specs.declared.value_reading.ValuesFault.TheVariants as Faults
use Rattle.ob_text_values_reading.specs.declared.title.Version.{Version}
use Rattle.ob_text_values_reading.specs.declared.title.Version.TheVariants as Versions

abbrev entry : List ℕ → Value → Entry
entry name v = record { name = name; value = v }

one_said : {ws : List Word} {e f : Entry} → SaysVariable ws e → SaysVariable ws f → e ≡ f
one_said (Variables.says {name = name} {text = text} {v = v} n h) (Variables.says {v = w} m k) = ap (entry name) (one_value_of text v w h.says k.says)

others_of : {a b : Word} {ws xs : List Word} → a ∷ ws ≡ b ∷ xs → ws ≡ xs
others_of e = cc

pub one_line : {kind : ℕ} {line : Line} {e f : Entry} → IsVariableLine kind line e → IsVariableLine kind line f → e ≡ f
one_line {kind} {e = e} {f = f} h k =
    let same : (kind ∷ []) ∷ h.ws ≡ (kind ∷ []) ∷ k.ws = sym h.parts ∙ k.parts in
    one_said h.says (subst (λ (ws : List Word). SaysVariable ws f) (sym (others_of same)) k.says)

pub line_begins : {kind : ℕ} {line : Line} {e : Entry} → IsVariableLine kind line e → BeginsWith kind line
line_begins h = record { more = []; ws = h.ws; parts = h.parts }

pub one_next : {told : List Entry} {line : Line} {a b : List Entry} → LeadsOn told line a → LeadsOn told line b → a ≡ b
one_next (Told.other h) (Told.other k) = refl
one_next (Told.other h) (Told.variable k new) = absurd (h (line_begins k))
one_next (Told.variable h new) (Told.other k) = absurd (k (line_begins h))
one_next {told} (Told.variable h new) (Told.variable k new') = ap (λ (e : Entry). told ++ e ∷ []) (one_line h k)

pub joined : {a b c : List Entry} {xs ys : List Line} → AreTold a xs b → AreTold b ys c → AreTold a (xs ++ ys) c
joined Told.nothing k = k
joined (Told.more l h) k = Told.more l (joined h k)

pub behind : {a b c : List Entry} {xs ys : List Line} → AreTold a xs b → AreTold a (xs ++ ys) c → AreTold b ys c
behind Told.nothing k = k
behind {c = c} {ys = ys} (Told.more {rest = rest} l h) (Told.more m k) = behind h (subst (λ (next : List Entry). AreTold next (rest ++ ys) c) (one_next m l) k)

pub one_told : {a b c : List Entry} {ls : List Line} → AreTold a ls b → AreTold a ls c → b ≡ c
one_told Told.nothing Told.nothing = refl
one_told {c = c} (Told.more {rest = rest} l h) (Told.more m k) = one_told h (subst (λ (next : List Entry). AreTold next rest c) (one_next m l) k)

pub one_list : {ls : List Line} {a b : List Entry} → AreValuesIn ls a → AreValuesIn ls b → a ≡ b
one_list (Told.values v title h) (Told.values w title' k) = one_told h k

-- a line leads on from here, or no lines go on with it
next_of : {told all : List Entry} {line : Line} {rest : List Line} → AreTold told (line ∷ rest) all → (next : List Entry) × LeadsOn told line next
next_of (Told.more {next = next} l h) = (next, l)

-- the lines so far have been read, and these are left
pub record ReadTo (all left : List Line) (told : List Entry) (number : ℕ) : Type 0 where
  pub before : List Line
  pub parts : all ≡ before ++ left
  pub so_far : AreTold [] before told
  pub counted : number ≡ length before + 1

pub none_read : (all : List Line) (told : List Entry) → told ≡ [] → ReadTo all all told 1
none_read all told e = rw e (record { before = []; parts = refl; so_far = Told.nothing; counted = refl })

pub number_within : (all left : List Line) (told : List Entry) (number : ℕ) → ReadTo all left told number → number + length left ≡ length all + 1
number_within all left told number r = let long = ap length r.parts ∙ length-append r.before left in omega (arith, long, r.counted)

module _ (all left rest : List Line) (line : Line) (told : List Entry) (number : ℕ) (r : ReadTo all left told number) (is : left ≡ line ∷ rest) where
  read_parts : all ≡ r.before ++ line ∷ rest
  read_parts = r.parts ∙ ap (λ ls. r.before ++ ls) is

  pub one_line_more : (next : List Entry) → LeadsOn told line next → ReadTo all rest next (number + 1)
  one_line_more next h =
      record {
        before = r.before ++ line ∷ [];
        parts = read_parts ∙ sym (append_assoc r.before (line ∷ []) rest);
        so_far = joined r.so_far (Told.more h Told.nothing);
        counted = let long = length-append r.before (line ∷ []) in omega (arith, long, r.counted);
      }

  pub fails_here : ((next : List Entry) → ¬ LeadsOn told line next) → FailsBehind all (number + 1)
  fails_here stops =
      record { before = r.before; line = line; rest = rest; told = told; parts = read_parts; counted = omega (arith, r.counted); so_far = r.so_far; stops = stops }

pub all_read : (all left : List Line) (told : List Entry) (number : ℕ) → ReadTo all left told number → left ≡ [] → TellsBehind all told
all_read all left told number r is =
    subst (λ (ls : List Line). AreTold [] ls told) (sym (r.parts ∙ ap (λ ls. r.before ++ ls) is ∙ append-nil r.before)) r.so_far

-- ---- with the first line

-- the title of a version of a line
abbrev pub IsTitled : Line → Type 0
IsTitled line = (version : Version) × IsTitle (version_word version) line

titled : {line : Line} {rest : List Line} {all : List Entry} → AreValuesIn (line ∷ rest) all → IsTitled line
titled (Told.values version title h) = (version, title)

behind_title : {line : Line} {rest : List Line} {all : List Entry} → AreValuesIn (line ∷ rest) all → AreTold [] rest all
behind_title (Told.values version title h) = h

-- a record of version 1 with no variables
begins_nothing : BeginsValues []
begins_nothing = record { rest = (codes "obl0" ∷ codes "record" ∷ codes "1" ∷ []) ∷ []; entries = []; whole = Told.values Versions.First refl Told.nothing }

pub no_title : (line : Line) (rest : List Line) → (IsTitled line → ⊥) → FailsAtLine (line ∷ rest) 1
no_title line rest bad = Told.misplaced [] line rest begins_nothing (λ b. bad (titled b.whole))

no_first : (ls : List Line) (entries : List Entry) → ls ≡ [] → AreValuesIn ls entries → ⊥
no_first ls entries none (Told.values version title h) = cc

-- where there is no line, the first one is missing
pub nothing_told : (ls : List Line) → ls ≡ [] → FailsAtLine ls 1
nothing_told ls none =
    subst (λ (xs : List Line). FailsAtLine xs 1) (sym none) (Told.missing begins_nothing (λ entries. no_first [] entries refl))

pub told_with_title : (line : Line) (rest : List Line) (all : List Entry) → IsTitled line → TellsBehind rest all → AreValuesIn (line ∷ rest) all
told_with_title line rest all title h = Told.values title.0 title.1 h

fails_with_title : (line : Line) (ls : List Line) (number : ℕ) → IsTitled line → FailsBehind ls number → FailsAtLine (line ∷ ls) number
fails_with_title line ls number title f =
    let count : length (line ∷ f.before) + 1 ≡ number = omega (arith, f.counted) in
    let begins : BeginsValues (line ∷ f.before) =
    record { rest = []; entries = f.told; whole = Told.values title.0 title.1 (subst (λ (xs : List Line). AreTold [] xs f.told) (sym (append-nil f.before)) f.so_far) } in
    let ends : ¬ BeginsValues ((line ∷ f.before) ++ f.line ∷ []) =
    λ b.
    let told : AreTold [] ((f.before ++ f.line ∷ []) ++ b.rest) b.entries = behind_title b.whole in
    let here = next_of (behind f.so_far (subst (λ (xs : List Line). AreTold [] xs b.entries) (append_assoc f.before (f.line ∷ []) b.rest) told)) in
    f.stops here.0 here.1 in
    subst (λ (n : ℕ). FailsAtLine (line ∷ ls) n) count
    (subst (λ (xs : List Line). FailsAtLine (line ∷ xs) (length (line ∷ f.before) + 1)) (sym f.parts) (Told.misplaced (line ∷ f.before) f.line f.rest begins ends))

pub fault_with_title : (line : Line) (ls : List Line) (e : ValuesFault) → IsTitled line → FaultBehind ls e → FaultStands (line ∷ ls) e
fault_with_title line ls (Faults.Form number) title h = fails_with_title line ls number title h
fault_with_title line ls Faults.NoMemory title h = tt

-- a fault leaves no values
fails_none : {ls : List Line} {number : ℕ} → FailsAtLine ls number → (entries : List Entry) → AreValuesIn ls entries → ⊥
fails_none (Told.misplaced before line rest begins never) entries h =
    never (record { rest = rest; entries = entries; whole = subst (λ (xs : List Line). AreValuesIn xs entries) (sym (append_assoc before (line ∷ []) rest)) h })
fails_none (Told.missing begins never) entries h = never entries h

pub text_fault : (text : List ℕ) (e : ValuesFault) → FaultAmong (record_lines text) e → IsValuesFault text e
text_fault text e h = record { stands = h; none = by_kind e h }
  where
    by_kind : (e : ValuesFault) → FaultAmong (record_lines text) e → SaysNone e → (entries : List Entry) → AreValuesIn (said (record_lines text)) entries → ⊥
    by_kind (Faults.Form number) h says entries told = fails_none h.stands entries told
    by_kind Faults.NoMemory h says entries told = says

-- lines count from 1
pub counted_from_one : {ls : List Line} {number : ℕ} → FailsAtLine ls number → 1 ≤ number
counted_from_one (Told.misplaced before line rest begins never) = omega arith
counted_from_one (Told.missing begins never) = omega arith

-- ---- no name stands twice

all_distinct : {told all : List Entry} {ls : List Line} → AreTold told ls all → AreDistinctEntries told → AreDistinctEntries all
all_distinct Told.nothing d = d
all_distinct (Told.more (Told.other h) k) d = all_distinct k d
all_distinct {told} (Told.more (Told.variable {e = e} h new) k) d = all_distinct k (distinct_more told e d new)

pub are_distinct : (ls : List Line) (entries : List Entry) → AreValuesIn ls entries → AreDistinctEntries entries
are_distinct ls entries h = distinct_of h
  where
    distinct_of : {xs : List Line} {es : List Entry} → AreValuesIn xs es → AreDistinctEntries es
    distinct_of (Told.values version title told) = all_distinct told tt

-- ---- what the functions answer

pub told_result : {X : Type 0} (line : Line) (rest : List Line) (all : List Entry) (r : Result X ValuesFault) → IsTitled line → OnOk r (TellsBehind rest all) → OnOk r (AreValuesIn (line ∷ rest) all)
told_result line rest all (Ok x) title h = told_with_title line rest all title h
told_result line rest all (Err e) title h = tt

pub fault_result : {X : Type 0} (line : Line) (rest : List Line) (r : Result X ValuesFault) → IsTitled line → IfErr r (FaultBehind rest) → IfErr r (FaultStands (line ∷ rest))
fault_result line rest (Ok x) title h = tt
fault_result line rest (Err e) title h = fault_with_title line rest e title h

-- a line of a variable leads on by its variable alone
pub no_next : (told : List Entry) (line : Line) → BeginsWith 86 line → ((e : Entry) → IsVariableLine 86 line e → NoneNamed told e.name → ⊥) → (other : List Entry) → LeadsOn told line other → ⊥
no_next told line begins none other (Told.other h) = h begins
no_next told line begins none other (Told.variable {e = e} h new) = none e h new

pub told_twice : (told : List Entry) (line : Line) (e : Entry) → BeginsWith 86 line → IsVariableLine 86 line e → (NoneNamed told e.name → ⊥) → (other : List Entry) → LeadsOn told line other → ⊥
told_twice told line e begins h old =
    no_next told line begins (λ f k new. old (subst (λ (g : Entry). NoneNamed told g.name) (one_line k h) new))

-- ---- lines and their words

same_byte : (b k : ℕ) → IsTrue (b == k) → b ≡ k
same_byte b k h = grind (arith, nat_tests)

is_same : (k : ℕ) → IsTrue (k == k)
is_same k = grind (arith, nat_tests)

pub begins_at : (line : Line) (ws : List Word) (first : Word) (b k : ℕ) → line ≡ first ∷ ws → slice_get first 0 ≡ Some b → (IsTrue (b == k) → BeginsWith k line) × (BeginsWith k line → IsTrue (b == k))
begins_at line ws [] b k parts at = absurd (cc)
begins_at line ws (c ∷ more) b k parts at =
    let here : c ≡ b = cc in (
      λ h. record { more = more; ws = ws; parts = parts ∙ ap (λ (x : ℕ). (x ∷ more) ∷ ws) (here ∙ same_byte b k h) },
      λ h.
          let whole : (c ∷ more) ∷ ws ≡ (k ∷ h.more) ∷ h.ws = sym parts ∙ h.parts in
          let same : c ≡ k = cc in
          subst (λ (x : ℕ). IsTrue (x == k)) (sym same ∙ here) (is_same k),
    )

pub begins_nowhere : (line : Line) (ws : List Word) (first : Word) (k : ℕ) → line ≡ first ∷ ws → slice_get first 0 ≡ None → BeginsWith k line → ⊥
begins_nowhere line ws [] k parts at h =
    let whole : [] ∷ ws ≡ (k ∷ h.more) ∷ h.ws = sym parts ∙ h.parts in
    let same : let X : List ℕ = [] in X ≡ k ∷ h.more = cc in
    cc
begins_nowhere line ws (c ∷ more) k parts at h = absurd (cc)

pub one_byte : (word : Word) (k : ℕ) → 1 ≤ length word → length word < 2 → get_or word 0 0 ≡ k → word ≡ k ∷ []
one_byte [] k some few at = absurd (omega arith)
one_byte (b ∷ []) k some few at = ap (λ (x : ℕ). x ∷ []) at
one_byte (b ∷ c ∷ word) k some few at = absurd (omega arith)

said_line : {kind : ℕ} {line : Line} {ws : List Word} {e : Entry} → line ≡ (kind ∷ []) ∷ ws → SaysVariable ws e → IsVariableLine kind line e
said_line {ws = ws} parts h = record { ws = ws; parts = parts; says = h }

line_said : {kind : ℕ} {line : Line} {ws : List Word} {e : Entry} → line ≡ (kind ∷ []) ∷ ws → IsVariableLine kind line e → SaysVariable ws e
line_said {e = e} parts h = subst (λ (xs : List Word). SaysVariable xs e) (others_of (sym h.parts ∙ parts)) h.says

pub variable_result : (kind : ℕ) (line : Line) (ws : List Word) (r : Result (Option NamedField) NoMemory) → line ≡ (kind ∷ []) ∷ ws → IfOk r (FindsAs entry_of (SaysVariable ws)) →
    IfOk r (FindsAs entry_of (IsVariableLine kind line))
variable_result kind line ws (Ok None) parts h = λ e k. h e (line_said parts k)
variable_result kind line ws (Ok (Some f)) parts h = said_line parts h
variable_result kind line ws (Err e) parts h = tt

pub said_here : (ws rest others : List Word) (name word bytes : Word) (v : Value) → ws ≡ name ∷ rest → rest ≡ word ∷ others → others ≡ [] → IsName name → bytes ≡ name → SaysValue word v →
    SaysVariable ws (entry bytes v)
said_here ws rest others name word bytes v a b c n is h =
    rw is (subst (λ (xs : List Word). SaysVariable xs (entry name v)) (sym (a ∙ ap (λ (xs : List Word). name ∷ xs) (b ∙ ap (λ (xs : List Word). word ∷ xs) c))) (Variables.says n h))
