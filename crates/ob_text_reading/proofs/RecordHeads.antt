-- Heads of records: what the lines of a text are by those of its head, and where they stop being a record.
use Rattle.std.proofs.Common.{◌≡◌, ◌∙◌, ℕ, ◌+◌, ◌<◌, ◌≤◌, List, [], ◌∷◌, ◌++◌, Option, Some, None, Result, Ok, Err, IfOk, IfErr, length, codes, refl, sym, ap, subst, arith, append_assoc, append-nil, length-append}
use Rattle.ob_meaning.specs.ByNameObject.{most_turns}
use Rattle.ob_checked.specs.Exports.{signatures}
use Rattle.ob_interface.specs.Call.{ObjectCall, Reply}
use Rattle.ob_meaning.specs.ByPositionStore.{Activation}
use Rattle.ob_text_reading.specs.RecordLines as Lines
use Rattle.ob_text_reading.specs.RecordLines.{AreLines, BeginsRecord, FailsAtLine, FaultAmong, FaultStands, IsBudget, IsCount, IsHead, IsRecordFault, IsRecordOf, IsRecordPart, IsTitle, Line, SaysNone, Told, record_lines}
use Rattle.ob_text_reading.specs.LineReading as Reading
use Rattle.ob_text_reading.specs.LineReading.{BeginsLines, FailsBehind, FaultBehind}
use Rattle.ob_text_reading.specs.Openings as Openings
use Rattle.ob_text_reading.specs.Openings.{AreOpenings, IsOpening, OpeningFault, OpensWith, StopsAt}
use Rattle.ob_text_reading.specs.RecordContents.{carried_of, told_of}
use Rattle.ob_text_reading.specs.declared.record_reading.ReadRecord.{ReadRecord}
use Rattle.ob_text_reading.specs.declared.record_reading.RecordFault.{RecordFault}
use Rattle.ob_text_reading.specs.declared.record_reading.RecordFault.TheVariants as Faults
use Rattle.ob_text_reading.specs.Heads.{TakesBudget, TakesNoBudget}
use Rattle.ob_text_reading.proofs.LineRuns.{begins, nothing, one_told}
use Rattle.ob_text_reading.proofs.OneEvent.{first_byte, one_budget, one_count, other_words}
use Rattle.ob_text_reading.proofs.OpeningLines.{counted, next_opening, one_list}
use Rattle.ob_text_values_reading.specs.Comments.{said}
use Rattle.ob_text_values_reading.specs.Versions.{version_word}
use Rattle.ob_text_values_reading.specs.declared.title.Version.{Version}
use Rattle.ob_text_values_reading.specs.declared.title.Version.TheVariants as Versions
use Rattle.ob_typing.specs.Program.{Program, Variable}
use Rattle.wf_history.specs.declared.event.CallId.{CallId}
use Rattle.wf_history.specs.History.{Event}

first_of : {X : Type 0} {x y : X} {xs ys : List X} → x ∷ xs ≡ y ∷ ys → x ≡ y
first_of e = cc

rest_of : {X : Type 0} {x y : X} {xs ys : List X} → x ∷ xs ≡ y ∷ ys → xs ≡ ys
rest_of e = cc

-- records of the version have a budget line
abbrev HasBudget : Version → Type 0
HasBudget Versions.First = ⊥
HasBudget Versions.Second = Unit {0}
HasBudget Versions.Third = Unit {0}

-- ---- one head

-- the byte that tells the version of a title
version_byte : Line → ℕ
version_byte line = first_byte (other_words (other_words line))

one_version : {a b : Line} {v w : List ℕ} → IsTitle v a → IsTitle w b → a ≡ b → first_byte (v ∷ []) ≡ first_byte (w ∷ [])
one_version h k e = ap (λ ws. first_byte (other_words (other_words ws))) (sym h ∙ e ∙ k)

first_second : {a b : Line} → IsTitle (codes "1") a → IsTitle (codes "2") b → a ≡ b → ⊥
first_second h k e = let same = one_version h k e in omega (arith, same)

first_third : {a b : Line} → IsTitle (codes "1") a → IsTitle (codes "3") b → a ≡ b → ⊥
first_third h k e = let same = one_version h k e in omega (arith, same)

second_third : {a b : Line} → IsTitle (codes "2") a → IsTitle (codes "3") b → a ≡ b → ⊥
second_third h k e = let same = one_version h k e in omega (arith, same)

count_of : {a b : Line} {m n : ℕ} → a ≡ b → IsCount a m → IsCount b n → m ≡ n
count_of {n = n} e h k = one_count h (subst (λ (l : Line). IsCount l n) (sym e) k)

budget_of : {a b : Line} {m n : ℕ} → a ≡ b → IsBudget a m → IsBudget b n → m ≡ n
budget_of {n = n} e h k = one_budget h (subst (λ (l : Line). IsBudget l n) (sym e) k)

-- two heads with which the same lines begin tell the same
record SameHead (m n b c : ℕ) (x y : Option Activation) (r s : List Line) : Type 0 where
  processes : m ≡ n
  budget : b ≡ c
  carried : x ≡ y
  rest : r ≡ s

one_head : {vs : List Variable} {h k : List Line} {m n b c : ℕ} {x y : Option Activation} (r s : List Line) → IsHead vs h m b x → IsHead vs k n c y → h ++ r ≡ k ++ s → SameHead m n b c x y r s
one_head r s (Lines.of_version_1 t d) (Lines.of_version_1 t' d') e =
    record { processes = count_of (first_of (rest_of e)) d d'; budget = refl; carried = refl; rest = rest_of (rest_of e) }
one_head r s (Lines.of_version_1 t d) (Lines.of_version_2 t' d' f') e = absurd (first_second t t' (first_of e))
one_head r s (Lines.of_version_1 t d) (Lines.of_version_3 t' d' f' o') e = absurd (first_third t t' (first_of e))
one_head r s (Lines.of_version_2 t d f) (Lines.of_version_1 t' d') e = absurd (first_second t' t (sym (first_of e)))
one_head r s (Lines.of_version_2 t d f) (Lines.of_version_2 t' d' f') e =
    record {
      processes = count_of (first_of (rest_of e)) d d';
      budget = budget_of (first_of (rest_of (rest_of e))) f f';
      carried = refl;
      rest = rest_of (rest_of (rest_of e));
    }
one_head r s (Lines.of_version_2 t d f) (Lines.of_version_3 t' d' f' o') e = absurd (second_third t t' (first_of e))
one_head r s (Lines.of_version_3 t d f o) (Lines.of_version_1 t' d') e = absurd (first_third t' t (sym (first_of e)))
one_head r s (Lines.of_version_3 t d f o) (Lines.of_version_2 t' d' f') e = absurd (second_third t' t (sym (first_of e)))
one_head r s (Lines.of_version_3 t d f o) (Lines.of_version_3 t' d' f' o') e =
    let same = one_list r s o o' (rest_of (rest_of (rest_of e))) in
    record {
      processes = count_of (first_of (rest_of e)) d d';
      budget = budget_of (first_of (rest_of (rest_of e))) f f';
      carried = ap (λ (a : Activation). Some a) same.held;
      rest = same.rest;
    }

no_lines : (xs ys : List Line) → length (xs ++ ys) ≡ 0 → xs ≡ []
no_lines [] ys z = refl
no_lines (x ∷ xs) ys z = absurd (omega (arith, z))

-- where the lines are the openings of the first variables alone, none stand behind a head with which they begin
none_behind : (vs first others : List Variable) (a c d : Line) (openings ls rest : List Line) {held : Activation} {h : List Line} {m b : ℕ} {x : Option Activation} → vs ≡ first ++ others →
    IsTitle (codes "3") a → AreOpenings first openings held → IsHead vs h m b x → a ∷ c ∷ d ∷ openings ≡ h ++ (ls ++ rest) → ls ≡ []
none_behind vs first others a c d openings ls rest order title opens (Lines.of_version_1 t k) e = absurd (first_third t title (sym (first_of e)))
none_behind vs first others a c d openings ls rest order title opens (Lines.of_version_2 t k f) e = absurd (second_third t title (sym (first_of e)))
none_behind vs first others a c d openings ls rest order title opens (Lines.of_version_3 {openings = own} t k f o) e =
    let lines : openings ≡ own ++ (ls ++ rest) = rest_of (rest_of (rest_of e)) in
    let long = ap length lines ∙ length-append own (ls ++ rest) in
    let short = ap length order ∙ length-append first others in
    no_lines ls rest (omega (arith, long, short, counted opens, counted o))

abbrev told : ℕ → ℕ → Option Activation → List (Event ObjectCall Reply) → List CallId → Told
told n b x events order = record { processes = n; budget = b; carried = x; events = events; order = order }

same_told : (m n b c : ℕ) (x y : Option Activation) (xs ys : List (Event ObjectCall Reply)) (is js : List CallId) → m ≡ n → b ≡ c → x ≡ y → xs ≡ ys → is ≡ js → told m b x xs is ≡ told n c y ys js
same_told m n b c x y xs ys is js e f g h i = rw (e, f, g, h, i) refl

module _ (program : Program) where
  pub one_record : {ls : List Line} {s t : Told} → IsRecordOf program ls s → IsRecordOf program ls t → s ≡ t
  one_record {s = s} {t = t} h k =
      let same = one_head h.behind k.behind h.heads k.heads (sym h.parts ∙ k.parts) in
      let lines = subst (λ (m : ℕ). AreLines m (signatures program) [] h.behind s.events s.order) same.processes h.tells in
      let events = one_told t.processes (signatures program) (subst (λ (r : List Line). AreLines t.processes (signatures program) [] r s.events s.order) same.rest lines) k.tells in
      same_told s.processes t.processes s.budget t.budget s.carried t.carried s.events t.events s.order t.order same.processes same.budget same.carried events.0 events.1

  -- ---- behind a head

  module _ (head : List Line) (n budget : ℕ) (carried : Option Activation) (is : IsHead program.variables head n budget carried) where
    head_whole : (rest : List Line) (events : List (Event ObjectCall Reply)) (order : List CallId) → AreLines n (signatures program) [] rest events order →
        IsRecordOf program (head ++ rest) (told n budget carried events order)
    head_whole rest events order h = record { head = head; behind = rest; parts = refl; heads = is; tells = h }

    head_behind : (rest : List Line) (t : Told) → IsRecordOf program (head ++ rest) t → AreLines n (signatures program) [] rest t.events t.order
    head_behind rest t h =
        let same = one_head h.behind rest h.heads is (sym h.parts) in
        subst (λ (m : ℕ). AreLines m (signatures program) [] rest t.events t.order) same.processes
        (subst (λ (r : List Line). AreLines t.processes (signatures program) [] r t.events t.order) same.rest h.tells)

    begins_whole : (ls : List Line) → BeginsLines n (signatures program) ls → BeginsRecord program (head ++ ls)
    begins_whole ls b =
        record {
          rest = b.rest;
          part = Lines.whole (subst (λ (all : List Line). IsRecordOf program all (told n budget carried b.all b.ids)) (sym (append_assoc head ls b.rest)) (head_whole (ls ++ b.rest) b.all b.ids b.whole));
        }

    begins_nothing : (ls : List Line) → ls ≡ [] → BeginsLines n (signatures program) ls
    begins_nothing ls e = subst (λ (xs : List Line). BeginsLines n (signatures program) xs) (sym e) (begins n (signatures program) nothing)

    begins_part : {all : List Line} (ls rest : List Line) → all ≡ head ++ (ls ++ rest) → IsRecordPart program all → BeginsLines n (signatures program) ls
    begins_part ls rest e (Lines.whole {t = t} h) =
        record { rest = rest; all = t.events; ids = t.order; whole = head_behind (ls ++ rest) t (subst (λ (all : List Line). IsRecordOf program all t) e h) }
    begins_part ls rest e (Lines.opened {title = a} {second = c} {third = d} {openings = openings} first others order title counts budgets opens) =
        begins_nothing ls (none_behind program.variables first others a c d openings ls rest order title opens is e)

    begins_behind : (ls : List Line) → BeginsRecord program (head ++ ls) → BeginsLines n (signatures program) ls
    begins_behind ls b = begins_part ls b.rest (append_assoc head ls b.rest) b.part

    fails_whole : (ls : List Line) (number : ℕ) → FailsBehind n (signatures program) (length head) ls number → FailsAtLine program (head ++ ls) number
    fails_whole ls number (Reading.misplaced before line rest good bad) =
        let here : length (head ++ before) + 1 ≡ length head + length before + 1 = ap (λ (m : ℕ). m + 1) (length-append head before) in
        subst (λ (m : ℕ). FailsAtLine program (head ++ (before ++ line ∷ rest)) m) here
        (subst (λ (all : List Line). FailsAtLine program all (length (head ++ before) + 1)) (append_assoc head before (line ∷ rest))
        (Lines.misplaced (head ++ before) line rest (begins_whole before good) (λ h. bad (begins_behind (before ++ line ∷ []) (rw append_assoc at h)))))
    fails_whole ls number (Reading.missing good bad) =
        let here : length (head ++ ls) + 1 ≡ length head + length ls + 1 = ap (λ (m : ℕ). m + 1) (length-append head ls) in
        subst (λ (m : ℕ). FailsAtLine program (head ++ ls) m) here
        (Lines.missing {ls = head ++ ls} (begins_whole ls good) (λ t h. bad t.events t.order (head_behind ls t h)))

    fault_whole : (ls : List Line) (e : RecordFault) → FaultBehind n (signatures program) (length head) ls e → FaultStands program (head ++ ls) e
    fault_whole ls (Faults.Form number) h = fails_whole ls number h
    fault_whole ls Faults.NoMemory h = tt

    -- what is answered behind the head
    pub told_result : (rest : List Line) (r : Result ReadRecord RecordFault) → IfOk r (λ x. (x.processes ≡ n) × (x.budget ≡ budget) × (carried_of x.carried ≡ carried)) →
        IfOk r (λ x. AreLines n (signatures program) [] rest x.history x.order.items) → IfOk r (λ x. IsRecordOf program (head ++ rest) (told_of x))
    told_result rest (Ok x) tells h =
        subst (λ (t : Told). IsRecordOf program (head ++ rest) t)
        (same_told n x.processes budget x.budget carried (carried_of x.carried) x.history x.history x.order.items x.order.items (sym tells.0) (sym tells.1) (sym tells.2) refl refl)
        (head_whole rest x.history x.order.items h)
    told_result rest (Err e) tells h = tt

    pub fault_result : (rest : List Line) (r : Result ReadRecord RecordFault) → IfErr r (FaultBehind n (signatures program) (length head) rest) →
        IfErr r (FaultStands program (head ++ rest))
    fault_result rest (Ok x) h = tt
    fault_result rest (Err e) h = fault_whole rest e h

  -- ---- a fault leaves no record

  no_record_at : (ls : List Line) (number : ℕ) → FailsAtLine program ls number → (t : Told) → IsRecordOf program ls t → ⊥
  no_record_at ls number (Lines.misplaced before line rest good bad) t h =
      bad (record { rest = rest; part = Lines.whole (subst (λ (all : List Line). IsRecordOf program all t) (sym (append_assoc before (line ∷ []) rest)) h) })
  no_record_at ls number (Lines.missing good bad) t h = bad t h

  no_record : (ls : List Line) (e : RecordFault) → FaultAmong program ls e → SaysNone program e → (t : Told) → IsRecordOf program (said ls) t → ⊥
  no_record ls (Faults.Form number) among s t h = no_record_at (said ls) among.own among.stands t h
  no_record ls Faults.NoMemory among s t h = s

  -- lines count from 1
  pub counted_from_one : {ls : List Line} {number : ℕ} → FailsAtLine program ls number → 1 ≤ number
  counted_from_one (Lines.misplaced before line rest good bad) = omega arith
  counted_from_one (Lines.missing good bad) = omega arith

  -- lines with which a record begins, and fewer of them
  pub begins_fewer : (front back : List Line) → BeginsRecord program (front ++ back) → BeginsRecord program front
  begins_fewer front back b = record { rest = back ++ b.rest; part = subst (λ (ls : List Line). IsRecordPart program ls) (append_assoc front back b.rest) b.part }

  -- ---- the lines of a head

  -- the title of a version
  abbrev IsTitled : Line → Type 0
  IsTitled line = (v : Version) × IsTitle (version_word v) line

  titled_head : {vs : List Variable} {h : List Line} {m b : ℕ} {x : Option Activation} {a : Line} (ls behind : List Line) → IsHead vs h m b x → a ∷ ls ≡ h ++ behind → IsTitled a
  titled_head ls behind (Lines.of_version_1 t d) e = (Versions.First, subst (λ (l : Line). IsTitle (codes "1") l) (sym (first_of e)) t)
  titled_head ls behind (Lines.of_version_2 t d f) e = (Versions.Second, subst (λ (l : Line). IsTitle (codes "2") l) (sym (first_of e)) t)
  titled_head ls behind (Lines.of_version_3 t d f o) e = (Versions.Third, subst (λ (l : Line). IsTitle (codes "3") l) (sym (first_of e)) t)

  counted_head : {vs : List Variable} {h : List Line} {m b : ℕ} {x : Option Activation} {a c : Line} (ls behind : List Line) → IsHead vs h m b x → a ∷ c ∷ ls ≡ h ++ behind → IsCount c m
  counted_head {m = m} ls behind (Lines.of_version_1 t d) e = subst (λ (l : Line). IsCount l m) (sym (first_of (rest_of e))) d
  counted_head {m = m} ls behind (Lines.of_version_2 t d f) e = subst (λ (l : Line). IsCount l m) (sym (first_of (rest_of e))) d
  counted_head {m = m} ls behind (Lines.of_version_3 t d f o) e = subst (λ (l : Line). IsCount l m) (sym (first_of (rest_of e))) d

  not_first : {a b : Line} (v : Version) → HasBudget v → IsTitle (version_word v) a → IsTitle (codes "1") b → a ≡ b → ⊥
  not_first Versions.First h t k e = h
  not_first Versions.Second h t k e = first_second k t (sym e)
  not_first Versions.Third h t k e = first_third k t (sym e)

  budgeted_head : {vs : List Variable} {h : List Line} {m b : ℕ} {x : Option Activation} {a c d : Line} (ls behind : List Line) (v : Version) → HasBudget v → IsTitle (version_word v) a →
      IsHead vs h m b x → a ∷ c ∷ d ∷ ls ≡ h ++ behind → IsBudget d b
  budgeted_head ls behind v has title (Lines.of_version_1 t k) e = absurd (not_first v has title t (first_of e))
  budgeted_head {b = b} ls behind v has title (Lines.of_version_2 t k f) e = subst (λ (l : Line). IsBudget l b) (sym (first_of (rest_of (rest_of e)))) f
  budgeted_head {b = b} ls behind v has title (Lines.of_version_3 t k f o) e = subst (λ (l : Line). IsBudget l b) (sym (first_of (rest_of (rest_of e)))) f

  titled_part : {all : List Line} (a : Line) (ls : List Line) → all ≡ a ∷ ls → IsRecordPart program all → IsTitled a
  titled_part a ls e (Lines.whole h) = titled_head _ h.behind h.heads (sym e ∙ h.parts)
  titled_part a ls e (Lines.opened first others order t d f o) = (Versions.Third, subst (λ (l : Line). IsTitle (codes "3") l) (first_of e) t)

  counted_part : {all : List Line} (a c : Line) (ls : List Line) → all ≡ a ∷ c ∷ ls → IsRecordPart program all → (n : ℕ) × IsCount c n
  counted_part a c ls e (Lines.whole {t = t} h) = (t.processes, counted_head _ h.behind h.heads (sym e ∙ h.parts))
  counted_part a c ls e (Lines.opened {n = n} first others order t d f o) = (n, subst (λ (l : Line). IsCount l n) (first_of (rest_of e)) d)

  budgeted_part : {all : List Line} (v : Version) (a c d : Line) (ls : List Line) → HasBudget v → IsTitle (version_word v) a → all ≡ a ∷ c ∷ d ∷ ls → IsRecordPart program all → (b : ℕ) × IsBudget d b
  budgeted_part v a c d ls has title e (Lines.whole {t = t} h) = (t.budget, budgeted_head _ h.behind v has title h.heads (sym e ∙ h.parts))
  budgeted_part v a c d ls has title e (Lines.opened {b = b} first others order t k f o) = (b, subst (λ (l : Line). IsBudget l b) (first_of (rest_of (rest_of e))) f)

  nothing_here : (x : Line) (xs empty : List Line) → empty ≡ [] → empty ≡ x ∷ xs → ⊥
  nothing_here x xs empty e f = let g : x ∷ xs ≡ [] = sym f ∙ e in absurd (cc)

  one_line : {a : Line} {h : List Line} (behind : List Line) {vs : List Variable} {m b : ℕ} {x : Option Activation} → IsHead vs h m b x → a ∷ [] ≡ h ++ behind → ⊥
  one_line behind (Lines.of_version_1 t d) e = nothing_here _ _ [] refl (rest_of e)
  one_line behind (Lines.of_version_2 t d f) e = nothing_here _ _ [] refl (rest_of e)
  one_line behind (Lines.of_version_3 t d f o) e = nothing_here _ _ [] refl (rest_of e)

  two_lines : {a c : Line} {h : List Line} (behind : List Line) {vs : List Variable} {m b : ℕ} {x : Option Activation} (v : Version) → HasBudget v → IsTitle (version_word v) a → IsHead vs h m b x →
      a ∷ c ∷ [] ≡ h ++ behind → ⊥
  two_lines behind v has title (Lines.of_version_1 t d) e = not_first v has title t (first_of e)
  two_lines behind v has title (Lines.of_version_2 t d f) e = nothing_here _ _ [] refl (rest_of (rest_of e))
  two_lines behind v has title (Lines.of_version_3 t d f o) e = nothing_here _ _ [] refl (rest_of (rest_of e))

  -- a record of one process that shows nothing
  least : IsCount (codes "n" ∷ codes "1" ∷ []) 1
  least = Lines.count (record { digits = refl; some = omega arith; spells = refl }) (omega arith) (omega arith)

  least_budget : IsBudget (codes "b" ∷ codes "0" ∷ []) 0
  least_budget = Lines.budget (record { digits = refl; some = omega arith; spells = refl }) (omega arith)

  begins_third : (first second third : Line) (n b : ℕ) → IsTitle (codes "3") first → IsCount second n → IsBudget third b → BeginsRecord program (first ∷ second ∷ third ∷ [])
  begins_third first second third n b title counts budgets =
      record { rest = []; part = Lines.opened [] program.variables refl title counts budgets Openings.none }

  begins_count : (v : Version) (first second : Line) (n : ℕ) → IsTitle (version_word v) first → IsCount second n → BeginsRecord program (first ∷ second ∷ [])
  begins_count Versions.First first second n title counts =
      begins_whole (first ∷ second ∷ []) n most_turns None (Lines.of_version_1 title counts) [] (begins n (signatures program) nothing)
  begins_count Versions.Second first second n title counts =
      let third = codes "b" ∷ codes "0" ∷ [] in
      begins_fewer (first ∷ second ∷ []) (third ∷ [])
      (begins_whole (first ∷ second ∷ third ∷ []) n 0 None (Lines.of_version_2 title counts least_budget) [] (begins n (signatures program) nothing))
  begins_count Versions.Third first second n title counts =
      let third = codes "b" ∷ codes "0" ∷ [] in
      begins_fewer (first ∷ second ∷ []) (third ∷ []) (begins_third first second third n 0 title counts least_budget)

  begins_title : (v : Version) (first : Line) → IsTitle (version_word v) first → BeginsRecord program (first ∷ [])
  begins_title v first title =
      let second = codes "n" ∷ codes "1" ∷ [] in
      begins_fewer (first ∷ []) (second ∷ []) (begins_count v first second 1 title least)

  begins_empty : BeginsRecord program []
  begins_empty =
      let first : Line = codes "obl0" ∷ codes "record" ∷ codes "1" ∷ [] in
      begins_fewer [] (first ∷ []) (begins_title Versions.First first refl)

  no_lines_whole : {h : List Line} (behind : List Line) {vs : List Variable} {m b : ℕ} {x : Option Activation} → IsHead vs h m b x → [] ≡ h ++ behind → ⊥
  no_lines_whole behind (Lines.of_version_1 t d) e = nothing_here _ _ [] refl e
  no_lines_whole behind (Lines.of_version_2 t d f) e = nothing_here _ _ [] refl e
  no_lines_whole behind (Lines.of_version_3 t d f o) e = nothing_here _ _ [] refl e

  -- where there is no line, the first one is missing
  pub title_missing : (ls : List Line) → ls ≡ [] → FailsAtLine program ls 1
  title_missing ls none =
      subst (λ (xs : List Line). FailsAtLine program xs 1) (sym none)
      (Lines.missing {ls = []} begins_empty (λ t h. no_lines_whole h.behind h.heads h.parts))

  -- lines that lack a line of the head, or have another one there
  pub no_title : (first : Line) (rest : List Line) → ((v : Version) → IsTitle (version_word v) first → ⊥) → FailsAtLine program (first ∷ rest) 1
  no_title first rest bad = Lines.misplaced [] first rest begins_empty (λ h. let t = titled_part first h.rest refl h.part in bad t.0 t.1)

  pub count_missing : (first : Line) (v : Version) → IsTitle (version_word v) first → FailsAtLine program (first ∷ []) 2
  count_missing first v title = Lines.missing {ls = first ∷ []} (begins_title v first title) (λ t h. one_line h.behind h.heads h.parts)

  pub no_count : (first second : Line) (rest : List Line) (v : Version) → IsTitle (version_word v) first → ((n : ℕ) → IsCount second n → ⊥) → FailsAtLine program (first ∷ second ∷ rest) 2
  no_count first second rest v title bad =
      Lines.misplaced (first ∷ []) second rest (begins_title v first title) (λ h. let c = counted_part first second h.rest refl h.part in bad c.0 c.1)

  pub budget_missing : (first second : Line) (n : ℕ) (v : Version) → HasBudget v → IsTitle (version_word v) first → IsCount second n → FailsAtLine program (first ∷ second ∷ []) 3
  budget_missing first second n v has title counts =
      Lines.missing {ls = first ∷ second ∷ []} (begins_count v first second n title counts) (λ t h. two_lines h.behind v has title h.heads h.parts)

  pub no_budget : (first second third : Line) (rest : List Line) (n : ℕ) (v : Version) → HasBudget v → IsTitle (version_word v) first → IsCount second n → ((b : ℕ) → IsBudget third b → ⊥) →
      FailsAtLine program (first ∷ second ∷ third ∷ rest) 3
  no_budget first second third rest n v has title counts bad =
      Lines.misplaced (first ∷ second ∷ []) third rest (begins_count v first second n title counts)
      (λ h. let b = budgeted_part v first second third h.rest has title refl h.part in bad b.0 b.1)

  -- ---- the openings

  module _ (a c d : Line) (n b : ℕ) (title : IsTitle (codes "3") a) (counts : IsCount c n) (budgets : IsBudget d b) where
    -- the openings of a record of version 3 that begins with these lines
    openings_head : {h : List Line} {m e : ℕ} {x : Option Activation} (ls behind : List Line) → IsHead program.variables h m e x → a ∷ c ∷ d ∷ ls ≡ h ++ behind →
        (openings : List Line) × (held : Activation) × (ls ≡ openings ++ behind) × AreOpenings program.variables openings held
    openings_head ls behind (Lines.of_version_1 t k) e = absurd (first_third t title (sym (first_of e)))
    openings_head ls behind (Lines.of_version_2 t k f) e = absurd (second_third t title (sym (first_of e)))
    openings_head ls behind (Lines.of_version_3 {openings = openings} {held = held} t k f o) e = (openings, held, rest_of (rest_of (rest_of e)), o)

    module _ (ls : List Line) (number : ℕ) (s : StopsAt program.variables ls number) where
      first_short : length s.first < length program.variables
      first_short = let long = ap length s.order ∙ length-append s.first (s.variable ∷ s.others) in omega (arith, long)

      begins_opened : BeginsRecord program (a ∷ c ∷ d ∷ s.before)
      begins_opened =
          record {
            rest = [];
            part = subst (λ (xs : List Line). IsRecordPart program (a ∷ c ∷ d ∷ xs)) (sym (append-nil s.before))
                (Lines.opened s.first (s.variable ∷ s.others) s.order title counts budgets s.each);
          }

      next_in : {all : List Line} (line : Line) (rest : List Line) → all ≡ a ∷ c ∷ d ∷ (s.before ++ line ∷ rest) → IsRecordPart program all → (w : _) × IsOpening s.variable line w
      next_in line rest e (Lines.whole h) =
          let o = openings_head (s.before ++ line ∷ rest) h.behind h.heads (sym e ∙ h.parts) in
          next_opening s.variable s.others [] line rest h.behind s.each o.3 (sym s.order ∙ sym (append-nil program.variables)) o.2 first_short
      next_in line rest e (Lines.opened {openings = openings} first others order t k f o) =
          let lines : openings ≡ s.before ++ line ∷ rest = rest_of (rest_of (rest_of e)) in
          let long = ap length lines ∙ length-append s.before (line ∷ rest) in
          next_opening s.variable s.others others line rest [] s.each o (sym s.order ∙ order) (sym lines ∙ sym (append-nil openings)) (omega (arith, long, counted o, counted s.each))

      wrong_opening : (line : Line) (rest : List Line) → s.left ≡ line ∷ rest → ¬ BeginsRecord program (a ∷ c ∷ d ∷ (s.before ++ line ∷ []))
      wrong_opening line rest e h =
          let w = next_in line h.rest (ap (λ (xs : List Line). a ∷ c ∷ d ∷ xs) (append_assoc s.before (line ∷ []) h.rest)) h.part in
          s.stops line rest w.0 e w.1

      opening_missing : s.left ≡ [] → (t : Told) → ¬ IsRecordOf program (a ∷ c ∷ d ∷ ls) t
      opening_missing e t h =
          let o = openings_head ls h.behind h.heads h.parts in
          let own : ls ≡ s.before = s.parts ∙ ap (λ (xs : List Line). s.before ++ xs) e ∙ append-nil s.before in
          let long = ap length (sym own ∙ o.2) ∙ length-append o.0 h.behind in
          omega (arith, long, counted o.3, counted s.each, first_short)

      fails_opening : (left : List Line) → s.left ≡ left → FailsAtLine program (a ∷ c ∷ d ∷ ls) number
      fails_opening [] e =
          let own : ls ≡ s.before = s.parts ∙ ap (λ (xs : List Line). s.before ++ xs) e ∙ append-nil s.before in
          let long = ap length own in
          let here : length (a ∷ c ∷ d ∷ ls) + 1 ≡ number = omega (arith, long, s.counted) in
          subst (λ (m : ℕ). FailsAtLine program (a ∷ c ∷ d ∷ ls) m) here
          (Lines.missing {ls = a ∷ c ∷ d ∷ ls} (subst (λ (xs : List Line). BeginsRecord program (a ∷ c ∷ d ∷ xs)) (sym own) begins_opened) (opening_missing e))
      fails_opening (line ∷ rest) e =
          let own : ls ≡ s.before ++ line ∷ rest = s.parts ∙ ap (λ (xs : List Line). s.before ++ xs) e in
          let here : length (a ∷ c ∷ d ∷ s.before) + 1 ≡ number = omega (arith, s.counted) in
          subst (λ (m : ℕ). FailsAtLine program (a ∷ c ∷ d ∷ ls) m) here
          (subst (λ (xs : List Line). FailsAtLine program (a ∷ c ∷ d ∷ xs) (length (a ∷ c ∷ d ∷ s.before) + 1)) (sym own)
          (Lines.misplaced (a ∷ c ∷ d ∷ s.before) line rest begins_opened (wrong_opening line rest e)))

    pub opening_fault : (ls : List Line) (e : RecordFault) → OpeningFault program.variables ls e → FaultStands program (a ∷ c ∷ d ∷ ls) e
    opening_fault ls (Faults.Form number) s = fails_opening ls number s s.left refl
    opening_fault ls Faults.NoMemory s = tt

  pub text_fault : (text : List ℕ) (e : RecordFault) → FaultAmong program (record_lines text) e → IsRecordFault program text e
  text_fault text e h = record { stands = h; none = λ s t k. no_record (record_lines text) e h s t k }

  -- ---- what the functions answer

  nothing_taken : (first second : Line) (ls : List Line) (n : ℕ) (v : Version) → HasBudget v → IsTitle (version_word v) first → IsCount second n → TakesNoBudget ls → FailsAtLine program (first ∷ second ∷ ls) 3
  nothing_taken first second [] n v has title counts none = budget_missing first second n v has title counts
  nothing_taken first second (third ∷ rest) n v has title counts none = no_budget first second third rest n v has title counts (λ b. none third rest b refl)

  pub second_without : (first second : Line) (ls : List Line) (n : ℕ) → IsTitle (codes "2") first → IsCount second n → TakesNoBudget ls → FailsAtLine program (first ∷ second ∷ ls) 3
  second_without first second ls n title counts none = nothing_taken first second ls n Versions.Second tt title counts none

  pub third_without : (first second : Line) (ls : List Line) (n : ℕ) → IsTitle (codes "3") first → IsCount second n → TakesNoBudget ls → FailsAtLine program (first ∷ second ∷ ls) 3
  third_without first second ls n title counts none = nothing_taken first second ls n Versions.Third tt title counts none

  abbrev Tells : ℕ → ℕ → Option Activation → Result ReadRecord RecordFault → Type 0
  Tells n b held r = IfOk r (λ x. (x.processes ≡ n) × (x.budget ≡ b) × (carried_of x.carried ≡ held))

  abbrev TellsLines : ℕ → List Line → Result ReadRecord RecordFault → Type 0
  TellsLines n rest r = IfOk r (λ x. AreLines n (signatures program) [] rest x.history x.order.items)

  abbrev IsToldBy : List Line → Result ReadRecord RecordFault → Type 0
  IsToldBy ls r = IfOk r (λ x. IsRecordOf program ls (told_of x))

  pub second_told : (first second : Line) (ls rest : List Line) (n b : ℕ) (r : Result ReadRecord RecordFault) → TakesBudget ls b rest → IsTitle (codes "2") first → IsCount second n →
      Tells n b None r → TellsLines n rest r → IsToldBy (first ∷ second ∷ ls) r
  second_told first second ls rest n b r t title counts tells lines =
      subst (λ (xs : List Line). IsToldBy (first ∷ second ∷ xs) r) (sym t.parts)
      (told_result (first ∷ second ∷ t.line ∷ []) n b None (Lines.of_version_2 title counts t.tells) rest r tells lines)

  pub second_fails : (first second : Line) (ls rest : List Line) (n b : ℕ) (r : Result ReadRecord RecordFault) → TakesBudget ls b rest → IsTitle (codes "2") first → IsCount second n →
      IfErr r (FaultBehind n (signatures program) 3 rest) → IfErr r (FaultStands program (first ∷ second ∷ ls))
  second_fails first second ls rest n b r t title counts fails =
      subst (λ (xs : List Line). IfErr r (FaultStands program (first ∷ second ∷ xs))) (sym t.parts)
      (fault_result (first ∷ second ∷ t.line ∷ []) n b None (Lines.of_version_2 title counts t.tells) rest r fails)

  module _ (first second : Line) (ls rest left : List Line) (n b : ℕ) (held : Activation) (vs : List Variable) (own : vs ≡ program.variables) (t : TakesBudget ls b rest) (o : OpensWith vs rest left held)
      (title : IsTitle (codes "3") first) (counts : IsCount second n) where
    third_head : IsHead program.variables (first ∷ second ∷ t.line ∷ o.openings) n b (Some held)
    third_head = Lines.of_version_3 title counts t.tells (subst (λ (us : List Variable). AreOpenings us o.openings held) own o.each)

    all_lines : first ∷ second ∷ ls ≡ (first ∷ second ∷ t.line ∷ o.openings) ++ left
    all_lines = ap (λ (xs : List Line). first ∷ second ∷ xs) (t.parts ∙ ap (λ (xs : List Line). t.line ∷ xs) o.parts)

    pub third_told : (r : Result ReadRecord RecordFault) → Tells n b (Some held) r → TellsLines n left r → IsToldBy (first ∷ second ∷ ls) r
    third_told r tells lines =
        subst (λ (xs : List Line). IsToldBy xs r) (sym all_lines) (told_result (first ∷ second ∷ t.line ∷ o.openings) n b (Some held) third_head left r tells lines)

    pub third_fails : (r : Result ReadRecord RecordFault) (head : ℕ) → head ≡ 3 + length vs → IfErr r (FaultBehind n (signatures program) head left) → IfErr r (FaultStands program (first ∷ second ∷ ls))
    third_fails r head many fails =
        let long : head ≡ length (first ∷ second ∷ t.line ∷ o.openings) = omega (arith, many, counted o.each) in
        subst (λ (xs : List Line). IfErr r (FaultStands program xs)) (sym all_lines)
        (fault_result (first ∷ second ∷ t.line ∷ o.openings) n b (Some held) third_head left r (subst (λ (m : ℕ). IfErr r (FaultBehind n (signatures program) m left)) long fails))

  pub third_stops : (first second : Line) (ls rest : List Line) (n b : ℕ) (vs : List Variable) (e : RecordFault) → vs ≡ program.variables → TakesBudget ls b rest → OpeningFault vs rest e →
      IsTitle (codes "3") first → IsCount second n → FaultStands program (first ∷ second ∷ ls) e
  third_stops first second ls rest n b vs e own t fault title counts =
      subst (λ (xs : List Line). FaultStands program (first ∷ second ∷ xs) e) (sym t.parts)
      (opening_fault first second t.line n b title counts t.tells rest e (subst (λ (us : List Variable). OpeningFault us rest e) own fault))

-- how many lines there are in a head of version 3
pub third_room : (ls rest left : List Line) (b : ℕ) (vs : List Variable) (held : Activation) → TakesBudget ls b rest → OpensWith vs rest left held → length ls ≡ 1 + length vs + length left
third_room ls rest left b vs held t o =
    let first = ap length t.parts in
    let second = ap length o.parts ∙ length-append o.openings left in
    omega (arith, first, second, counted o.each)
