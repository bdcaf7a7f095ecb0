-- Lines read one after the other: where they are a history, and where they stop being one.
use Rattle.std.proofs.Common.{◌≡◌, ◌∙◌, ℕ, ◌+◌, true, false, List, [], ◌∷◌, ◌++◌, length, refl, sym, ap, subst, arith, append_assoc, append-nil, length-append}
use Rattle.std.proofs.lemmas.Bool.{false≢true}
use Rattle.ob_text_reading.specs.HistoryLines as Lines
use Rattle.ob_text_reading.specs.HistoryLines.{BeginsHistory, FailsAtLine, FaultStands, HistoryTold, IsHistoryFault, IsHistoryOf, IsHistoryPart, IsHistoryText, SaysNone, said}
use Rattle.ob_text_reading.specs.Reading.{Heard, Leads, at_start, is_opened, told_in}
use Rattle.ob_text_reading.proofs.Rest.{history_part, whole_history}
use Rattle.ob_text_reading.proofs.Steps.{Steps, first_lead, here, joined, next, one_end, parted, said_alone, said_of_steps, steps_of_said}
use Rattle.ob_text_reading.proofs.Whole.{arrives, part_arrives}
use Rattle.ob_text_reading.specs.RecordLines.{Line, record_lines}
use Rattle.ob_text_reading.specs.declared.record_reading.RecordFault.{RecordFault}
use Rattle.ob_text_reading.specs.declared.record_reading.RecordFault.TheVariants as Faults
use Rattle.ob_typing.specs.Program.{Program}

module _ (program : Program) where
  begins : (before : List Line) (h : Heard) → Steps program at_start before h → BeginsHistory program before
  begins before h s =
      record {
        rest = [];
        part = subst (λ (ls : List Line). IsHistoryPart program (said ls)) (sym (append-nil before)) (history_part program (said before) h (said_of_steps program at_start h before s) (said_alone before));
      }

  ends_here : (before : List Line) (line : Line) (h : Heard) → Steps program at_start before h → ((i : Heard) → Leads program h line i → ⊥) → ¬ BeginsHistory program (before ++ line ∷ [])
  ends_here before line h s never b =
      let all = part_arrives program b.part in
      let steps : Steps program at_start ((before ++ line ∷ []) ++ b.rest) all.0 = steps_of_said program at_start all.0 ((before ++ line ∷ []) ++ b.rest) all.1 in
      let parts = parted program before (line ∷ b.rest) (subst (λ (ls : List Line). Steps program at_start ls all.0) (append_assoc before (line ∷ []) b.rest) steps) in
      let lead = first_lead program parts.second in
      never lead.0 (subst (λ (x : Heard). Leads program x line lead.0) (one_end program parts.first s) lead.1)

  -- so many lines have been read, and these are left
  pub record ReadTo (all left : List Line) (h : Heard) (number : ℕ) : Type 0 where
    pub before : List Line
    pub parts : all ≡ before ++ left
    pub steps : Steps program at_start before h
    pub counted : number ≡ length before

  pub none_read : (all : List Line) (h : Heard) → h ≡ at_start → ReadTo all all h 0
  none_read all h e = record { before = []; parts = refl; steps = subst (λ (x : Heard). Steps program at_start [] x) (sym e) here; counted = refl }

  pub number_within : (all left : List Line) (h : Heard) (number : ℕ) → ReadTo all left h number → number + length left ≡ length all
  number_within all left h number r = let long = ap length r.parts ∙ length-append r.before left in omega (arith, long, r.counted)

  pub read_same : (all left : List Line) (h i : Heard) (number : ℕ) → ReadTo all left h number → i ≡ h → ReadTo all left i number
  read_same all left h i number r is = subst (λ (x : Heard). ReadTo all left x number) (sym is) r

  module _ (all left rest : List Line) (line : Line) (h : Heard) (number : ℕ) (r : ReadTo all left h number) (is : left ≡ line ∷ rest) where
    read_parts : all ≡ r.before ++ line ∷ rest
    read_parts = r.parts ∙ ap (λ ls. r.before ++ ls) is

    pub one_more : (i : Heard) → Leads program h line i → ReadTo all rest i (number + 1)
    one_more i l =
        record {
          before = r.before ++ line ∷ [];
          parts = read_parts ∙ sym (append_assoc r.before (line ∷ []) rest);
          steps = joined program r.steps (next l here);
          counted = let long = length-append r.before (line ∷ []) in omega (arith, long, r.counted);
        }

    pub no_line : ((i : Heard) → Leads program h line i → ⊥) → FailsAtLine program all (number + 1)
    no_line never =
        subst (λ (n : ℕ). FailsAtLine program all (n + 1)) (sym r.counted)
        (subst (λ (ls : List Line). FailsAtLine program ls (length r.before + 1)) (sym read_parts)
        (Lines.misplaced r.before line rest (begins r.before h r.steps) (ends_here r.before line h r.steps never)))

  module _ (all left : List Line) (h : Heard) (number : ℕ) (r : ReadTo all left h number) (is : left ≡ []) where
    all_steps : Steps program at_start all h
    all_steps = subst (λ (ls : List Line). Steps program at_start ls h) (sym (r.parts ∙ ap (λ ls. r.before ++ ls) is ∙ append-nil r.before)) r.steps

    pub all_read : is_opened program.variables h.held ≡ true → IsHistoryOf program (said all) (told_in h)
    all_read opened = whole_history program (said all) h (said_of_steps program at_start h all all_steps) (said_alone all) opened

    never_told : is_opened program.variables h.held ≡ false → (t : HistoryTold) → ¬ IsHistoryOf program (said all) t
    never_told closed t k =
        let a = arrives program k in
        let same = one_end program (said_of_steps program at_start h all all_steps) a.steps in
        false≢true (sym closed ∙ ap (λ (x : Heard). is_opened program.variables x.held) same ∙ a.opened)

    pub opening_missing : is_opened program.variables h.held ≡ false → FailsAtLine program all (number + 1)
    opening_missing closed =
        let count : number ≡ length all = let n = number_within all left h number r in let e = ap length is in omega (arith, n, e) in
        subst (λ (n : ℕ). FailsAtLine program all (n + 1)) (sym count) (Lines.missing (begins all h all_steps) (never_told closed))

  -- ---- of a text

  line_begins : (before : List Line) (line : Line) (rest : List Line) → ¬ BeginsHistory program (before ++ line ∷ []) → (t : HistoryTold) → ¬ IsHistoryOf program (said (before ++ line ∷ rest)) t
  line_begins before line rest never t h =
      never (record {
        rest = rest;
        part = subst (λ (ls : List Line). IsHistoryPart program (said ls)) (sym (append_assoc before (line ∷ []) rest)) (Lines.whole h);
      })

  fails_none : {ls : List Line} {number : ℕ} → FailsAtLine program ls number → (t : HistoryTold) → ¬ IsHistoryOf program (said ls) t
  fails_none (Lines.misplaced before line rest begins never) t h = line_begins before line rest never t h
  fails_none (Lines.missing begins never) t h = never t h

  pub text_fault : (text : List ℕ) (fault : RecordFault) → FaultStands program (record_lines text) fault → IsHistoryFault program text fault
  text_fault text fault stands = record { stands = stands; none = by_kind fault stands }
    where
      by_kind : (fault : RecordFault) → FaultStands program (record_lines text) fault → SaysNone program fault → (t : HistoryTold) → IsHistoryText program text t → ⊥
      by_kind (Faults.Form number) stands says t h = fails_none stands t h
      by_kind Faults.NoMemory stands says t h = absurd says
