-- What is told of lines, one after the other.
use Rattle.std.proofs.Common.{◌≡◌, ◌∙◌, ◌≢◌, ◌==◌, inl, inr, ℕ, suc, true, false, List, [], ◌∷◌, ◌++◌, length, Result, OnOk, Global, String, string_bytes, arith, refl, sym, subst}
use Rattle.std.proofs.lemmas.Bool.{false≢true}
use Rattle.std.proofs.lemmas.Bool.Decides.{nat_tests}
use Rattle.std.proofs.lemmas.Result.{on_ok_weaker}
use Rattle.ob_object_live.specs.Living.{Ground, IsAnswered, IsAt, ground_of}
use Rattle.ob_object_live.specs.Talks.{TalksOn, TellsLine, ends, fault_text, made, record_told, refused}
use Rattle.ob_object_live.specs.declared.live_parts.Live.{Live}
use Rattle.ob_object_live.specs.declared.live_parts.Told.{Told}
use Rattle.ob_object_live.specs.declared.live_parts.Told.TheVariants as Tolds
use Rattle.ob_text_scripts.specs.declared.script.ScriptFault.{ScriptFault}
use Rattle.ob_text_words.specs.ScriptCalls.{ScriptCall}

-- a line that has no byte, and one that has some
pub none_there : (line : List ℕ) → (length line == 0) ≡ true → line ≡ []
none_there [] e = refl
none_there (b ∷ line) e = let is : suc (length line) ≡ 0 = grind (arith, nat_tests, e) in absurd (omega (arith, is))

pub some_there : (line : List ℕ) → (length line == 0) ≡ false → line ≢ []
some_there line e is = let none : (length line == 0) ≡ true = rw is refl in false≢true (sym e ∙ none)

-- ---- what is told of one line

module _ {C : Type 0} (Tells : C → List ℕ → C → Type 0) (g : Ground) (calls : List ScriptCall) (number : ℕ) (line : List ℕ) (before after last : C) (next : Live) (told : Told)
    (text : List ℕ) (left : last ≡ after) (answered : IsAnswered g calls line told next) (tells : Tells before text after) where
  pub lines_told : (lines : String Global) → told ≡ Tolds.Lines lines → text ≡ string_bytes lines → TellsLine Tells g calls number line before last next
  lines_told lines is same =
      let made = subst (λ (t : Told). IsAnswered g calls line t next) is answered in
      let written = subst (λ (t : List ℕ). Tells before t after) same tells in
      inl (record {
        more = made.more;
        lines = string_bytes lines;
        read = made.read;
        made = made.made;
        told = subst (λ (c : C). Tells before (string_bytes lines) c) (sym left) written;
      })

  pub fault_told : (fault : ScriptFault) → told ≡ Tolds.Fault fault → text ≡ fault_text number fault → TellsLine Tells g calls number line before last next
  fault_told fault is same =
      let refusal = subst (λ (t : Told). IsAnswered g calls line t next) is answered in
      let written = subst (λ (t : List ℕ). Tells before t after) same tells in
      inr (record {
        fault = fault;
        fails = refusal.fails;
        says = refusal.says;
        at = refusal.at;
        told = subst (λ (c : C). Tells before (fault_text number fault) c) (sym left) written;
      })

-- ---- what is told of all

module _ {C : Type 0} (Hears Tells : C → List ℕ → C → Type 0) (g : Ground) where
  -- So far this was told: a conversation that goes on from here is one from the beginning.
  pub record SoFar (calls : List ScriptCall) (number : ℕ) (start now : C) (live : Live) : Type 0 where
    pub later : List ScriptCall
    pub at : IsAt g later live
    pub continues : (end : C) → TalksOn Hears Tells g later number now end → TalksOn Hears Tells g calls 1 start end

  pub begun : (calls : List ScriptCall) (start : C) (live : Live) → IsAt g calls live → SoFar calls 1 start start live
  begun calls start live at = record { later = calls; at = at; continues = λ end h. h }

  -- one line more
  more_told : (calls : List ScriptCall) (number : ℕ) (start now heard told : C) (live next : Live) (line : List ℕ) → line ≢ [] → Hears now line heard →
      (so_far : SoFar calls number start now live) → TellsLine Tells g so_far.later number line heard told next → SoFar calls (suc number) start told next
  more_told calls number start now heard told live next line some is so_far (inl h) = record {
    later = so_far.later ++ h.more;
    at = h.made.at;
    continues = λ end rest. so_far.continues end (made some is h.read h.made.at.fit h.made.told h.told rest);
  }
  more_told calls number start now heard told live next line some is so_far (inr h) = record {
    later = so_far.later;
    at = h.at;
    continues = λ end rest. so_far.continues end (refused some is h.fails h.says h.told rest);
  }

  -- a state of calls is one on its own ground
  own : (later : List ScriptCall) (live : Live) → IsAt g later live → IsAt (ground_of live.ground) later live
  own later live at = subst (λ (h : Ground). IsAt h later live) (sym at.ground) at

  pub one_more : (calls : List ScriptCall) (number following : ℕ) → following ≡ suc number → (start now heard told : C) (live next : Live) (line : List ℕ) → line ≢ [] →
      Hears now line heard → SoFar calls number start now live →
      ((cs : List ScriptCall) → IsAt (ground_of live.ground) cs live → TellsLine Tells (ground_of live.ground) cs number line heard told next) →
      SoFar calls following start told next
  one_more calls number following n start now heard told live next line some is so_far tells =
      let one = subst (λ (h : Ground). TellsLine Tells h so_far.later number line heard told next) so_far.at.ground
      (tells so_far.later (own so_far.later live so_far.at)) in
      subst (λ (k : ℕ). SoFar calls k start told next) (sym n) (more_told calls number start now heard told live next line some is so_far one)

  -- the end
  all_told : (calls : List ScriptCall) (number : ℕ) (start now heard end : C) (live : Live) (line : List ℕ) → line ≡ [] → Hears now line heard →
      (so_far : SoFar calls number start now live) → Tells heard (record_told g so_far.later) end → TalksOn Hears Tells g calls 1 start end
  all_told calls number start now heard end live line none is so_far told =
      so_far.continues end (ends (subst (λ (l : List ℕ). Hears now l heard) none is) refl told)

  pub ended : {T E : Type 0} (result : Result T E) (calls : List ScriptCall) (number : ℕ) (start now heard end : C) (live : Live) (line : List ℕ) → line ≡ [] →
      Hears now line heard → SoFar calls number start now live →
      ((cs : List ScriptCall) → IsAt (ground_of live.ground) cs live → OnOk result (Tells heard (record_told (ground_of live.ground) cs) end)) →
      OnOk result (TalksOn Hears Tells g calls 1 start end)
  ended result calls number start now heard end live line none is so_far tells =
      on_ok_weaker result
      (λ told. all_told calls number start now heard end live line none is so_far
      (subst (λ (h : Ground). Tells heard (record_told h so_far.later) end) so_far.at.ground told))
      (tells so_far.later (own so_far.later live so_far.at))
