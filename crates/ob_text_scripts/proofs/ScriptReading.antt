-- Scripts read line by line.
use Rattle.std.proofs.Common.{◌≡◌, ℕ, ◌+◌, ◌-◌, ◌<◌, zero, suc, List, [], ◌∷◌, ◌++◌, length, take, get_or, map, ◌⊎◌, inl, inr, Some, refl, sym, ◌∙◌, ap, append-nil, arith}
use Rattle.std.proofs.lemmas.List.{take_more}
use Rattle.std.proofs.lemmas.Option.{slice_get_read}
use Rattle.ob_scan.specs.Spelling.{number_value}
use Rattle.ob_interface.specs.declared.scalar.Scalar.{Scalar}
use Rattle.ob_interface.specs.Export.{Signature, value_types}
use Rattle.ob_text_words.specs.Words.{Word, IsProcess, IsName, lines, words}
use Rattle.ob_text_scripts.specs.declared.script.ScriptFault.{ScriptFault}
use Rattle.ob_text_scripts.specs.declared.script.ScriptFault.TheVariants as Faults
use Rattle.ob_text_words.specs.ScriptCalls.{ScriptCall}
use Rattle.ob_text_words.specs.Values.{AreValues}
use Rattle.ob_text_words.specs.ExportNames.{export_named}
use Rattle.ob_text_scripts.specs.Script.{AreLines, none, skipped, call, IsSkipped, Makes, makes, HasNoForm, no_process, no_second, no_name, HasNoProcess, past, HasNoExport, unknown, HasBadArguments, differ, IsScriptFault, FailsAtLine, FaultStands, SaysNone}
use Rattle.ob_text_scripts.specs.ScriptLine.{HasFault}

same_export : {a b : ℕ × Signature} → Some a ≡ Some b → a ≡ b
same_export e = cc

module _ (signatures : List Signature) (processes : ℕ) where
  AreLines-append : (xs ys : List (List Word)) (cs ds : List ScriptCall) → AreLines signatures processes xs cs → AreLines signatures processes ys ds →
      AreLines signatures processes (xs ++ ys) (cs ++ ds)
  AreLines-append xs ys cs ds none more = more
  AreLines-append xs ys cs ds (skipped {rest = rest} s h) more = skipped s (AreLines-append rest ys cs ds h more)
  AreLines-append xs ys cs ds (call {rest = rest} {calls = calls} m h) more = call m (AreLines-append rest ys calls ds h more)

  module _ (ls : List (List Word)) (i : ℕ) (line : List Word) (calls : List ScriptCall) (below : i < length ls) (at : line ≡ get_or ls i line) (so_far : AreLines signatures processes (take i ls) calls) where
    pub AreLines-skip : IsSkipped line → AreLines signatures processes (take (i + 1) ls) calls
    AreLines-skip s =
        rw (take_more ls i line, ← at) (rw append-nil at (AreLines-append (take i ls) (line ∷ []) calls [] so_far (skipped s none)))

    pub AreLines-more : (c : ScriptCall) → Makes signatures processes line c → AreLines signatures processes (take (i + 1) ls) (calls ++ c ∷ [])
    AreLines-more c m =
        rw (take_more ls i line, ← at) (AreLines-append (take i ls) (line ∷ []) calls (c ∷ []) so_far (call m none))

  -- at each place of lines that make calls stands a line that is skipped or one that makes a call
  AreLines-at : (ls : List (List Word)) (calls : List ScriptCall) (i : ℕ) (d : List Word) → i < length ls → AreLines signatures processes ls calls →
      IsSkipped (get_or ls i d) ⊎ ((c : ScriptCall) × Makes signatures processes (get_or ls i d) c)
  AreLines-at ls calls i d below none = absurd (omega arith)
  AreLines-at ls calls zero d below (skipped s h) = inl s
  AreLines-at ls calls (suc i) d below (skipped {rest = rest} {calls = calls'} s h) = AreLines-at rest calls' i d (omega arith) h
  AreLines-at ls calls zero d below (call {c = c} m h) = inr (c, m)
  AreLines-at ls calls (suc i) d below (call {rest = rest} {calls = calls'} m h) = AreLines-at rest calls' i d (omega arith) h

  -- the parts of a line that makes a call
  record Parts (line : List Word) : Type 0 where
    first : Word
    name : Word
    rest : List Word
    p : ℕ
    n : ℕ
    signature : Signature
    arguments : List Scalar
    line_is : line ≡ first ∷ name ∷ rest
    process : IsProcess first p
    below : p < processes
    is_name : IsName name
    named : export_named signatures name ≡ Some (n, signature)
    fit : AreValues (value_types signature.formals) rest arguments

  Makes-parts : (line : List Word) (c : ScriptCall) → Makes signatures processes line c → Parts line
  Makes-parts line c (makes {first = first} {name = name} {rest = rest} {p = p} {n = n} {signature = signature} {arguments = arguments} process below is_name named fit) =
      record {
        first = first;
        name = name;
        rest = rest;
        p = p;
        n = n;
        signature = signature;
        arguments = arguments;
        line_is = refl;
        process = process;
        below = below;
        is_name = is_name;
        named = named;
        fit = fit;
      }

  no_form : (line : List Word) → Parts line → HasNoForm signatures processes line → ⊥
  no_form line m (no_process {first = first} misfit) =
      let heads : m.first ≡ first = cc (m.line_is) in misfit m.p (rw heads at m.process)
  no_form line m no_second = absurd (cc (m.line_is))
  no_form line m (no_name {name = name} misfit) =
      let names : m.name ≡ name = cc (m.line_is) in misfit (rw names at m.is_name)

  no_such_process : (line : List Word) → Parts line → HasNoProcess signatures processes line → ⊥
  no_such_process line m (past {first = first} {p = p} process named above) =
      let heads : m.first ≡ first = cc (m.line_is) in
      let same : m.p ≡ p = sym m.process.spells ∙ ap number_value heads ∙ process.spells in
      absurd (omega (arith, m.below))

  no_export : (line : List Word) → Parts line → HasNoExport signatures processes line → ⊥
  no_export line m (unknown {name = name} process below named missing) =
      let names : m.name ≡ name = cc (m.line_is) in absurd (cc (m.named, ap (export_named signatures) names))

  bad_arguments : (line : List Word) → Parts line → HasBadArguments signatures processes line → ⊥
  bad_arguments line m (differ {name = name} {rest = rest} {n = n} {signature = signature} process below named is misfit) =
      let names : m.name ≡ name = cc (m.line_is) in
      let rests : m.rest ≡ rest = cc (m.line_is) in
      let found : Some (m.n, m.signature) ≡ Some (n, signature) = sym m.named ∙ ap (export_named signatures) names ∙ is in
      let same : m.signature ≡ signature = ap (λ (e : ℕ × Signature). e.1) (same_export found) in
      misfit m.arguments (rw (rests, same) at m.fit)

  -- a fault of a line leaves no call that it makes
  fault_makes_none : (line : List Word) (number : ℕ) (e : ScriptFault) → SaysNone signatures processes e → HasFault signatures processes line number e → Parts line → ⊥
  fault_makes_none line number (Faults.Form told) s h m = no_form line m h.1
  fault_makes_none line number (Faults.Procedure told) s h m = no_export line m h.1
  fault_makes_none line number (Faults.Arguments told) s h m = bad_arguments line m h.1
  fault_makes_none line number (Faults.Process told) s h m = no_such_process line m h.1
  fault_makes_none line number Faults.NoMemory s h m = s

  module _ (text : List ℕ) (i : ℕ) (line : List Word) (calls : List ScriptCall) (below : i < length (map words (lines text))) (at : line ≡ get_or (map words (lines text)) i line) (so_far : AreLines signatures processes (take i (map words (lines text))) calls) (says : IsSkipped line → ⊥) where
    fails_here : (IsFault : List Word → Type 0) → IsFault line → FailsAtLine signatures processes text (i + 1) IsFault
    fails_here IsFault h =
        let same : i + 1 - 1 ≡ i = omega arith in
        record {
          line = line;
          counted = omega arith;
          here = rw same (slice_get_read _ _ i line refl below at);
          says = says;
          fails = h;
          calls = calls;
          before = rw same so_far;
        }

    stands_here : (number : ℕ) (e : ScriptFault) → number ≡ i + 1 → HasFault signatures processes line number e → FaultStands signatures processes text e
    stands_here number (Faults.Form told) n h = rw (h.0 ∙ n) (fails_here _ h.1)
    stands_here number (Faults.Procedure told) n h = rw (h.0 ∙ n) (fails_here _ h.1)
    stands_here number (Faults.Arguments told) n h = rw (h.0 ∙ n) (fails_here _ h.1)
    stands_here number (Faults.Process told) n h = rw (h.0 ∙ n) (fails_here _ h.1)
    stands_here number Faults.NoMemory n h = tt

    pub fault_here : (number : ℕ) (e : ScriptFault) → number ≡ i + 1 → HasFault signatures processes line number e → IsScriptFault signatures processes text e
    fault_here number e n h =
        record {
          stands = stands_here number e n h;
          none = λ s all k.
              elim (AreLines-at (map words (lines text)) all i line below k) [
                | inl sk ↦ says (rw at sk)
                | inr m ↦ fault_makes_none line number e s h (Makes-parts line m.0 (rw at m.1))
              ];
        }
