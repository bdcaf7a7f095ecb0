use Rattle.std.proofs.Common.{◌≡◌, ◌+◌, List, Vec, ℕ, suc, ◌∷◌, ◌++◌, map, drop, sym, ap, ◌∙◌, arith}
use Rattle.std.specs.declared.alloc.Global.{Global}
use Rattle.std.proofs.lemmas.List.{drop_more}
use Rattle.ob_checked.specs.View.{procedure_of, parameter_of, table_of}
use Rattle.ob_checked.specs.declared.program.Procedure.{Procedure}
use Rattle.ob_code_scheme.specs.Correct.{formals_of}
use Rattle.ob_code_correct.specs.CodeMeaning.{Entrance}
use Rattle.ob_code_correct.specs.Compiled.{entrances_from}
use Rattle.ob_code_engine.proofs.Found.{hidden, made, one_more}
use Rattle.ob_code_engine.proofs.entrance.entrances.Goals.{then-procedure+in_ok-parameters+in_ok-push, else-procedure}
use Rattle.ob_code_engine.proofs.entrance.entrances.Goals as goal

pub loop-number-preserved : goal.loop-number-preserved
loop-number-preserved c =
    let types = table_of c.args.program.now.types in
    let ps = c.deref-procedure-items.result.now in
    let i = c.loop-number.number in
    let p = c.procedure-item.result in
    let next : drop i ps ≡ p ∷ drop (i + 1) ps = drop_more ps i p c.loop-number-test.true ∙ ap (λ (q : Procedure). q ∷ drop (i + 1) ps) (sym c.procedure-item.is) in
    let left = ap (λ (qs : List Procedure). entrances_from i (map (procedure_of types) qs)) next in
    let behind = map (procedure_of types) (drop (i + 1) ps) in
    let rest = entrances_from (suc i) behind in
    let up : i + 1 ≡ suc i = omega arith in
    let before = c.loop-number.entrances.items in
    ap (λ (k : ℕ). c.if-procedure.entrances.items ++ entrances_from k behind) up
    ∙ elim c.if-procedure.branch [
      | then-procedure+in_ok-parameters+in_ok-push w ↦
          let formals = w.in_ok-parameters.ensures types ∙ ap (λ qs. formals_of (map (parameter_of types) qs)) w.as_slice.ensures.value in
          ap (λ (v : Vec Entrance Global). v.items ++ rest) w.entrances-is
          ∙ ap (λ (es : List Entrance). es ++ rest) w.in_ok-push.ensures.items
          ∙ one_more before _ i (procedure_of types p) behind w.if-procedure.true (ap (made i) formals)
          ∙ ap (λ (es : List Entrance). before ++ es) (sym left)
          ∙ c.loop-number.invariant
      | else-procedure w ↦
          ap (λ (v : Vec Entrance Global). v.items ++ rest) w.entrances-is
          ∙ ap (λ (es : List Entrance). before ++ es) (sym (hidden i (procedure_of types p) behind w.if-procedure.false))
          ∙ ap (λ (es : List Entrance). before ++ es) (sym left)
          ∙ c.loop-number.invariant
    ]
