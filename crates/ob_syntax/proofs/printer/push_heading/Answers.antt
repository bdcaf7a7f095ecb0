use Rattle.std.proofs.Common.{◌≡◌, ◌∷◌, [], ◌++◌, string_bytes, if◌then◌else◌, map, option_map, sym, ◌∙◌, ap}
use Rattle.std.proofs.lemmas.List.{append-nil}
use Rattle.std.proofs.lemmas.Result.{on_ok_weaker}
use Rattle.ob_scan.specs.declared.token.Kind.{Kind}
use Rattle.ob_grammar.specs.declared.tree.Declarations.TheViews.{out-Procedure}
use Rattle.ob_grammar.specs.View.{name_of, section_of}
use Rattle.ob_syntax.specs.Printing.{spaced, ident, fixed, perhaps, parameter_words}
use Rattle.ob_syntax.proofs.PrintedLoops.{writes_both}
use Rattle.ob_syntax.proofs.printer.push_heading.Goals as goal
use Rattle.ob_syntax.proofs.printer.push_heading.Goals.{then-procedure+in_ok-push_word-2, else-procedure}

pub returns : goal.returns
returns c =
    let p = out-Procedure c.args.procedure.now in
    let mark = if p.is_exported then (fixed Kind.Times ∷ []) else [] in
    let before = string_bytes c.push_name.new.text in
    let parameters = perhaps parameter_words (option_map (λ ss. map section_of ss.items) p.parameters) in
    let h : string_bytes c.if-procedure.text ≡ before ++ spaced mark =
    elim c.if-procedure.branch [
      | then-procedure+in_ok-push_word-2 w ↦
          ap string_bytes w.text-is ∙ w.in_ok-push_word-2.ensures
          ∙ ap (λ b. before ++ spaced (if b then (fixed Kind.Times ∷ []) else [])) (sym w.if-procedure.true)
      | else-procedure w ↦
          ap string_bytes w.text-is ∙ sym (append-nil before) ∙ ap (λ b. before ++ spaced (if b then (fixed Kind.Times ∷ []) else [])) (sym w.if-procedure.false)
    ] in
    on_ok_weaker c.push_parameters.result
    (λ (last : string_bytes c.push_parameters.new.text ≡ string_bytes c.if-procedure.text ++ spaced parameters).
    writes_both _ (fixed Kind.Procedure ∷ []) (ident (name_of p.name) ∷ (mark ++ parameters)) c.in_ok-push_word.ensures
    (writes_both _ (ident (name_of p.name) ∷ []) (mark ++ parameters) c.in_ok-push_name.ensures (writes_both _ mark parameters h last)))
    c.push_parameters.ensures
