use Rattle.std.proofs.Common.{◌≡◌, ◌∙◌, ℕ, List, Option, Some, ap, inr, map, option_map, rules, string_bytes, subst, sym, Bool}
use Rattle.clap.specs.Words.{found_of, kind_of, rows_of}
use Rattle.ob_command.specs.CommandLine.{Text, has_negative}
use Rattle.ob_command.specs.Commands.{IsStopOf, request_of}
use Rattle.ob_command.proofs.Readings.{asked_is, form_known, form_said, mapped, nothing_asked, parsed_mistake, parsed_stop}
use Rattle.ob_command.proofs.command.read_words.Goals as goal

pub returns-in-Err-clause-reading : goal.returns-in-Err-clause-reading
returns-in-Err-clause-reading c = parsed_stop _ c.in_ok-command_line.ensures (map (λ w. w.now) c.args.words.now) c.in-Err.error c.in-Err.ensures.kinds
    c.has_negative.result (option_map (λ word. word.now) c.loose_number.result) c.in_ok-stop_of-in-Err.field-0 c.in_ok-stop_of-in-Err.ensures

pub returns-in-Err-clause-mistake : goal.returns-in-Err-clause-mistake
returns-in-Err-clause-mistake c = parsed_mistake _ c.in_ok-command_line.ensures (map (λ w. w.now) c.args.words.now) c.in-Err.error c.in-Err.ensures.kinds
    c.in_ok-stop_of-in-Err.field-0 (subst (λ (number : Option Text). IsStopOf (has_negative (map (λ w. w.now) c.args.words.now)) number (kind_of c.in-Err.error) c.in_ok-stop_of-in-Err.field-0)
    c.loose_number.ensures
    (subst (λ (negative : Bool). IsStopOf negative (option_map (λ word. word.now) c.loose_number.result) (kind_of c.in-Err.error) c.in_ok-stop_of-in-Err.field-0)
    c.has_negative.ensures c.in_ok-stop_of-in-Err.ensures))

pub returns-in-Some-command_of-clause-reading : goal.returns-in-Some-command_of-clause-reading
returns-in-Some-command_of-clause-reading c =
    let is = asked_is _ c.in_ok-command_line.ensures (map (λ w. w.now) c.args.words.now) c.in-Ok.matches
    c.in-Ok.ensures.kinds c.in-Ok.ensures.matches c.in-Some.name.now (rows_of (found_of c.in-Some.matches.now)) c.in-Some.ensures.name c.in-Some.ensures.rows
    (request_of c.in-Some-command_of.command) (sym c.command_of.ensures ∙ ap (option_map request_of) c.in-Some-command_of.is) in
    sym is

pub unwrap-mistake-requires : goal.unwrap-mistake-requires
unwrap-mistake-requires c =
    mapped (λ text. text.now) c.form_mistake.result _ c.form_mistake.ensures
    (form_known _ c.in_ok-command_line.ensures (map (λ w. w.now) c.args.words.now) c.in-Ok.matches
    c.in-Ok.ensures.kinds c.in-Ok.ensures.matches c.in-Some.name.now (rows_of (found_of c.in-Some.matches.now)) c.in-Some.ensures.name c.in-Some.ensures.rows
    (sym c.command_of.ensures ∙ ap (option_map request_of) c.in-None-command_of.is))

pub returns-in-Some-clause-reading : goal.returns-in-Some-clause-reading
returns-in-Some-clause-reading c =
    nothing_asked _ c.in_ok-command_line.ensures (map (λ w. w.now) c.args.words.now) c.in-Ok.matches
    c.in-Ok.ensures.kinds c.in-Ok.ensures.matches c.in-Some.name.now (rows_of (found_of c.in-Some.matches.now)) c.in-Some.ensures.name c.in-Some.ensures.rows
    (sym c.command_of.ensures ∙ ap (option_map request_of) c.in-None-command_of.is)

pub returns-in-Some-clause-mistake : goal.returns-in-Some-clause-mistake
returns-in-Some-clause-mistake c =
    let text : string_bytes c.in_ok-from_str-in-None-command_of.field-0 ≡ c.unwrap-mistake.result.now = search rules in
    let said = form_said _ c.in_ok-command_line.ensures (map (λ w. w.now) c.args.words.now) c.in-Ok.matches
    c.in-Ok.ensures.kinds c.in-Ok.ensures.matches c.in-Some.name.now (rows_of (found_of c.in-Some.matches.now)) c.in-Some.ensures.name c.in-Some.ensures.rows in
    inr (said ∙ (sym c.form_mistake.ensures ∙ (ap (option_map (λ text. text.now)) c.unwrap-mistake.ensures ∙ ap (λ (t : List ℕ). Some t) (sym text))))
