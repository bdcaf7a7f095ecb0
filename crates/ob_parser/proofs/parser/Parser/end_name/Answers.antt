use Rattle.std.proofs.Common.{ap, option_map}
use Rattle.ob_scan.specs.Lexemes.{place_of}
use Rattle.ob_grammar.specs.View.{name_of}
use Rattle.ob_parser.proofs.Names.{begins_end_name, fill_end_name, name_read, reads_end_name, refuses_end_name, differs, agrees}
use Rattle.ob_parser.proofs.States.{passed, fails_here}
use Rattle.ob_parser.proofs.parser.Parser.end_name.Goals as goal

pub returns-in_err-end_name : goal.returns-in_err-end_name
returns-in_err-end_name g c =
    let n = name_of c.args.name.now in
    passed _ _ _ _ _ _ c.from_residual.ensures.1
    (fails_here (g.S.TokenSource.state c.args.self.now.source) (begins_end_name n) (fill_end_name n) _ _ c.in_err-end_name.ensures)

pub returns-then-ne : goal.returns-then-ne
returns-then-ne g c =
    let went = c.in_ok-end_name.ensures in
    record {
      kept = went.kept;
      refuses = λ source p w.
          (let here = name_read (went.reads source p w).2 in
          (p, ap (option_map place_of) here, refuses_end_name (name_of c.args.name.now) (differs _ c.if-ne.ensures) here));
    }

pub returns : goal.returns
returns g c =
    let went = c.in_ok-end_name.ensures in
    record {
      kept = went.kept;
      onward = went.onward;
      reads = λ source p w.
          (let read = went.reads source p w in
          (read.0, read.1, reads_end_name (name_of c.args.name.now) (agrees _ c.if-ne.ensures) read.2));
    }
