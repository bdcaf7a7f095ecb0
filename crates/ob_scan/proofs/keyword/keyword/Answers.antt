use Rattle.std.proofs.Common.{rules, arith, Some, ap, sym, codes}
use Rattle.std.proofs.lemmas.Slice.Eq.{text_from_reads}
use Rattle.ob_scan.proofs.keyword.keyword.Goals as goal

pub returns-in-MODULE-clause-is : goal.returns-in-MODULE-clause-is
returns-in-MODULE-clause-is c =
    ap Some (sym (text_from_reads c.args.word.now (codes "MODULE") (omega arith) (search rules)))

pub returns-in-BEGIN-clause-is : goal.returns-in-BEGIN-clause-is
returns-in-BEGIN-clause-is c =
    ap Some (sym (text_from_reads c.args.word.now (codes "BEGIN") (omega arith) (search rules)))

pub returns-in-END-clause-is : goal.returns-in-END-clause-is
returns-in-END-clause-is c =
    ap Some (sym (text_from_reads c.args.word.now (codes "END") (omega arith) (search rules)))

pub returns-in-CONST-clause-is : goal.returns-in-CONST-clause-is
returns-in-CONST-clause-is c =
    ap Some (sym (text_from_reads c.args.word.now (codes "CONST") (omega arith) (search rules)))

pub returns-in-TYPE-clause-is : goal.returns-in-TYPE-clause-is
returns-in-TYPE-clause-is c =
    ap Some (sym (text_from_reads c.args.word.now (codes "TYPE") (omega arith) (search rules)))

pub returns-in-VAR-clause-is : goal.returns-in-VAR-clause-is
returns-in-VAR-clause-is c =
    ap Some (sym (text_from_reads c.args.word.now (codes "VAR") (omega arith) (search rules)))

pub returns-in-PROCEDURE-clause-is : goal.returns-in-PROCEDURE-clause-is
returns-in-PROCEDURE-clause-is c =
    ap Some (sym (text_from_reads c.args.word.now (codes "PROCEDURE") (omega arith) (search rules)))

pub returns-in-ARRAY-clause-is : goal.returns-in-ARRAY-clause-is
returns-in-ARRAY-clause-is c =
    ap Some (sym (text_from_reads c.args.word.now (codes "ARRAY") (omega arith) (search rules)))

pub returns-in-OF-clause-is : goal.returns-in-OF-clause-is
returns-in-OF-clause-is c =
    ap Some (sym (text_from_reads c.args.word.now (codes "OF") (omega arith) (search rules)))

pub returns-in-RECORD-clause-is : goal.returns-in-RECORD-clause-is
returns-in-RECORD-clause-is c =
    ap Some (sym (text_from_reads c.args.word.now (codes "RECORD") (omega arith) (search rules)))

pub returns-in-IF-clause-is : goal.returns-in-IF-clause-is
returns-in-IF-clause-is c =
    ap Some (sym (text_from_reads c.args.word.now (codes "IF") (omega arith) (search rules)))

pub returns-in-THEN-clause-is : goal.returns-in-THEN-clause-is
returns-in-THEN-clause-is c =
    ap Some (sym (text_from_reads c.args.word.now (codes "THEN") (omega arith) (search rules)))

pub returns-in-ELSIF-clause-is : goal.returns-in-ELSIF-clause-is
returns-in-ELSIF-clause-is c =
    ap Some (sym (text_from_reads c.args.word.now (codes "ELSIF") (omega arith) (search rules)))

pub returns-in-ELSE-clause-is : goal.returns-in-ELSE-clause-is
returns-in-ELSE-clause-is c =
    ap Some (sym (text_from_reads c.args.word.now (codes "ELSE") (omega arith) (search rules)))

pub returns-in-WHILE-clause-is : goal.returns-in-WHILE-clause-is
returns-in-WHILE-clause-is c =
    ap Some (sym (text_from_reads c.args.word.now (codes "WHILE") (omega arith) (search rules)))

pub returns-in-DO-clause-is : goal.returns-in-DO-clause-is
returns-in-DO-clause-is c =
    ap Some (sym (text_from_reads c.args.word.now (codes "DO") (omega arith) (search rules)))

pub returns-in-REPEAT-clause-is : goal.returns-in-REPEAT-clause-is
returns-in-REPEAT-clause-is c =
    ap Some (sym (text_from_reads c.args.word.now (codes "REPEAT") (omega arith) (search rules)))

pub returns-in-UNTIL-clause-is : goal.returns-in-UNTIL-clause-is
returns-in-UNTIL-clause-is c =
    ap Some (sym (text_from_reads c.args.word.now (codes "UNTIL") (omega arith) (search rules)))

pub returns-in-DIV-clause-is : goal.returns-in-DIV-clause-is
returns-in-DIV-clause-is c =
    ap Some (sym (text_from_reads c.args.word.now (codes "DIV") (omega arith) (search rules)))

pub returns-in-MOD-clause-is : goal.returns-in-MOD-clause-is
returns-in-MOD-clause-is c =
    ap Some (sym (text_from_reads c.args.word.now (codes "MOD") (omega arith) (search rules)))

pub returns-in-OR-clause-is : goal.returns-in-OR-clause-is
returns-in-OR-clause-is c =
    ap Some (sym (text_from_reads c.args.word.now (codes "OR") (omega arith) (search rules)))
